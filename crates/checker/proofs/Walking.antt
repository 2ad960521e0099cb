-- One step of the walk: what the check does at a place that it has reached, where it turns nothing away.
use Prim.Native.Nat.{ℕ, ◌+◌, ◌^◌, ◌≤◌, ◌<◌}
use mathlib.Core.Path.{◌≡◌, refl, sym, ap, subst, ◌∙◌}
use mathlib.Core.Bool.{true, false, ◌&&◌}
use mathlib.Core.List.{List}
use native.Mathlib.Omega.{arith}
use lib.Dec.{eqb}
use lib.ListN.{length, get_or, drop}
use Rattle.std.specs.Prelude.{Ok, Err, is_ok}
use Rattle.std.specs.declared.result.Result.{Result}
use Rattle.card.specs.Card.{DONE}
use Rattle.limits.specs.Limits.{result_limit}
use Rattle.leb128.specs.Bytes.{bytes}
use Rattle.opcode.specs.Kind.{Kind}
use Rattle.opcode.specs.Table.{Code}
use Rattle.opcode.specs.Entry.{group_in}
use Rattle.instr.specs.declared.Instr.{Instr}
use Rattle.instr.specs.declared.Decoded.{Decoded}
use Rattle.instr.specs.declared.Scanned.{Scanned}
use Rattle.instr.specs.Decode.{decode_at, decode_in}
use Rattle.instr.specs.Scan.{scan_of}
use Rattle.instr.proofs.Decodes.{stands-decodes}
use Rattle.rules.specs.Header.{Header, Declares, locals}
use Rattle.rules.specs.Typing.{Frame, Types}
use Rattle.rules.specs.Strip.{Reads, Within, past}
use Rattle.rules.proofs.Headers.{decodes-known}
use Rattle.rules.proofs.Onward.{declared, reads-once, only}
use Rattle.rules.proofs.Sorts.{typed-inner}
use Rattle.checker.specs.declared.turns.State.{State}
use Rattle.checker.specs.Walk.{KindBytes, Walks, Goes, over, on, Steps}
use Rattle.checker.specs.Inner.Stack.{Keeps}
use Rattle.checker.specs.Inner.Blocks.{top_first}
use Rattle.checker.specs.Inner.Judging.{Judges, Faces, AtTurn}
use Rattle.checker.specs.Inner.Going.{Going}
use Rattle.checker.proofs.Nests.{nested-many}
use Rattle.checker.proofs.Counted.{counted, counts-inside, few-results, set-by}
use Rattle.checker.proofs.Goings.{coded, is-end, no_end, ready, judgement}
use Rattle.checker.proofs.Ahead.{Ahead, stops, goes, ahead, ahead-read, passed}

module _ {s : List ℕ} {p : ℕ} {kinds blocks : List ℕ} {state : State} (w : Walks s p kinds blocks state) where
  abbrev h : Header
  h = w.valid.header

  declares : Declares s h
  declares = declared w.reached

  pub inside : (8 + (get_or s 5 0 + get_or s 6 0) + get_or s 7 0 ≤ length s) × (get_or s 7 0 ≤ result_limit)
  inside = (counts-inside (counted declares), few-results (counted declares))

  module _ {takes : ℕ} (t : (takes < 2 ^ 32) × ((ks : List Kind) → KindBytes (drop (8 + (get_or s 5 0 + get_or s 6 0)) s) (get_or s 7 0) ks → top_first ks ≡ takes)) where
    abbrev going : Going s (get_or s 3 0) (get_or s 5 0 + get_or s 6 0) takes kinds blocks state.depth state.nest state.floor state.dead p
    going =
        record {
          header = h;
          setting = set-by (counted declares) t;
          frames = w.frames;
          framed = w.framed;
          reached = w.reached;
          kinds_long = w.kinds_long;
          blocks_long = w.blocks_long;
        }

    module _ (b : bytes s) (d : Scanned) (is : d ≡ scan_of (decode_in (get_or s 3 0) s p)) where
      read : d.code ≡ DONE
      read =
          let it = ahead-read (ahead w.valid w.reached) in
          ap (λ (x : Scanned). x.code) is ∙ ap (λ (x : ℕ). (decode_in x s p).code) (sym (counted declares).version_is)
          ∙ ap (λ (x : Decoded). x.code) (decodes-known h.version declares.versioned s p ∙ stands-decodes h.version s p it.0 it.2 it.3.stands)

      abbrev i : Instr
      i = (decode_at h.version s p).instr

      abbrev its : (c : Code) × Reads h.version s p i c d.len
      its = coded going d is b read

      stepped : {kinds' blocks' : List ℕ} {state' : State} → Goes s (p + d.len) kinds blocks state kinds' blocks' state' → Steps s p kinds blocks state kinds' blocks' state'
      stepped g = record { before = w; instr = i; size = d.len; stands = its.1.stands; goes = g }

      pub last_step : (eqb state.nest 0 && eqb (group_in d.entry) 0) ≡ true → Steps s p kinds blocks state kinds blocks state
      last_step e = stepped (by (ahead w.valid w.reached))
        where
          by : Ahead s h p w.frames → Goes s (p + d.len) kinds blocks state kinds blocks state
          by (stops r one q) = over (ap (λ (n : ℕ). p + n) (reads-once its.1 r).2 ∙ q)
          by (goes r u l) =
              let it = is-end going d is b read e in
              absurd (typed-inner u ((reads-once r its.1).1 ∙ it.1) (omega (arith, nested-many w.framed.nested, it.0)))

      module _ (other : (eqb state.nest 0 && eqb (group_in d.entry) 0) ≡ false) where
        pub turn-ready : AtTurn takes d.entry d.immediate kinds blocks state.depth state.nest state.floor
        turn-ready = ready going d is b read other

        module _ {kinds' blocks' : List ℕ} {r : Result State ℕ} (j : (c : Code) (i : Instr) (ls rs : List Kind) (fs : List Frame)
            → Faces s (get_or s 5 0 + get_or s 6 0) takes d.entry d.immediate kinds blocks state.depth state.nest state.floor state.dead c i ls rs fs
            → Judges ls rs i c fs kinds' blocks' r) where
          -- it is not turned away
          pub never-refused : is_ok r ≡ true
          never-refused = by (ahead w.valid w.reached)
            where
              told : {r : Result State ℕ} {fs' : List Frame} (t : Types (locals h) i its.0 w.frames fs') (l : Within fs') → Judges (locals h) h.results i its.0 w.frames kinds' blocks' r → is_ok r ≡ true
              told {r = Ok st} t l x = refl
              told {r = Err e} t l x = absurd (passed t l x)

              by : Ahead s h p w.frames → is_ok r ≡ true
              by (stops q one e) = absurd (no_end going d is b read other (reads-once its.1 q).1 (omega (arith, nested-many w.framed.nested, one)))
              by (goes {fs' = fs'} q u l) = told (only (λ x y. Types (locals h) x y w.frames fs') q u i its.0 d.len its.1) l (judgement going d is b read other j)

          pub next-step : (state' : State) → r ≡ Ok state' → Keeps state'.depth kinds kinds' × Keeps state'.nest blocks blocks' → length kinds' ≡ length kinds
              → length blocks' ≡ length blocks
              → Steps s p kinds blocks state kinds' blocks' state'
          next-step state' e keeps lk lb = stepped (by (ahead w.valid w.reached))
            where
              by : Ahead s h p w.frames → Goes s (p + d.len) kinds blocks state kinds' blocks' state'
              by (stops q one x) = absurd (no_end going d is b read other (reads-once its.1 q).1 (omega (arith, nested-many w.framed.nested, one)))
              by (goes {fs' = fs'} q u l) =
                  let t = only (λ x y. Types (locals h) x y w.frames fs') q u i its.0 d.len its.1 in
                  let k = passed t l (subst (λ (y : Result State ℕ). Judges (locals h) h.results i its.0 w.frames kinds' blocks' y) e (judgement going d is b read other j)) in
                  on (record {
                    valid = w.valid;
                    frames = fs';
                    reached = past w.reached its.1 t l;
                    framed = k;
                    kinds_long = lk ∙ w.kinds_long;
                    blocks_long = lb ∙ w.blocks_long;
                  })
                  keeps.0 keeps.1
