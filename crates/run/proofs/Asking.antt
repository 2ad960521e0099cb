-- The questions that a run and a resume ask before the first instruction, in the card's order.
use Prim.Native.Nat.{ℕ, ◌+◌, ◌*◌, ◌-◌, ◌≤◌, ◌<◌}
use mathlib.Core.Path.{◌≡◌, refl, ap, sym, ◌∙◌, subst}
use mathlib.Core.Bool.{Bool, true, false}
use mathlib.Core.List.{List, map}
use mathlib.Core.Logic.{inl, inr}
use mathlib.Core.Option.{Option}
use native.Mathlib.Omega.{arith}
use lib.ListN.{length, get_or, take, drop}
use Rattle.card.specs.Card.{DONE, ROOM, ARGS, OUT, FORM}
use Rattle.card.specs.declared.Answer.{Answer}
use Rattle.limits.specs.Limits.{slot, memory_limit}
use Rattle.opcode.specs.Kind.{Kind, kind_byte}
use Rattle.machine.specs.Value.{Value}
use Rattle.image.specs.Slots.{InSlots, Tells}
use Rattle.image.proofs.Judging.{told-yes, told-no}
use Rattle.rules.specs.Header.{Header}
use Rattle.rules.specs.Strip.{Valid}
use Rattle.rules.proofs.Onward.{declared}
use Rattle.checker.specs.Check.{Checked}
use Rattle.checker.proofs.Exact.{done-exact, breach-exact}
use Rattle.run.specs.Call.{Fails, TurnsAway, breaks, fails}
use Rattle.run.specs.Run.{Slots, run_asks}
use Rattle.run.specs.Inner.Steps.{Asked, turned, well}
use Rattle.run.proofs.HeaderBytes.{inside, Counts, counts-read, parameter-count, parameter-kinds, result_count_lem}

-- the counts of a strip that keeps the rules are those of its header
module _ {s : List ℕ} (v : Valid s) where
  pub parameters-told : slot * get_or s 5 0 ≡ slot * length v.header.parameters
  parameters-told = ap (λ (n : ℕ). slot * n) (parameter-count (declared v.reached))

  pub results-told : slot * get_or s 7 0 ≡ slot * length v.header.results
  results-told = ap (λ (n : ℕ). slot * n) (result_count_lem (declared v.reached))

module _ {s : List ℕ} {w : Answer} (checked : Checked s w) where
  pub passed : w.code ≡ DONE → Valid s
  passed done = (done-exact checked).0 done

  pub counts_of : (done : w.code ≡ DONE) → Counts (declared (passed done).reached)
  counts_of done = counts-read (declared (passed done).reached)

  -- the kind bytes stand in the strip
  pub kinds-inside : w.code ≡ DONE → 8 + (get_or s 5 0 + get_or s 6 0) ≤ length s
  kinds-inside done = omega (arith, (counts_of done).body, inside (declared (passed done).reached))

  module _ (args mem out : List ℕ) where
    pub checked-first : (w.code ≡ DONE → ⊥) → Asked s args mem out w
    checked-first ne = turned checked.steps ne (λ img. breaks ((breach-exact checked w.code w.place ne).0 (refl, refl)))

    module _ (done : w.code ≡ DONE) where
      abbrev h : Header
      h = (passed done).header

      early : {code : ℕ} {r : Answer} → (r.code ≡ code) × (r.place ≡ 0) × (r.steps ≡ 0) → (code ≡ DONE → ⊥)
          → ((img : Option (List ℕ)) → Fails (run_asks args mem out img h) code) → Asked s args mem out r
      early {code} {r} e ne f =
          turned e.2 (λ z. ne (sym e.0 ∙ z))
          (λ img. subst (TurnsAway s (run_asks args mem out img) r.code) (sym e.1)
          (fails (passed done) (subst (Fails (run_asks args mem out img h)) (sym e.0) (f img))))

      pub no_room : {r : Answer} → (r.code ≡ ROOM) × (r.place ≡ 0) × (r.steps ≡ 0) → memory_limit < length mem → Asked s args mem out r
      no_room e l = early e (λ z. omega (arith, z)) (λ img. inl (λ k. omega (arith, k, l), refl))

      module _ (l : length mem ≤ memory_limit) where
        pub other-args : {r : Answer} → (r.code ≡ ARGS) × (r.place ≡ 0) × (r.steps ≡ 0) → (length args ≡ slot * get_or s 5 0 → ⊥) → Asked s args mem out r
        other-args e ne = early e (λ z. omega (arith, z)) (λ img. inr (l, inl (λ q. ne (q ∙ sym (parameters-told (passed done))), refl)))

        module _ (a : length args ≡ slot * get_or s 5 0) where
          sized : Slots h.parameters args
          sized = a ∙ parameters-told (passed done)

          pub other-out : {r : Answer} → (r.code ≡ OUT) × (r.place ≡ 0) × (r.steps ≡ 0) → (length out ≡ slot * get_or s 7 0 → ⊥) → Asked s args mem out r
          other-out e ne = early e (λ z. omega (arith, z)) (λ img. inr (l, inr (sized, inl (λ q. ne (q ∙ sym (results-told (passed done))), refl))))

          -- what is told of the bytes from 8 on, up to the last parameter's
          module _ (o : length out ≡ slot * get_or s 7 0) {t : Bool}
              (formed : (ks : List Kind) → take (8 + get_or s 5 0 - 8) (drop 8 s) ≡ map kind_byte ks → Tells ((vs : List Value) × InSlots ks args vs) t) where
            told : Tells ((vs : List Value) × InSlots h.parameters args vs) t
            told = formed h.parameters (parameter-kinds (declared (passed done).reached) (8 + get_or s 5 0 - 8) (omega arith))

            pub other-form : {r : Answer} → (r.code ≡ FORM) × (r.place ≡ 0) × (r.steps ≡ 0) → t ≡ false → Asked s args mem out r
            other-form e f =
                early e (λ z. omega (arith, z)) (λ img. inr (l, inr (sized, inr (o ∙ results-told (passed done), inl (told-no told f, refl)))))

            pub all_asked : t ≡ true → Asked s args mem out w
            all_asked f =
                let g = told-yes told f in
                well done (record { valid = passed done; values = g.0; given = g.1; slots = o ∙ results-told (passed done); room = l })
