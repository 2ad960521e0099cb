-- A strip that keeps every rule: at a place that is reached stands its own `end`, the last, or an instruction after which the next place is reached.
use Prim.Native.Nat.{ℕ, ◌+◌, ◌<◌}
use mathlib.Core.Path.{◌≡◌, refl, sym, ap, subst, ◌∙◌}
use mathlib.Core.List.{List, [], ◌∷◌}
use mathlib.Core.Logic.{◌⊎◌, inl, inr}
use native.Mathlib.Omega.{arith}
use lib.ListN.{length}
use Rattle.std.specs.Prelude.{Ok, Err}
use Rattle.std.specs.declared.result.Result.{Result}
use Rattle.opcode.specs.Kind.{Kind}
use Rattle.opcode.specs.Table.{End, Code, plain}
use Rattle.instr.specs.declared.Instr.{Instr}
use Rattle.instr.proofs.Ranges.{stands-some, stands-inside}
use Rattle.rules.specs.Header.{Header, locals}
use Rattle.rules.specs.Typing.{Frame, all_values, Types}
use Rattle.rules.specs.Strip.{Reads, Within, Reaches, Valid}
use Rattle.rules.proofs.Typings.{types-once}
use Rattle.rules.proofs.Sorts.{typed-local, typed-label, typed-opens, typed-ends, typed-inner}
use Rattle.rules.proofs.Onward.{Onward, here, next, from_front, reads-once, compare}
use Rattle.checker.specs.declared.turns.State.{State}
use Rattle.checker.specs.Walk.{Framed}
use Rattle.checker.specs.Inner.Judging.{Judges, no_local, too_nested, no_label, untyped, no_results, too_deep, typed}

pub data Ahead (s : List ℕ) (h : Header) (p : ℕ) (fs : List Frame) : Type 0 where
  stops : {i : Instr} {n : ℕ} → Reads h.version s p i (plain End) n → length fs ≡ 1 → p + n ≡ length s → Ahead s h p fs
  goes : {i : Instr} {c : Code} {n : ℕ} {fs' : List Frame} → Reads h.version s p i c n → Types (locals h) i c fs fs' → Within fs' → Ahead s h p fs

pub ahead : {s : List ℕ} (v : Valid s) {p : ℕ} {fs : List Frame} → Reaches s v.header p fs → Ahead s v.header p fs
ahead {s} v {p} {fs} a = by (compare (from_front a) (from_front v.reached))
  where
    at_last : {q : ℕ} → q ≡ v.place → Reads v.header.version s q v.final (plain End) 1
    at_last e = subst (λ (x : ℕ). Reads v.header.version s x v.final (plain End) 1) (sym e) v.ends

    last : {α : List Frame} → p ≡ v.place → length α ≡ 1 → Ahead s v.header p α
    last e one = stops (at_last e) one (ap (λ (x : ℕ). x + 1) e ∙ v.last)

    forth : {q : ℕ} {α β : List Frame} → Onward s v.header p α q β → q ≡ v.place → length β ≡ 1 → Ahead s v.header p α
    forth here e one = last e one
    forth (next r t l o) e one = goes r t l

    back : {q : ℕ} {α β : List Frame} → Onward s v.header q α p β → q ≡ v.place → length α ≡ 1 → Ahead s v.header p β
    back here e one = last e one
    back (next r t l o) e one = absurd (typed-inner t (reads-once r (at_last e)).1 one)

    by : Onward s v.header p fs v.place (v.strip ∷ []) ⊎ Onward s v.header v.place (v.strip ∷ []) p fs → Ahead s v.header p fs
    by (inl o) = forth o refl refl
    by (inr o) = back o refl refl

pub ahead-read : {s : List ℕ} {h : Header} {p : ℕ} {fs : List Frame} → Ahead s h p fs → (i : Instr) × (c : Code) × (n : ℕ) × Reads h.version s p i c n
ahead-read (stops {i} {n} r one e) = (i, plain End, n, r)
ahead-read (goes {i} {c} {n} r t l) = (i, c, n, r)

pub reached-inside : {s : List ℕ} (v : Valid s) {p : ℕ} {fs : List Frame} → Reaches s v.header p fs → p < length s
reached-inside v a = let it = ahead-read (ahead v a) in omega (arith, stands-some it.3.stands, stands-inside it.3.stands)

-- what is typed is not turned away
module _ {ls : List Kind} {i : Instr} {c : Code} {fs fs' : List Frame} (t : Types ls i c fs fs') (w : Within fs') where
  -- so a judgement tells what is known then
  abbrev pub Passes : List Kind → List ℕ → List ℕ → Result State ℕ → Type 0
  Passes rs kinds blocks (Ok st) = Framed rs kinds blocks st.depth st.nest st.floor st.dead fs'
  Passes rs kinds blocks (Err e) = ⊥

  pub passed : {rs : List Kind} {kinds blocks : List ℕ} {r : Result State ℕ} → Judges ls rs i c fs kinds blocks r → Passes rs kinds blocks r
  passed (no_local names f) = let k = typed-local t names in absurd (f k.0 k.1)
  passed (too_nested o big) = absurd (let z : ⊥ = omega (arith, (typed-opens t o).0, w.blocks) in z)
  passed (no_label b f) = let k = typed-label t b in absurd (f k.0 k.1)
  passed (untyped e names labels f) = absurd (f fs' t)
  passed (no_results e f) = absurd (f (typed-ends t e))
  passed (too_deep u big) = absurd (let z : ⊥ = omega (arith, ap (λ (x : List Frame). length (all_values x)) (types-once u t), w.values) in z)
  passed {rs} {kinds} {blocks} (typed {st} u f) = subst (Framed rs kinds blocks st.depth st.nest st.floor st.dead) (types-once u t) f
