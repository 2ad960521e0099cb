-- Every place that a strip reaches in live code has a sound state, and where a rule is broken there, one that is stuck: what is said of all sound
-- states there is said of some.
use Prim.Native.Nat.{ℕ, ◌≤◌}
use mathlib.Core.Path.{◌≡◌, refl, ap}
use mathlib.Core.Bool.{Bool, false}
use mathlib.Core.List.{List, [], ◌∷◌, map, reverse}
use native.Mathlib.Omega.{arith}
use lib.ListN.{replicate}
use Rattle.card.specs.Card.{LOCAL, TRAILING}
use Rattle.limits.specs.Limits.{slot}
use Rattle.operation.proofs.Laws.Vectors.{sixteen-zeros}
use Rattle.opcode.specs.Kind.{Kind, i32, i64, v128}
use Rattle.opcode.specs.Table.{Code}
use Rattle.instr.specs.declared.Instr.{Instr}
use Rattle.machine.specs.Value.{Value, I32, I64, V128, kind_of, InRange, AllInRange}
use Rattle.rules.specs.Header.{Header, locals}
use Rattle.rules.specs.Typing.{Frame, opened, Types, ordinary, branches, may_branch, opens_block, opens_loop, closes, Live}
use Rattle.rules.specs.Strip.{Reaches, front, past}
use Rattle.rules.specs.Breach.{Breach}
use Rattle.standard.specs.Standard.{Label, Config, halted, step}
use Rattle.standard.specs.Safety.{Nested, outermost, inside, Fits, Sound, StuckHere, stuck_here, not_taken}
use Rattle.standard.proofs.Stuck.{stuck-exact}

-- ---- values, none of them an i32 of 0: a br_if over them takes its branch

abbrev one : Kind → Value
one i32 = I32 1
one i64 = I64 0
one v128 = V128 (replicate slot 0)

ones-kinds : (ks : List Kind) → map kind_of (map one ks) ≡ ks
ones-kinds [] = refl
ones-kinds (i32 ∷ ks) = ap (λ (l : List Kind). i32 ∷ l) (ones-kinds ks)
ones-kinds (i64 ∷ ks) = ap (λ (l : List Kind). i64 ∷ l) (ones-kinds ks)
ones-kinds (v128 ∷ ks) = ap (λ (l : List Kind). v128 ∷ l) (ones-kinds ks)

one-range : (k : Kind) → InRange (one k)
one-range i32 = omega arith
one-range i64 = omega arith
one-range v128 = sixteen-zeros

ones-range : (ks : List Kind) → AllInRange (map one ks)
ones-range [] = tt
ones-range (k ∷ ks) = (one-range k, ones-range ks)

no_zero : (ks : List Kind) {st : List Value} → map one ks ≡ I32 0 ∷ st → ⊥
no_zero [] e = let z : ◌≡◌ {A = ℕ} 0 1 = cc (e) in omega arith
no_zero (i32 ∷ ks) e = let z : ◌≡◌ {A = ℕ} 1 0 = cc (e) in omega arith
no_zero (i64 ∷ ks) e = let z : ◌≡◌ {A = ℕ} 0 1 = cc (e) in omega arith
no_zero (v128 ∷ ks) e = let z : ◌≡◌ {A = ℕ} 0 1 = cc (e) in omega arith

-- ---- the blocks

-- every block that is open was begun at some place
data Opened (s : List ℕ) (h : Header) : List Frame → Type 0 where
  strip : {f : Frame} → f.loop ≡ false → f.results ≡ h.results → Opened s h (f ∷ [])
  block : {f g : Frame} {fs : List Frame} (body : ℕ) → Reaches s h body (opened f.loop f.results ∷ g ∷ fs) → Opened s h (g ∷ fs) → Opened s h (f ∷ g ∷ fs)

module _ {s : List ℕ} {h : Header} where
  entered : {p : ℕ} {b : Bool} {ks : List Kind} {fs : List Frame} → Reaches s h p (opened b ks ∷ fs) → Opened s h fs → Opened s h (opened b ks ∷ fs)
  entered {p = p} r (strip a b) = block p r (strip a b)
  entered {p = p} r (block q e o) = block p r (block q e o)

  onward : {q : ℕ} {ls : List Kind} {i : Instr} {c : Code} {fs fs' : List Frame} → Types ls i c fs fs' → Reaches s h q fs' → Opened s h fs → Opened s h fs'
  onward (ordinary t x) r (strip a b) = strip a b
  onward (ordinary t x) r (block q e o) = block q e o
  onward (branches l x) r (strip a b) = strip a b
  onward (branches l x) r (block q e o) = block q e o
  onward (may_branch l x) r (strip a b) = strip a b
  onward (may_branch l x) r (block q e o) = block q e o
  onward opens_block r o = entered r o
  onward opens_loop r o = entered r o
  onward (closes x) r (block q e (strip a b)) = strip a b
  onward (closes x) r (block q e (block q' e' o)) = block q' e' o

  all-opened : {p : ℕ} {fs : List Frame} → Reaches s h p fs → Opened s h fs
  all-opened (front d) = strip refl refl
  all-opened (past reached r t w) = onward t (past reached r t w) (all-opened reached)

  -- labels over such values
  labelled : {fs : List Frame} → Opened s h fs → (ls : List Label) × Nested s h fs ls
  labelled (strip a b) = ([], outermost a b)
  labelled (block {f = f} {g = g} body e o) =
      let ks = reverse g.values in
      let n = labelled o in
      let l : Label = record { loop = f.loop; results = f.results; under = map one ks; body = body } in
      (l ∷ n.0, inside refl refl (ones-kinds ks) (ones-range ks) e n.1)

  -- ---- the state

  module _ {p : ℕ} {f : Frame} {fs : List Frame} (reached : Reaches s h p (f ∷ fs)) (live : Live (f ∷ fs)) where
    abbrev standing : Config
    standing = record { place = p; state = record { stack = map one (reverse f.values); locals = map one (locals h); memory = [] }; labels = (labelled (all-opened reached)).0 }

    standing-sound : Sound s h standing
    standing-sound =
        let fits : Fits s h f fs standing =
        record {
          stacked = ones-kinds (reverse f.values);
          nested = (labelled (all-opened reached)).1;
          held = ones-kinds (locals h);
          stack_range = ones-range (reverse f.values);
          local_range = ones-range (locals h);
          memory_range = λ k. omega arith;
        } in
        record { frame = f; outer = fs; reached = reached; live = live; fits = fits }

    pub live-inhabited : (c : Config) × (c.place ≡ p) × Sound s h c
    live-inhabited = (standing, refl, standing-sound)

    -- so where a rule is broken in live code, some sound state is stuck
    pub stuck-inhabited : {code : ℕ} → Breach s code p → LOCAL ≤ code → (code ≡ TRAILING → ⊥) → (c : Config) × (c.place ≡ p) × Sound s h c × (step s h c ≡ halted)
    stuck-inhabited b lo hi = (standing, refl, standing-sound, by (stuck-exact b lo hi standing refl standing-sound))
      where
        by : StuckHere s h standing → step s h standing ≡ halted
        by (stuck_here e) = e
        by (not_taken st r e) = absurd (no_zero (reverse f.values) e)
