-- An instruction leaves one stack at most, and inside blocks too.
use Prim.Native.Nat.{ℕ}
use mathlib.Core.Path.{◌≡◌, refl, ap, ap₂, sym, ◌∙◌}
use mathlib.Core.Bool.{false}
use mathlib.Core.List.{List, [], ◌∷◌, ◌++◌}
use mathlib.Core.Option.{Option, some}
use native.Mathlib.Omega.{arith}
use lib.ListN.{length, length-append}
use Rattle.opcode.specs.Kind.{Kind, i32}
use Rattle.opcode.specs.Table.{End, Control, Code, plain, control}
use Rattle.opcode.specs.Effect.{Signature, ◌⇒◌}
use Rattle.instr.specs.declared.Instr.{Instr}
use Rattle.rules.specs.Typing.{Frame, holding, branch_kinds, Target, innermost, outer, Local, first, later, Typed, by_signature, dropped, got, set, teed}
use Rattle.rules.specs.Typing.{Has, all_known, any, Types, ordinary, branches, may_branch, opens_block, opens_loop, closes}
use Rattle.rules.proofs.Lists.{ends-once}

pub local-once : {ls : List Kind} {n : ℕ} {k k' : Kind} → Local ls n k → Local ls n k' → k ≡ k'
local-once first first = refl
local-once (later a) (later b) = local-once a b

pub label-once : {fs : List Frame} {n : ℕ} {g g' : Frame} → Target fs n g → Target fs n g' → g ≡ g'
label-once innermost innermost = refl
label-once (outer a) (outer b) = label-once a b

-- as many are taken, and the same is left
pub record Alike (ins ins' outs outs' : List Kind) : Type 0 where
  pub many : length ins ≡ length ins'
  pub left : outs ≡ outs'

signatures-alike : {a b : List Kind} {a' b' : List Kind} {e : Option Signature} → e ≡ some (a ⇒ b) → e ≡ some (a' ⇒ b') → Alike a a' b b'
signatures-alike {a} {b} {a'} {b'} p q = let same : a ≡ a' = cc in let left : b ≡ b' = cc in record { many = ap length same; left = left }

alike : {ls : List Kind} {n : ℕ} {c : Code} {a a' b b' : List Kind} → Typed ls n c a b → Typed ls n c a' b' → Alike a a' b b'
alike (by_signature p) (by_signature q) = signatures-alike p q
alike (by_signature p) dropped = absurd (let z : ◌≡◌ {A = ℕ} 0 1 = cc in omega arith)
alike (by_signature p) (got l) = absurd (let z : ◌≡◌ {A = ℕ} 0 1 = cc in omega arith)
alike (by_signature p) (set l) = absurd (let z : ◌≡◌ {A = ℕ} 0 1 = cc in omega arith)
alike (by_signature p) (teed l) = absurd (let z : ◌≡◌ {A = ℕ} 0 1 = cc in omega arith)
alike dropped (by_signature q) = absurd (let z : ◌≡◌ {A = ℕ} 0 1 = cc in omega arith)
alike dropped dropped = record { many = refl; left = refl }
alike (got l) (by_signature q) = absurd (let z : ◌≡◌ {A = ℕ} 0 1 = cc in omega arith)
alike (got l) (got m) = record { many = refl; left = ap (λ (k : Kind). k ∷ []) (local-once l m) }
alike (set l) (by_signature q) = absurd (let z : ◌≡◌ {A = ℕ} 0 1 = cc in omega arith)
alike (set l) (set m) = record { many = refl; left = refl }
alike (teed l) (by_signature q) = absurd (let z : ◌≡◌ {A = ℕ} 0 1 = cc in omega arith)
alike (teed l) (teed m) = record { many = refl; left = ap (λ (k : Kind). k ∷ []) (local-once l m) }

-- `end` and what may go on elsewhere have no typing by themselves
pub end-untyped : {ls ins outs : List Kind} {n : ℕ} {c : Code} → Typed ls n c ins outs → c ≡ plain End → ⊥
end-untyped (by_signature p) e = let z : ◌≡◌ {A = ℕ} 0 1 = cc in omega arith
end-untyped dropped e = let z : ◌≡◌ {A = ℕ} 0 1 = cc in omega arith
end-untyped (got l) e = let z : ◌≡◌ {A = ℕ} 0 1 = cc in omega arith
end-untyped (set l) e = let z : ◌≡◌ {A = ℕ} 0 1 = cc in omega arith
end-untyped (teed l) e = let z : ◌≡◌ {A = ℕ} 0 1 = cc in omega arith

pub control-untyped : {ls ins outs : List Kind} {n : ℕ} {c : Code} {k : Control} → Typed ls n c ins outs → c ≡ control k → ⊥
control-untyped (by_signature p) e = let z : ◌≡◌ {A = ℕ} 0 1 = cc in omega arith
control-untyped dropped e = let z : ◌≡◌ {A = ℕ} 0 1 = cc in omega arith
control-untyped (got l) e = let z : ◌≡◌ {A = ℕ} 0 1 = cc in omega arith
control-untyped (set l) e = let z : ◌≡◌ {A = ℕ} 0 1 = cc in omega arith
control-untyped (teed l) e = let z : ◌≡◌ {A = ℕ} 0 1 = cc in omega arith

-- in live code all is known
pub live-has : {f : Frame} {below ins : List Kind} → f.dead ≡ false → Has f below ins → f.values ≡ below ++ ins
live-has l (all_known e) = e
live-has l (any k d e) = absurd (let z : ◌≡◌ {A = ℕ} 0 1 = cc in omega arith)

empty : (ks : List Kind) → length ks ≡ 0 → ks ≡ []
empty [] e = refl
empty (k ∷ ks) e = absurd (let z : ⊥ = omega arith in z)

-- what lies below as many
pub has-once : {f : Frame} {a b ins ins' : List Kind} → length ins ≡ length ins' → Has f a ins → Has f b ins' → a ≡ b
has-once {a = a} {b} {ins} {ins'} l (all_known e) (all_known e') = (ends-once a b ins ins' l (sym e ∙ e')).0
has-once {f} {a = a} {ins = ins} l (all_known e) (any u d e') =
    empty a (omega (arith, l, ap length e, length-append a ins, ap length e', length-append u f.values))
has-once {f} {b = b} {ins' = ins'} l (any u d e) (all_known e') =
    sym (empty b (omega (arith, l, ap length e', length-append b ins', ap length e, length-append u f.values)))
has-once l (any u d e) (any u' d' e') = refl

pub types-once : {ls : List Kind} {i : Instr} {c : Code} {fs a b : List Frame} → Types ls i c fs a → Types ls i c fs b → a ≡ b
types-once (ordinary {f = f} {fs} t x) (ordinary u y) =
    let w = alike t u in ap₂ (λ (z v : List Kind). holding f (z ++ v) ∷ fs) (has-once w.many x y) w.left
types-once (ordinary t x) (branches l y) = absurd (control-untyped t refl)
types-once (ordinary t x) (may_branch l y) = absurd (control-untyped t refl)
types-once (ordinary t x) opens_block = absurd (control-untyped t refl)
types-once (ordinary t x) opens_loop = absurd (control-untyped t refl)
types-once (ordinary t x) (closes y) = absurd (end-untyped t refl)
types-once (branches l x) (ordinary t y) = absurd (control-untyped t refl)
types-once (branches l x) (branches m y) = refl
types-once (may_branch l x) (ordinary t y) = absurd (control-untyped t refl)
types-once (may_branch {f = f} {g} {fs} l x) (may_branch m y) =
    let same = label-once l m in
    ap₂ (λ (z : List Kind) (v : Frame). holding f (z ++ branch_kinds v) ∷ fs) (has-once (ap (λ (v : Frame). length (branch_kinds v ++ i32 ∷ [])) same) x y) same
types-once opens_block (ordinary t y) = absurd (control-untyped t refl)
types-once opens_block opens_block = refl
types-once opens_loop (ordinary t y) = absurd (control-untyped t refl)
types-once opens_loop opens_loop = refl
types-once (closes x) (ordinary t y) = absurd (end-untyped t refl)
types-once (closes x) (closes y) = refl
