-- The same judgement, by equal labels and indices.
use Prim.Native.Nat.{ℕ}
use mathlib.Core.Path.{◌≡◌, sym, ap, subst}
use native.Mathlib.Omega.{arith}
use Rattle.std.specs.Prelude.{Ok, Err, IsErr, IsErrAnd}
use mathlib.Core.Bool.{Bool, true, false}
use mathlib.Core.List.{List}
use Rattle.std.specs.declared.result.Result.{Result}
use Rattle.opcode.specs.Kind.{Kind}
use Rattle.opcode.specs.Table.{Br, BrIf, Code, control}
use Rattle.instr.specs.declared.Instr.{Instr}
use Rattle.rules.specs.Typing.{Frame}
use Rattle.checker.specs.declared.turns.State.{State}
use Rattle.checker.specs.Inner.Blocks.{Labelled}
use Rattle.checker.specs.Inner.Judging.{brancher, Gives, Judges}

module _ {ls rs : List Kind} {i : Instr} {fs : List Frame} {kinds blocks : List ℕ} {r : Result State ℕ} {maybe : Bool} where
  pub as-br : maybe ≡ false → Judges ls rs i (control Br) fs kinds blocks r → Judges ls rs i (control (brancher maybe)) fs kinds blocks r
  as-br e j = subst (λ (m : Bool). Judges ls rs i (control (brancher m)) fs kinds blocks r) (sym e) j

  pub as-br-if : maybe ≡ true → Judges ls rs i (control BrIf) fs kinds blocks r → Judges ls rs i (control (brancher maybe)) fs kinds blocks r
  as-br-if e j = subst (λ (m : Bool). Judges ls rs i (control (brancher m)) fs kinds blocks r) (sym e) j

pub as-told : {ls rs : List Kind} {i : Instr} {c : Code} {fs : List Frame} {kinds blocks : List ℕ} {a b : Result State ℕ} → a ≡ b → Judges ls rs i c fs kinds blocks b
    → Judges ls rs i c fs kinds blocks a
as-told {ls} {rs} {i} {c} {fs} {kinds} {blocks} e j = subst (λ (x : Result State ℕ). Judges ls rs i c fs kinds blocks x) (sym e) j

-- what a `?` hands on
pub err-told : {A E : Type 0} {r : Result A E} {e : E} → IsErr r × IsErrAnd r (λ x. x ≡ e) → r ≡ Err e
err-told {r = Ok x} h = absurd (let z : ◌≡◌ {A = ℕ} 0 1 = cc (h.0) in omega arith)
err-told {r = Err x} h = ap Err h.1

pub as-label : {fs : List Frame} {n m takes : ℕ} → n ≡ m → Labelled fs n takes → Labelled fs m takes
as-label {fs} {takes = takes} e l = subst (λ (x : ℕ). Labelled fs x takes) e l

pub as-index : {ls : List Kind} {n m : ℕ} {c : Code} {outer : List Kind} {f : Frame} {kinds : List ℕ} {r : Result ℕ ℕ} → n ≡ m → Gives ls n c outer f kinds r → Gives ls m c outer f kinds r
as-index {ls} {c = c} {outer} {f} {kinds} {r} e g = subst (λ (x : ℕ). Gives ls x c outer f kinds r) e g
