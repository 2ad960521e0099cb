-- One step of the standard's machine at an instruction that is read.
use Prim.Native.Nat.{ℕ, zero, suc, ◌<◌}
use mathlib.Core.Path.{◌≡◌, refl, ap, ◌∙◌}
use mathlib.Core.List.{List, [], ◌∷◌}
use mathlib.Core.Bool.{Bool, true, false, cond}
use native.Mathlib.Omega.{arith}
use lib.Dec.{eqb}
use lib.ListN.{get_or}
use borrow.Author.Tests.{eqb-true, ne_eqb}
use Rattle.card.specs.Card.{DONE}
use Rattle.leb128.specs.Bytes.{bytes}
use Rattle.opcode.specs.Table.{Plain, End, Drop, LocalGet, LocalSet, LocalTee, I32Const, I64Const, I32Add, I32Sub, I32Eqz, I32LtU, Control, Code, plain, control, vector, Row, carried, float, unassigned}
use Rattle.instr.specs.declared.Instr.{Instr}
use Rattle.instr.specs.declared.Decoded.{Decoded}
use Rattle.instr.specs.Layout.{Below, row_in, found, Typed as InTypes}
use Rattle.instr.specs.Decode.{decode_at}
use Rattle.instr.proofs.Stands.{decoded-stands}
use Rattle.instr.proofs.Decodes.{stands-decodes}
use Rattle.machine.specs.Exec.{exec}
use Rattle.machine.proofs.Simulates.{Apt}
use Rattle.rules.specs.Header.{Header}
use Rattle.rules.specs.Strip.{Reads}
use Rattle.standard.specs.Closing.{is_end}
use Rattle.standard.specs.Standard.{Label, Config, Stage, halted, after, leave, step_plain, step_code, step_row, step_by, step}

pub reads-decoded : {v : ℕ} {s : List ℕ} {p n : ℕ} {i : Instr} {c : Code} → Reads v s p i c n → decode_at v s p ≡ found n i
reads-decoded {v} {s} {p} {n} {i} r = stands-decodes v s p i n r.stands

pub step-does : {s : List ℕ} (h : Header) (c : Config) {n : ℕ} {i : Instr} {k : Code} → Reads h.version s c.place i k n → step s h c ≡ step_code s h c n i k
unfolding step
step-does {s} h c {n} {i} r = ap (step_by s h c) (reads-decoded r) ∙ ap (step_row s h c (found n i)) r.does

pub step-halts : (s : List ℕ) (h : Header) (c : Config) → ((decode_at h.version s c.place).code ≡ DONE → ⊥) → step s h c ≡ halted
unfolding step
step-halts s h c wrong =
    let d = decode_at h.version s c.place in
    ap (λ (t : Bool). cond t (step_row s h c d (row_in h.version d.instr)) halted) (ne_eqb d.code DONE wrong)

-- what is so of a stuck state and of every instruction that is read is so of a step; a strip is bytes
module _ (s : List ℕ) (b : bytes s) (h : Header) (c : Config) (P : Stage → Type 0) (sticks : P halted)
    (does : (n : ℕ) (i : Instr) (k : Code) → Reads h.version s c.place i k n → P (step_code s h c n i k)) where
  abbrev d : Decoded
  d = decode_at h.version s c.place

  of_row : d.code ≡ DONE → (r : Row) → row_in h.version d.instr ≡ r → P (step_row s h c d r)
  of_row z (carried k) w = does d.len d.instr k (record { stands = decoded-stands s b h.version c.place z; does = w })
  of_row z float w = sticks
  of_row z unassigned w = sticks

  of_code : (t : Bool) → eqb d.code DONE ≡ t → P (cond t (step_row s h c d (row_in h.version d.instr)) halted)
  of_code true z = of_row (eqb-true d.code DONE z) (row_in h.version d.instr) refl
  of_code false z = sticks

  pub of-step : P (step s h c)
  unfolding step
  of-step = of_code (eqb d.code DONE) refl

pub not_end : (p : Plain) → (plain p ≡ plain End → ⊥) → is_end p ≡ false
not_end End d = absurd (d refl)
not_end Drop d = refl
not_end LocalGet d = refl
not_end LocalSet d = refl
not_end LocalTee d = refl
not_end I32Const d = refl
not_end I64Const d = refl
not_end I32Add d = refl
not_end I32Sub d = refl
not_end I32Eqz d = refl
not_end I32LtU d = refl

-- what is neither `end` nor a block nor a branch pops and pushes, and goes on after it
pub does-ordinary : (s : List ℕ) (h : Header) (c : Config) (n : ℕ) (i : Instr) (k : Code) → (k ≡ plain End → ⊥) → ((x : Control) → k ≡ control x → ⊥)
    → step_code s h c n i k ≡ after c n (exec h.results k i c.state)
does-ordinary s h c n i (plain p) d e = by c.labels
  where
    by : (ls : List Label) → step_plain h c n i p ls ≡ after c n (exec h.results (plain p) i c.state)
    by [] = refl
    by (l ∷ ls) = ap (λ (t : Bool). cond t (leave n c l ls) (after c n (exec h.results (plain p) i c.state))) (not_end p d)
does-ordinary s h c n i (control x) d e = absurd (e x refl)
does-ordinary s h c n i (vector o) d e = refl

-- ---- its immediates are in the range of their types

below_at : {n : ℕ} (xs : List ℕ) (k : ℕ) → 0 < n → Below n xs → get_or xs k 0 < n
below_at [] k z b = z
below_at (x ∷ xs) zero z b = b.0
below_at (x ∷ xs) (suc k) z b = below_at xs k z b.1

pub apt : {i : Instr} → InTypes i → Apt i
apt {i} t = record { word = t.word; long = t.long; sixteen = record { long = t.sixteen; bytes = λ k. record { fits = below_at i.bytes k (omega arith) t.bytes } } }
