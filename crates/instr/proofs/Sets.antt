-- Bytes written one after the other, and what the encoder's loops leave.
use Prim.Native.Nat.{ℕ, zero, suc, ◌+◌, ◌<◌, ◌≤◌}
use mathlib.Core.Bool.{Bool, true, false}
use mathlib.Core.List.{List, [], ◌∷◌, ◌++◌, append_assoc, append-nil}
use mathlib.Core.Path.{◌≡◌, refl, sym, ap, subst, ◌∙◌}
use native.Mathlib.Nat.{add-zero}
use native.Mathlib.Omega.{arith}
use lib.ListN.{length, get_or, length-append}
use borrow.Author.Tests.{lt-ltb, ltb-true, eq-eqb}
use Rattle.std.proofs.lemmas.Bool.{and_parts}
use Rattle.std.specs.Prelude.{ltb, Option, Some, IsTrue, ◌↔◌, EachIndex}
use Rattle.buffer.proofs.Writing.{sets-append}
use Rattle.leb128.specs.Shortest.{bytes_of}
use Rattle.leb128.specs.Promise.{WritesNumber}
use Rattle.leb128.proofs.Puts.{goes_to, goes-bytes}
use Rattle.opcode.specs.Table.{PREFIX}
use Rattle.instr.specs.Layout.{Field, opcode_fields}
use Rattle.instr.specs.Encode.{shortest_bytes, written, all_below}
use Rattle.instr.specs.Inner.Steps.{Put}

-- nothing; and one thing after another
pub put-none : (out : List ℕ) (at : ℕ) → Put out at [] at out
put-none out at = record { to = sym (add-zero at); bytes = refl }

pub put_then : {out out₁ out₂ xs ys : List ℕ} {at p r : ℕ} → Put out at xs p out₁ → Put out₁ p ys r out₂ → Put out at (xs ++ ys) r out₂
put_then {out} {out₁} {out₂} {xs} {ys} {at} {p} {r} a b =
    record {
      to = omega (arith, a.to, b.to, length-append xs ys);
      bytes = b.bytes ∙ rw (a.bytes, a.to) (sets-append xs out ys at);
    }

pub put_same : {out out' xs ys : List ℕ} {at r : ℕ} → xs ≡ ys → Put out at ys r out' → Put out at xs r out'
put_same {out} {out'} {at = at} {r = r} e w = subst (λ (l : List ℕ). Put out at l r out') (sym e) w

pub put-number : {sign : Bool} {N v at : ℕ} {out out' : List ℕ} {r : Option ℕ} → WritesNumber sign N v at out r out' → at + length (bytes_of sign N v) ≤ length out
    → (p : ℕ) → r ≡ Some p → Put out at (bytes_of sign N v) p out'
put-number w l p e = record { to = goes_to w l p e; bytes = goes-bytes w l }

pub written-append : (fs gs : List Field) → written (fs ++ gs) ≡ written fs ++ written gs
written-append [] gs = refl
written-append (f ∷ fs) gs = ap (λ (l : List ℕ). shortest_bytes f ++ l) (written-append fs gs) ∙ sym (append_assoc (shortest_bytes f) (written fs) (written gs))

-- an opcode's bytes
pub opcode-vector : (b n : ℕ) → b ≡ PREFIX → written (opcode_fields b n) ≡ b ∷ bytes_of false 32 n
opcode-vector b n e = rw (eq-eqb b PREFIX e) (ap (λ (l : List ℕ). b ∷ l) (append-nil (bytes_of false 32 n)))

-- every index is below 32
below-each : (xs : List ℕ) → ((k : ℕ) → k < length xs → get_or xs k 0 < 32) → all_below 32 xs ≡ true
unfolding all_below
below-each [] h = refl
below-each (x ∷ xs) h = rw (lt-ltb x 32 (h 0 (omega arith))) (below-each xs (λ k l. h (suc k) (omega arith)))

each-below : (xs : List ℕ) → all_below 32 xs ≡ true → (k : ℕ) → k < length xs → get_or xs k 0 < 32
unfolding all_below
each-below [] e k l = absurd (omega arith)
each-below (x ∷ xs) e zero l = ltb-true x 32 (and_parts (ltb x 32) (all_below 32 xs) e).0
each-below (x ∷ xs) e (suc k) l = each-below xs (and_parts (ltb x 32) (all_below 32 xs) e).1 k (omega arith)

pub all-below : (t : Bool) (xs : List ℕ) → IsTrue t ↔ EachIndex xs (λ k. get_or xs k 0 < 32) → t ≡ all_below 32 xs
all-below true xs w = sym (below-each xs (w.0 refl))
all-below false xs w = by (all_below 32 xs) refl
  where
    by : (b : Bool) → all_below 32 xs ≡ b → false ≡ b
    by true e = w.1 (each-below xs e)
    by false e = refl
