-- Fields in order: a field's shortest bytes are the fewest, and the only ones.
use Prim.Native.Nat.{ℕ, ◌<◌, ◌≤◌, ◌^◌}
use mathlib.Core.List.{List, [], ◌∷◌, ◌++◌, append_assoc}
use mathlib.Core.Path.{◌≡◌, refl, sym, ap, ap₂, ◌∙◌}
use native.Mathlib.Omega.{arith}
use lib.ListN.{length, length-append}
use Rattle.leb128.proofs.Grammars.{same_bytes}
use Rattle.leb128.proofs.Forms.{bytes-write, bytes-shortest}
use Rattle.instr.specs.Layout.{Field, number, raw, Writes, Shortest, InOrder}
use Rattle.instr.specs.Encode.{shortest_bytes, written}

pub in-order-append : (R : Field → List ℕ → Type 0) (fs gs : List Field) (xs ys : List ℕ) → InOrder R fs xs → InOrder R gs ys → InOrder R (fs ++ gs) (xs ++ ys)
in-order-append R [] gs xs ys o q = rw o q
in-order-append R (f ∷ fs) gs xs ys o q =
    (o.0, o.1 ++ ys, rw o.2 (append_assoc o.0 o.1 ys), o.3, in-order-append R fs gs o.1 ys o.4 q)

pub writes-of : (fs : List Field) (bs : List ℕ) → InOrder Shortest fs bs → InOrder Writes fs bs
writes-of [] bs o = o
writes-of (f ∷ fs) bs o = (o.0, o.1, o.2, o.3.0, writes-of fs o.1 o.4)

-- no bytes that are the fields are fewer
pub in-order-least : (fs : List Field) (xs ys : List ℕ) → InOrder Shortest fs xs → InOrder Writes fs ys → length xs ≤ length ys
in-order-least [] xs ys o q = omega (arith, ap length o)
in-order-least (f ∷ fs) xs ys o q =
    omega (arith, ap length o.2, ap length q.2, length-append o.0 o.1, length-append q.0 q.1, o.3.1 q.0 q.3, in-order-least fs o.1 q.1 o.4 q.4)

field-only : (f : Field) (xs ys : List ℕ) → Shortest f xs → Shortest f ys → xs ≡ ys
field-only (number sign N v) xs ys a b = same_bytes a.0 b.0 (omega (arith, a.1 ys b.0, b.1 xs a.0))
field-only (raw l) xs ys a b = a.0 ∙ sym b.0

-- and no others are as few
pub in-order-only : (fs : List Field) (xs ys : List ℕ) → InOrder Shortest fs xs → InOrder Shortest fs ys → xs ≡ ys
in-order-only [] xs ys o q = o ∙ sym q
in-order-only (f ∷ fs) xs ys o q =
    o.2 ∙ ap₂ (λ (a b : List ℕ). a ++ b) (field-only f o.0 q.0 o.3 q.3) (in-order-only fs o.1 q.1 o.4 q.4) ∙ sym q.2

-- each number is one of its width
abbrev pub Fit : List Field → Type 0
Fit [] = Unit {0}
Fit (number sign N v ∷ fs) = (0 < N) × (v < 2 ^ N) × Fit fs
Fit (raw xs ∷ fs) = Fit fs

pub fit_append : (fs gs : List Field) → Fit fs → Fit gs → Fit (fs ++ gs)
fit_append [] gs a b = b
fit_append (number sign N v ∷ fs) gs a b = (a.0, a.1, fit_append fs gs a.2 b)
fit_append (raw xs ∷ fs) gs a b = fit_append fs gs a b

pub written-shortest : (fs : List Field) → Fit fs → InOrder Shortest fs (written fs)
written-shortest [] a = refl
written-shortest (number sign N v ∷ fs) a =
    (shortest_bytes (number sign N v), written fs, refl, (bytes-write sign N v a.0 a.1, (bytes-shortest sign N v a.0 a.1).least), written-shortest fs a.2)
written-shortest (raw xs ∷ fs) a = (xs, written fs, refl, (refl, λ cs e. omega (arith, ap length e)), written-shortest fs a)
