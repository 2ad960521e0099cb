-- A vector written lane by lane: a lane put into its bytes, and the loop that puts one after the other.
use mathlib.Core.Path.{◌≡◌, sym, ap, ap₂, ◌∙◌, subst}
use mathlib.Core.List.{List, [], ◌∷◌, ◌++◌, append_assoc}
use Prim.Native.Nat.{ℕ, ◌+◌, ◌-◌, ◌*◌, ◌/◌, ◌%◌, ◌^◌, ◌≤◌, ◌<◌}
use native.Mathlib.Nat.{mul_comm, zero-mul, mul-add, add-mul, two-mul, one-mul, mul-one, add_assoc, le_antisymm, mul-le-mul_right}
use native.Mathlib.Numerals.{add-one}
use native.Mathlib.Omega.{arith}
use lib.ListN.{length, take, drop, set, replicate, length-append, length-drop}
use lib.Pow.{shr-shr}
use lib.Seq.{drop-drop, length-take-le, take_at, drop_at, take_all, set_split}
use mir.Syntax.{Width, w8, w16, w32, w64, w128}
use mir.Val.{bits, bytes}
use borrow.Rule.Slice.PartMut.{put_mid, Post-is}
use Rattle.std.specs.Int.{to_le_bytes}
use Rattle.operation.specs.Shape.{lanes}
use Rattle.operation.specs.Vector.{le, build, vec, Sixteen}
use Rattle.lane.specs.Inner.Put.{put, Wrote}
use Rattle.operation.proofs.Laws.Vectors.{sixteen-zeros}
use Rattle.operation.proofs.Laws.Number.{length-le, le_split, le-mod, bytes_le, bytes-append, bytes_take, bytes_drop}

-- at one byte putting a lane is a store
pub put_byte : (v : List ℕ) (n x : ℕ) → x < 2 ^ 8 → n < length v → put 1 v n x ≡ set v n x
unfolding put
put_byte v n x f h =
    ap₂ (λ (m y : ℕ). take m v ++ (y ∷ drop (m + 1) v)) (mul-one n) (omega arith)
    ∙ ap (λ (m : ℕ). take n v ++ (x ∷ drop m v)) (add-one n) ∙ sym (set_split v n x h)

-- a first list of known length
front : (o k : ℕ) (p a q : List ℕ) → length p ≡ o → length a ≡ k → take (o + k) (p ++ (a ++ q)) ≡ p ++ a
front o k p a q hp ha = ap (take (o + k)) (sym (append_assoc p a q)) ∙ take_at (p ++ a) q (o + k) (length-append p a ∙ ap₂ ◌+◌ hp ha)

back : (o k : ℕ) (p a q : List ℕ) → length p ≡ o → length a ≡ k → drop (o + k) (p ++ (a ++ q)) ≡ q
back o k p a q hp ha = ap (drop (o + k)) (sym (append_assoc p a q)) ∙ drop_at (p ++ a) q (o + k) (length-append p a ∙ ap₂ ◌+◌ hp ha)

-- one run put at o, and one behind it, is both at o
put-twice : (o k : ℕ) (lo hi v : List ℕ) → length lo ≡ k → o + (k + k) ≤ length v
    → take o v ++ ((lo ++ hi) ++ drop (o + (k + k)) v) ≡ take (o + k) (take o v ++ (lo ++ drop (o + k) v)) ++
    (hi ++ drop (o + k + k) (take o v ++ (lo ++ drop (o + k) v)))
put-twice o k lo hi v e h =
    ap (λ (a : List ℕ). take o v ++ a) (append_assoc lo hi (drop (o + (k + k)) v))
    ∙ sym (append_assoc (take o v) lo (hi ++ drop (o + (k + k)) v))
    ∙ sym (ap₂ (λ (a b : List ℕ). a ++ (hi ++ b)) (front o k (take o v) lo (drop (o + k) v) len e)
    (sym (drop-drop k (o + k) (take o v ++ (lo ++ drop (o + k) v)))
    ∙ ap (drop k) (back o k (take o v) lo (drop (o + k) v) len e)
    ∙ drop-drop k (o + k) v ∙ ap (λ (m : ℕ). drop m v) (add_assoc o k k)))
  where
    len : length (take o v) ≡ o
    len = length-take-le o v (omega arith)

-- a lane of twice the bytes is put as two, the low one first
pub put-join : (k : ℕ) (v : List ℕ) (n x : ℕ) → n * (k + k) + (k + k) ≤ length v
    → put (k + k) v n x ≡ put k (put k v (2 * n) (x % 2 ^ (8 * k))) (2 * n + 1) (x / 2 ^ (8 * k))
unfolding put
put-join k v n x h =
    ap (λ (a : List ℕ). take (n * (k + k)) v ++ (a ++ drop (n * (k + k) + (k + k)) v))
    (le_split k k x ∙ ap (λ (a : List ℕ). a ++ le k (x / 2 ^ (8 * k))) (sym (le-mod k x)))
    ∙ put-twice (n * (k + k)) k (le k (x % 2 ^ (8 * k))) (le k (x / 2 ^ (8 * k))) v (length-le k (x % 2 ^ (8 * k))) h
    ∙ ap₂
    (λ (a b : ℕ). take b (take a v ++ (le k (x % 2 ^ (8 * k)) ++ drop (a + k) v)) ++
    (le k (x / 2 ^ (8 * k)) ++ drop (b + k) (take a v ++ (le k (x % 2 ^ (8 * k)) ++ drop (a + k) v)))) even odd
  where
    even : n * (k + k) ≡ 2 * n * k
    even = mul-add n k k ∙ sym (add-mul n n k) ∙ ap (λ (m : ℕ). m * k) (sym (two-mul n))

    odd : n * (k + k) + k ≡ (2 * n + 1) * k
    odd = ap (λ (m : ℕ). m + k) even ∙ omega (arith, add-mul (2 * n) 1 k, one-mul k)

-- ---- a lane of 32 bits is put at once, its four bytes over a part of the vector

pub le_4 : (x : ℕ) → to_le_bytes w32 x ≡ le 4 x
le_4 x =
    ap₂ (λ (a b : ℕ). x % 256 ∷ (x / 256 % 256 ∷ (a % 256 ∷ (b % 256 ∷ [])))) (sym (shr-shr x 8 8))
    (sym (ap (λ (m : ℕ). m / 2 ^ 8) (shr-shr x 8 8) ∙ shr-shr x 16 8))

module _ (k : ℕ) (v : List ℕ) (n x : ℕ) (ys : List ℕ) (h : n * k + k ≤ 16) (s : Sixteen v) (e : ys ≡ le k x) where
  pub part-put : put_mid (k * n) (k * n + k - k * n) v ys ≡ put k v n x
  unfolding put
  part-put =
      ap₂ (λ (a b : List ℕ). take (k * n) v ++ (a ++ b)) e (Post-is (k * n) (k * n + k) v (omega arith))
      ∙ ap (λ (m : ℕ). take m v ++ (le k x ++ drop (m + k) v)) (mul_comm k n)

  put-sixteen : Sixteen (put k v n x)
  unfolding put
  put-sixteen = record {
    long = omega (
      arith,
      s.long,
      length-append (take (n * k) v) (le k x ++ drop (n * k + k) v),
      length-append (le k x) (drop (n * k + k) v),
      length-take-le (n * k) v (omega (arith, s.long)),
      length-le k x,
      length-drop (n * k + k) v,
    );
    bytes = bytes-append (take (n * k) v) (le k x ++ drop (n * k + k) v) (bytes_take (n * k) v s.bytes)
        (bytes-append (le k x) (drop (n * k + k) v) (bytes_le k x) (bytes_drop (n * k + k) v s.bytes));
  }

  pub part-sixteen : Sixteen (put_mid (k * n) (k * n + k - k * n) v ys)
  part-sixteen = subst Sixteen (sym part-put) put-sixteen

-- the first n lanes of v are g 0 to g (n - 1)
pub record Built (k n : ℕ) (g : ℕ → ℕ) (v : List ℕ) : Type 0 where
  pub sixteen : Sixteen v
  pub lanes : take (n * k) v ≡ build k n g

pub built-none : (k : ℕ) (g : ℕ → ℕ) (v : List ℕ) → Sixteen v → Built k 0 g v
unfolding build
built-none k g v s = record { sixteen = s; lanes = ap (λ (m : ℕ). take m v) (zero-mul k) }

pub built-more : (k n : ℕ) (g : ℕ → ℕ) (v v' : List ℕ) (x : ℕ) → n * k + k ≤ 16 → Built k n g v → x ≡ g n → Sixteen v' → v' ≡ put k v n x → Built k (n + 1) g v'
unfolding build put
built-more k n g v v' x h b e s p = record { sixteen = s; lanes = step }
  where
    step : take ((n + 1) * k) v' ≡ build k (n + 1) g
    step =
        ap₂ (λ (m : ℕ) (l : List ℕ). take m l) (add-mul n 1 k ∙ ap (λ (m : ℕ). n * k + m) (one-mul k)) p
        ∙ front (n * k) k (take (n * k) v) (le k x) (drop (n * k + k) v) (length-take-le (n * k) v (omega (arith, b.sixteen.long))) (length-le k x)
        ∙ ap₂ (λ (a : List ℕ) (y : ℕ). a ++ le k y) b.lanes e
        ∙ ap (λ (m : ℕ). build k m g) (sym (add-one n))

-- all m lanes
pub built-all : (k n m : ℕ) (g : ℕ → ℕ) (v : List ℕ) → n ≤ m → m ≤ n → m * k ≡ 16 → Built k n g v → v ≡ build k m g
built-all k n m g v h l e b =
    sym (take_all (m * k) v (omega (arith, b.sixteen.long))) ∙ subst (λ (j : ℕ). take (j * k) v ≡ build k j g) (le_antisymm h l) b.lanes

-- ---- a vector of the lanes of one width

-- so many lanes of width w are sixteen bytes
sixteen-bytes : (w : Width) (m : ℕ) → m * bits w ≡ 128 → m * bytes w ≡ 16
sixteen-bytes w8 m e = omega arith
sixteen-bytes w16 m e = omega arith
sixteen-bytes w32 m e = omega arith
sixteen-bytes w64 m e = omega arith
sixteen-bytes w128 m e = omega arith

pub as-many : (w : Width) (m : ℕ) → m * bits w ≡ 128 → m ≡ lanes w
as-many w8 m e = omega arith
as-many w16 m e = omega arith
as-many w32 m e = omega arith
as-many w64 m e = omega arith
as-many w128 m e = omega arith

-- the first n lanes of v are g 0 to g (n - 1)
abbrev pub Begun : Width → ℕ → (ℕ → ℕ) → List ℕ → Type 0
Begun w n g v = Built (bytes w) n g v

pub begun-none : (w : Width) (g : ℕ → ℕ) → Begun w 0 g (replicate 16 0)
begun-none w g = built-none (bytes w) g (replicate 16 0) sixteen-zeros

-- lane n of m is within them
pub room : (w : Width) (m n : ℕ) → m * bits w ≡ 128 → n < m → n * bytes w + bytes w ≤ 16
room w m n e h = within (bytes w) (sixteen-bytes w m e)
  where
    within : (k : ℕ) → m * k ≡ 16 → n * k + k ≤ 16
    within k f = let l : n + 1 ≤ m = omega arith in omega (arith, mul-le-mul_right k l, add-mul n 1 k, one-mul k)

pub begun-more : (w : Width) (m n : ℕ) (g : ℕ → ℕ) (v v' : List ℕ) (x : ℕ) → m * bits w ≡ 128 → n < m → Begun w n g v → Wrote w v n x v' → x ≡ g n → Begun w (n + 1) g v'
begun-more w m n g v v' x e h b p f = built-more (bytes w) n g v v' x (room w m n e h) b f p.sixteen p.same

pub begun-all : (w : Width) (m n : ℕ) (g : ℕ → ℕ) (v : List ℕ) → m * bits w ≡ 128 → n ≡ m → Begun w n g v → v ≡ vec w g
begun-all w m n g v e h b =
    built-all (bytes w) n (lanes w) g v (omega (arith, as-many w m e)) (omega (arith, as-many w m e)) (ap (λ (j : ℕ). j * bytes w) (sym (as-many w m e)) ∙ sixteen-bytes w m e) b
