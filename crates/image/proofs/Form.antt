-- The form of values in slots: a value uses some of its sixteen bytes, and the rest are zero.
use Prim.Native.Nat.{ℕ, zero, suc, ◌+◌, ◌*◌, ◌-◌, ◌^◌, ◌≤◌, ◌<◌}
use mathlib.Core.Path.{◌≡◌, refl, ap, ap₂, sym, ◌∙◌, subst}
use mathlib.Core.Bool.{Bool, true, false}
use mathlib.Core.List.{List, [], ◌∷◌, ◌++◌, map}
use native.Mathlib.Nat.{le_antisymm, zero-lt-suc, div-eq_of_lt}
use native.Mathlib.Omega.{arith}
use lib.Dec.{ltb}
use borrow.Author.Tests.{ltb-true, ltb-false}
use lib.ListN.{length, get_or, take, drop, length-map, length-drop, take-append-drop, get_or-append}
use lib.Seq.{length-take-le, get_or-take, get_or-drop, get_or-append-add}
use Rattle.operation.specs.Vector.{number, le}
use Rattle.operation.proofs.Laws.Number.{Bytes, length-le, number_append, number_lt, le-number, le_split, bytes_take, bytes_drop}
use Rattle.limits.specs.Limits.{slot}
use Rattle.opcode.specs.Kind.{Kind, i32, i64, v128, bytes_used}
use Rattle.machine.specs.Value.{Value, I32, I64, V128, kind_of, InRange, AllInRange, bytes_of, all_bytes}
use Rattle.machine.proofs.Laws.Rep.{sixteen-bytes}
use Rattle.image.specs.Slots.{InSlots, Tells, yes, no}
use Rattle.image.specs.Inner.Parts.{Zeros}

-- ---- zeros, one after the other

module _ (bs : List ℕ) where
  pub zeros-none : (from : ℕ) → Zeros from from bs
  zeros-none from k l m = absurd (let z : ⊥ = omega arith in z)

  pub zeros-more : {from to : ℕ} → Zeros from to bs → get_or bs to 0 ≡ 0 → Zeros from (to + 1) bs
  zeros-more {from} {to} zs e k l m = at (ltb k to) refl
    where
      at : (t : Bool) → ltb k to ≡ t → get_or bs k 0 ≡ 0
      at true q = zs k l (ltb-true k to q)
      at false q = let same : k ≡ to = le_antisymm (omega arith) (ltb-false k to q) in ap (λ (j : ℕ). get_or bs j 0) same ∙ e

  pub zeros-upto : {from to past : ℕ} → Zeros from past bs → to ≤ past → Zeros from to bs
  zeros-upto zs h k l m = zs k l (omega arith)

  pub zeros-not : {from to : ℕ} (k : ℕ) → from ≤ k → k < to → (get_or bs k 0 ≡ 0 → ⊥) → Zeros from to bs → ⊥
  zeros-not k l m ne zs = ne (zs k l m)

-- those before k were looked at: all are zero, or one was seen that is not
pub data Looked (bs : List ℕ) (from to k : ℕ) : Bool → Type 0 where
  clear : from ≤ k → Zeros from k bs → Looked bs from to k true
  seen : (Zeros from to bs → ⊥) → Looked bs from to k false

module _ (bs : List ℕ) {from to k : ℕ} where
  pub looked-zero : {b : Bool} → Looked bs from to k b → get_or bs k 0 ≡ 0 → Looked bs from to (k + 1) b
  looked-zero (clear l zs) e = clear (omega arith) (zeros-more bs zs e)
  looked-zero (seen f) e = seen f

  pub looked-other : {b : Bool} → Looked bs from to k b → k < to → (get_or bs k 0 ≡ 0 → ⊥) → Looked bs from to (k + 1) false
  looked-other (clear l zs) m ne = seen (zeros-not bs k l m ne)
  looked-other (seen f) m ne = seen f

  pub looked-all : {b : Bool} → Looked bs from to k b → to ≤ k → Tells (Zeros from to bs) b
  looked-all (clear l zs) h = yes (zeros-upto bs zs h)
  looked-all (seen f) h = no f

-- what is told of a part of some bytes, told of them
pub zeros_within : (bs : List ℕ) (from to : ℕ) → from ≤ to → to ≤ length bs → {r : Bool}
    → Tells (Zeros 0 (length (take (to - from) (drop from bs))) (take (to - from) (drop from bs))) r → Tells (Zeros from to bs) r
zeros_within bs from to h inside t = by t
  where
    n : ℕ
    n = to - from

    long : length (take n (drop from bs)) ≡ n
    long = length-take-le n (drop from bs) (omega (arith, length-drop from bs))

    same : (i : ℕ) → i < n → get_or (take n (drop from bs)) i 0 ≡ get_or bs (from + i) 0
    same i l = get_or-take n (drop from bs) i 0 l ∙ get_or-drop from bs i 0

    by : {r : Bool} → Tells (Zeros 0 (length (take n (drop from bs))) (take n (drop from bs))) r → Tells (Zeros from to bs) r
    by (yes zs) =
        yes
        (λ k l m. let there : from + (k - from) ≡ k = omega arith in
        ap (λ (j : ℕ). get_or bs j 0) (sym there) ∙ sym (same (k - from) (omega arith)) ∙ zs (k - from) (omega arith) (omega (arith, long)))
    by (no f) = no (λ zs. f (λ i l m. let lt : i < n = omega (arith, long) in same i lt ∙ zs (from + i) (omega arith) (omega arith)))

-- ---- one value

number-zero : (bs : List ℕ) → Zeros 0 (length bs) bs → number bs ≡ 0
number-zero [] zs = refl
number-zero (b ∷ bs) zs = omega (arith, zs 0 (omega arith) (zero-lt-suc (length bs)), number-zero bs (λ k l m. zs (suc k) (omega arith) (omega arith)))

-- bytes that are zero from u on are a number of u bytes
small : (u : ℕ) (bs : List ℕ) → u ≤ length bs → Bytes bs → Zeros u (length bs) bs → number bs < 2 ^ (8 * u)
small u bs h b zs =
    let front = length-take-le u bs h in
    let none = number-zero (drop u bs) (λ k l m. get_or-drop u bs k 0 ∙ zs (u + k) (omega arith) (omega (arith, length-drop u bs))) in
    let low = number_lt (take u bs) (bytes_take u bs b) in
    let all =
    sym (ap number (take-append-drop u bs)) ∙ number_append (take u bs) (drop u bs) ∙ ap (λ (n : ℕ). n * 2 ^ (8 * length (take u bs)) + number (take u bs)) none in
    subst (λ (n : ℕ). number bs < 2 ^ (8 * n)) front (omega (arith, all, low))

-- the value of a kind whose sixteen bytes these are
abbrev value_of : Kind → List ℕ → Value
value_of i32 bs = I32 (number bs)
value_of i64 bs = I64 (number bs)
value_of v128 bs = V128 bs

pub record Fits (k : Kind) (bs : List ℕ) : Type 0 where
  pub range : InRange (value_of k bs)
  pub bytes : bytes_of (value_of k bs) ≡ bs

fits : (k : Kind) (bs : List ℕ) → length bs ≡ slot → Bytes bs → Zeros (bytes_used k) slot bs → Fits k bs
fits k bs long b zs = by k (subst (λ (n : ℕ). Zeros (bytes_used k) n bs) (sym long) zs)
  where
    whole : le slot (number bs) ≡ bs
    whole = ap (λ (n : ℕ). le n (number bs)) (sym long) ∙ le-number bs b

    by : (k : Kind) → Zeros (bytes_used k) (length bs) bs → Fits k bs
    by i32 zs = record { range = small 4 bs (omega arith) b zs; bytes = whole }
    by i64 zs = record { range = small 8 bs (omega arith) b zs; bytes = whole }
    by v128 zs = record { range = record { long = long; bytes = b }; bytes = refl }

zero-bytes : (j k : ℕ) → get_or (le j 0) k 0 ≡ 0
zero-bytes zero k = refl
zero-bytes (suc j) zero = refl
zero-bytes (suc j) (suc k) = zero-bytes j k

-- a number of u bytes is zero from u on
rest-zero : (u j x k : ℕ) → x < 2 ^ (8 * u) → u ≤ k → get_or (le (u + j) x) k 0 ≡ 0
rest-zero u j x k h l =
    let at : length (le u x) + (k - u) ≡ k = omega (arith, length-le u x) in
    ap (λ (bs : List ℕ). get_or bs k 0) (le_split u j x ∙ ap (λ (q : ℕ). le u x ++ le j q) (div-eq_of_lt h))
    ∙ ap (λ (n : ℕ). get_or (le u x ++ le j 0) n 0) (sym at) ∙ get_or-append-add (le u x) (le j 0) (k - u) 0 ∙ zero-bytes j (k - u)

value-zeros : (v : Value) → InRange v → Zeros (bytes_used (kind_of v)) slot (bytes_of v)
value-zeros (I32 n) h k l m = rest-zero 4 12 n k h l
value-zeros (I64 n) h k l m = rest-zero 8 8 n k h l
value-zeros (V128 v) h k l m = absurd (let z : ⊥ = omega arith in z)

-- ---- all of them

-- what the j-th does not use is zero
abbrev pub Formed : List Kind → List ℕ → ℕ → Type 0
Formed ks bs j = Zeros (slot * j + bytes_used (get_or ks j i32)) (slot * j + slot) bs

kind-of : (k : Kind) (bs : List ℕ) → kind_of (value_of k bs) ≡ k
kind-of i32 bs = refl
kind-of i64 bs = refl
kind-of v128 bs = refl

pub formed-given : (ks : List Kind) (bs : List ℕ) → length bs ≡ slot * length ks → Bytes bs → ((j : ℕ) → j < length ks → Formed ks bs j)
    → (vs : List Value) × InSlots ks bs vs
unfolding all_bytes
formed-given [] [] long b f = ([], record { kinds = refl; range = tt; bytes = refl })
formed-given [] (x ∷ bs) long b f = absurd (let z : ⊥ = omega arith in z)
formed-given (k ∷ ks) bs long b f =
    let first = fits k (take slot bs) (length-take-le slot bs (omega arith)) (bytes_take slot bs b)
    (λ i l m. get_or-take slot bs i 0 m ∙ f 0 (zero-lt-suc (length ks)) i (omega arith) (omega arith)) in
    let rest = formed-given ks (drop slot bs) (omega (arith, length-drop slot bs)) (bytes_drop slot bs b)
    (λ j h i l m. get_or-drop slot bs i 0 ∙ f (suc j) (omega arith) (slot + i) (omega arith) (omega arith)) in (
      value_of k (take slot bs) ∷ rest.0,
      record {
        kinds = ap₂ ◌∷◌ (kind-of k (take slot bs)) rest.1.kinds;
        range = (first.range, rest.1.range);
        bytes = sym (take-append-drop slot bs) ∙ ap₂ (λ (x y : List ℕ). x ++ y) (sym first.bytes) rest.1.bytes;
      },
    )

all-formed : (vs : List Value) → AllInRange vs → (j : ℕ) → j < length vs → Formed (map kind_of vs) (all_bytes vs) j
unfolding all_bytes
all-formed [] r j h k l m = absurd (let z : ⊥ = omega arith in z)
all-formed (v ∷ vs) r zero h k l m =
    get_or-append (bytes_of v) (all_bytes vs) 0 k (omega (arith, (sixteen-bytes v r.0).long)) ∙ value-zeros v r.0 k (omega arith) (omega arith)
all-formed (v ∷ vs) r (suc j) h k l m =
    let at : length (bytes_of v) + (k - slot) ≡ k = omega (arith, (sixteen-bytes v r.0).long) in
    ap (λ (n : ℕ). get_or (bytes_of v ++ all_bytes vs) n 0) (sym at) ∙ get_or-append-add (bytes_of v) (all_bytes vs) (k - slot) 0
    ∙ all-formed vs r.1 j (omega arith) (k - slot) (omega arith) (omega arith)

pub given-formed : {ks : List Kind} {bs : List ℕ} {vs : List Value} → InSlots ks bs vs → (j : ℕ) → j < length ks → Formed ks bs j
given-formed {ks} {bs} {vs} g j h =
    subst (λ (xs : List Kind). Formed xs bs j) g.kinds
    (subst (λ (xs : List ℕ). Formed (map kind_of vs) xs j) (sym g.bytes)
    (all-formed vs g.range j (omega (arith, sym (length-map vs kind_of) ∙ ap length g.kinds))))
