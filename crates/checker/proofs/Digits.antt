-- Kinds as the bytes of one number.
use Prim.Native.Nat.{ℕ, suc, ◌+◌, ◌*◌, ◌/◌, ◌%◌, ◌^◌, ◌≤◌, ◌<◌}
use mathlib.Core.Path.{◌≡◌, refl, sym, ap, ◌∙◌}
use mathlib.Core.List.{List, [], ◌∷◌, map, reverse, reverse_aux, reverse-reverse}
use native.Mathlib.Omega.{arith}
use lib.ListN.{length, get_or, drop, length-reverse, length-reverse_aux}
use Rattle.limits.specs.Limits.{result_limit}
use Rattle.operation.specs.Vector.{number}
use Rattle.opcode.specs.Kind.{Kind, kind_byte}
use Rattle.opcode.proofs.Effects.{kind-range}
use Rattle.checker.specs.Walk.{KindBytes}
use Rattle.checker.specs.Inner.Blocks.{top_first}
use Rattle.checker.proofs.Held.{held-from}
use lib.Dec.{lit<}

pub three : (ks : List Kind) → length ks ≤ 3 → number (map kind_byte ks) < 2 ^ 24
three [] h = lit< tt
three (a ∷ []) h = omega (arith, kind-range a)
three (a ∷ b ∷ []) h = omega (arith, kind-range a, kind-range b)
three (a ∷ b ∷ c ∷ []) h = omega (arith, kind-range a, kind-range b, kind-range c)
three (a ∷ b ∷ c ∷ d ∷ ks) h = absurd (let z : ⊥ = omega arith in z)

abbrev pub digits : List Kind → ℕ
digits ks = number (map kind_byte ks)

-- one more
pushed : (k : Kind) (acc : List Kind) (all left : ℕ) → length acc ≤ 3 → digits acc ≡ all → left % 256 ≡ kind_byte k → digits (k ∷ acc) ≡ all % 2 ^ 24 * 256 + left % 256
pushed k acc all left l e b = omega (arith, three acc l, e, b)

-- ---- the last one lowest, from the strip's bytes

-- those from the k-th on are still to come
pub record Rest (s : List ℕ) (from n : ℕ) (ks : List Kind) (k all : ℕ) : Type 0 where
  pub ahead : List Kind
  pub acc : List Kind
  pub parts : reverse_aux ahead acc ≡ reverse ks
  pub sofar : digits acc ≡ all
  pub many : length acc ≡ k
  pub bytes : (j : ℕ) → j < length ahead → get_or s (from + (k + j)) 0 ≡ get_or (map kind_byte ahead) j 0

pub record Reading (s : List ℕ) (from n : ℕ) (k all : ℕ) : Type 0 where
  pub most : k ≤ n
  pub small : all < 2 ^ 32
  pub so_far : (ks : List Kind) → KindBytes (drop from s) n ks → Rest s from n ks k all

module _ (s : List ℕ) (from n : ℕ) where
  pub reads_none : Reading s from n 0 0
  reads_none =
      record {
        most = omega arith;
        small = omega arith;
        so_far =
            λ ks h. record {
              ahead = ks;
              acc = [];
              parts = refl;
              sofar = refl;
              many = refl;
              bytes = λ j l. ap (λ (y : ℕ). get_or s (from + y) 0)
                  (let e : 0 + j ≡ j = omega arith in e) ∙ held-from s from h j (omega (arith, h.many));
            };
      }

  module _ {k all : ℕ} (w : Reading s from n k all) where
    long : (ks : List Kind) (h : KindBytes (drop from s) n ks) → length (w.so_far ks h).ahead + k ≡ n
    long ks h =
        let r = w.so_far ks h in
        omega (arith, r.many, h.many, ap length r.parts, length-reverse_aux r.ahead r.acc, length-reverse ks)

    next : {ks : List Kind} (ahead acc : List Kind) → reverse_aux ahead acc ≡ reverse ks → digits acc ≡ all → length acc ≡ k
        → ((j : ℕ) → j < length ahead → get_or s (from + (k + j)) 0 ≡ get_or (map kind_byte ahead) j 0) → 0 < length ahead → k ≤ 3
        → Rest s from n ks (k + 1) (all % 2 ^ 24 * 256 + get_or s (from + k) 0)
    next [] acc p d m b l few = absurd (let z : ⊥ = omega arith in z)
    next (x ∷ ahead) acc p d m b l few =
        let here : get_or s (from + k) 0 ≡ kind_byte x = ap (λ (y : ℕ). get_or s (from + y) 0) (let e : k ≡ k + 0 = omega arith in e) ∙ b 0 (omega arith) in
        record {
          ahead = ahead;
          acc = x ∷ acc;
          parts = p;
          sofar = omega (arith, three acc (omega arith), d, here);
          many = omega (arith, m);
          bytes = λ j lj. ap (λ (y : ℕ). get_or s (from + y) 0) (let e : (k + 1) + j ≡ k + suc j = omega arith in e) ∙ b (suc j) (omega arith);
        }

    pub reads_more : n ≤ result_limit → k < n → get_or s (from + k) 0 < 256 → Reading s from n (k + 1) (all % 2 ^ 24 * 256 + get_or s (from + k) 0)
    reads_more few l byte =
        record {
          most = omega arith;
          small = omega arith;
          so_far = λ ks h. let r = w.so_far ks h in next r.ahead r.acc r.parts r.sofar r.many r.bytes (omega (arith, long ks h, l)) (omega arith);
        }

    last : (ks ahead acc : List Kind) → reverse_aux ahead acc ≡ reverse ks → digits acc ≡ all → length ahead ≡ 0 → top_first ks ≡ all
    last ks [] acc p d l = ap digits (sym p) ∙ d
    last ks (x ∷ ahead) acc p d l = absurd (let z : ⊥ = omega arith in z)

    pub reads_all : n ≤ k → (ks : List Kind) → KindBytes (drop from s) n ks → top_first ks ≡ all
    reads_all l ks h = let r = w.so_far ks h in last ks r.ahead r.acc r.parts r.sofar (omega (arith, long ks h, l))

-- ---- the first one lowest

pub record Turned (ks : List Kind) (left all : ℕ) : Type 0 where
  pub ahead : List Kind
  pub acc : List Kind
  pub parts : reverse_aux ahead acc ≡ ks
  pub ahead-is : digits ahead ≡ left
  pub acc-is : digits acc ≡ all

pub record Turning (kinds left all : ℕ) : Type 0 where
  pub small : all < 2 ^ 32
  pub so_far : (ks : List Kind) → length ks ≤ result_limit → top_first ks ≡ kinds → Turned ks left all

pub turns-none : (kinds : ℕ) → Turning kinds kinds 0
turns-none kinds =
    record { small = omega arith; so_far = λ ks l e. record { ahead = reverse ks; acc = []; parts = reverse-reverse ks; ahead-is = e; acc-is = refl } }

module _ {kinds left all : ℕ} (w : Turning kinds left all) where
  turn : {ks : List Kind} (ahead acc : List Kind) → reverse_aux ahead acc ≡ ks → digits ahead ≡ left → digits acc ≡ all → length ks ≤ result_limit → (left ≡ 0 → ⊥)
      → Turned ks (left / 256) (all % 2 ^ 24 * 256 + left % 256)
  turn [] acc p a d l z = absurd (z (sym a))
  turn (k ∷ ahead) acc p a d l z =
      let few : length acc ≤ 3 = omega (arith, ap length p, length-reverse_aux ahead (k ∷ acc)) in
      let byte : left % 256 ≡ kind_byte k = omega (arith, kind-range k, a) in
      record {
        ahead = ahead;
        acc = k ∷ acc;
        parts = p;
        ahead-is = omega (arith, kind-range k, a);
        acc-is = pushed k acc all left few d byte;
      }

  pub turns_more : (left ≡ 0 → ⊥) → Turning kinds (left / 256) (all % 2 ^ 24 * 256 + left % 256)
  turns_more z =
      record { small = omega arith; so_far = λ ks l e. let r = w.so_far ks l e in turn r.ahead r.acc r.parts r.ahead-is r.acc-is l z }

  done : {ks : List Kind} (ahead acc : List Kind) → reverse_aux ahead acc ≡ ks → digits ahead ≡ left → digits acc ≡ all → left ≡ 0 → digits ks ≡ all
  done [] acc p a d z = ap digits (sym p) ∙ d
  done (k ∷ ahead) acc p a d z = absurd (let no : ⊥ = omega (arith, kind-range k, a) in no)

  pub turns-all : left ≡ 0 → (ks : List Kind) → length ks ≤ result_limit → top_first ks ≡ kinds → digits ks ≡ all
  turns-all z ks l e = let r = w.so_far ks l e in done r.ahead r.acc r.parts r.ahead-is r.acc-is z
