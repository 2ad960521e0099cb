-- The reading loop: what has been read stands before what is still to be read.
use Prim.Native.Nat.{ℕ, suc, ◌+◌, ◌-◌, ◌*◌, ◌/◌, ◌<◌, ◌≤◌, ◌^◌}
use mathlib.Core.Path.{◌≡◌, refl, sym, ap, ap₂, ◌∙◌}
use mathlib.Core.Bool.{Bool, true, false, cond}
use mathlib.Core.List.{List}
use native.Mathlib.Nat.{add-mul, mul-add, mul_assoc, mul_comm, mul-le-mul_right, add_assoc}
use native.Mathlib.Numerals.{add-one}
use native.Mathlib.Omega.{arith}
use lib.Dec.{ltb, leb}
use lib.Pow.{pow_mono}
use lib.ListN.{length, get_or, drop, drop_of_length-le}
use lib.Seq.{drop-cons, get_or-drop}
use lib.IntN.{ℤ, pos, negsuc}
use lib.Signed.{mag}
use borrow.Author.Tests.{lt-ltb, le-ltb, le-leb, lt-leb, leb-true}
use Rattle.std.specs.Prelude.{Result, Ok, Err}
use Rattle.leb128.specs.Number.{number_of, Read, is, cut, wrong, last_of, before, int_of, bits_of, number_at}
use Rattle.leb128.specs.Bytes.{bytes}
use Rattle.leb128.specs.Inner.Room.{allowed_in, extended_to}
use Rattle.leb128.specs.declared.reading.Number.{Number}
use Rattle.leb128.specs.declared.reading.NoNumber.{NoNumber}
use Rattle.leb128.specs.declared.reading.NoNumber.TheVariants.{Short, Wrong}
use Rattle.leb128.proofs.Arith.{either, pow-half, pow-seven, up_pos, up_neg, down}
use Rattle.leb128.proofs.Grammars.{Ranged, ranged}
use Rattle.leb128.proofs.Reader.{Met, met}

-- k bytes that hold a, before what r finds at the scale sc
abbrev pub after : ℕ → ℕ → ℕ → Result Number NoNumber → Result Number NoNumber
after a sc k (Ok m) = number_of (a + m.value * sc) (k + m.len)
after a sc k (Err Short) = Err Short
after a sc k (Err Wrong) = Err Wrong

after_none : (at : ℕ) (r : Result Number NoNumber) → r ≡ after 0 1 (at - at) r
after_none at (Ok m) = ap₂ number_of (omega arith) (omega arith)
after_none at (Err Short) = refl
after_none at (Err Wrong) = refl

after-after : (a sc k d : ℕ) (r : Result Number NoNumber) → after a sc k (after d 128 1 r) ≡ after (a + d * sc) (sc * 128) (k + 1) r
after-after a sc k d (Ok m) = ap₂ number_of (simp (add-mul, add_assoc, mul_assoc, mul_comm 128 sc)) (omega arith)
after-after a sc k d (Err Short) = refl
after-after a sc k d (Err Wrong) = refl

-- a byte before what is found behind it, in bits
within : (sign : Bool) (N : ℕ) (z : ℤ) → Ranged sign N z → mag z < 2 ^ N
within false N (pos n) r = r
within false N (negsuc n) r = absurd r
within true N z r =
    let l : N - 1 ≤ N = omega arith in
    omega (arith, pow_mono l)

before-bits : (sign : Bool) (N b : ℕ) (bs : List ℕ) → 7 < N → 128 ≤ b → b < 256 → (r : Read) → Met sign (N - 7) bs r
    → bits_of N (before b r) ≡ after (b - 128) 128 1 (bits_of (N - 7) r)
unfolding before
before-bits sign N b bs h l u (is (pos v) k) m = rw (up_pos b v l) (ap₂ number_of (omega arith) (omega arith))
before-bits sign N b bs h l u (is (negsuc v) k) m =
    let p = pow-seven N h in
    let w = within sign (N - 7) (negsuc v) (ranged m.4) in
    rw (up_neg b l u v) (ap₂ number_of (omega arith) (omega arith))
before-bits sign N b bs h l u cut m = refl
before-bits sign N b bs h l u wrong m = refl

-- what stands at i, where N bits are open
abbrev pub rest : Bool → ℕ → List ℕ → ℕ → Result Number NoNumber
rest sign N s i = bits_of N (int_of sign N (drop i s))

module _ (sign : Bool) (N : ℕ) (s : List ℕ) (i : ℕ) where
  rest_end : length s ≤ i → rest sign N s i ≡ Err Short
  unfolding int_of
  rest_end h = rw (drop_of_length-le s h)

  module _ (h : i < length s) where
    rest-last : get_or s i 0 < 128 → rest sign N s i ≡ bits_of N (last_of sign N (get_or s i 0))
    unfolding int_of
    rest-last l = simp (drop-cons s i 0 h, lt-ltb (get_or s i 0) 128 l)

    rest-wrong : 128 ≤ get_or s i 0 → N ≤ 7 → rest sign N s i ≡ Err Wrong
    unfolding int_of
    rest-wrong l m = simp (drop-cons s i 0 h, le-ltb (get_or s i 0) 128 l, le-ltb 7 N m)

    rest_more : bytes s → 128 ≤ get_or s i 0 → 7 < N → rest sign N s i ≡ after (get_or s i 0 - 128) 128 1 (rest sign (N - 7) s (i + 1))
    unfolding int_of
    rest_more b l m =
        simp (drop-cons s i 0 h, le-ltb (get_or s i 0) 128 l, lt-ltb 7 N m, add-one)
        (before-bits sign N (get_or s i 0) (drop (suc i) s) m l (b i) (int_of sign (N - 7) (drop (suc i) s))
        (met sign (N - 7) (drop (suc i) s) (λ j. rw get_or-drop (b (suc i + j)))))

-- a last byte: the tests on room, which is 2^N - 1, are the grammar's on N
module _ (b room N : ℕ) (h : 0 < N) (e : room + 1 ≡ 2 ^ N) (l : b < 128) where
  last-bits : (sign : Bool) → bits_of N (last_of sign N b) ≡ cond (allowed_in sign room b) (number_of (extended_to sign room b) 1) (Err Wrong)
  unfolding last_of
  last-bits false =
      either b room (λ t. rw (lt-ltb b (2 ^ N) (omega arith), le-leb b room t)) (λ t. rw (le-ltb b (2 ^ N) (omega arith), lt-leb b room t))
  last-bits true =
      let p = pow-half N h in
      either 64 b
      (λ k.
      either (127 - b) (room / 2)
      (λ t.
      let v : 2 ^ N - suc (128 - suc b) ≡ room - (127 - b) = omega arith in
      rw (le-ltb b 64 k, le-leb 128 (b + 2 ^ (N - 1)) (omega arith), down b l, le-leb (127 - b) (room / 2) t) (ap (λ (x : ℕ). number_of x 1) v))
      (λ t. rw (le-ltb b 64 k, lt-leb 128 (b + 2 ^ (N - 1)) (omega arith), lt-leb (127 - b) (room / 2) t)))
      (λ k.
      either b (room / 2)
      (λ t. rw (lt-ltb b 64 k, lt-ltb b (2 ^ (N - 1)) (omega arith), le-leb b (room / 2) t))
      (λ t. rw (lt-ltb b 64 k, le-ltb b (2 ^ (N - 1)) (omega arith), lt-leb b (room / 2) t)))

extended-room : (sign : Bool) (b room : ℕ) → allowed_in sign room b ≡ true → extended_to sign room b ≤ room
extended-room false b room e = leb-true b room e
extended-room true b room e = by (ltb b 64) e
  where
    by : (t : Bool) → cond t (leb b (room / 2)) (leb (127 - b) (room / 2)) ≡ true → cond t b (room - (127 - b)) ≤ room
    by true f = omega (arith, leb-true b (room / 2) f)
    by false f = omega arith

-- the loop's invariant
pub record Reading (s : List ℕ) (at : ℕ) (sign : Bool) (N room scale value i : ℕ) : Type 0 where
  pub left : ℕ
  pub some : 0 < left
  pub opens : room + 1 ≡ 2 ^ left
  pub whole : scale * (room + 1) ≡ 2 ^ N
  pub less : value < scale
  pub ahead : at ≤ i
  pub means : number_at sign N s at ≡ after value scale (i - at) (rest sign left s i)

pub starts : (s : List ℕ) (at : ℕ) (sign : Bool) (N top : ℕ) → 0 < N → top + 1 ≡ 2 ^ N → Reading s at sign N top 1 0 at
unfolding number_at
starts s at sign N top h e =
    record {
      left = N;
      some = h;
      opens = e;
      whole = omega arith;
      less = omega arith;
      ahead = omega arith;
      means = after_none at (rest sign N s at);
    }

module _ {s : List ℕ} {at : ℕ} {sign : Bool} {N room scale value i : ℕ} (r : Reading s at sign N room scale value i) where
  few : room < 128 → r.left ≤ 7
  few h = either r.left 7 (λ t. t) (λ t. omega (arith, pow_mono t, r.opens))

  many : 128 ≤ room → 7 < r.left
  many h = either r.left 7 (λ t. omega (arith, pow_mono t, r.opens)) (λ t. t)

  -- nothing that the loop computes is beyond 2^N
  room_for : (v : ℕ) → v ≤ room → value + v * scale < 2 ^ N
  room_for v h = omega (arith, mul-add scale room 1, mul_comm scale room, mul-le-mul_right scale h, r.whole, r.less)

  turns_at : i < length s → bytes s → 128 ≤ get_or s i 0 → 128 ≤ room
      → Reading s at sign N (room / 128) (scale * 128) (value + (get_or s i 0 - 128) * scale) (i + 1)
  turns_at h b l m =
      let q = many m in
      let p = pow-seven r.left q in
      let e : 128 * (room / 128 + 1) ≡ room + 1 = omega (arith, r.opens) in
      let d : get_or s i 0 - 128 ≤ 127 = omega (arith, b i) in
      let next : Result Number NoNumber = rest sign (r.left - 7) s (i + 1) in
      record {
        left = r.left - 7;
        some = omega arith;
        opens = omega (arith, r.opens);
        whole = mul_assoc scale 128 (room / 128 + 1) ∙ ap (λ (x : ℕ). scale * x) e ∙ r.whole;
        less = omega (arith, mul-le-mul_right scale d, r.less);
        ahead = omega (arith, r.ahead);
        means =
            r.means ∙ ap (after value scale (i - at)) (rest_more sign r.left s i h b l q)
            ∙ after-after value scale (i - at) (get_or s i 0 - 128) next
            ∙ ap (λ (n : ℕ). after (value + (get_or s i 0 - 128) * scale) (scale * 128) n next) (omega (arith, r.ahead));
      }

  -- the ways out
  pub ends : length s ≤ i → Err Short ≡ number_at sign N s at
  ends h = sym (r.means ∙ ap (after value scale (i - at)) (rest_end sign r.left s i h))

  -- b is the byte at i
  module _ (h : i < length s) (b : ℕ) (w : b ≡ get_or s i 0) where
    pub turns : bytes s → 128 ≤ b → 128 ≤ room → Reading s at sign N (room / 128) (scale * 128) (value + (b - 128) * scale) (i + 1)
    turns f l m = rw w (turns_at h f (rw w at l) m)

    pub fails : 128 ≤ b → room < 128 → Err Wrong ≡ number_at sign N s at
    fails l m = sym (r.means ∙ ap (after value scale (i - at)) (rest-wrong sign r.left s i h (rw w at l) (few m)))

    module _ (l : b < 128) where
      last : rest sign r.left s i ≡ cond (allowed_in sign room b) (number_of (extended_to sign room b) 1) (Err Wrong)
      last =
          rest-last sign r.left s i h (rw w at l)
          ∙ ap (λ (x : ℕ). bits_of r.left (last_of sign r.left x)) (sym w)
          ∙ last-bits b room r.left r.some r.opens l sign

      -- x is what the last byte adds
      module _ (t : allowed_in sign room b ≡ true) (x : ℕ) (e : x ≡ extended_to sign room b) where
        pub last_fits : value + x * scale < 2 ^ N
        last_fits = room_for x (omega (arith, extended-room sign b room t))

        pub stops : number_of (value + x * scale) (i + 1 - at) ≡ number_at sign N s at
        stops =
            let m : i + 1 - at ≡ i - at + 1 = omega (arith, r.ahead) in
            rw (e, m) (sym (r.means ∙ ap (after value scale (i - at)) (rw t at last)))

      pub refuses : allowed_in sign room b ≡ false → Err Wrong ≡ number_at sign N s at
      refuses t = sym (r.means ∙ ap (after value scale (i - at)) (rw t at last))
