-- Reading answers exactly what Core's grammar says of the place, and so one thing only.
use Prim.Native.Nat.{ℕ, ◌+◌, ◌-◌, ◌<◌, ◌^◌}
use mathlib.Core.Path.{◌≡◌, refl, sym, ap, subst, ◌∙◌}
use mathlib.Core.Bool.{Bool}
use mathlib.Core.List.{List}
use mathlib.Core.Logic.{◌↔◌}
use native.Mathlib.Omega.{arith}
use lib.ListN.{length, drop, length-drop, length-append}
use lib.Seq.{get_or-drop}
use lib.IntN.{ℤ}
use Rattle.std.specs.Prelude.{Result, Ok, Err}
use Rattle.leb128.specs.Grammar.{Stands, Cut, Nothing}
use Rattle.leb128.specs.Bits.{integer, bits}
use Rattle.leb128.specs.Answer.{Told, told_read}
use Rattle.leb128.specs.Number.{number_of, Read, is, cut, wrong, int_of, bits_of, number_at}
use Rattle.leb128.specs.Promise.{Reads, done, short, number, ReadsNumber}
use Rattle.leb128.specs.Found.{Found, Says}
use Rattle.leb128.specs.Bytes.{bytes}
use Rattle.leb128.specs.declared.reading.Number.{Number}
use Rattle.leb128.specs.declared.reading.NoNumber.{NoNumber}
use Rattle.leb128.specs.declared.reading.NoNumber.TheVariants.{Short, Wrong}
use Rattle.leb128.proofs.Grammars.{some_bytes, few_bytes, ranged}
use Rattle.leb128.proofs.Reader.{reads, begun, Met, met}
use Rattle.leb128.proofs.Widths.{integer-back, bits_back}

is-wrong : {z : ℤ} {n : ℕ} (r : Read) → r ≡ is z n → r ≡ wrong → ⊥
is-wrong r e f = let o : ◌≡◌ {A = ℕ} 0 1 = cc in omega arith

is_cut : {z : ℤ} {n : ℕ} (r : Read) → r ≡ is z n → r ≡ cut → ⊥
is_cut r e f = let o : ◌≡◌ {A = ℕ} 0 1 = cc in omega arith

cut-wrong : (r : Read) → r ≡ cut → r ≡ wrong → ⊥
cut-wrong r e f = let o : ◌≡◌ {A = ℕ} 0 1 = cc in omega arith

module _ (sign : Bool) (N : ℕ) (s : List ℕ) (at : ℕ) where
  stands-is : {z : ℤ} {n : ℕ} → Stands sign N s at z n → int_of sign N (drop at s) ≡ is z n
  stands-is {z} t = ap (int_of sign N) t.here ∙ reads t.writes t.rest ∙ ap (is z) t.long

  cut-is : Cut sign N s at → int_of sign N (drop at s) ≡ cut
  cut-is c = begun c.writes (drop at s) c.missing refl c.some

  -- one integer stands at a place at most, and where one stands none is cut
  pub stands_same : {z z' : ℤ} {n n' : ℕ} → Stands sign N s at z n → Stands sign N s at z' n' → (z ≡ z') × (n ≡ n')
  stands_same a b = let e = sym (stands-is a) ∙ stands-is b in (cc (e), cc (e))

  pub stands-cut : {z : ℤ} {n : ℕ} → Stands sign N s at z n → Cut sign N s at → ⊥
  stands-cut a c = is_cut _ (stands-is a) (cut-is c)

  -- a finding, in the words of the grammar
  abbrev Is : Read → Type 0
  Is (is z n) = Stands sign N s at z n
  Is cut = Cut sign N s at
  Is wrong = Nothing sign N s at

  is-of : (r : Read) → int_of sign N (drop at s) ≡ r → Met sign N (drop at s) r → Is r
  is-of (is z n) e m = record { bytes = m.0; rest = m.1; here = m.2; long = m.3; writes = m.4 }
  is-of cut e m = record { missing = m.0; some = m.2; integer = m.1; writes = m.3 }
  is-of wrong e m = record { none = λ z n t. is-wrong _ (stands-is t) e; whole = λ c. cut-wrong _ (cut-is c) e }

  nothing_is : (r : Read) → Is r → Nothing sign N s at → r ≡ wrong
  nothing_is (is z n) t o = absurd (o.none z n t)
  nothing_is cut c o = absurd (o.whole c)
  nothing_is wrong i o = refl

  reads_of : (r : Read) → Is r → Reads sign N s at (told_read s at (bits_of N r))
  reads_of (is z n) t = done t
  reads_of cut c = short c
  reads_of wrong o = number o

  module _ (h : 0 < N) where
    found_of : (v n : ℕ) → v < 2 ^ N → Stands sign N s at (integer sign N v) n → Found sign N s at v n
    found_of v n l t =
        let o = some_bytes t.writes in
        let f = few_bytes t.writes h in
        let e : length s - at ≡ length t.bytes + length t.rest = sym (length-drop at s) ∙ ap length t.here ∙ length-append t.bytes t.rest in
        let k = t.long in
        record { small = l; some = omega arith; few = omega arith; inside = omega arith; stands = t }

    says_of : (r : Read) → Is r → Says sign N s at (bits_of N r)
    says_of (is z n) t = let i = integer-back N h sign z (ranged t.writes) in found_of (bits N z) n i.1 (rw i.0 t)
    says_of cut c = c
    says_of wrong o = o

    pub stands-reads : (v n : ℕ) → v < 2 ^ N → Stands sign N s at (integer sign N v) n → number_at sign N s at ≡ number_of v n
    unfolding number_at
    stands-reads v n l t = ap (bits_of N) (stands-is t) ∙ ap (λ (x : ℕ). number_of x n) (bits_back N h sign v l).1

  module _ (b : bytes s) where
    here : Is (int_of sign N (drop at s))
    here = is-of (int_of sign N (drop at s)) refl (met sign N (drop at s) (λ j. rw get_or-drop (b (at + j))))

    -- THE PROMISE, of the function that the contracts cite
    pub meets : Reads sign N s at (told_read s at (number_at sign N s at))
    unfolding number_at
    meets = reads_of (int_of sign N (drop at s)) here

    pub reads-number : (r : Result Number NoNumber) → r ≡ number_at sign N s at → ReadsNumber sign N s at r
    reads-number r e = record { answer = e; reads = rw e meets }

    pub told-one : (t : Told) → Reads sign N s at t → t ≡ told_read s at (number_at sign N s at)
    unfolding number_at
    told-one t (done d) = rw (stands-is d)
    told-one t (short c) = rw (cut-is c)
    told-one t (number o) = rw (nothing_is (int_of sign N (drop at s)) here o)

    module _ (h : 0 < N) where
      pub says : Says sign N s at (number_at sign N s at)
      unfolding number_at
      says = says_of h (int_of sign N (drop at s)) here

      from-says : (r : Result Number NoNumber) → Says sign N s at r → number_at sign N s at ≡ r
      unfolding number_at
      from-says (Ok m) f = stands-reads h m.value m.len f.small f.stands
      from-says (Err Short) c = ap (bits_of N) (cut-is c)
      from-says (Err Wrong) o = ap (bits_of N) (nothing_is (int_of sign N (drop at s)) here o)

      -- EXACTLY: each answer, and when it is given
      pub exactly : (r : Result Number NoNumber) → (number_at sign N s at ≡ r) ↔ Says sign N s at r
      exactly r = ((λ e. subst (Says sign N s at) e says), from-says r)
