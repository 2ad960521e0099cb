-- What the public functions promise leaves one answer and one content of the buffer.
use Prim.Native.Nat.{ℕ, ◌+◌, ◌-◌, ◌<◌, ◌^◌}
use mathlib.Core.Path.{◌≡◌, refl, sym, ap, ap₂, ◌∙◌}
use mathlib.Core.Bool.{Bool}
use mathlib.Core.List.{List}
use native.Mathlib.Omega.{arith}
use lib.ListN.{length}
use lib.Seq.{sets-eq}
use Rattle.std.specs.Prelude.{Option, Some, None, Result, Ok, Err}
use Rattle.leb128.specs.Number.{number_of}
use Rattle.leb128.specs.Answer.{Told, told_read, told_wrote}
use Rattle.leb128.specs.Shortest.{bytes_of, wrote_at, put_at}
use Rattle.leb128.specs.Promise.{Reads, Writes, done, small, CountsBytes}
use Rattle.leb128.specs.Bytes.{bytes}
use Rattle.leb128.specs.declared.reading.Number.{Number}
use Rattle.leb128.specs.declared.reading.NoNumber.{NoNumber}
use Rattle.leb128.specs.declared.reading.NoNumber.TheVariants.{Short, Wrong}
use Rattle.leb128.proofs.Arith.{either}
use Rattle.leb128.proofs.Exact.{told-one}
use Rattle.leb128.proofs.Forms.{bytes-only, bytes-some}
use Rattle.leb128.proofs.Puts.{wrote-to, put_in, wrote-small, put-none}

-- different answers are told differently
same_read : (s : List ℕ) (at : ℕ) (r r' : Result Number NoNumber) → told_read s at r ≡ told_read s at r' → r ≡ r'
same_read s at (Ok m) (Ok n) e = ap₂ number_of (ap (λ (t : Told). t.value) e) (ap (λ (t : Told). t.bytes) e)
same_read s at (Ok m) (Err Short) e = absurd (omega (arith, ap (λ (t : Told). t.code) e))
same_read s at (Ok m) (Err Wrong) e = absurd (omega (arith, ap (λ (t : Told). t.code) e))
same_read s at (Err Short) (Ok m) e = absurd (omega (arith, ap (λ (t : Told). t.code) e))
same_read s at (Err Short) (Err Short) e = refl
same_read s at (Err Short) (Err Wrong) e = absurd (omega (arith, ap (λ (t : Told). t.code) e))
same_read s at (Err Wrong) (Ok m) e = absurd (omega (arith, ap (λ (t : Told). t.code) e))
same_read s at (Err Wrong) (Err Short) e = absurd (omega (arith, ap (λ (t : Told). t.code) e))
same_read s at (Err Wrong) (Err Wrong) e = refl

-- read_u32, read_s32, read_s64
pub one-reading : (sign : Bool) (N : ℕ) (s : List ℕ) (at : ℕ) → bytes s → (r r' : Result Number NoNumber) → Reads sign N s at (told_read s at r)
    → Reads sign N s at (told_read s at r') → r ≡ r'
one-reading sign N s at b r r' p q =
    same_read s at r r' (told-one sign N s at b (told_read s at r) p ∙ sym (told-one sign N s at b (told_read s at r') q))

is-to : (at n : ℕ) → 0 < n → (r : Option ℕ) → told_wrote at r ≡ told_wrote at (Some (at + n)) → r ≡ Some (at + n)
is-to at n o (Some p) e = ap Some (omega (arith, ap (λ (t : Told). t.bytes) e))
is-to at n o None e = absurd (omega (arith, ap (λ (t : Told). t.code) e))

is-small : (at : ℕ) (r : Option ℕ) → told_wrote at r ≡ told_wrote at None → r ≡ None
is-small at (Some p) e = absurd (omega (arith, ap (λ (t : Told). t.code) e))
is-small at None e = refl

same-wrote : (bs : List ℕ) (at : ℕ) (out : List ℕ) → 0 < length bs → (r : Option ℕ) → told_wrote at r ≡ told_wrote at (wrote_at bs at out) → r ≡ wrote_at bs at out
same-wrote bs at out o r e =
    either (at + length bs) (length out)
    (λ t. rw (wrote-to bs at out t) (is-to at (length bs) o r (rw (wrote-to bs at out t) at e)))
    (λ t. rw (wrote-small bs at out t) (is-small at r (rw (wrote-small bs at out t) at e)))

module _ (sign : Bool) (N v : ℕ) (h : 0 < N) (l : v < 2 ^ N) where
  wrote_one : (at : ℕ) (out : List ℕ) (t : Told) (out' : List ℕ) → Writes sign N v at out t out'
      → (t ≡ told_wrote at (wrote_at (bytes_of sign N v) at out)) × (out' ≡ put_at (bytes_of sign N v) at out)
  wrote_one at out t out' (done {bs = bs} f k) =
      let e = bytes-only sign N v h l bs f in
      let n : length bs ≡ at + length bs - at = omega arith in
      rw (← e, wrote-to bs at out k, put_in bs at out k, sets-eq bs out at k, ← n) ((refl, refl))
  wrote_one at out t out' (small {bs = bs} f k) =
      let e = bytes-only sign N v h l bs f in
      rw (← e, wrote-small bs at out k, put-none bs at out k) ((refl, refl))

  -- write_u32, write_s32, write_s64
  pub one-writing : (at : ℕ) (out : List ℕ) (r r' : Option ℕ) (out' out'' : List ℕ)
      → Writes sign N v at out (told_wrote at r) out' → Writes sign N v at out (told_wrote at r') out'' → (r ≡ r') × (out' ≡ out'')
  one-writing at out r r' out' out'' p q =
      let a = wrote_one at out (told_wrote at r) out' p in
      let b = wrote_one at out (told_wrote at r') out'' q in
      let same = same-wrote (bytes_of sign N v) at out (bytes-some sign N v h l) in
      (same r a.0 ∙ sym (same r' b.0), a.1 ∙ sym b.1)

  -- len_u32, len_s32, len_s64
  pub one-count : (n n' : ℕ) → CountsBytes sign N v n → CountsBytes sign N v n' → n ≡ n'
  one-count n n' a b =
      let x = a.shortest in
      let y = b.shortest in
      omega (arith, x.2, y.2, x.1.least y.0 y.1.writes, y.1.least x.0 x.1.writes)
