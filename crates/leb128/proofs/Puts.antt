-- Writing a number and counting its bytes: the promise, case by case.
use Prim.Native.Nat.{ℕ, ◌+◌, ◌-◌, ◌<◌, ◌≤◌, ◌^◌}
use mathlib.Core.Path.{◌≡◌, sym, ap, ◌∙◌}
use mathlib.Core.Bool.{Bool}
use mathlib.Core.List.{List, ◌++◌, append_assoc}
use native.Mathlib.Omega.{arith}
use lib.ListN.{length, take, drop}
use lib.Seq.{sets, sets-eq, drop_at, length-take-le}
use borrow.Author.Tests.{le-leb, lt-leb}
use Rattle.std.specs.Prelude.{Option, Some, None}
use Rattle.leb128.specs.Answer.{told_wrote}
use Rattle.leb128.specs.Number.{number_of, number_at}
use Rattle.leb128.specs.Shortest.{bytes_of, wrote_at, put_at}
use Rattle.leb128.specs.Promise.{Writes, done, small, WritesNumber, CountsBytes}
use Rattle.leb128.proofs.Arith.{either}
use Rattle.leb128.proofs.Forms.{bytes-shortest, reads-back}

-- with room for bs at the place, and without
module _ (bs : List ℕ) (at : ℕ) (out : List ℕ) where
  module _ (l : at + length bs ≤ length out) where
    pub wrote-to : wrote_at bs at out ≡ Some (at + length bs)
    unfolding wrote_at
    wrote-to = rw (le-leb (at + length bs) (length out) l)

    pub put_in : put_at bs at out ≡ sets out at bs
    unfolding put_at
    put_in = rw (le-leb (at + length bs) (length out) l)

  module _ (l : length out < at + length bs) where
    pub wrote-small : wrote_at bs at out ≡ None
    unfolding wrote_at
    wrote-small = rw (lt-leb (at + length bs) (length out) l)

    pub put-none : put_at bs at out ≡ out
    unfolding put_at
    put-none = rw (lt-leb (at + length bs) (length out) l)

  pub accepted : at + length bs ≤ length out → (p : ℕ) → p ≡ at + length bs → (out' : List ℕ) → out' ≡ sets out at bs
      → (Some p ≡ wrote_at bs at out) × (out' ≡ put_at bs at out)
  accepted l p e out' f = (ap Some e ∙ sym (wrote-to l), f ∙ sym (put_in l))

  pub refused : length out < at + length bs → (None ≡ wrote_at bs at out) × (out ≡ put_at bs at out)
  refused l = (sym (wrote-small l), sym (put-none l))

module _ (sign : Bool) (N v : ℕ) (h : 0 < N) (l : v < 2 ^ N) where
  -- THE PROMISE, of the functions that the contracts cite
  writes-of : (at : ℕ) (out : List ℕ) → Writes sign N v at out (told_wrote at (wrote_at (bytes_of sign N v) at out)) (put_at (bytes_of sign N v) at out)
  writes-of at out =
      let bs = bytes_of sign N v in
      let f = bytes-shortest sign N v h l in
      either (at + length bs) (length out)
      (λ t.
      let n : at + length bs - at ≡ length bs = omega arith in
      rw (wrote-to bs at out t, put_in bs at out t, sets-eq bs out at t, n) (done f t))
      (λ t. rw (wrote-small bs at out t, put-none bs at out t) (small f t))

  pub writes-number : (at : ℕ) (out : List ℕ) (r : Option ℕ) (out' : List ℕ) → r ≡ wrote_at (bytes_of sign N v) at out → out' ≡ put_at (bytes_of sign N v) at out
      → WritesNumber sign N v at out r out'
  writes-number at out r out' e f = record { answer = e; bytes = f; writes = rw (e, f) (writes-of at out) }

  pub counts-bytes : (n : ℕ) → n ≡ length (bytes_of sign N v) → CountsBytes sign N v n
  counts-bytes n e = record { answer = e; shortest = (bytes_of sign N v, bytes-shortest sign N v h l, sym e) }

-- what a caller that has room knows
module _ {sign : Bool} {N v at : ℕ} {out : List ℕ} {r : Option ℕ} {out' : List ℕ} (w : WritesNumber sign N v at out r out')
    (l : at + length (bytes_of sign N v) ≤ length out) where
  pub goes_in : r ≡ Some (at + length (bytes_of sign N v))
  goes_in = w.answer ∙ wrote-to (bytes_of sign N v) at out l

  pub goes_to : (p : ℕ) → r ≡ Some p → p ≡ at + length (bytes_of sign N v)
  goes_to p e = let g = goes_in in cc

  pub goes-bytes : out' ≡ sets out at (bytes_of sign N v)
  goes-bytes = w.bytes ∙ put_in (bytes_of sign N v) at out l

  -- what was written is read back
  pub reads-written : 0 < N → v < 2 ^ N → number_at sign N out' at ≡ number_of v (length (bytes_of sign N v))
  reads-written h k =
      let bs = bytes_of sign N v in
      let tail = drop (at + length bs) out in
      let a : at ≤ length out = omega arith in
      reads-back sign N v h k out' at tail
      (ap (drop at) (goes-bytes ∙ sets-eq bs out at l ∙ append_assoc (take at out) bs tail) ∙ drop_at (take at out) (bs ++ tail) at (length-take-le at out a))
