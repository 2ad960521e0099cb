-- Bytes written one after the other.
use Prim.Native.Nat.{ℕ, ◌+◌}
use mathlib.Core.Bool.{Bool, true, false}
use mathlib.Core.Path.{◌≡◌, refl}
use mathlib.Core.List.{List, ◌++◌}
use lib.ListN.{length}
use lib.Seq.{length-sets}
use Rattle.buffer.proofs.Writing.{sets-append}
use Rattle.rewrite.specs.Inner.Pass.{put}

pub put-append : (t : Bool) (xs l ys : List ℕ) (i : ℕ) → put t (put t l i xs) (i + length xs) ys ≡ put t l i (xs ++ ys)
put-append true xs l ys i = sets-append xs l ys i
put-append false xs l ys i = refl

pub length-put : (t : Bool) (l : List ℕ) (i : ℕ) (xs : List ℕ) → length (put t l i xs) ≡ length l
length-put true l i xs = length-sets l i xs
length-put false l i xs = refl
