-- A memory immediate, with a lane index after it or without.
use Prim.Native.Nat.{ℕ}
use mathlib.Core.Bool.{Bool, true, false}
use mathlib.Core.List.{List}
use mathlib.Core.Path.{◌≡◌}
use Rattle.instr.specs.Layout.{Head, zeros, instr, refusal}
use Rattle.instr.specs.Decode.{done, got, no, number_item, exponent_at, immediates_at}
use Rattle.instr.specs.Inner.Steps.{memory_class, lane_ends}

module _ (m n : ℕ) (s : List ℕ) (at p : ℕ) (h : Head) where
  pub no-exponent : (laned : Bool) (c e : ℕ) → exponent_at m s p ≡ no c e → immediates_at (memory_class laned) m n s at p h ≡ refusal c e
  unfolding immediates_at
  no-exponent false c e f = rw f
  no-exponent true c e f = rw f

  module _ (a q : ℕ) (f : exponent_at m s p ≡ got a q) where
    pub no-offset : (laned : Bool) (c e : ℕ) → number_item false 32 s q ≡ no c e → immediates_at (memory_class laned) m n s at p h ≡ refusal c e
    unfolding immediates_at
    no-offset false c e g = rw (f, g)
    no-offset true c e g = rw (f, g)

    module _ (o r : ℕ) (g : number_item false 32 s q ≡ got o r) where
      pub no-lane : (laned : Bool) → laned ≡ false → immediates_at (memory_class laned) m n s at p h ≡ done at r (instr h 0 0 0 a o 0 zeros)
      unfolding immediates_at
      no-lane laned e = rw (e, f, g)

      pub a-lane : (laned : Bool) → laned ≡ true → immediates_at (memory_class laned) m n s at p h ≡ lane_ends n s r at (instr h 0 0 0 a o 0 zeros)
      unfolding immediates_at lane_ends
      a-lane laned e = rw (e, f, g)
