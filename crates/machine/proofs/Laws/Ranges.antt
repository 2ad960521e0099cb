-- Values and bytes stay in range.
use Prim.Native.Nat.{ℕ, zero, suc, ◌+◌, ◌-◌, ◌≤◌, ◌<◌}
use mathlib.Core.Path.{◌≡◌, ap, ◌∙◌}
use mathlib.Core.List.{List, [], ◌∷◌, ◌++◌}
use native.Mathlib.Omega.{arith}
use lib.ListN.{replicate, length, get_or, set, take, drop, length-append, length-replicate, length-drop}
use lib.Seq.{length-take-le}
use Rattle.operation.specs.Vector.{Sixteen}
use Rattle.operation.proofs.Laws.Number.{Bytes, bytes-zeros, bytes-append, bytes_take, bytes_drop}
use Rattle.machine.specs.Value.{Value, I32, InRange, AllInRange}
use Rattle.machine.specs.Memory.{part, padded, stored}

pub bytes-part : (n at : ℕ) (m : List ℕ) → Bytes m → Bytes (part n at m)
bytes-part n at m h = bytes_take n (drop at m) (bytes_drop at m h)

pub length_part : (n at : ℕ) (m : List ℕ) → at + n ≤ length m → length (part n at m) ≡ n
length_part n at m h = length-take-le n (drop at m) (simp length-drop (omega arith))

pub sixteen-padded : (bs : List ℕ) → length bs ≤ 16 → Bytes bs → Sixteen (padded bs)
sixteen-padded bs h b =
    record {
      long = length-append bs (replicate (16 - length bs) 0) ∙ ap (λ (n : ℕ). length bs + n) (length-replicate (16 - length bs) 0) ∙ omega arith;
      bytes = bytes-append bs (replicate (16 - length bs) 0) b (bytes-zeros (16 - length bs));
    }

pub bytes-stored : (m : List ℕ) (at : ℕ) (v : List ℕ) → Bytes m → Bytes v → Bytes (stored m at v)
unfolding stored
bytes-stored m at v h g = bytes-append (take at m ++ v) (drop (at + length v) m) (bytes-append (take at m) v (bytes_take at m h) g) (bytes_drop (at + length v) m h)

pub range_at : (vs : List Value) (k : ℕ) → AllInRange vs → k < length vs → InRange (get_or vs k (I32 0))
range_at [] k h l = absurd (omega arith)
range_at (v ∷ vs) zero h l = h.0
range_at (v ∷ vs) (suc k) h l = range_at vs k h.1 (omega arith)

pub range-set : (vs : List Value) (k : ℕ) (v : Value) → AllInRange vs → InRange v → AllInRange (set vs k v)
range-set [] k v h g = h
range-set (w ∷ vs) zero v h g = (g, h.1)
range-set (w ∷ vs) (suc k) v h g = (h.0, range-set vs k v h.1 g)
