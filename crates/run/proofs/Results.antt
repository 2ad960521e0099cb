-- The bytes of values, one after the other.
use Prim.Native.Nat.{ℕ}
use mathlib.Core.Path.{◌≡◌, refl, ap, sym, ◌∙◌}
use mathlib.Core.List.{List, [], ◌∷◌, ◌++◌, append-nil, append_assoc}
use Rattle.machine.specs.Value.{Value, bytes_of, all_bytes}

pub all_append : (vs ws : List Value) → all_bytes (vs ++ ws) ≡ all_bytes vs ++ all_bytes ws
unfolding all_bytes
all_append [] ws = refl
all_append (v ∷ vs) ws = ap (λ (bs : List ℕ). bytes_of v ++ bs) (all_append vs ws) ∙ sym (append_assoc (bytes_of v) (all_bytes vs) (all_bytes ws))

pub all_one : (v : Value) → all_bytes (v ∷ []) ≡ bytes_of v
unfolding all_bytes
all_one v = append-nil (bytes_of v)
