-- The values that bytes hold: how many bytes they are, and that they are one list.
use Prim.Native.Nat.{ℕ, ◌*◌}
use mathlib.Core.Path.{◌≡◌, refl, ap, ap₂, sym, ◌∙◌}
use mathlib.Core.List.{List, [], ◌∷◌, ◌++◌, map}
use native.Mathlib.Omega.{arith}
use lib.ListN.{length, take, drop, length-append, length-map}
use lib.Seq.{take_at, drop_at}
use Rattle.limits.specs.Limits.{slot}
use Rattle.opcode.specs.Kind.{Kind}
use Rattle.machine.specs.Value.{Value, I32, I64, V128, kind_of, InRange, AllInRange, bytes_of, all_bytes}
use Rattle.machine.specs.Inner.Flat.{low32, low64}
use Rattle.machine.proofs.Laws.Rep.{sixteen-bytes, low-i32, low-i64}
use Rattle.image.specs.Slots.{InSlots}

-- two ways to part one list, the first part as long in both
pub parts-once : (xs xs' ys ys' : List ℕ) → length xs ≡ length xs' → xs ++ ys ≡ xs' ++ ys' → (xs ≡ xs') × (ys ≡ ys')
parts-once xs xs' ys ys' l e = (
  sym (take_at xs ys (length xs') l) ∙ ap (take (length xs')) e ∙ take_at xs' ys' (length xs') refl,
  sym (drop_at xs ys (length xs') l) ∙ ap (drop (length xs')) e ∙ drop_at xs' ys' (length xs') refl,
)

-- ---- how many bytes

pub all-long : (vs : List Value) → AllInRange vs → length (all_bytes vs) ≡ slot * length vs
unfolding all_bytes
all-long [] r = refl
all-long (v ∷ vs) r = length-append (bytes_of v) (all_bytes vs) ∙ omega (arith, (sixteen-bytes v r.0).long, all-long vs r.1)

pub slots-long : {ks : List Kind} {bs : List ℕ} {vs : List Value} → InSlots ks bs vs → length bs ≡ slot * length ks
slots-long {vs = vs} g = ap length g.bytes ∙ all-long vs g.range ∙ ap (λ (n : ℕ). slot * n) (sym (length-map vs kind_of) ∙ ap length g.kinds)

-- ---- one list of values

value-once : (v w : Value) → kind_of v ≡ kind_of w → InRange v → InRange w → bytes_of v ≡ bytes_of w → v ≡ w
value-once (I32 a) (I32 b) k p q e = ap I32 (sym (low-i32 a p) ∙ ap low32 e ∙ low-i32 b q)
value-once (I32 a) (I64 b) k p q e = absurd (let z : ◌≡◌ {A = ℕ} 0 1 = cc in omega arith)
value-once (I32 a) (V128 b) k p q e = absurd (let z : ◌≡◌ {A = ℕ} 0 1 = cc in omega arith)
value-once (I64 a) (I32 b) k p q e = absurd (let z : ◌≡◌ {A = ℕ} 0 1 = cc in omega arith)
value-once (I64 a) (I64 b) k p q e = ap I64 (sym (low-i64 a p) ∙ ap low64 e ∙ low-i64 b q)
value-once (I64 a) (V128 b) k p q e = absurd (let z : ◌≡◌ {A = ℕ} 0 1 = cc in omega arith)
value-once (V128 a) (I32 b) k p q e = absurd (let z : ◌≡◌ {A = ℕ} 0 1 = cc in omega arith)
value-once (V128 a) (I64 b) k p q e = absurd (let z : ◌≡◌ {A = ℕ} 0 1 = cc in omega arith)
value-once (V128 a) (V128 b) k p q e = ap V128 e

pub values-once : (vs ws : List Value) → map kind_of vs ≡ map kind_of ws → AllInRange vs → AllInRange ws → all_bytes vs ≡ all_bytes ws → vs ≡ ws
unfolding all_bytes
values-once [] [] k p q e = refl
values-once [] (w ∷ ws) k p q e = absurd (let z : ◌≡◌ {A = ℕ} 0 1 = cc in omega arith)
values-once (v ∷ vs) [] k p q e = absurd (let z : ◌≡◌ {A = ℕ} 0 1 = cc in omega arith)
values-once (v ∷ vs) (w ∷ ws) k p q e =
    let first : kind_of v ≡ kind_of w = cc in
    let parts = parts-once (bytes_of v) (bytes_of w) (all_bytes vs) (all_bytes ws) ((sixteen-bytes v p.0).long ∙ sym (sixteen-bytes w q.0).long) e in
    ap₂ ◌∷◌ (value-once v w first p.0 q.0 parts.0) (values-once vs ws (cc) p.1 q.1 parts.1)

pub holds-once : {ks : List Kind} {bs : List ℕ} {vs ws : List Value} → InSlots ks bs vs → InSlots ks bs ws → vs ≡ ws
holds-once {vs = vs} {ws = ws} a b = values-once vs ws (a.kinds ∙ sym b.kinds) a.range b.range (sym a.bytes ∙ b.bytes)
