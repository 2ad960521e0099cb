-- An image written part by part. `sets out w bs`, of the library, is `out` with the bytes `bs` from place w on.
use Prim.Native.Nat.{ℕ, ◌+◌, ◌-◌, ◌≤◌, ◌<◌}
use mathlib.Core.Path.{◌≡◌, ap, sym, ◌∙◌}
use mathlib.Core.List.{List, ◌++◌, append_assoc}
use native.Mathlib.Nat.{zero-add}
use native.Mathlib.Omega.{arith}
use lib.ListN.{length, take, drop, replicate, length-append, length-drop, length-replicate}
use lib.Seq.{sets, sets-eq, length-sets, length-take-le, drop-drop}
use borrow.Rule.Slice.PartMut.{put_mid}
use borrow.Author.Tests.{lt-ltb, le-ltb}
use Rattle.buffer.proofs.Writing.{sets-append, copied}
use Rattle.limits.specs.Limits.{local_bytes, stack_bytes}
use Rattle.image.specs.Image.{front_bytes, image_bytes, front_of, filled, laid, painted}
use Rattle.image.proofs.Parts.{length-filled}
use Rattle.image.proofs.Laying.{laid-long}

-- ---- one part: bytes, and zeros up to the end of their room

pub fill-all : (out bs : List ℕ) (at room to : ℕ) {out₁ zeros : List ℕ} → at + room ≤ length out → length bs ≤ room → out₁ ≡ sets out at bs → to ≡ at + length bs
    → zeros ≡ replicate (length (take (at + room - to) (drop to out₁))) 0 → put_mid to (at + room - to) out₁ zeros ≡ sets out at (filled room bs)
fill-all out bs at room to {out₁} {zeros} inside fit e₁ e z =
    ap (λ (x : List ℕ). take to out₁ ++ (zeros ++ x)) (drop-drop k to out₁)
    ∙ ap (λ (x : List ℕ). take to out₁ ++ (x ++ drop (to + k) out₁)) (z ∙ ap (λ (n : ℕ). replicate n 0) mid)
    ∙ ap (λ (n : ℕ). take to out₁ ++ (zs ++ drop (to + n) out₁)) (sym left)
    ∙ sym (append_assoc (take to out₁) zs (drop (to + length zs) out₁))
    ∙ sym (sets-eq zs out₁ to (omega (arith, left, long)))
    ∙ ap (λ (x : List ℕ). sets x to zs) e₁ ∙ ap (λ (n : ℕ). sets (sets out at bs) n zs) e
    ∙ sets-append bs out zs at
    ∙ ap (λ (n : ℕ). sets out at (bs ++ replicate n 0)) rest
  where
    k : ℕ
    k = at + room - to

    long : length out₁ ≡ length out
    long = ap length e₁ ∙ length-sets out at bs

    zs : List ℕ
    zs = replicate k 0

    left : length zs ≡ k
    left = length-replicate {A = ℕ} k 0

    mid : length (take k (drop to out₁)) ≡ k
    mid = length-take-le k (drop to out₁) (omega (arith, long, length-drop to out₁))

    rest : k ≡ room - length bs
    rest = omega arith

-- ---- the whole

module _ (place depth : ℕ) (locals stack buffer : List ℕ) where
  pub painted-none : length buffer < image_bytes → painted place depth locals stack buffer ≡ buffer
  unfolding painted
  painted-none h = rw (lt-ltb (length buffer) image_bytes h)

  module _ (long : image_bytes ≤ length buffer) where
    pub painted-many : local_bytes < length locals → painted place depth locals stack buffer ≡ buffer
    unfolding painted
    painted-many h = rw (le-ltb (length buffer) image_bytes long, lt-ltb local_bytes (length locals) h)

    module _ (few : length locals ≤ local_bytes) where
      pub painted-high : stack_bytes < length stack → painted place depth locals stack buffer ≡ buffer
      unfolding painted
      painted-high h = rw (le-ltb (length buffer) image_bytes long, le-ltb local_bytes (length locals) few, lt-ltb stack_bytes (length stack) h)

      module _ (deep : length stack ≤ stack_bytes) where
        pub painted-laid : painted place depth locals stack buffer ≡ laid place depth locals stack ++ drop image_bytes buffer
        unfolding painted
        painted-laid = rw (le-ltb (length buffer) image_bytes long, le-ltb local_bytes (length locals) few, le-ltb stack_bytes (length stack) deep)

        -- front, locals and stack, one after the other
        pub painted-parts : {b₁ b₂ b₃ : List ℕ} (f : List ℕ) → f ≡ front_of place depth → b₁ ≡ take (length f) f ++ drop (length f) buffer
            → b₂ ≡ sets b₁ front_bytes (filled local_bytes locals) → b₃ ≡ sets b₂ (front_bytes + local_bytes) (filled stack_bytes stack)
            → b₃ ≡ painted place depth locals stack buffer
        painted-parts {b₁} {b₂} {b₃} f ef e₁ e₂ e₃ =
            e₃ ∙ ap (λ (x : List ℕ). sets x (front_bytes + local_bytes) S) (e₂ ∙ ap (λ (x : List ℕ). sets x front_bytes L) first ∙ sets-append F buffer L 0)
            ∙ ap (λ (n : ℕ). sets (sets buffer 0 (F ++ L)) n S) (sym so_far) ∙ sets-append (F ++ L) buffer S 0
            ∙ sets-eq (laid place depth locals stack) buffer 0 (omega (arith, all)) ∙ ap (λ (n : ℕ). laid place depth locals stack ++ drop n buffer) (zero-add _ ∙ all)
            ∙ sym painted-laid
          where
            F : List ℕ
            F = front_of place depth

            L : List ℕ
            L = filled local_bytes locals

            S : List ℕ
            S = filled stack_bytes stack

            all : length (laid place depth locals stack) ≡ image_bytes
            all = laid-long place depth locals stack few deep

            so_far : 0 + length (F ++ L) ≡ front_bytes + local_bytes
            so_far = omega (arith, length-append F L, length-filled local_bytes locals few)

            first : b₁ ≡ sets buffer 0 F
            first =
                e₁ ∙ copied f buffer ∙ ap (λ (x : List ℕ). x ++ drop (length x) buffer) ef
                ∙ sym (sets-eq F buffer 0 (omega arith))
