-- An image by its parts: what a buffer that begins with one has at each, and that these make it begin with one.
use Prim.Native.Nat.{ℕ, ◌+◌, ◌≤◌}
use mathlib.Core.Path.{◌≡◌, refl, ap, ap₂, sym, ◌∙◌}
use mathlib.Core.List.{List, ◌++◌, append_assoc}
use native.Mathlib.Omega.{arith}
use lib.ListN.{length, take, drop, length-append, take-append-drop}
use lib.Seq.{drop-drop, take-add, take_at, drop_at}
use Rattle.limits.specs.Limits.{local_bytes, stack_bytes}
use Rattle.operation.specs.Vector.{le}
use Rattle.machine.specs.Memory.{part}
use Rattle.image.specs.Image.{front_bytes, image_bytes, front_of, filled, laid}
use Rattle.image.specs.Inner.Parts.{Fronts}
use Rattle.image.proofs.Parts.{length-filled}

pub record Parted (buffer : List ℕ) (place depth : ℕ) (locals stack : List ℕ) : Type 0 where
  pub long : image_bytes ≤ length buffer
  pub front : Fronts buffer depth
  pub placed : part 4 5 buffer ≡ le 4 place
  pub of_locals : part local_bytes front_bytes buffer ≡ filled local_bytes locals
  pub of-stack : part stack_bytes (front_bytes + local_bytes) buffer ≡ filled stack_bytes stack

module _ (place depth : ℕ) (locals stack : List ℕ) where
  front_long : length (front_of place depth) ≡ front_bytes
  front_long = refl

  -- the parts make the whole
  pub whole : (buffer : List ℕ) → Parted buffer place depth locals stack → buffer ≡ laid place depth locals stack ++ drop image_bytes buffer
  whole b p =
      sym (take-append-drop image_bytes b)
      ∙ ap (λ (x : List ℕ). x ++ drop image_bytes b)
      (take-add (front_bytes + local_bytes) stack_bytes b
      ∙ ap₂ (λ (x y : List ℕ). x ++ y) (take-add front_bytes local_bytes b ∙ ap₂ (λ (x y : List ℕ). x ++ y) front p.of_locals) p.of-stack)
    where
      front : take front_bytes b ≡ front_of place depth
      front =
          take-add (3 + 2 + 4) 2 b
          ∙ ap₂ (λ (x y : List ℕ). x ++ y)
          (take-add (3 + 2) 4 b
          ∙ ap₂ (λ (x y : List ℕ). x ++ y) (take-add 3 2 b ∙ ap₂ (λ (x y : List ℕ). x ++ y) p.front.mark p.front.version) p.placed)
          p.front.deep

  module _ (few : length locals ≤ local_bytes) (deep : length stack ≤ stack_bytes) where
    locals_long : length (filled local_bytes locals) ≡ local_bytes
    locals_long = length-filled local_bytes locals few

    stack_long : length (filled stack_bytes stack) ≡ stack_bytes
    stack_long = length-filled stack_bytes stack deep

    pub laid-long : length (laid place depth locals stack) ≡ image_bytes
    laid-long =
        length-append (front_of place depth ++ filled local_bytes locals) (filled stack_bytes stack)
        ∙ omega (arith, length-append (front_of place depth) (filled local_bytes locals), front_long, locals_long, stack_long)

    -- the whole has the parts
    pub parted : (buffer rest : List ℕ) → buffer ≡ laid place depth locals stack ++ rest → Parted buffer place depth locals stack
    parted b rest e =
        record {
          long = omega (arith, ap length e ∙ length-append (laid place depth locals stack) rest, laid-long);
          front = record { mark = ap (take 3) e; version = ap (part 2 3) e; deep = ap (part 2 9) e };
          placed = ap (part 4 5) e;
          of_locals = ap (take local_bytes) after ∙ take_at L (S ++ rest) local_bytes locals_long;
          of-stack =
              ap (take stack_bytes) (sym (drop-drop local_bytes front_bytes b) ∙ ap (drop local_bytes) after ∙ drop_at L (S ++ rest) local_bytes locals_long)
              ∙ take_at S rest stack_bytes stack_long;
        }
      where
        L : List ℕ
        L = filled local_bytes locals

        S : List ℕ
        S = filled stack_bytes stack

        after : drop front_bytes b ≡ L ++ (S ++ rest)
        after = ap (drop front_bytes) e ∙ append_assoc L S rest
