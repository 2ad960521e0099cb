-- The values on top of a stack, and their kinds.
use Prim.Native.Nat.{ℕ, zero, suc}
use mathlib.Core.Path.{◌≡◌, refl, ap, sym, ◌∙◌}
use mathlib.Core.List.{List, [], ◌∷◌, ◌++◌, map, reverse, reverse-append, reverse-reverse}
use lib.ListN.{length, take, drop, length-reverse, take-append-drop}
use lib.Seq.{take_at}
use Rattle.opcode.specs.Kind.{Kind}
use Rattle.machine.specs.Value.{Value, kind_of, AllInRange}

pub kinds-append : (vs ws : List Value) → map kind_of (vs ++ ws) ≡ map kind_of vs ++ map kind_of ws
kinds-append [] ws = refl
kinds-append (v ∷ vs) ws = ap (λ (l : List Kind). kind_of v ∷ l) (kinds-append vs ws)

kinds-take : (n : ℕ) (vs : List Value) → map kind_of (take n vs) ≡ take n (map kind_of vs)
kinds-take zero vs = refl
kinds-take (suc n) [] = refl
kinds-take (suc n) (v ∷ vs) = ap (λ (l : List Kind). kind_of v ∷ l) (kinds-take n vs)

pub range-take : (n : ℕ) (vs : List Value) → AllInRange vs → AllInRange (take n vs)
range-take zero vs r = tt
range-take (suc n) [] r = tt
range-take (suc n) (v ∷ vs) r = (r.0, range-take n vs r.1)

pub range-append : (vs ws : List Value) → AllInRange vs → AllInRange ws → AllInRange (vs ++ ws)
range-append [] ws a b = b
range-append (v ∷ vs) ws a b = (a.0, range-append vs ws a.1 b)

-- these kinds are on top
pub top-kinds : (vs : List Value) (below ks : List Kind) → map kind_of vs ≡ reverse (below ++ ks) → map kind_of (take (length ks) vs) ≡ reverse ks
top-kinds vs below ks e =
    kinds-take (length ks) vs ∙ ap (take (length ks)) (e ∙ reverse-append below ks) ∙ take_at (reverse ks) (reverse below) (length ks) (length-reverse ks)

-- and where they are, the rules know them
pub top_back : (vs : List Value) (values ks : List Kind) → map kind_of vs ≡ reverse values → map kind_of (take (length ks) vs) ≡ reverse ks
    → values ≡ reverse (map kind_of (drop (length ks) vs)) ++ ks
top_back vs values ks e f =
    let rest = map kind_of (drop (length ks) vs) in
    let all : map kind_of vs ≡ reverse ks ++ rest =
    ap (map kind_of) (sym (take-append-drop (length ks) vs)) ∙ kinds-append (take (length ks) vs) (drop (length ks) vs) ∙ ap (λ (l : List Kind). l ++ rest) f in
    sym (reverse-reverse values) ∙ ap reverse (sym e ∙ all) ∙ reverse-append (reverse ks) rest ∙ ap (λ (l : List Kind). reverse rest ++ l) (reverse-reverse ks)
