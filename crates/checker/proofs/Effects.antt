-- What an instruction takes and leaves here, in one number; and the judgement from it.
use Prim.Native.Nat.{ℕ, zero, suc, ◌+◌, ◌*◌, ◌-◌, ◌^◌, ◌≤◌, ◌<◌}
use mathlib.Core.Path.{◌≡◌, refl, sym, ap, subst, ◌∙◌}
use mathlib.Core.Bool.{Bool}
use mathlib.Core.List.{List, [], ◌∷◌, ◌++◌, map, append_assoc}
use mathlib.Core.Logic.{◌⊎◌, inl, inr}
use mathlib.Core.Option.{Option, none, some}
use native.Mathlib.Omega.{arith}
use lib.Dec.{lit≤}
use lib.ListN.{length, get_or, drop, length-append}
use Rattle.std.specs.Prelude.{Err}
use Rattle.std.specs.declared.result.Result.{Result}
use Rattle.card.specs.Card.{LOCAL}
use Rattle.opcode.specs.Kind.{Kind, i32, kind_byte}
use Rattle.opcode.specs.Table.{End, Drop, LocalGet, LocalSet, LocalTee, I32Const, I64Const, I32Add, I32Sub, I32Eqz, I32LtU, Code, plain, control, vector, carried}
use Rattle.opcode.specs.Effect.{Signature, ◌⇒◌, effect}
use Rattle.opcode.specs.Number.{packed, effect_of, group_of_code, group_of}
use Rattle.opcode.proofs.Effects.{kind-range, unpacked, no-signature}
use Rattle.opcode.proofs.Groups.{by-group}
use Rattle.rules.specs.Typing.{Frame, Has, all_known, any, Local, first, later, Typed, by_signature, dropped, got, set, teed, Names, get_names, set_names, tee_names}
use Rattle.rules.proofs.Lists.{ends-once}
use Rattle.rules.proofs.Typings.{local-once}
use Rattle.checker.specs.Walk.{KindBytes}
use Rattle.checker.specs.Inner.Stack.{Top, Small, Applies, lacks, over, fits}
use Rattle.checker.specs.Inner.Judging.{Ordinary, Effected, undeclared, typed_by, Gives, undeclared_local, lacking, overfull, does}
use Rattle.checker.proofs.Held.{split-last, held_at, held-from}

-- ---- the locals

pub local_at : (ls : List Kind) (n : ℕ) → n < length ls → (k : Kind) × Local ls n k × (get_or (map kind_byte ls) n 0 ≡ kind_byte k)
local_at [] n l = absurd (let z : ⊥ = omega arith in z)
local_at (k ∷ ls) zero l = (k, first, refl)
local_at (k ∷ ls) (suc n) l = let d = local_at ls n (omega arith) in (d.0, later d.1, d.2)

beyond : {ls : List Kind} {n : ℕ} {k : Kind} → length ls ≤ n → Local ls n k → ⊥
beyond h first = omega arith
beyond h (later l) = beyond (omega arith) l

-- ---- by its signature

one_signature : {ls : List Kind} {n : ℕ} {c : Code} {ins outs ins' outs' : List Kind} → effect c ≡ some (ins ⇒ outs) → Typed ls n c ins' outs' → ins' ≡ ins
one_signature q (by_signature p) = cc
one_signature q dropped = absurd (let z : ◌≡◌ {A = ℕ} 0 1 = cc in omega arith)
one_signature q (got l) = absurd (let z : ◌≡◌ {A = ℕ} 0 1 = cc in omega arith)
one_signature q (set l) = absurd (let z : ◌≡◌ {A = ℕ} 0 1 = cc in omega arith)
one_signature q (teed l) = absurd (let z : ◌≡◌ {A = ℕ} 0 1 = cc in omega arith)

-- the same are had
only-these : {ls : List Kind} {n : ℕ} {c : Code} {f : Frame} {ins : List Kind} → ((ins' outs' : List Kind) → Typed ls n c ins' outs' → ins' ≡ ins)
    → (ins' outs' below : List Kind) → Typed ls n c ins' outs' → Has f below ins' → Has f below ins
only-these {f = f} one ins' outs' below t h = subst (Has f below) (one ins' outs' t) h

module _ (ls : List Kind) (n : ℕ) (c : Code) (f : Frame) where
  by-its-signature : (e : Option Signature) → effect c ≡ e → (packed (effect c) ≡ 0 → ⊥) → Effected ls n c f (packed (effect c))
  by-its-signature none q z = absurd (z (ap packed q))
  by-its-signature (some (ins ⇒ outs)) q z =
      let u = unpacked c q in
      subst (Effected ls n c f) (sym (ap packed q))
      (typed_by (by_signature q) (record { few = u.few; one = u.one; some = u.known }) (only-these (λ ins' outs' t. one_signature q t)))

  pub effected-signature : (e : ℕ) → e ≡ effect_of (carried c) → (e ≡ 0 → ⊥) → Effected ls n c f e
  effected-signature e is z = subst (Effected ls n c f) (sym is) (by-its-signature (effect c) refl (λ o. z (is ∙ o)))

-- ---- by a kind

drops-or-names : (c : Code) → effect c ≡ none → Ordinary c → (c ≡ plain Drop) ⊎ Names c
drops-or-names (plain End) e f = absurd (f.not_end refl)
drops-or-names (plain Drop) e f = inl refl
drops-or-names (plain LocalGet) e f = inr get_names
drops-or-names (plain LocalSet) e f = inr set_names
drops-or-names (plain LocalTee) e f = inr tee_names
drops-or-names (plain I32Const) e f = absurd (let z : ◌≡◌ {A = ℕ} 0 1 = cc in omega arith)
drops-or-names (plain I64Const) e f = absurd (let z : ◌≡◌ {A = ℕ} 0 1 = cc in omega arith)
drops-or-names (plain I32Add) e f = absurd (let z : ◌≡◌ {A = ℕ} 0 1 = cc in omega arith)
drops-or-names (plain I32Sub) e f = absurd (let z : ◌≡◌ {A = ℕ} 0 1 = cc in omega arith)
drops-or-names (plain I32Eqz) e f = absurd (let z : ◌≡◌ {A = ℕ} 0 1 = cc in omega arith)
drops-or-names (plain I32LtU) e f = absurd (let z : ◌≡◌ {A = ℕ} 0 1 = cc in omega arith)
drops-or-names (control k) e f = absurd (f.not_control k refl)
drops-or-names (vector o) e f = absurd (let z : ◌≡◌ {A = ℕ} 0 1 = cc in omega arith)

-- the number of the effect is 0, and the group is not drop's
pub names-local : (c : Code) (e g : ℕ) → Ordinary c → e ≡ effect_of (carried c) → e ≡ 0 → g ≡ group_of (carried c) → (g ≡ 1 → ⊥) → Names c
names-local c e g other f z q d = by (drops-or-names c (no-signature c (sym f ∙ z)) other)
  where
    by : (c ≡ plain Drop) ⊎ Names c → Names c
    by (inl is) = absurd (d (q ∙ ap group_of_code is))
    by (inr names) = names

small-in : (k : Kind) → Small (k ∷ []) []
small-in k = record { few = lit≤ tt; one = lit≤ tt; some = omega (arith, kind-range k) }

small-out : (k : Kind) → Small [] (k ∷ [])
small-out k = record { few = lit≤ tt; one = lit≤ tt; some = omega (arith, kind-range k) }

small-both : (k : Kind) → Small (k ∷ []) (k ∷ [])
small-both k = record { few = lit≤ tt; one = lit≤ tt; some = omega (arith, kind-range k) }

drop-one : {ls : List Kind} {n : ℕ} {ins outs : List Kind} → Typed ls n (plain Drop) ins outs → (k : Kind) × (ins ≡ k ∷ [])
drop-one (by_signature p) = absurd (let z : ◌≡◌ {A = ℕ} 0 1 = cc in omega arith)
drop-one (dropped {k}) = (k, refl)

set-one : {ls : List Kind} {n : ℕ} {k : Kind} {ins outs : List Kind} → Local ls n k → Typed ls n (plain LocalSet) ins outs → ins ≡ k ∷ []
set-one l (by_signature p) = absurd (let z : ◌≡◌ {A = ℕ} 0 1 = cc in omega arith)
set-one l (set m) = ap (λ (x : Kind). x ∷ []) (local-once m l)

tee-one : {ls : List Kind} {n : ℕ} {k : Kind} {ins outs : List Kind} → Local ls n k → Typed ls n (plain LocalTee) ins outs → ins ≡ k ∷ []
tee-one l (by_signature p) = absurd (let z : ◌≡◌ {A = ℕ} 0 1 = cc in omega arith)
tee-one l (teed m) = ap (λ (x : Kind). x ∷ []) (local-once m l)

get_none : {ls : List Kind} {n : ℕ} {ins outs : List Kind} → Typed ls n (plain LocalGet) ins outs → ins ≡ []
get_none (by_signature p) = absurd (let z : ◌≡◌ {A = ℕ} 0 1 = cc in omega arith)
get_none (got m) = refl

module _ (ls : List Kind) (n : ℕ) (f : Frame) (e : ℕ) where
  module _ {kinds : List ℕ} {depth floor : ℕ} {outer : List Kind} (t : Top kinds depth floor f.dead outer f) (c : Code) (g : ℕ) (q : g ≡ group_of (carried c)) (is : g ≡ 1) where
    -- of no value any kind
    of_none : (ks : List Kind) → f.values ≡ ks → length ks ≡ 0 → (k : Kind) (below : List Kind) → Has f below (k ∷ []) → Has f below (i32 ∷ [])
    of_none [] v z k below (all_known e) = absurd (let no : ⊥ = omega (arith, ap length v, ap length e, length-append below (k ∷ [])) in no)
    of_none [] v z k below (any u d e) = any (i32 ∷ []) d (ap (λ (x : List Kind). i32 ∷ x) v)
    of_none (j ∷ ks) v z k below h = absurd (let no : ⊥ = omega arith in no)

    none-to-drop : depth ≡ floor → (ins outs below : List Kind) → Typed ls n (plain Drop) ins outs → Has f below ins → Has f below (i32 ∷ [])
    none-to-drop z ins outs below u h =
        let one = drop-one u in
        of_none f.values refl (omega (arith, z, t.holds.many, length-append outer f.values, t.floor_is)) one.0 below (subst (Has f below) one.1 h)

    pub effected-none : depth ≡ floor → e ≡ kind_byte i32 → Effected ls n c f e
    effected-none z b =
        subst (Effected ls n c f) (sym b)
        (by-group (λ c. Effected ls n c f (kind_byte i32)) 1 (typed_by dropped (small-in i32) (none-to-drop z)) c (sym q ∙ is))

    -- else that of the top one
    same-top : (front : List Kind) (k j : Kind) (below : List Kind) → f.values ≡ front ++ (k ∷ []) → Has f below (j ∷ []) → j ≡ k
    same-top front k j below v (all_known e) =
        let tops = (ends-once below front (j ∷ []) (k ∷ []) refl (sym e ∙ v)).1 in cc
    same-top front k j below v (any u d e) =
        let whole : (u ++ front) ++ (k ∷ []) ≡ [] ++ (j ∷ []) = append_assoc u front (k ∷ []) ∙ ap (λ (x : List Kind). u ++ x) (sym v) ∙ e in
        let tops = (ends-once (u ++ front) [] (k ∷ []) (j ∷ []) refl whole).1 in cc

    pub effected-drop : floor ≤ depth → (depth ≡ floor → ⊥) → e ≡ get_or kinds (depth - 1) 0 → Effected ls n c f e
    effected-drop le z b =
        let last = split-last f.values (omega (arith, t.holds.many, length-append outer f.values, t.floor_is, z, le)) in
        let whole : outer ++ f.values ≡ (outer ++ last.0) ++ (last.1 ∷ []) = ap (λ (x : List Kind). outer ++ x) last.2 ∙ sym (append_assoc outer last.0 (last.1 ∷ [])) in
        let long : depth - 1 ≡ length (outer ++ last.0) = omega (arith, t.holds.many, ap length whole, length-append (outer ++ last.0) (last.1 ∷ [])) in
        let byte : e ≡ kind_byte last.1 = b ∙ ap (λ (x : ℕ). get_or kinds x 0) long ∙ held_at t.holds (outer ++ last.0) [] last.1 whole in
        let number_is : packed (some (last.1 ∷ [] ⇒ [])) ≡ e = omega (arith, byte) in
        subst (Effected ls n c f) number_is
        (by-group (λ c. Effected ls n c f (packed (some (last.1 ∷ [] ⇒ [])))) 1
        (typed_by dropped (small-in last.1) (λ ins outs below u h.
        let one = drop-one u in
        let had : Has f below (one.0 ∷ []) = subst (Has f below) one.1 h in
        let same = same-top last.0 last.1 one.0 below last.2 had in
        subst (λ (k : Kind). Has f below (k ∷ [])) same had))
        c (sym q ∙ is))

  module _ (s : List ℕ) {locals : ℕ} (h : KindBytes (drop 8 s) locals ls) (c : Code) (names : Names c) where
    pub effected-undeclared : locals ≤ n → e ≡ 0 → Effected ls n c f e
    effected-undeclared l z = subst (Effected ls n c f) (sym z) (undeclared names (λ k m. beyond (omega (arith, h.many)) m))

    module _ (inside : n < locals) (b : ℕ) (byte : b ≡ get_or s (8 + n) 0) where
      it : (k : Kind) × Local ls n k × (b ≡ kind_byte k)
      it = let d = local_at ls n (omega (arith, h.many)) in (d.0, d.1, byte ∙ held-from s 8 h n inside ∙ d.2)

      pub effected-get : group_of_code c ≡ 2 → e ≡ 2 ^ 24 * b → Effected ls n c f e
      effected-get is num =
          let k = it.0 in
          let number_is : packed (some ([] ⇒ k ∷ [])) ≡ e = omega (arith, num, it.2) in
          subst (Effected ls n c f) number_is
          (by-group (λ c. Effected ls n c f (packed (some ([] ⇒ k ∷ [])))) 2 (typed_by (got it.1) (small-out k) (only-these (λ ins outs t. get_none t))) c is)

      pub effected-set : group_of_code c ≡ 3 → e ≡ b → Effected ls n c f e
      effected-set is num =
          let k = it.0 in
          let number_is : packed (some (k ∷ [] ⇒ [])) ≡ e = omega (arith, num, it.2) in
          subst (Effected ls n c f) number_is
          (by-group (λ c. Effected ls n c f (packed (some (k ∷ [] ⇒ [])))) 3 (typed_by (set it.1) (small-in k) (only-these (λ ins outs t. set-one it.1 t))) c is)

      pub effected-tee : (group_of_code c ≡ 2 → ⊥) → (group_of_code c ≡ 3 → ⊥) → e ≡ 2 ^ 24 * b + b → Effected ls n c f e
      effected-tee not-get not_set num =
          let k = it.0 in
          let number_is : packed (some (k ∷ [] ⇒ k ∷ [])) ≡ e = omega (arith, num, it.2) in
          subst (Effected ls n c f) number_is (by names not-get not_set)
        where
          by : {d : Code} → Names d → (group_of_code d ≡ 2 → ⊥) → (group_of_code d ≡ 3 → ⊥) → Effected ls n d f (packed (some (it.0 ∷ [] ⇒ it.0 ∷ [])))
          by get_names a b = absurd (a refl)
          by set_names a b = absurd (b refl)
          by tee_names a b = typed_by (teed it.1) (small-both it.0) (only-these (λ ins outs t. tee-one it.1 t))

-- ---- the judgement

pub same-dead : {kinds : List ℕ} {depth floor : ℕ} {dead : Bool} {outer : List Kind} {f : Frame} → Top kinds depth floor dead outer f → Top kinds depth floor f.dead outer f
same-dead t = record { holds = t.holds; floor_is = t.floor_is; dead_is = refl }

module _ {ls : List Kind} {n : ℕ} {c : Code} {outer : List Kind} {f : Frame} {kinds : List ℕ} where
  pub gives_local : {e : ℕ} → Effected ls n c f e → e ≡ 0 → Gives ls n c outer f kinds (Err LOCAL)
  gives_local (undeclared names g) z = undeclared_local names g
  gives_local (typed_by t small only) z = absurd (let no : ⊥ = omega (arith, small.some) in no)

  gives-by : {ins outs : List Kind} {r : Result ℕ ℕ} → Typed ls n c ins outs → ((ins' outs' below : List Kind) → Typed ls n c ins' outs' → Has f below ins' → Has f below ins)
      → Applies outer f ins outs kinds r → Gives ls n c outer f kinds r
  gives-by t only (lacks g) = lacking t (λ ins outs below u h. g below (only ins outs below u h))
  gives-by t only (over below h big) = overfull below t h big
  gives-by t only (fits below h small g) = does below t h small g

  pub gives-applies : {e : ℕ} {r : Result ℕ ℕ} → Effected ls n c f e → (e ≡ 0 → ⊥)
      → ((ins outs : List Kind) → Small ins outs → packed (some (ins ⇒ outs)) ≡ e → Applies outer f ins outs kinds r) → Gives ls n c outer f kinds r
  gives-applies (undeclared names g) z a = absurd (z refl)
  gives-applies (typed_by {ins} {outs} t small only) z a = gives-by t only (a ins outs small refl)
