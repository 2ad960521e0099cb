-- LISTING-EXACT: two strips with the same header have the same listing, places aside, exactly where their decoded instructions agree.
use Prim.Native.Nat.{ℕ, ◌+◌}
use mathlib.Core.Path.{◌≡◌, refl, sym, ap, ap₂, subst, ◌∙◌}
use mathlib.Core.List.{List, [], ◌∷◌, ◌++◌}
use mathlib.Core.Logic.{◌↔◌}
use native.Mathlib.Omega.{arith}
use lib.ListN.{length}
use mathlib.Core.Bool.{true}
use Rattle.text.specs.Words.{newline}
use Rattle.text.proofs.Words.{cut-once}
use Rattle.opcode.specs.Kind.{Kind}
use Rattle.opcode.specs.Table.{Code}
use Rattle.instr.specs.declared.Instr.{Instr}
use Rattle.instr.specs.Layout.{Stands}
use Rattle.rules.specs.Header.{Header, header_bytes, locals}
use Rattle.rules.specs.Typing.{Frame, all_values, Types}
use Rattle.rules.specs.Strip.{Reaches, front}
use Rattle.rules.specs.Consists.{Consists}
use Rattle.rules.proofs.Headers.{declares-once}
use Rattle.rules.proofs.Typings.{types-once}
use Rattle.rules.proofs.Onward.{declared, reads_of, reached-once, step-between}
use Rattle.rules.proofs.Strips.{instructions-once}
use Rattle.listing.specs.Line.{line}
use Rattle.listing.specs.Listing.{Lines, no_more, one_more, Listing}
use Rattle.listing.specs.Aside.{aside_from, places_aside}
use Rattle.listing.proofs.Lines.{instrs_in, all-stand}
use Rattle.listing.proofs.Asides.{unplaced, line-aside}
use Rattle.listing.proofs.Words.{place-without, no-newline, told-once}
use Rattle.listing.proofs.Spellings.{one-instr}

-- PLACES ASIDE leaves all of a line but its place and the blank after it
pub first-aside : {v : ℕ} {s : List ℕ} {p n : ℕ} {i : Instr} (κs : List Kind) (more : List ℕ) → Stands v s p i n
    → aside_from true (line p κs i ++ more) ≡ unplaced κs i ++ newline ∷ aside_from true more
first-aside {p = p} {i = i} κs more w = line-aside p κs i more (place-without p) (no-newline (reads_of w).1 κs)

not_none : (xs ys : List ℕ) (b : ℕ) → [] ≡ xs ++ b ∷ ys → ⊥
not_none [] ys b e = let z : ◌≡◌ {A = ℕ} 0 1 = cc in omega arith
not_none (x ∷ xs) ys b e = let z : ◌≡◌ {A = ℕ} 0 1 = cc in omega arith

-- ---- the same text, the same instructions

text-tells : {s t : List ℕ} {h : Header} {p q : ℕ} {x y : List ℕ} (l : Lines s h p x) (m : Lines t h q y) → aside_from true x ≡ aside_from true y
    → instrs_in l ≡ instrs_in m
text-tells (no_more a) (no_more b) e = refl
text-tells (no_more a) (one_more {fs = λs} {i = j} {text = y} r w m) e =
    absurd (not_none (unplaced (all_values λs) j) (aside_from true y) newline (e ∙ first-aside (all_values λs) y w))
text-tells (one_more {fs = κs} {i = i} {text = x} r w l) (no_more b) e =
    absurd (not_none (unplaced (all_values κs) i) (aside_from true x) newline (sym e ∙ first-aside (all_values κs) x w))
text-tells (one_more {fs = κs} {i = i} {text = x} r w l) (one_more {fs = λs} {i = j} {text = y} r' w' m) e =
    let a = (reads_of w).1 in
    let b = (reads_of w').1 in
    let parts =
    cut-once newline (unplaced (all_values κs) i) (unplaced (all_values λs) j) (no-newline a (all_values κs)) (no-newline b (all_values λs))
    (sym (first-aside (all_values κs) x w) ∙ e ∙ first-aside (all_values λs) y w') in
    let same = told-once a b (all_values κs) (all_values λs) parts.0 in
    ap₂ (λ (k : Instr) (ks : List Instr). k ∷ ks) (one-instr a b same.0 same.1) (text-tells l m parts.1)

-- ---- the same instructions, the same text: the kinds before each follow from those before it

-- whatever is known, it is the same at these two places
abbrev Same : List ℕ → List ℕ → Header → ℕ → ℕ → Type 0
Same s t h p q = (κs λs : List Frame) → Reaches s h p κs → Reaches t h q λs → κs ≡ λs

same-on : {s t : List ℕ} {h : Header} {p q n m : ℕ} {i : Instr} {κs : List Frame} → Reaches s h p κs → Reaches t h q κs → Stands h.version s p i n
    → Stands h.version t q i m → Same s t h (p + n) (q + m)
same-on {h = h} {i = i} {κs = κs} r r' w w' α β a b =
    let x = step-between r w a in
    let y = step-between r' w' b in
    let code : y.0 ≡ x.0 = let e = x.1 in let f = y.1 in cc in
    types-once x.2 (subst (λ (c : Code). Types (locals h) i c κs β) code y.2)

instrs-tell : {s t : List ℕ} {h : Header} {p q : ℕ} {x y : List ℕ} → Same s t h p q → (l : Lines s h p x) (m : Lines t h q y) → instrs_in l ≡ instrs_in m
    → aside_from true x ≡ aside_from true y
instrs-tell same (no_more a) (no_more b) e = refl
instrs-tell same (no_more a) (one_more r w m) e = absurd (let z : ◌≡◌ {A = ℕ} 0 1 = cc in omega arith)
instrs-tell same (one_more r w l) (no_more b) e = absurd (let z : ◌≡◌ {A = ℕ} 0 1 = cc in omega arith)
instrs-tell {s} {t} {h} {p} {q} same (one_more {n = n} {fs = κs} {i = i} {text = x} r w l) (one_more {n = k} {fs = λs} {i = j} {text = y} r' w' m) e =
    let first : i ≡ j = cc in
    let rest : instrs_in l ≡ instrs_in m = cc in
    let frames : κs ≡ λs = same κs λs r r' in
    let on = same-on r (subst (Reaches t h q) (sym frames) r') w (subst (λ (a : Instr). Stands h.version t q a k) (sym first) w') in
    first-aside (all_values κs) x w
    ∙ ap₂ (λ (ks : List Frame) (a : Instr). unplaced (all_values ks) a ++ newline ∷ aside_from true x) frames first
    ∙ ap (λ (z : List ℕ). unplaced (all_values λs) j ++ newline ∷ z) (instrs-tell on l m rest)
    ∙ sym (first-aside (all_values λs) y w')

-- at the front nothing is known of either but the results
same-front : {s t : List ℕ} {h : Header} → Same s t h (length (header_bytes h)) (length (header_bytes h))
same-front α β a b = reached-once a (front (declared a)) ∙ reached-once (front (declared b)) b

module _ {s t : List ℕ} {h : Header} {is js : List Instr} {x y : List ℕ} (a : Consists s h is) (b : Consists t h js) (f : Listing s x) (g : Listing t y) where
  lines_of : {u z : List ℕ} {ks : List Instr} → Consists u h ks → Listing u z → Lines u h (length (header_bytes h)) z
  lines_of {u} {z} o w =
      subst (λ (k : Header). Lines u k (length (header_bytes k)) z) (declares-once u w.valid.header h (declared w.valid.reached) o.declares)
      w.lines

  pub listing-exact : (places_aside x ≡ places_aside y) ↔ (is ≡ js)
  unfolding places_aside
  listing-exact =
      let l = lines_of a f in
      let m = lines_of b g in
      let i : is ≡ instrs_in l = instructions-once a.instructions (all-stand l) in
      let j : js ≡ instrs_in m = instructions-once b.instructions (all-stand m) in
      ((λ e. i ∙ text-tells l m e ∙ sym j), λ e. instrs-tell same-front l m (sym i ∙ e ∙ j))
