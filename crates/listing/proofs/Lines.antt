-- A listing is one: of a place that is reached the kinds are one, and so is the instruction that stands there.
use Prim.Native.Nat.{ℕ, ◌+◌}
use mathlib.Core.Path.{◌≡◌, refl, sym, ap, ap₂, subst, ◌∙◌}
use mathlib.Core.List.{List, [], ◌∷◌, ◌++◌}
use native.Mathlib.Omega.{arith}
use lib.ListN.{length}
use Rattle.instr.specs.declared.Instr.{Instr}
use Rattle.instr.specs.Layout.{Stands}
use Rattle.instr.proofs.Stands.{stands-once}
use Rattle.instr.proofs.Ranges.{stands-some, stands-inside}
use Rattle.rules.specs.Header.{Header, header_bytes}
use Rattle.rules.specs.Typing.{Frame, all_values}
use Rattle.rules.specs.Strip.{Reaches, front, past, Valid}
use Rattle.rules.specs.Consists.{Instructions}
use Rattle.rules.specs.Consists as Consists
use Rattle.rules.proofs.Headers.{declares-once}
use Rattle.rules.proofs.Onward.{Onward, here, next, from_front, declared, reached-once}
use Rattle.listing.specs.Line.{line}
use Rattle.listing.specs.Listing.{Lines, no_more, one_more, Listing}

-- ---- a valid strip has one

lines-between : {s : List ℕ} {h : Header} {p q : ℕ} {κs λs : List Frame} {rest : List ℕ} → Reaches s h p κs → Onward s h p κs q λs
    → (Reaches s h q λs → Lines s h q rest)
    → (text : List ℕ) × Lines s h p text
lines-between {rest = rest} a here f = (rest, f a)
lines-between {p = p} {κs = κs} a (next {i = i} r t l o) f =
    let more = lines-between (past a r t l) o f in
    (line p (all_values κs) i ++ more.0, one_more a r.stands more.1)

pub listed : {s : List ℕ} (v : Valid s) → (text : List ℕ) × Listing s text
listed v =
    let all = lines-between (front (declared v.reached)) (from_front v.reached) (λ a. one_more a v.ends.stands (no_more v.last)) in
    (all.0, record { valid = v; lines = all.1 })

-- ---- and no other

no_room : {v : ℕ} {s : List ℕ} {p n : ℕ} {i : Instr} → p ≡ length s → Stands v s p i n → ⊥
no_room e w = omega (arith, e, stands-some w, stands-inside w)

pub lines-once : {s : List ℕ} {h : Header} {p : ℕ} {x y : List ℕ} → Lines s h p x → Lines s h p y → x ≡ y
lines-once (no_more e) (no_more f) = refl
lines-once (no_more e) (one_more r w l) = absurd (no_room e w)
lines-once (one_more r w l) (no_more e) = absurd (no_room e w)
lines-once {s} {h} {p} (one_more {n = n} {fs = κs} {i = i} {text = x} r w l) (one_more {n = m} {fs = λs} {i = j} {text = y} r' w' l') =
    let same = stands-once h.version s p i j n m w w' in
    let rest = lines-once l (subst (λ (k : ℕ). Lines s h (p + k) y) (sym same.1) l') in
    ap₂ (λ (ks : List Frame) (a : Instr). line p (all_values ks) a ++ x) (reached-once r r') same.0 ∙ ap (λ (z : List ℕ). line p (all_values λs) j ++ z) rest

pub listing-once : {s x y : List ℕ} → Listing s x → Listing s y → x ≡ y
listing-once {s} {y = y} a b =
    let h = declares-once s b.valid.header a.valid.header (declared b.valid.reached) (declared a.valid.reached) in
    lines-once a.lines (subst (λ (x : Header). Lines s x (length (header_bytes x)) y) h b.lines)

-- ---- the instructions of a listing

abbrev pub instrs_in : {s : List ℕ} {h : Header} {p : ℕ} {x : List ℕ} → Lines s h p x → List Instr
instrs_in (no_more e) = []
instrs_in (one_more {i = i} r w l) = i ∷ instrs_in l

pub all-stand : {s : List ℕ} {h : Header} {p : ℕ} {x : List ℕ} (l : Lines s h p x) → Instructions h.version s p (instrs_in l)
all-stand (no_more e) = Consists.no_more e
all-stand (one_more r w l) = Consists.one_more w (all-stand l)
