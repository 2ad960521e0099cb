-- A strip has one header and one list of instructions; a valid one has them.
use Prim.Native.Nat.{ℕ, ◌+◌, ◌≤◌}
use mathlib.Core.Path.{◌≡◌, refl, sym, ap, ap₂, subst}
use mathlib.Core.List.{List, [], ◌∷◌, ◌++◌}
use native.Mathlib.Omega.{arith}
use lib.ListN.{length, get_or, length-append, length-map}
use Rattle.card.specs.Card.{DONE}
use Rattle.opcode.specs.Kind.{kind_byte}
use Rattle.instr.specs.declared.Instr.{Instr}
use Rattle.instr.proofs.Stands.{stands-once}
use Rattle.instr.proofs.Ranges.{stands-some, stands-inside}
use Rattle.rules.specs.Header.{Header, Declares, header_bytes, kinds, locals}
use Rattle.rules.specs.Typing.{Frame}
use Rattle.rules.specs.Strip.{Valid}
use Rattle.rules.specs.Breach.{Breach, Says, valid, breach}
use Rattle.rules.proofs.Headers.{declares-once}
use Rattle.rules.proofs.Onward.{Onward, here, next, from_front, declared}
use Rattle.rules.proofs.Verdicts.{breach-coded}
use Rattle.rules.specs.Consists.{Instructions, no_more, one_more, Consists}

pub instructions-once : {v : ℕ} {s : List ℕ} {p : ℕ} {is js : List Instr} → Instructions v s p is → Instructions v s p js → is ≡ js
instructions-once (no_more e) (no_more f) = refl
instructions-once (no_more e) (one_more t r) = absurd (let z : ⊥ = omega (arith, e, stands-some t, stands-inside t) in z)
instructions-once (one_more t r) (no_more e) = absurd (let z : ⊥ = omega (arith, e, stands-some t, stands-inside t) in z)
instructions-once {v} {s} {p} (one_more {n = n} {i = i} t r) (one_more {n = m} {i = j} {is = js} t' r') =
    let same = stands-once v s p i j n m t t' in
    ap₂ ◌∷◌ same.0 (instructions-once r (subst (λ (x : ℕ). Instructions v s (p + x) js) (sym same.1) r'))

pub holds-once : {s : List ℕ} {h h' : Header} {is js : List Instr} → Consists s h is → Consists s h' js → (h ≡ h') × (is ≡ js)
holds-once {s} {h} {h'} {js = js} a b =
    let same = declares-once s h h' a.declares b.declares in
    (same, instructions-once a.instructions (subst (λ (x : Header). Instructions x.version s (length (header_bytes x)) js) (sym same) b.instructions))

-- the instructions on the way from one place to another
abbrev pub between : {s : List ℕ} {h : Header} {p q : ℕ} {κs λs : List Frame} → Onward s h p κs q λs → List Instr
between here = []
between (next {i = i} r t l o) = i ∷ between o

stand-between : {s : List ℕ} {h : Header} {p q : ℕ} {κs λs : List Frame} {is : List Instr} (o : Onward s h p κs q λs)
    → Instructions h.version s q is → Instructions h.version s p (between o ++ is)
stand-between here k = k
stand-between (next r t l o) k = one_more r.stands (stand-between o k)

module _ {s : List ℕ} (v : Valid s) where
  abbrev pub instrs : List Instr
  instrs = between (from_front v.reached) ++ v.final ∷ []

  pub valid-holds : Consists s v.header instrs
  valid-holds =
      record {
        declares = declared v.reached;
        instructions = stand-between (from_front v.reached) (one_more v.ends.stands (no_more v.last));
      }

-- what is said is DONE of a valid strip, another code of a breach
pub says-valid : {s : List ℕ} {c l : ℕ} → Says s c l → c ≡ DONE → Valid s
says-valid (valid v) e = v
says-valid (breach b) e = absurd (breach-coded b e)

pub says-breach : {s : List ℕ} {c l : ℕ} → Says s c l → (c ≡ DONE → ⊥) → Breach s c l
says-breach (valid v) f = absurd (f refl)
says-breach (breach b) f = b

-- the counts say how long the header is
module _ {s : List ℕ} {h : Header} (d : Declares s h) where
  pub header-length : length (header_bytes h) ≡ 8 + get_or s 5 0 + get_or s 6 0 + get_or s 7 0
  header-length =
      omega (
        arith,
        ap (λ (l : List ℕ). get_or l 5 0) d.bytes,
        ap (λ (l : List ℕ). get_or l 6 0) d.bytes,
        ap (λ (l : List ℕ). get_or l 7 0) d.bytes,
        length-map (kinds h) kind_byte,
        length-append (locals h) h.results,
        length-append h.parameters h.further,
      )

  pub header-inside : length (header_bytes h) ≤ length s
  header-inside = omega (arith, ap length d.bytes, length-append (header_bytes h) d.body)

  pub header-counts : 8 ≤ length s
  header-counts = omega (arith, header-inside)
