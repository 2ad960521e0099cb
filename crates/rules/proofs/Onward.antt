-- Two strips of instructions from one place: one is the other's beginning.
use Prim.Native.Nat.{ℕ, ◌+◌, ◌≤◌, ◌<◌}
use mathlib.Core.Path.{◌≡◌, refl, sym, subst}
use mathlib.Core.Bool.{false}
use mathlib.Core.List.{List, [], ◌∷◌}
use mathlib.Core.Logic.{◌⊎◌, inl, inr}
use native.Mathlib.Omega.{arith}
use lib.ListN.{length}
use Rattle.opcode.specs.Kind.{Kind}
use Rattle.opcode.specs.Table.{Code, Row, carried, float, unassigned}
use Rattle.instr.specs.declared.Instr.{Instr}
use Rattle.instr.specs.Layout.{Allowed, Stands, row_in}
use Rattle.instr.proofs.Stands.{stands-once}
use Rattle.instr.proofs.Ranges.{stands-some}
use Rattle.rules.specs.Header.{Header, Declares, header_bytes, locals}
use Rattle.rules.specs.Typing.{Frame, opened, Types}
use Rattle.rules.specs.Strip.{Reads, Within, Reaches, front, past}
use Rattle.rules.proofs.Typings.{types-once}

-- from p with these frames, all is well up to q with those
pub data Onward (s : List ℕ) (h : Header) : ℕ → List Frame → ℕ → List Frame → Type 0 where
  here : {p : ℕ} {κs : List Frame} → Onward s h p κs p κs
  next : {p q n : ℕ} {i : Instr} {c : Code} {κs κs' λs : List Frame} → Reads h.version s p i c n → Types (locals h) i c κs κs' → Within κs'
      → Onward s h (p + n) κs' q λs → Onward s h p κs q λs

then : {s : List ℕ} {h : Header} {p q n : ℕ} {i : Instr} {c : Code} {κs λs λs' : List Frame} → Onward s h p κs q λs → Reads h.version s q i c n
    → Types (locals h) i c λs λs' → Within λs' → Onward s h p κs (q + n) λs'
then here r t l = next r t l here
then (next r t l o) r' t' l' = next r t l (then o r' t' l')

pub from_front : {s : List ℕ} {h : Header} {p : ℕ} {κs : List Frame} → Reaches s h p κs
    → Onward s h (length (header_bytes h)) (opened false h.results ∷ []) p κs
from_front (front d) = here
from_front (past r q t l) = then (from_front r) q t l

pub declared : {s : List ℕ} {h : Header} {p : ℕ} {κs : List Frame} → Reaches s h p κs → Declares s h
declared (front d) = d
declared (past r q t l) = declared r

pub reached-within : {s : List ℕ} {h : Header} {p : ℕ} {κs : List Frame} → Reaches s h p κs → Within κs
reached-within (front d) = record { blocks = omega arith; values = omega arith }
reached-within (past r q t w) = w

row_carried : (r : Row) (i : Instr) → Allowed r i → (c : Code) × (r ≡ carried c)
unfolding Allowed
row_carried (carried c) i a = (c, refl)
row_carried float i a = absurd a
row_carried unassigned i a = absurd a

-- what stands at a place is carried
pub reads_of : {v : ℕ} {s : List ℕ} {p n : ℕ} {i : Instr} → Stands v s p i n → (c : Code) × Reads v s p i c n
reads_of {v} {i = i} w = let it = row_carried (row_in v i) i w.allowed in (it.0, record { stands = w; does = it.1 })

pub reads-once : {v : ℕ} {s : List ℕ} {p n m : ℕ} {i j : Instr} {c d : Code} → Reads v s p i c n → Reads v s p j d m → (i ≡ j) × (c ≡ d) × (n ≡ m)
reads-once {v} {s} {p} {n} {m} {i} {j} {c} {d} a b =
    let same = stands-once v s p i j n m a.stands b.stands in
    let code : c ≡ d = cc (a.does, b.does, same.0) in
    (same.0, code, same.1)

-- what is so of the instruction that is read is so of every one
pub only : {v : ℕ} {s : List ℕ} {p n : ℕ} {i : Instr} {c : Code} (P : Instr → Code → Type 0) → Reads v s p i c n → P i c → (j : Instr) (d : Code) (m : ℕ)
    → Reads v s p j d m → P j d
only {i = i} {c = c} P a x j d m b = let same = reads-once a b in subst (P j) same.1 (subst (λ (y : Instr). P y c) same.0 x)

-- what an instruction leaves and where, once for both
pub same_step : {v : ℕ} {s : List ℕ} {ls : List Kind} {p n m : ℕ} {i j : Instr} {c d : Code} {κs α β : List Frame} → Reads v s p i c n → Reads v s p j d m
    → Types ls i c κs α → Types ls j d κs β → (n ≡ m) × (α ≡ β)
same_step {ls = ls} {n = n} {m = m} {i = i} {c = c} {κs = κs} {β = β} a b t u =
    ((reads-once a b).2, types-once t (only (λ x y. Types ls x y κs β) b u i c n a))

pub compare : {s : List ℕ} {h : Header} {p a b : ℕ} {κs α β : List Frame} → Onward s h p κs a α → Onward s h p κs b β → Onward s h a α b β ⊎ Onward s h b β a α
compare here o = inl o
compare (next r t l o) here = inr (next r t l o)
compare {s} {h} {p} {a} {b} {κs} {α} {β} (next {n = n} {κs' = γ} r t l o) (next {n = m} {κs' = δ} r' t' l' o') =
    let same = same_step r r' t t' in
    compare o (subst (λ (x : ℕ). Onward s h (p + x) γ b β) (sym same.0) (subst (λ (x : List Frame). Onward s h (p + m) x b β) (sym same.1) o'))

-- ---- one typing state a place

onward-up : {s : List ℕ} {h : Header} {a b : ℕ} {α β : List Frame} → Onward s h a α b β → a ≤ b
onward-up here = omega arith
onward-up (next r t l o) = omega (arith, onward-up o)

stays : {s : List ℕ} {h : Header} {a b : ℕ} {α β : List Frame} → Onward s h a α b β → b ≤ a → α ≡ β
stays here l = refl
stays (next r t m o) l = absurd (let z : ⊥ = omega (arith, onward-up o, stands-some r.stands) in z)

pub reached-once : {s : List ℕ} {h : Header} {p : ℕ} {κs λs : List Frame} → Reaches s h p κs → Reaches s h p λs → κs ≡ λs
reached-once {s} {h} {p} {κs} {λs} a b = by (compare (from_front a) (from_front b))
  where
    by : Onward s h p κs p λs ⊎ Onward s h p λs p κs → κs ≡ λs
    by (inl o) = stays o (omega arith)
    by (inr o) = sym (stays o (omega arith))

-- no place inside an instruction is reached
pub reached-beyond : {s : List ℕ} {h : Header} {p q n : ℕ} {i : Instr} {c : Code} {κs λs : List Frame} → Reaches s h p κs → Reads h.version s p i c n
    → Reaches s h q λs → p < q → p + n ≤ q
reached-beyond {s} {h} {p} {q} {n} {κs = κs} {λs = λs} a r b less = by (compare (from_front a) (from_front b))
  where
    first : {m : ℕ} {α β : List Frame} → Onward s h p α m β → p < m → p + n ≤ m
    first here l = absurd (let z : ⊥ = omega arith in z)
    first (next r' t w o) l = omega (arith, (reads-once r r').2, onward-up o)

    by : Onward s h p κs q λs ⊎ Onward s h q λs p κs → p + n ≤ q
    by (inl o) = first o less
    by (inr o) = absurd (let z : ⊥ = omega (arith, onward-up o) in z)

-- what the instruction between two places that are reached makes of the frames
pub step-between : {s : List ℕ} {h : Header} {p n : ℕ} {i : Instr} {κs λs : List Frame} → Reaches s h p κs → Stands h.version s p i n
    → Reaches s h (p + n) λs
    → (c : Code) × (row_in h.version i ≡ carried c) × Types (locals h) i c κs λs
step-between {s} {h} {p} {n} {i} {κs} {λs} a w b = by (compare (from_front a) (from_front b))
  where
    first : {q : ℕ} {μs : List Frame} → Onward s h p κs q μs → q ≡ p + n → (c : Code) × (row_in h.version i ≡ carried c) × Types (locals h) i c κs μs
    first here e = absurd (let z : ⊥ = omega (arith, e, stands-some w) in z)
    first {q} {μs} (next {n = m} {i = j} {c = c} {κs' = ν} r t l o) e =
        let same = stands-once h.version s p j i m n r.stands w in
        let end : ν ≡ μs = stays o (omega (arith, e, same.1)) in (
          c,
          subst (λ (x : Instr). row_in h.version x ≡ carried c) same.0 r.does,
          subst (λ (x : Instr). Types (locals h) x c κs μs) same.0 (subst (Types (locals h) j c κs) end t),
        )

    by : Onward s h p κs (p + n) λs ⊎ Onward s h (p + n) λs p κs → (c : Code) × (row_in h.version i ≡ carried c) × Types (locals h) i c κs λs
    by (inl o) = first o refl
    by (inr o) = absurd (let z : ⊥ = omega (arith, onward-up o, stands-some w) in z)
