-- The blocks around a place: the bytes before it say which they are, once; and where the rules reach it, each of them began at a place that they reach,
-- inside the very blocks that are around it.
use Prim.Native.Nat.{ℕ, ◌+◌, ◌≤◌}
use mathlib.Core.Path.{◌≡◌, refl, sym, subst}
use mathlib.Core.Bool.{Bool, true, false}
use mathlib.Core.List.{List, [], ◌∷◌, ◌++◌}
use mathlib.Core.Logic.{◌⊎◌, inl, inr}
use native.Mathlib.Omega.{arith}
use lib.ListN.{length}
use Rattle.opcode.specs.Kind.{Kind}
use Rattle.opcode.specs.BlockType.{block_results}
use Rattle.opcode.specs.Table.{End, Code, plain}
use Rattle.instr.specs.declared.Instr.{Instr}
use Rattle.instr.proofs.Ranges.{stands-some}
use Rattle.rules.specs.Header.{Header, header_bytes, locals}
use Rattle.rules.specs.Typing.{Frame, opened, branch_kinds, Types, ordinary, branches, may_branch, opens_block, opens_loop, closes, Opens}
use Rattle.rules.specs.Typing.{block_opens, loop_opens, br_branches, if_branches}
use Rattle.rules.specs.Strip.{Reads, Reaches, front, past}
use Rattle.rules.specs.Around.{Around, around_none, begun, ended, same}
use Rattle.rules.proofs.Typings.{end-untyped, control-untyped}
use Rattle.rules.proofs.Sorts.{opens-control, opens_plain, branches-plain, opens-branches}
use Rattle.rules.proofs.Onward.{reads-once}

-- ---- one list of blocks a place

-- what an instruction of this code before q makes of the blocks around it
data Nests (q : ℕ) : Code → List ℕ → List ℕ → Type 0 where
  one_more : {c : Code} {bs : List ℕ} → Opens c → Nests q c bs (q ∷ bs)
  one_less : {b : ℕ} {bs : List ℕ} → Nests q (plain End) (b ∷ bs) bs
  as_many : {c : Code} {bs : List ℕ} → (Opens c → ⊥) → (c ≡ plain End → ⊥) → Nests q c bs bs

nests-once : {q : ℕ} {c : Code} {bs cs ds : List ℕ} → Nests q c bs cs → Nests q c bs ds → cs ≡ ds
nests-once (one_more o) (one_more o') = refl
nests-once (one_more o) one_less = absurd (opens_plain o refl)
nests-once (one_more o) (as_many f g) = absurd (f o)
nests-once one_less (one_more o) = absurd (opens_plain o refl)
nests-once one_less one_less = refl
nests-once one_less (as_many f g) = absurd (g refl)
nests-once (as_many f g) (one_more o) = absurd (f o)
nests-once (as_many f g) one_less = absurd (g refl)
nests-once (as_many f g) (as_many f' g') = refl

-- from p inside these blocks the instructions lead to q inside those
data Leads (ver : ℕ) (s : List ℕ) : ℕ → List ℕ → ℕ → List ℕ → Type 0 where
  here : {p : ℕ} {bs : List ℕ} → Leads ver s p bs p bs
  next : {p q n : ℕ} {i : Instr} {c : Code} {bs bs' cs : List ℕ} → Reads ver s p i c n → Nests (p + n) c bs bs' → Leads ver s (p + n) bs' q cs
      → Leads ver s p bs q cs

module _ {ver : ℕ} {s : List ℕ} where
  then : {p q n : ℕ} {i : Instr} {c : Code} {bs cs cs' : List ℕ} → Leads ver s p bs q cs → Reads ver s q i c n → Nests (q + n) c cs cs'
      → Leads ver s p bs (q + n) cs'
  then here r t = next r t here
  then (next r t o) r' t' = next r t (then o r' t')

  -- what an instruction makes of the blocks and where, once for both
  same-nests : {p n m : ℕ} {i j : Instr} {c d : Code} {bs cs ds : List ℕ} → Reads ver s p i c n → Reads ver s p j d m → Nests (p + n) c bs cs
      → Nests (p + m) d bs ds → (n ≡ m) × (cs ≡ ds)
  same-nests {p} {n} {c = c} {d} {bs} {ds = ds} r r' t t' =
      let one = reads-once r r' in
      (one.2, nests-once t (subst (λ (x : Code). Nests (p + n) x bs ds) (sym one.1) (subst (λ (x : ℕ). Nests (p + x) d bs ds) (sym one.2) t')))

  compare : {p a b : ℕ} {bs cs ds : List ℕ} → Leads ver s p bs a cs → Leads ver s p bs b ds → Leads ver s a cs b ds ⊎ Leads ver s b ds a cs
  compare here o = inl o
  compare (next r t o) here = inr (next r t o)
  compare {p} {a} {b} {bs} {cs} {ds} (next {bs' = us} r t o) (next {n = m} {bs' = ws} r' t' o') =
      let one = same-nests r r' t t' in
      compare o (subst (λ (x : ℕ). Leads ver s (p + x) us b ds) (sym one.0) (subst (λ (x : List ℕ). Leads ver s (p + m) x b ds) (sym one.1) o'))

  leads-up : {a b : ℕ} {bs cs : List ℕ} → Leads ver s a bs b cs → a ≤ b
  leads-up here = omega arith
  leads-up (next r t o) = omega (arith, leads-up o)

  stays : {a b : ℕ} {bs cs : List ℕ} → Leads ver s a bs b cs → b ≤ a → bs ≡ cs
  stays here l = refl
  stays (next r t o) l = absurd (let z : ⊥ = omega (arith, leads-up o, stands-some r.stands) in z)

from_front : {s : List ℕ} {h : Header} {p : ℕ} {bs : List ℕ} → Around s h p bs → Leads h.version s (length (header_bytes h)) [] p bs
from_front (around_none d) = here
from_front (begun a r o) = then (from_front a) r (one_more o)
from_front (ended a r) = then (from_front a) r one_less
from_front (same a r f g) = then (from_front a) r (as_many f g)

pub around-once : {s : List ℕ} {h : Header} {p : ℕ} {bs cs : List ℕ} → Around s h p bs → Around s h p cs → bs ≡ cs
around-once {s} {h} {p} {bs} {cs} a b = by (compare (from_front a) (from_front b))
  where
    by : Leads h.version s p bs p cs ⊎ Leads h.version s p cs p bs → bs ≡ cs
    by (inl o) = stays o (omega arith)
    by (inr o) = sym (stays o (omega arith))

-- ---- where the bodies begin

-- around the body of each of these blocks are that block and those around it
abbrev pub Bodies : List ℕ → Header → List ℕ → Type 0
Bodies s h [] = Unit {0}
Bodies s h (b ∷ bs) = Around s h b (b ∷ bs) × Bodies s h bs

pub around-bodies : {s : List ℕ} {h : Header} {p : ℕ} {bs : List ℕ} → Around s h p bs → Bodies s h bs
around-bodies (around_none d) = tt
around-bodies (begun a r o) = (begun a r o, around-bodies a)
around-bodies (ended a r) = (around-bodies a).1
around-bodies (same a r f g) = around-bodies a

-- ---- a place that the rules reach

-- these blocks began at these places, each inside the frames around it; the strip itself, around them all, at none
pub data Begun (s : List ℕ) (h : Header) : List Frame → List ℕ → Type 0 where
  strip : {f : Frame} → f.loop ≡ false → f.results ≡ h.results → Begun s h (f ∷ []) []
  block : {f g : Frame} {fs : List Frame} {b : ℕ} {bs : List ℕ} → Reaches s h b (opened f.loop f.results ∷ g ∷ fs) → Begun s h (g ∷ fs) bs
      → Begun s h (f ∷ g ∷ fs) (b ∷ bs)

-- the blocks around a place, and where they began
abbrev pub Known : List ℕ → Header → ℕ → List Frame → Type 0
Known s h p fs = (bs : List ℕ) × Around s h p bs × Begun s h fs bs

module _ {s : List ℕ} {h : Header} where
  -- where a block began is no matter of what it holds
  begun-same : {f : Frame} {fs : List Frame} {bs : List ℕ} (ks : List Kind) (d : Bool) → Begun s h (f ∷ fs) bs
      → Begun s h (record { loop = f.loop; results = f.results; values = ks; dead = d } ∷ fs) bs
  begun-same ks d (strip a b) = strip a b
  begun-same ks d (block r n) = block r n

  -- a block more, around which there is one, or the strip
  begun-inside : {fs : List Frame} {b : ℕ} {bs : List ℕ} (l : Bool) (ks : List Kind) → Reaches s h b (opened l ks ∷ fs) → Begun s h fs bs
      → Begun s h (opened l ks ∷ fs) (b ∷ bs)
  begun-inside l ks r (strip a b) = block r (strip a b)
  begun-inside l ks r (block r' n) = block r (block r' n)

  known_next : {p n : ℕ} {i : Instr} {c : Code} {fs fs' : List Frame} → Reads h.version s p i c n → Types (locals h) i c fs fs' → Reaches s h (p + n) fs'
      → Known s h p fs → Known s h (p + n) fs'
  known_next r (ordinary {outs = outs} {below = below} {f = f} t x) there (bs, a, k) =
      (bs, same a r (λ o. control-untyped t (opens-control o).1) (end-untyped t), begun-same (below ++ outs) f.dead k)
  known_next r (branches l x) there (bs, a, k) = (bs, same a r (λ o. opens-branches o br_branches refl) (branches-plain br_branches), begun-same [] true k)
  known_next r (may_branch {below = below} {f = f} {g = g} l x) there (bs, a, k) =
      (bs, same a r (λ o. opens-branches o if_branches refl) (branches-plain if_branches), begun-same (below ++ branch_kinds g) f.dead k)
  known_next {p} {n} {i} r opens_block there (bs, a, k) = ((p + n) ∷ bs, begun a r block_opens, begun-inside false (block_results i.block) there k)
  known_next {p} {n} {i} r opens_loop there (bs, a, k) = ((p + n) ∷ bs, begun a r loop_opens, begun-inside true (block_results i.block) there k)
  known_next r (closes x) there ([], a, k) = elim k [ ]
  known_next r (closes {f = f} {g = g} x) there (b ∷ bs, a, block r' k) = (bs, ended a r, begun-same (g.values ++ f.results) g.dead k)

  pub around-reached : {p : ℕ} {fs : List Frame} → Reaches s h p fs → Known s h p fs
  around-reached (front d) = ([], around_none d, strip refl refl)
  around-reached (past r q t w) = known_next q t (past r q t w) (around-reached r)
