-- A strip that keeps the rules: every block that is open at a place is closed after it, and there the block around it goes on with the results.
use Prim.Native.Nat.{ℕ, zero, suc, ◌+◌, ◌-◌, ◌≤◌}
use mathlib.Core.Path.{◌≡◌, refl, ap, sym, ◌∙◌, subst}
use mathlib.Core.Bool.{Bool, cond}
use mathlib.Core.List.{List, [], ◌∷◌, ◌++◌}
use mathlib.Core.Logic.{⊎_elim}
use mathlib.Core.Option.{some}
use native.Mathlib.Omega.{arith}
use lib.ListN.{length}
use Rattle.limits.specs.Limits.{nest_limit}
use Rattle.opcode.specs.Kind.{Kind}
use Rattle.opcode.specs.Table.{End, Code, plain, control, vector}
use Rattle.instr.specs.declared.Instr.{Instr}
use Rattle.rules.specs.Header.{Header, locals}
use Rattle.rules.specs.Typing.{Frame, holding, Typed, Types, ordinary, branches, may_branch, opens_block, opens_loop, closes, Ends}
use Rattle.rules.specs.Strip.{Reads, Within, Reaches, past, Valid}
use Rattle.rules.proofs.Typings.{end-untyped, control-untyped}
use Rattle.rules.proofs.Sorts.{typed-inner}
use Rattle.rules.proofs.Onward.{Onward, here, next, from_front, reads-once, compare, reached-within}
use Rattle.standard.specs.Closing.{role, opener, closer, neither, Closes, closed, goes_on as on-with, over_block, close}
use Rattle.standard.specs.Inner.{ClosesIn, closed_in, goes_on_in, over_block_in}
use Rattle.standard.proofs.Steps.{not_end}
use Rattle.standard.proofs.Closings.{closes-found}

-- ---- what stands at a place

pub data Next (s : List ℕ) (h : Header) (p : ℕ) : List Frame → Type 0 where
  last : {f : Frame} {i : Instr} → Reads h.version s p i (plain End) 1 → Ends (f ∷ []) → Next s h p (f ∷ [])
  goes_on : {n : ℕ} {i : Instr} {c : Code} {fs fs' : List Frame} → Reads h.version s p i c n → Types (locals h) i c fs fs' → Within fs' → Next s h p fs

before-end : {s : List ℕ} {h : Header} {p q : ℕ} {fs : List Frame} {f : Frame} {i : Instr} → Reads h.version s q i (plain End) 1 → Ends (f ∷ [])
    → Onward s h p fs q (f ∷ []) → Next s h p fs
before-end r e here = last r e
before-end r e (next r' t w o) = goes_on r' t w

-- past the strip's `end` nothing is reached
past_end : {s : List ℕ} {h : Header} {p q : ℕ} {fs : List Frame} {f : Frame} {i : Instr} → Reads h.version s q i (plain End) 1
    → Onward s h q (f ∷ []) p fs → Onward s h p fs q (f ∷ [])
past_end r here = here
past_end r (next r' t w o) = absurd (typed-inner t (reads-once r' r).1 refl)

-- the way to the strip's `end`
pub to_end : {s : List ℕ} (v : Valid s) {p : ℕ} {fs : List Frame} → Reaches s v.header p fs → Onward s v.header p fs v.place (v.strip ∷ [])
to_end v reached = ⊎_elim (λ o. o) (past_end v.ends) (compare (from_front reached) (from_front v.reached))

pub what-next : {s : List ℕ} (v : Valid s) {p : ℕ} {fs : List Frame} → Reaches s v.header p fs → Next s v.header p fs
what-next v reached = before-end v.ends v.whole (to_end v reached)

-- ---- blocks are closed

-- the room that is left to the blocks inside: 32 may be open, and the strip
abbrev pub Room : List Frame → ℕ → Type 0
Room fs room = room + length fs ≡ 1 + nest_limit

-- the end of each block in s, and in t, which has the same codes at the same places
data Unwinds (s t : List ℕ) (h : Header) : ℕ → List Frame → Type 0 where
  none_open : {p : ℕ} → Unwinds s t h p []
  strip-only : {p : ℕ} {f : Frame} → Unwinds s t h p (f ∷ [])
  unwinds : {p m : ℕ} {f g : Frame} {fs : List Frame}
      → ((room : ℕ) → Room (f ∷ g ∷ fs) room → ClosesIn h.version s room p m × ClosesIn h.version t room p m)
      → Reaches s h m (holding g (g.values ++ f.results) ∷ fs) → Unwinds s t h m (holding g (g.values ++ f.results) ∷ fs) → Unwinds s t h p (f ∷ g ∷ fs)

ordinary-role : {ls ins outs : List Kind} {n : ℕ} (c : Code) → Typed ls n c ins outs → role c ≡ neither
ordinary-role (plain p) t = ap (λ (b : Bool). cond b closer neither) (not_end p (end-untyped t))
ordinary-role (control k) t = absurd (control-untyped t refl)
ordinary-role (vector o) t = refl

-- at every place that s reaches, t has an instruction of the same code and length
pub record Codes (s t : List ℕ) (h : Header) : Type 0 where
  pub reads : {p n : ℕ} {i : Instr} {c : Code} {fs : List Frame} → Reaches s h p fs → Reads h.version s p i c n → (j : Instr) × Reads h.version t p j c n

same_codes : {s : List ℕ} {h : Header} → Codes s s h
same_codes = record { reads = λ {i = i} reached r. (i, r) }

module _ {s t : List ℕ} {h : Header} (codes : Codes s t h) where
  -- an instruction that leaves the blocks as they are
  skip : {p n : ℕ} {i j : Instr} {c : Code} {f f' : Frame} {fs : List Frame} → Reads h.version s p i c n → Reads h.version t p j c n → role c ≡ neither
      → f'.results ≡ f.results → Unwinds s t h (p + n) (f' ∷ fs) → Unwinds s t h p (f ∷ fs)
  skip r r' e same strip-only = strip-only
  skip {f = f} {f'} r r' e same (unwinds {m = m} {g = g} {fs} c reached u) =
      unwinds (λ room k. (goes_on_in r e (c room k).0, goes_on_in r' e (c room k).1))
      (subst (λ (x : List Kind). Reaches s h m (holding g (g.values ++ x) ∷ fs)) same reached)
      (subst (λ (x : List Kind). Unwinds s t h m (holding g (g.values ++ x) ∷ fs)) same u)

  -- one that opens a block, which is closed first
  skip_block : {p n : ℕ} {i j : Instr} {c : Code} {o : Frame} {fs : List Frame} → Reads h.version s p i c n → Reads h.version t p j c n → role c ≡ opener
      → length (o ∷ fs) ≤ 1 + nest_limit → Unwinds s t h (p + n) (o ∷ fs) → Unwinds s t h p fs
  skip_block r r' e few strip-only = none_open
  skip_block r r' e few (unwinds c reached strip-only) = strip-only
  skip_block {p} {n} {o = o} r r' e few (unwinds {m = m} {g = f} c reached (unwinds {m = q} {g = g} {fs = fs} c' reached' u)) =
      unwinds {m = q} {f = f} {g = g} {fs = fs} (λ room k. by room k (room-left room k)) reached' u
    where
      room-left : (room : ℕ) → Room (f ∷ g ∷ fs) room → room ≡ 0 → ⊥
      room-left room k l = omega (arith, l, few, k)

      by : (room : ℕ) → Room (f ∷ g ∷ fs) room → (room ≡ 0 → ⊥) → ClosesIn h.version s room p q × ClosesIn h.version t room p q
      by zero k not_None = absurd (not_None refl)
      by (suc room) k not_None =
          let a = c room (omega (arith, k)) in let b = c' (suc room) k in (over_block_in r e a.0 b.0, over_block_in r' e a.1 b.1)

  winds : {p n : ℕ} {i : Instr} {c : Code} {fs fs' : List Frame} → Reaches s h p fs → Reads h.version s p i c n → Types (locals h) i c fs fs' → Within fs'
      → Unwinds s t h (p + n) fs' → Unwinds s t h p fs
  winds {c = c} reached r (ordinary x y) w u = skip r (codes.reads reached r).1 (ordinary-role c x) refl u
  winds reached r (branches l x) w u = skip r (codes.reads reached r).1 refl refl u
  winds reached r (may_branch l x) w u = skip r (codes.reads reached r).1 refl refl u
  winds reached r opens_block w u = skip_block r (codes.reads reached r).1 refl w.blocks u
  winds reached r opens_loop w u = skip_block r (codes.reads reached r).1 refl w.blocks u
  winds reached r (closes x) w u = unwinds (λ room k. (closed_in r refl, closed_in (codes.reads reached r).1 refl)) (past reached r (closes x) w) u

  unwind : {p q : ℕ} {fs : List Frame} {f : Frame} → Onward s h p fs q (f ∷ []) → Reaches s h p fs → Unwinds s t h p fs
  unwind here reached = strip-only
  unwind {p} {q} (next {n = n} r x w o) reached = winds reached r x w (unwind o (past reached r x w))

-- with any room
pub any-room : {ver : ℕ} {s : List ℕ} {room p q : ℕ} → ClosesIn ver s room p q → Closes ver s p q
any-room (closed_in r e) = closed r e
any-room (goes_on_in r e c) = on-with r e (any-room c)
any-room (over_block_in r e c c') = over_block r e (any-room c) (any-room c')

-- the place after its `end`
pub record Left (s : List ℕ) (h : Header) (p : ℕ) (f g : Frame) (fs : List Frame) : Type 0 where
  pub place : ℕ
  pub with-room : (room : ℕ) → Room (f ∷ g ∷ fs) room → ClosesIn h.version s room p place
  pub closes-there : Closes h.version s p place
  pub found : close h.version s p ≡ some place
  pub reached : Reaches s h place (holding g (g.values ++ f.results) ∷ fs)

-- by the room that is left
left-room : (fs : List Frame) → length fs ≤ 1 + nest_limit → Room fs (1 + nest_limit - length fs)
left-room fs few = omega (arith, few)

left_by : {s : List ℕ} {h : Header} {p : ℕ} {f g : Frame} {fs : List Frame} → length (f ∷ g ∷ fs) ≤ 1 + nest_limit → Unwinds s s h p (f ∷ g ∷ fs)
    → Left s h p f g fs
left_by {s} {h} {f = f} {g} {fs} few (unwinds {m = m} c reached u) =
    let there = any-room (c (1 + nest_limit - length (f ∷ g ∷ fs)) (left-room (f ∷ g ∷ fs) few)).0 in
    record { place = m; with-room = λ room k. (c room k).0; closes-there = there; found = closes-found h.version s there; reached = reached }

same_by : {s t : List ℕ} {h : Header} {p : ℕ} {f g : Frame} {fs : List Frame} → length (f ∷ g ∷ fs) ≤ 1 + nest_limit → Unwinds s t h p (f ∷ g ∷ fs)
    → close h.version t p ≡ close h.version s p
same_by {s} {t} {h} {f = f} {g} {fs} few (unwinds {m = m} c reached u) =
    let there = c (1 + nest_limit - length (f ∷ g ∷ fs)) (left-room (f ∷ g ∷ fs) few) in
    closes-found h.version t (any-room there.1) ∙ sym (closes-found h.version s (any-room there.0))

module _ {s : List ℕ} (v : Valid s) {p : ℕ} {f g : Frame} {fs : List Frame} (reached : Reaches s v.header p (f ∷ g ∷ fs)) where
  -- EVERY FORWARD BRANCH FINDS ITS END
  pub finds-end : Left s v.header p f g fs
  finds-end = left_by (reached-within reached).blocks (unwind same_codes (to_end v reached) reached)

  -- the same in a strip of the same codes
  pub same_end : {t : List ℕ} → Codes s t v.header → close v.header.version t p ≡ close v.header.version s p
  same_end codes = same_by (reached-within reached).blocks (unwind codes (to_end v reached) reached)
