-- What is known at a place has one form in arrays and state: values, words and numbers follow from the frames, and the rest is as it was.
use Prim.Native.Nat.{ℕ, suc, ◌+◌, ◌≤◌}
use mathlib.Core.Path.{◌≡◌, refl, sym, ap, ap₂, subst, ◌∙◌}
use mathlib.Core.Bool.{Bool}
use mathlib.Core.List.{List, [], ◌∷◌, ◌++◌}
use native.Mathlib.Omega.{arith}
use lib.ListN.{length, get_or, take, drop, take-append-drop}
use lib.Seq.{take-suc}
use Rattle.opcode.specs.Kind.{Kind}
use Rattle.rules.specs.Header.{Header}
use Rattle.rules.specs.Typing.{Frame}
use Rattle.rules.specs.Strip.{Reaches}
use Rattle.rules.proofs.Headers.{declares-once}
use Rattle.rules.proofs.Onward.{declared, reached-once}
use Rattle.instr.specs.Layout.{Stands}
use Rattle.instr.proofs.Stands.{stands-once}
use Rattle.checker.specs.declared.turns.State.{State}
use Rattle.checker.specs.Walk.{word, OpenBlocks, strip, block, Framed, Walks, Goes, over, on, Steps}
use Rattle.checker.proofs.Held.{held-front}
use Rattle.checker.proofs.Words.{type-once}
use Rattle.checker.proofs.Nests.{nested-many}
use Rattle.checker.proofs.Ahead.{reached-inside}

-- ---- the words

record Same-words (b b' : List ℕ) (n n' l l' : ℕ) (d d' : Bool) : Type 0 where
  nest : n ≡ n'
  floor : l ≡ l'
  dead : d ≡ d'
  words : take n b ≡ take n' b'

nested-once : {rs : List Kind} {b b' : List ℕ} {n n' l l' : ℕ} {d d' : Bool} {fs : List Frame} → OpenBlocks rs b n l d fs → OpenBlocks rs b' n' l' d' fs → n ≤ length b → n' ≤ length b'
    → Same-words b b' n n' l l' d d'
nested-once (strip p r) (strip p' r') m m' = record { nest = refl; floor = refl; dead = refl; words = refl }
nested-once {b = b} {b'} (block t {nest = n} {dead = d} {f = f} x w is r) (block t' {nest = n'} {floor = l'} x' w' is' r') m m' =
    let same = nested-once x x' (omega arith) (omega arith) in
    let type : t ≡ t' = type-once t t' is is' (sym r ∙ r') in
    let one : get_or b n 0 ≡ get_or b' n' 0 =
    w ∙ ap₂ (λ (a : ℕ) (y : ℕ). word a y f.loop d) same.floor type ∙ ap (word l' t' f.loop) same.dead ∙ sym w' in
    record {
      nest = ap suc same.nest;
      floor = refl;
      dead = refl;
      words = take-suc b n 0 (omega arith) ∙ ap₂ (λ (xs : List ℕ) (a : ℕ). xs ++ a ∷ []) same.words one ∙ sym (take-suc b' n' 0 (omega arith));
    }

-- ---- arrays with the same front, which are as they were beyond it
filled : (before : List ℕ) {xs ys : List ℕ} {n m : ℕ} → n ≡ m → take n xs ≡ take m ys → drop n xs ≡ drop n before → drop m ys ≡ drop m before → xs ≡ ys
filled before {xs} {ys} {n} {m} e front rest rest' =
    sym (take-append-drop n xs) ∙ ap₂ ◌++◌ front (rest ∙ ap (λ (k : ℕ). drop k before) e ∙ sym rest') ∙ take-append-drop m ys

-- ---- the walk

same-state : (a b : State) → a.depth ≡ b.depth → a.nest ≡ b.nest → a.floor ≡ b.floor → a.dead ≡ b.dead → a ≡ b
same-state a b d n f e =
    ap₂ (λ (x y : ℕ). record { depth = x; nest = y; floor = a.floor; dead = a.dead }) d n
    ∙ ap₂ (λ (x : ℕ) (y : Bool). record { depth = b.depth; nest = b.nest; floor = x; dead = y }) f e

module _ {s : List ℕ} where
  pub same-header : {p q : ℕ} {k k' b b' : List ℕ} {st st' : State} (w : Walks s p k b st) (v : Walks s q k' b' st') → v.valid.header ≡ w.valid.header
  same-header w v = declares-once s v.valid.header w.valid.header (declared v.reached) (declared w.reached)

  pub same-frames : {p : ℕ} {k k' b b' : List ℕ} {st st' : State} (w : Walks s p k b st) (v : Walks s p k' b' st') → v.frames ≡ w.frames
  same-frames {p} w v = reached-once (subst (λ (h : Header). Reaches s h p v.frames) (same-header w v) v.reached) w.reached

  module _ {p : ℕ} {k k' b b' : List ℕ} {st st' : State} (w : Walks s p k b st) (v : Walks s p k' b' st') where
    as_first : Framed w.valid.header.results k' b' st'.depth st'.nest st'.floor st'.dead w.frames
    as_first =
        subst (λ (x : List Frame). Framed w.valid.header.results k' b' st'.depth st'.nest st'.floor st'.dead x) (same-frames w v)
        (subst (λ (x : Header). Framed x.results k' b' st'.depth st'.nest st'.floor st'.dead v.frames) (same-header w v) v.framed)

    known-once : (kinds blocks : List ℕ) → drop st.depth k ≡ drop st.depth kinds → drop st'.depth k' ≡ drop st'.depth kinds
        → drop st.nest b ≡ drop st.nest blocks → drop st'.nest b' ≡ drop st'.nest blocks
        → (k ≡ k') × (b ≡ b') × (st ≡ st')
    known-once kinds blocks kept kept' left left' =
        let f = w.framed in
        let g = as_first in
        let depth : st.depth ≡ st'.depth = sym f.holds.many ∙ g.holds.many in
        let x = nested-once f.nested g.nested (omega (arith, nested-many f.nested, f.within.blocks, w.blocks_long))
        (omega (arith, nested-many g.nested, g.within.blocks, v.blocks_long)) in (
          filled kinds depth (held-front f.holds ∙ sym (held-front g.holds)) kept kept',
          filled blocks x.nest x.words left left',
          same-state st st' depth x.nest x.floor x.dead,
        )

  goes-once : {p : ℕ} {kinds k k' blocks b b' : List ℕ} {st a a' : State} → Goes s p kinds blocks st k b a → Goes s p kinds blocks st k' b' a' → (k ≡ k') × (b ≡ b') × (a ≡ a')
  goes-once (over e) (over f) = (refl, refl, refl)
  goes-once (over e) (on v kept left) = absurd (let z : ⊥ = omega (arith, e, reached-inside v.valid v.reached) in z)
  goes-once (on w kept left) (over e) = absurd (let z : ⊥ = omega (arith, e, reached-inside w.valid w.reached) in z)
  goes-once {kinds = kinds} {blocks = blocks} (on w kept left) (on v kept' left') = known-once w v kinds blocks kept kept' left left'

  pub step-instr : {p : ℕ} {kinds k k' blocks b b' : List ℕ} {st a a' : State} (x : Steps s p kinds blocks st k b a) (y : Steps s p kinds blocks st k' b' a')
      → (x.instr ≡ y.instr) × (x.size ≡ y.size)
  step-instr {p} x y =
      stands-once x.before.valid.header.version s p x.instr y.instr x.size y.size x.stands
      (subst (λ (h : Header). Stands h.version s p y.instr y.size) (same-header x.before y.before) y.stands)

  pub steps-once : {p : ℕ} {kinds k k' blocks b b' : List ℕ} {st a a' : State} → Steps s p kinds blocks st k b a → Steps s p kinds blocks st k' b' a' → (k ≡ k') × (b ≡ b') × (a ≡ a')
  steps-once {p} {kinds} {k' = k'} {blocks} {b' = b'} {st} {a' = a'} x y =
      goes-once x.goes (subst (λ (n : ℕ). Goes s (p + n) kinds blocks st k' b' a') (sym (step-instr x y).1) y.goes)
