-- A strip of version 1 is typed as before C-13: the relation of version 1 and that of all versions say the same of it.
use Prim.Native.Nat.{ℕ, ◌+◌, ◌≤◌}
use mathlib.Core.Path.{◌≡◌, refl, ap, sym, ◌∙◌, subst}
use mathlib.Core.Bool.{false}
use mathlib.Core.List.{List, [], ◌∷◌, ◌++◌}
use native.Mathlib.Omega.{arith}
use lib.ListN.{length}
use Rattle.limits.specs.Limits.{stack_limit}
use Rattle.opcode.specs.Kind.{Kind}
use Rattle.opcode.specs.Table.{Control, Code, control, carried}
use Rattle.opcode.proofs.Versions.{one-straight}
use Rattle.instr.specs.declared.Instr.{Instr}
use Rattle.instr.specs.Layout.{row_in}
use Rattle.rules.specs.Header.{Header, locals}
use Rattle.rules.specs.Typing.{Frame, opened, holding, all_values, Has, all_known, any, Types, ordinary, branches, may_branch, opens_block, opens_loop}
use Rattle.rules.specs.Typing.{closes}
use Rattle.rules.specs.Strip.{Reads, Within, Reaches, front, past}
use Rattle.rules.specs.One.{ReachesOne, front_one, past_one, alone, Straight}

module _ (s : List ℕ) (h : Header) (old : h.version ≡ 1) where
  no-control : {p n : ℕ} {i : Instr} {k : Code} {x : Control} → Reads h.version s p i k n → k ≡ control x → ⊥
  no-control {i = i} {x = x} r e = one-straight i.first i.number x (ap (λ (v : ℕ). row_in v i) (sym old) ∙ r.does ∙ ap carried e)

  had_by : {f : Frame} {κs below ins : List Kind} → f ≡ holding (opened false h.results) κs → Has f below ins → κs ≡ below ++ ins
  had_by whole (all_known q) = sym (ap (λ (g : Frame). g.values) whole) ∙ q
  had_by whole (any u d q) = absurd (let z : ◌≡◌ {A = ℕ} 0 1 = cc (d, ap (λ (g : Frame). g.dead) whole) in omega arith)

  -- one instruction
  onward : {p n : ℕ} {i : Instr} {c : Code} {κs : List Kind} {fs fs' : List Frame} → ReachesOne s h p κs → Reads h.version s p i c n
      → Types (locals h) i c fs fs'
      → Within fs' → fs ≡ alone h κs → Straight s h (p + n) fs'
  onward {κs = κs} reached r (ordinary {ins = ins} {outs} {below} {f} {fs} t x) w e =
      let whole : f ≡ holding (opened false h.results) κs = cc (e) in
      let none : fs ≡ [] = cc (e) in
      record {
        stack = below ++ outs;
        one =
            ap (λ (g : Frame). holding g (below ++ outs) ∷ fs) whole ∙ ap (λ (gs : List Frame). holding (opened false h.results) (below ++ outs) ∷ gs) none;
        reached =
            past_one reached r (record { below = below; ins = ins; outs = outs; typed = t; had = had_by whole x; has = refl })
            (subst (λ (gs : List Frame). length (all_values gs ++ (below ++ outs)) ≤ stack_limit) none w.values);
      }
  onward reached r (branches l x) w e = absurd (no-control r refl)
  onward reached r (may_branch l x) w e = absurd (no-control r refl)
  onward reached r opens_block w e = absurd (no-control r refl)
  onward reached r opens_loop w e = absurd (no-control r refl)
  onward reached r (closes x) w e = absurd (let z : ◌≡◌ {A = ℕ} 0 1 = cc (e) in omega arith)

  -- VERSION 1 AS BEFORE
  pub one-reaches : {p : ℕ} {fs : List Frame} → Reaches s h p fs → Straight s h p fs
  one-reaches (front d) = record { stack = []; one = refl; reached = front_one d }
  one-reaches (past reached r t w) = let u = one-reaches reached in onward u.reached r t w u.one

  pub reaches-one : {p : ℕ} {κs : List Kind} → ReachesOne s h p κs → Reaches s h p (alone h κs)
  reaches-one (front_one d) = front d
  reaches-one (past_one {p = p} {n = n} {κs = κs} {κs'} reached r t l) =
      subst (λ (ks : List Kind). Reaches s h (p + n) (alone h ks)) (sym t.has)
      (past (reaches-one reached) r (ordinary {below = t.below} {f = holding (opened false h.results) κs} t.typed (all_known t.had))
      (record { blocks = omega arith; values = subst (λ (ks : List Kind). length ks ≤ stack_limit) t.has l }))
