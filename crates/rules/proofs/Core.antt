-- A strip that keeps the rules passes Core's validation, and one that passes it is turned away only for a limit that Core has not: 14 or 17.
use Prim.Native.Nat.{ℕ, ◌+◌, ◌≤◌, ◌<◌}
use mathlib.Core.Path.{refl}
use mathlib.Core.List.{List, [], ◌∷◌}
use mathlib.Core.Logic.{◌⊎◌, inl, inr, ⊎_elim}
use native.Mathlib.Omega.{arith}
use lib.ListN.{length}
use Rattle.limits.specs.Limits.{stack_limit, nest_limit}
use Rattle.opcode.specs.Kind.{Kind}
use Rattle.opcode.specs.Table.{Code}
use Rattle.opcode.proofs.Every.{below-or-past}
use Rattle.instr.specs.declared.Instr.{Instr}
use Rattle.rules.specs.Header.{Header, locals}
use Rattle.rules.specs.Typing.{Frame, all_values, Types, ordinary, branches, may_branch, opens_block, opens_loop, closes, Opens, block_opens, loop_opens}
use Rattle.rules.specs.Strip.{Reads, Reaches, front, past, Valid}
use Rattle.rules.specs.Breach.{At, deep, nest}
use Rattle.rules.specs.Core.{AllFill, none, each, Passes, from_front, one_more, CoreValid, Typable, Allows, PastLimit, too_deep, too_nested}
use Rattle.rules.proofs.Sorts.{typed-opens}
use Rattle.rules.proofs.Onward.{reached-within}
use Rattle.rules.proofs.Filling.{filled, fresh}
use Rattle.rules.proofs.Dead.{dead-taken, dead-given, ends-taken, ends-given}

-- ---- what the rules reach, Core does

pub core-passes : {s : List ℕ} {h : Header} {p : ℕ} {fs gs : List Frame} → Reaches s h p fs → AllFill fs gs → Passes s h p gs
core-passes (front d) (each w none) = rw (fresh w) (from_front d)
core-passes (past reached r t w) fill = let k = dead-given t fill in one_more (core-passes reached k.fill) r k.allowed

-- ---- what Core passes, the rules reach, or a limit is broken before

pub record Reached (s : List ℕ) (h : Header) (p : ℕ) (gs : List Frame) : Type 0 where
  pub frames : List Frame
  pub reached : Reaches s h p frames
  pub fill : AllFill frames gs

-- one block more is one that is begun
grows : {ls : List Kind} {i : Instr} {c : Code} {fs fs' : List Frame} {m : ℕ} → Types ls i c fs fs' → length fs ≤ m → m < length fs' → Opens c
grows (ordinary t x) few many = absurd (let z : ⊥ = omega arith in z)
grows (branches l x) few many = absurd (let z : ⊥ = omega arith in z)
grows (may_branch l x) few many = absurd (let z : ⊥ = omega arith in z)
grows opens_block few many = block_opens
grows opens_loop few many = loop_opens
grows (closes x) few many = absurd (let z : ⊥ = omega arith in z)

after_one : {s : List ℕ} {h : Header} {p n : ℕ} {i : Instr} {c : Code} {gs gs' : List Frame} → Reached s h p gs → Reads h.version s p i c n
    → Allows (locals h) i c gs gs'
    → Reached s h (p + n) gs' ⊎ PastLimit s
after_one {s} {h} {p} {n} {i} {c} {gs} {gs'} it r a =
    by (below-or-past (2 + nest_limit) (length t.after)) (below-or-past (1 + stack_limit) (length (all_values t.after)))
  where
    t : Typable (locals h) i c it.frames gs'
    t = dead-taken it.fill a

    at : At s h p it.frames i c
    at = record { reached = it.reached; size = n; reads = r }

    by : (length t.after < 2 + nest_limit) ⊎ (2 + nest_limit ≤ length t.after)
        → (length (all_values t.after) < 1 + stack_limit) ⊎ (1 + stack_limit ≤ length (all_values t.after))
        → Reached s h (p + n) gs' ⊎ PastLimit s
    by (inl b) (inl v) =
        inl (record {
          frames = t.after;
          reached = past it.reached r t.typed (record { blocks = omega (arith, b); values = omega (arith, v) });
          fill = t.fill;
        })
    by (inl b) (inr v) = inr (too_deep (deep at t.typed (omega (arith, v))))
    by (inr b) v =
        let o = grows t.typed (reached-within it.reached).blocks (omega (arith, b)) in
        inr (too_nested (nest at o (omega (arith, b, (typed-opens t.typed o).0))))

pub core-reached : {s : List ℕ} {h : Header} {p : ℕ} {gs : List Frame} → Passes s h p gs → Reached s h p gs ⊎ PastLimit s
core-reached (from_front d) = inl (record { frames = _; reached = front d; fill = each (filled [] (λ l. refl)) none })
core-reached (one_more p r a) = ⊎_elim (λ it. after_one it r a) inr (core-reached p)

-- ---- the strip

pub core-valid : {s : List ℕ} → Valid s → CoreValid s
core-valid v =
    let k = ends-given v.whole in
    record {
      header = v.header;
      place = v.place;
      strip = k.0;
      final = v.final;
      passes = core-passes v.reached (each k.1 none);
      ends = v.ends;
      whole = k.2;
      last = v.last;
    }

pub valid-core : {s : List ℕ} → CoreValid s → Valid s ⊎ PastLimit s
valid-core {s} v = ⊎_elim (λ it. inl (by it.reached it.fill)) inr (core-reached v.passes)
  where
    by : {fs : List Frame} → Reaches s v.header v.place fs → AllFill fs (v.strip ∷ []) → Valid s
    by reached (each {f = f} w none) =
        record {
          header = v.header;
          place = v.place;
          strip = f;
          final = v.final;
          reached = reached;
          ends = v.ends;
          whole = ends-taken w v.whole;
          last = v.last;
        }
