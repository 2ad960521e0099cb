-- What is asked at a place of the instructions, in 01's order: each line of the card is one rank.
use Prim.Native.Nat.{ℕ, ◌+◌, ◌≤◌, ◌<◌}
use mathlib.Core.Path.{◌≡◌, refl, ap, subst}
use mathlib.Core.List.{List, [], ◌∷◌}
use mathlib.Core.Logic.{◌⊎◌, inl, inr}
use native.Mathlib.Omega.{arith}
use lib.ListN.{length}
use Rattle.limits.specs.Limits.{stack_limit, nest_limit}
use Rattle.opcode.specs.Kind.{Kind}
use Rattle.opcode.specs.Table.{End, Code, plain}
use Rattle.instr.specs.declared.Instr.{Instr}
use Rattle.instr.specs.Refuses.{Refuses}
use Rattle.instr.proofs.Refuses.{stands-refuses}
use Rattle.rules.specs.Header.{Header, locals}
use Rattle.rules.specs.Typing.{Frame, all_values, Target, Local, Types, Names, Opens, Branches, Ends}
use Rattle.rules.specs.Strip.{Reads, Within}
use Rattle.rules.proofs.Ranks.{asked, Kept, none-asked, more, Stop}
use Rattle.rules.proofs.Typings.{types-once}
use Rattle.rules.proofs.Sorts.{opens-control, branches-control, names-control, end-nameless, opens_plain, branches-plain, opens-branches, typed-local}
use Rattle.rules.proofs.Sorts.{typed-label, typed-opens, typed-ends, typed-inner, opens-typed}
use Rattle.rules.proofs.Onward.{only}

module _ (s : List ℕ) (h : Header) (p : ℕ) (fs : List Frame) where
  -- of the instruction that is read
  abbrev pub Every : (Instr → Code → Type 0) → Type 0
  Every P = (i : Instr) (c : Code) (n : ℕ) → Reads h.version s p i c n → P i c

  abbrev pub DeclaredP : Instr → Code → Type 0
  DeclaredP i c = Names c → (k : Kind) × Local (locals h) i.index k

  abbrev pub NestP : Instr → Code → Type 0
  NestP i c = Opens c → length fs ≤ nest_limit

  abbrev pub LabelP : Instr → Code → Type 0
  LabelP i c = Branches c → (g : Frame) × Target fs i.index g

  abbrev pub OperandsP : Instr → Code → Type 0
  OperandsP i c = (c ≡ plain End) ⊎ ((fs' : List Frame) × Types (locals h) i c fs fs')

  abbrev pub ResultsP : Instr → Code → Type 0
  ResultsP i c = c ≡ plain End → Ends fs

  abbrev pub ShallowP : Instr → Code → Type 0
  ShallowP i c = (fs' : List Frame) → Types (locals h) i c fs fs' → length (all_values fs') ≤ stack_limit

  abbrev pub LastP : Instr → Code → Type 0
  LastP i c = (c ≡ plain End) × (length fs ≡ 1)

  abbrev pub Asked : ℕ → Type 0
  Asked =
      asked (
      ((c l : ℕ) → Refuses h.version s p c l → ⊥)  -- it is read
      ∷ Every DeclaredP  -- its local is declared
      ∷ Every NestP  -- it is no block too many
      ∷ Every LabelP  -- its block is there
      ∷ Every OperandsP  -- its operands are there
      ∷ Every ResultsP  -- `end` has the results
      ∷ Every ShallowP  -- not too many values stand after it
      ∷ Every LastP  -- it is the `end` of the strip
      ∷ (p + 1 ≡ length s)  -- nothing follows
      ∷ [])

  -- ---- each line of the card at its rank

  pub unread : {code place : ℕ} → Refuses h.version s p code place → Stop Asked 0
  unread {code} {place} f = record { kept = none-asked Asked; broken = λ q. q code place f }

  module _ {i : Instr} {c : Code} {n : ℕ} (r : Reads h.version s p i c n) where
    read : Kept Asked 1
    read = more Asked 0 (none-asked Asked) (λ code place f. stands-refuses s h.version p r.stands f)

    pub undeclared : Names c → ((k : Kind) → Local (locals h) i.index k → ⊥) → Stop Asked 1
    undeclared names no_local = record { kept = read; broken = λ q. let it = q i c n r names in no_local it.0 it.1 }

    pub too_nested : Opens c → nest_limit < length fs → Stop Asked 2
    too_nested o g =
        record {
          kept = more Asked 1 read (only DeclaredP r (λ names. absurd (names-control names (opens-control o).1)));
          broken = λ q. let few = q i c n r o in omega (arith, few, g);
        }

    pub no_label : Branches c → ((g : Frame) → Target fs i.index g → ⊥) → Stop Asked 3
    no_label b never =
        record {
          kept =
              more Asked 2
              (more Asked 1 read (only DeclaredP r (λ names. absurd (names-control names (branches-control b).1))))
              (only NestP r (λ o. absurd (opens-branches o b refl)));
          broken = λ q. let it = q i c n r b in never it.0 it.1;
        }

    pub missing : (c ≡ plain End → ⊥) → DeclaredP i c → LabelP i c → ((fs' : List Frame) → Types (locals h) i c fs fs' → ⊥) → Stop Asked 4
    missing other declared labelled untyped =
        record {
          kept =
              more Asked 3
              (more Asked 2 (more Asked 1 read (only DeclaredP r declared)) (only NestP r (λ o. let t = opens-typed fs o in absurd (untyped t.0 t.1))))
              (only LabelP r labelled);
          broken = λ q. out (q i c n r);
        }
      where
        out : OperandsP i c → ⊥
        out (inl e) = other e
        out (inr t) = untyped t.0 t.1

    module _ {fs' : List Frame} (t : Types (locals h) i c fs fs') where
      typed-kept : NestP i c → Kept Asked 6
      typed-kept few =
          more Asked 5
          (more Asked 4
          (more Asked 3
          (more Asked 2
          (more Asked 1 read (only DeclaredP r (typed-local t)))
          (only NestP r few))
          (only LabelP r (typed-label t)))
          (only OperandsP r (inr (fs', t))))
          (only ResultsP r (typed-ends t))

      -- the stack was not too deep before it
      pub too_deep : length (all_values fs) ≤ stack_limit → stack_limit < length (all_values fs') → Stop Asked 6
      too_deep few g =
          record {
            kept = typed-kept (λ o. absurd (omega (arith, few, g, ap length (typed-opens t o).1)));
            broken = λ q. let small = q i c n r fs' t in omega arith;
          }

      -- and it is not the last
      pub goes_on : Within fs' → Stop Asked 7
      goes_on w =
          record {
            kept =
                more Asked 6 (typed-kept (λ o. omega (arith, w.blocks, (typed-opens t o).0)))
                (only ShallowP r (λ gs u. subst (λ (x : List Frame). length (all_values x) ≤ stack_limit) (types-once t u) w.values));
            broken = λ q. let it = q i c n r in typed-inner t it.0 it.1;
          }

  module _ {i : Instr} {n : ℕ} (r : Reads h.version s p i (plain End) n) where
    end_kept : Kept Asked 5
    end_kept =
        more Asked 4
        (more Asked 3
        (more Asked 2
        (more Asked 1 (read r) (only DeclaredP r (λ names. absurd (end-nameless names refl))))
        (only NestP r (λ o. absurd (opens_plain o refl))))
        (only LabelP r (λ b. absurd (branches-plain b refl))))
        (only OperandsP r (inl refl))

    pub other-results : (Ends fs → ⊥) → Stop Asked 5
    other-results never = record { kept = end_kept; broken = λ q. never (q i (plain End) n r refl) }

    module _ (one : length fs ≡ 1) (match : Ends fs) where
      last-kept : Kept Asked 8
      last-kept =
          more Asked 7
          (more Asked 6 (more Asked 5 end_kept (only ResultsP r (λ e. match))) (only ShallowP r (λ fs' t. absurd (typed-inner t refl one))))
          (only LastP r (refl, one))

      pub followed : p + 1 < length s → Stop Asked 8
      followed g = record { kept = last-kept; broken = λ q. omega arith }

      pub ends-well : p + 1 ≡ length s → Stop Asked 9
      ends-well e = record { kept = more Asked 8 last-kept e; broken = λ q. q }
