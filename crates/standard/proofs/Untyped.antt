-- Not typed by the rules, stuck in the standard's machine, which reads no rule: a local that is not declared, an operand that is not there, other
-- values than the results at `end`.
use Prim.Native.Nat.{ℕ, ◌<◌}
use mathlib.Core.Path.{◌≡◌, refl, ap, sym, ◌∙◌, subst}
use mathlib.Core.List.{List, [], ◌∷◌, ◌++◌, map, reverse, reverse-append, reverse-reverse}
use mathlib.Core.Bool.{Bool, true, false, cond}
use mathlib.Core.Option.{some}
use lib.Dec.{eqb, ltb}
use lib.ListN.{length, get_or}
use borrow.Author.Tests.{ltb-true, eqb-true}
use Rattle.opcode.specs.Kind.{Kind, i32, i64, kind_byte}
use Rattle.opcode.specs.Table.{End, Drop, LocalGet, LocalSet, LocalTee, I32Const, I64Const, I32Add, I32Sub, I32Eqz, I32LtU, Code, plain, control, vector}
use Rattle.opcode.specs.Effect.{Signature, ◌⇒◌, takes, leaves, signature, effect}
use Rattle.opcode.proofs.Effects.{kind-once}
use Rattle.instr.specs.declared.Instr.{Instr}
use Rattle.machine.specs.Value.{Value, I32, kind_of}
use Rattle.machine.specs.Exec.{State, Outcome, done, stuck, pop_any, local, alike, of_kinds, exec}
use Rattle.rules.specs.Typing.{Local, Typed, by_signature, dropped, got, set, teed, Names, get_names, set_names, tee_names}
use Rattle.standard.proofs.ValueKinds.{kind_at, fit-kinds}
use Rattle.standard.proofs.Operands.{Or, has, halts, all, or-number, or-numbers, or-vector}

signed_by : (s : Signature) → s ≡ takes s ⇒ leaves s
signed_by (ks ⇒ ls) = refl

any-stuck : (vs : List Value) (f : Value → List Value → Outcome) → ((v : Value) (ws : List Value) → vs ≡ v ∷ ws → f v ws ≡ stuck) → pop_any vs f ≡ stuck
unfolding pop_any
any-stuck [] f next = refl
any-stuck (v ∷ vs) f next = next v vs refl

-- a value of another kind than the local's
alike-stuck : (v w : Value) (o : Outcome) → (kind_of v ≡ kind_of w → ⊥) → alike v w o ≡ stuck
unfolding alike
alike-stuck v w o never = at (eqb (kind_byte (kind_of v)) (kind_byte (kind_of w))) refl
  where
    at : (t : Bool) → eqb (kind_byte (kind_of v)) (kind_byte (kind_of w)) ≡ t → cond t o stuck ≡ stuck
    at true q = absurd (never (kind-once (eqb-true (kind_byte (kind_of v)) (kind_byte (kind_of w)) q)))
    at false q = refl

pub local-stuck : (σ : State) (n : ℕ) (f : Value → Outcome) → (n < length σ.locals → f (get_or σ.locals n (I32 0)) ≡ stuck) → local σ n f ≡ stuck
unfolding local
local-stuck σ n f next = at (ltb n (length σ.locals)) refl
  where
    at : (t : Bool) → ltb n (length σ.locals) ≡ t → cond t (f (get_or σ.locals n (I32 0))) stuck ≡ stuck
    at true q = next (ltb-true n (length σ.locals) q)
    at false q = refl

module _ (rs : List Kind) (i : Instr) (σ : State) (ls : List Kind) (held : map kind_of σ.locals ≡ ls) (κs : List Kind) (stacked : map kind_of σ.stack ≡ reverse κs) where
  abbrev named_value : Value
  named_value = get_or σ.locals i.index (I32 0)

  -- a local that has a value is declared, with the value's kind
  kind-of : i.index < length σ.locals → Local ls i.index (kind_of named_value)
  kind-of l = subst (λ (x : List Kind). Local x i.index (kind_of named_value)) held (kind_at σ.locals i.index l)

  -- ---- 12: a local that is not declared

  pub undeclared-stuck : (c : Code) → Names c → ((k : Kind) → Local ls i.index k → ⊥) → exec rs c i σ ≡ stuck
  undeclared-stuck (plain LocalGet) get_names never = local-stuck σ i.index _ (λ l. absurd (never _ (kind-of l)))
  undeclared-stuck (plain LocalSet) set_names never = any-stuck σ.stack _ (λ v st e. local-stuck σ i.index _ (λ l. absurd (never _ (kind-of l))))
  undeclared-stuck (plain LocalTee) tee_names never = any-stuck σ.stack _ (λ v st e. local-stuck σ i.index _ (λ l. absurd (never _ (kind-of l))))
  undeclared-stuck (plain End) names never = elim names [ ]
  undeclared-stuck (plain Drop) names never = elim names [ ]
  undeclared-stuck (plain I32Const) names never = elim names [ ]
  undeclared-stuck (plain I64Const) names never = elim names [ ]
  undeclared-stuck (plain I32Add) names never = elim names [ ]
  undeclared-stuck (plain I32Sub) names never = elim names [ ]
  undeclared-stuck (plain I32Eqz) names never = elim names [ ]
  undeclared-stuck (plain I32LtU) names never = elim names [ ]
  undeclared-stuck (control _) names never = elim names [ ]
  undeclared-stuck (vector _) names never = elim names [ ]

  -- ---- 13: an operand is missing or of another kind

  abbrev pub Untyped : Code → Type 0
  Untyped c = (below ins outs : List Kind) → Typed ls i.index c ins outs → κs ≡ below ++ ins → ⊥

  -- with these kinds on top they are there by the rules
  had : (ins rest : List Kind) → map kind_of σ.stack ≡ reverse ins ++ rest → κs ≡ reverse rest ++ ins
  had ins rest e =
      sym (reverse-reverse κs) ∙ ap reverse (sym stacked ∙ e) ∙ reverse-append (reverse ins) rest ∙ ap (λ (x : List Kind). reverse rest ++ x) (reverse-reverse ins)

  no-types : {c : Code} (ins outs rest : List Kind) → Untyped c → Typed ls i.index c ins outs → map kind_of σ.stack ≡ reverse ins ++ rest → ⊥
  no-types ins outs rest never t e = never (reverse rest) ins outs t (had ins rest e)

  or-stuck : {c : Code} {o : Outcome} (ins outs : List Kind) → effect c ≡ some (ins ⇒ outs) → Untyped c → Or (reverse ins) σ.stack o → o ≡ stuck
  or-stuck ins outs e never (has rest f) = absurd (no-types ins outs rest never (by_signature e) f)
  or-stuck ins outs e never (halts f) = f

  -- the top value is of the local's kind
  top-kind : (v : Value) (st : List Value) → σ.stack ≡ v ∷ st → kind_of v ≡ kind_of named_value → map kind_of σ.stack ≡ kind_of named_value ∷ map kind_of st
  top-kind v st e same = ap (map kind_of) e ∙ ap (λ (k : Kind). k ∷ map kind_of st) same

  pub untyped-stuck : (c : Code) → (c ≡ plain End → ⊥) → (Names c → (k : Kind) × Local ls i.index k) → Untyped c → exec rs c i σ ≡ stuck
  untyped-stuck (plain End) other declared never = absurd (other refl)
  untyped-stuck (plain Drop) other declared never =
      any-stuck σ.stack _ (λ v st e. absurd (no-types (kind_of v ∷ []) [] (map kind_of st) never dropped (ap (map kind_of) e)))
  untyped-stuck (plain LocalGet) other declared never =
      let l = declared get_names in absurd (no-types [] (l.0 ∷ []) (map kind_of σ.stack) never (got l.1) refl)
  untyped-stuck (plain LocalSet) other declared never =
      any-stuck σ.stack _ (λ v st e. local-stuck σ i.index _ (λ l. alike-stuck v named_value _ (λ same.
      no-types (kind_of named_value ∷ []) [] (map kind_of st) never (set (kind-of l)) (top-kind v st e same))))
  untyped-stuck (plain LocalTee) other declared never =
      any-stuck σ.stack _ (λ v st e. local-stuck σ i.index _ (λ l. alike-stuck v named_value _ (λ same.
      no-types (kind_of named_value ∷ []) (kind_of named_value ∷ []) (map kind_of st) never (teed (kind-of l)) (top-kind v st e same))))
  untyped-stuck (plain I32Const) other declared never = or-stuck [] (i32 ∷ []) refl never all
  untyped-stuck (plain I64Const) other declared never = or-stuck [] (i64 ∷ []) refl never all
  untyped-stuck (plain I32Add) other declared never = or-stuck (i32 ∷ i32 ∷ []) (i32 ∷ []) refl never (or-numbers σ.stack _)
  untyped-stuck (plain I32Sub) other declared never = or-stuck (i32 ∷ i32 ∷ []) (i32 ∷ []) refl never (or-numbers σ.stack _)
  untyped-stuck (plain I32Eqz) other declared never = or-stuck (i32 ∷ []) (i32 ∷ []) refl never (or-number σ.stack _)
  untyped-stuck (plain I32LtU) other declared never = or-stuck (i32 ∷ i32 ∷ []) (i32 ∷ []) refl never (or-numbers σ.stack _)
  untyped-stuck (control k) other declared never = refl
  untyped-stuck (vector o) other declared never = or-stuck (takes (signature o)) (leaves (signature o)) (ap some (signed_by (signature o))) never (or-vector i σ o)

  -- ---- 15: the stack is not the results

  pub end-stuck : (κs ≡ rs → ⊥) → exec rs (plain End) i σ ≡ stuck
  end-stuck never = at (of_kinds σ.stack (reverse rs)) refl
    where
      at : (t : Bool) → of_kinds σ.stack (reverse rs) ≡ t → cond t (done (reverse σ.stack)) stuck ≡ stuck
      at true q = absurd (never (sym (reverse-reverse κs) ∙ ap reverse (sym stacked ∙ fit-kinds σ.stack (reverse rs) q) ∙ reverse-reverse rs))
      at false q = refl
