-- Typed by the rules, fine in the standard's machine, which reads no rule: each instruction by its signature, or by the kind of a local or of the top
-- value.
use Prim.Native.Nat.{ℕ, ◌+◌, ◌^◌, ◌≤◌, ◌<◌}
use mathlib.Core.Path.{◌≡◌, refl, ap, ap₂, sym, ◌∙◌, subst}
use mathlib.Core.List.{List, [], ◌∷◌, ◌++◌, map, reverse}
use mathlib.Core.Option.{Option, none, some}
use native.Mathlib.Omega.{arith}
use mathlib.Core.Bool.{Bool, true, false, cond}
use lib.Dec.{T, eqb, ltb}
use lib.IntN.{pos, ◌+ℤ◌, ◌-ℤ◌}
use lib.ListN.{length, get_or, take, set, length-map}
use lib.Seq.{map-set_same, length-take-le}
use mir.Syntax.{Width, w8, w16, w32, w64, w128}
use Rattle.scalar.specs.Scalar.{Sign, iadd, isub}
use Rattle.scalar.proofs.Laws.Integers.{wrap-lt}
use Rattle.operation.specs.Vector.{Sixteen}
use Rattle.operation.specs.Op.{Op, Load, LoadLane, Store, StoreLane, Const, Shuffle, Splat, ExtractLane, ReplaceLane, Unary, Binary, Bitselect, Test, Shift, unary, binary, bitselect, test, shift, splat, extracted, replaced, shuffled, loaded, lane_in, lane_out}
use Rattle.operation.proofs.Laws.Number.{Bytes, bytes_take}
use Rattle.operation.proofs.Laws.Vectors.{test-lt, extracted-lt, sixteen-unary, sixteen-binary, sixteen-bitselect, sixteen-shift, sixteen-splat, sixteen-replaced, sixteen-shuffled, sixteen-loaded, sixteen-lane_in, sixteen-lane_out}
use Rattle.limits.specs.Limits.{stack_limit}
use Rattle.opcode.specs.Kind.{Kind, i32, i64, v128}
use Rattle.opcode.specs.Table.{Plain, End, Drop, LocalGet, LocalSet, LocalTee, I32Const, I64Const, I32Add, I32Sub, I32Eqz, I32LtU, Code, plain, control, vector, carried}
use Rattle.opcode.specs.Effect.{Signature, ◌⇒◌, scalar, signature, effect}
use Rattle.opcode.specs.Immediate.{moved}
use Rattle.opcode.proofs.Classes.{moved-small}
use Rattle.instr.specs.declared.Instr.{Instr}
use Rattle.instr.specs.Layout.{row_in}
use Rattle.machine.specs.Value.{Value, I32, I64, V128, kind_of, InRange, AllInRange}
use Rattle.machine.specs.Memory.{part, padded, stored}
use Rattle.machine.specs.Exec.{State, Outcome, push, go_on, access, pop_i32, pop_v128, exec_plain, exec_vector, exec}
use Rattle.machine.proofs.Simulates.{Apt}
use Rattle.machine.proofs.Laws.Stored.{length-stored}
use Rattle.machine.proofs.Laws.Ranges.{bytes-part, length_part, sixteen-padded, bytes-stored, range_at, range-set}
use Rattle.rules.specs.Typing.{Local, Typed, by_signature, dropped, got, set as was-set, teed}
use Rattle.standard.proofs.Scalars.{scalars, narrow, narrow-scalars}
use Rattle.standard.proofs.ValueKinds.{local-inside, local-kind}
use Rattle.standard.proofs.Fine.{Under, Fine, pop-i32, pop-v128, pop-any, pop-scalar, named, same_kind, accessed, goes_on}

difference-lt : (a b : ℕ) → isub w32 a b < 2 ^ 32
unfolding isub
difference-lt a b = wrap-lt w32 (pos a -ℤ pos b)

flag-lt : (t : Bool) → cond t 1 0 < 2 ^ 32
flag-lt true = omega arith
flag-lt false = omega arith

-- the bytes that a lane takes in memory
lane-long : (w : Width) (v : List ℕ) (i : ℕ) → length (take (moved (StoreLane w)) (lane_out w v i)) ≡ moved (StoreLane w)
lane-long w v i = length-take-le (moved (StoreLane w)) (lane_out w v i) (omega (arith, moved-small (StoreLane w), (sixteen-lane_out w v i).long))

-- before the instruction: values in range, and a memory of bytes
pub record Ranged (σ : State) : Type 0 where
  pub stack : AllInRange σ.stack
  pub locals : AllInRange σ.locals
  pub memory : Bytes σ.memory

module _ (rs : List Kind) (i : Instr) (apt : Apt i) (σ : State) (ok : Ranged σ) where
  -- with these kinds on top it leaves those
  abbrev From : List Kind → List Kind → Outcome → Type 0
  From ins outs o = (rest : List Kind) → map kind_of σ.stack ≡ reverse ins ++ rest → length (reverse outs ++ rest) ≤ stack_limit → Fine σ (reverse outs ++ rest) o

  all-locals : Under (map kind_of σ.locals) σ.locals
  all-locals = record { kinds = refl; range = ok.locals }

  all-stack : {ks : List Kind} → map kind_of σ.stack ≡ ks → Under ks σ.stack
  all-stack e = record { kinds = e; range = ok.stack }

  -- a value pushed on what is left
  pushes : {ks : List Kind} (v : Value) (vs : List Value) → InRange v → Under ks vs → length (kind_of v ∷ ks) ≤ stack_limit → Fine σ (kind_of v ∷ ks) (push σ vs v)
  pushes v vs g u room =
      goes_on (v ∷ vs) σ.locals σ.memory room (record { kinds = ap (λ ks. kind_of v ∷ ks) u.kinds; range = (g, u.range) }) all-locals ok.memory refl

  -- ---- numbers

  constant : (v : Value) → InRange v → From [] (kind_of v ∷ []) (push σ σ.stack v)
  constant v g rest e room = pushes v σ.stack g (all-stack e) room

  two-numbers : (f : ℕ → ℕ → ℕ) → ((a b : ℕ) → f a b < 2 ^ 32) → From (i32 ∷ i32 ∷ []) (i32 ∷ []) (pop_i32 σ.stack (λ b st. pop_i32 st (λ a st. push σ st (I32 (f a b)))))
  two-numbers f small rest e room =
      pop-i32 σ.stack _ (all-stack e) (λ b st l u. pop-i32 st _ u (λ a st l u. pushes (I32 (f a b)) st (small a b) u room))

  one_number : (f : ℕ → ℕ) → ((a : ℕ) → f a < 2 ^ 32) → From (i32 ∷ []) (i32 ∷ []) (pop_i32 σ.stack (λ a st. push σ st (I32 (f a))))
  one_number f small rest e room = pop-i32 σ.stack _ (all-stack e) (λ a st l u. pushes (I32 (f a)) st (small a) u room)

  -- ---- vectors

  one-vector : (f : List ℕ → Value) (k : Kind) → ((v : List ℕ) → InRange (f v)) → ((v : List ℕ) → kind_of (f v) ≡ k) → From (v128 ∷ []) (k ∷ []) (pop_v128 σ.stack (λ v st. push σ st (f v)))
  one-vector f k small is rest e room =
      pop-v128 σ.stack _ (all-stack e)
      (λ v st x u. subst (λ (j : Kind). Fine σ (j ∷ rest) (push σ st (f v))) (is v) (pushes (f v) st (small v) u room))

  two-vectors : (f : List ℕ → List ℕ → List ℕ) → ((a b : List ℕ) → Sixteen (f a b))
      → From (v128 ∷ v128 ∷ []) (v128 ∷ []) (pop_v128 σ.stack (λ b st. pop_v128 st (λ a st. push σ st (V128 (f a b)))))
  two-vectors f small rest e room =
      pop-v128 σ.stack _ (all-stack e) (λ b st x u. pop-v128 st _ u (λ a st y u. pushes (V128 (f a b)) st (small a b) u room))

  -- the bytes read by an access within the memory
  sixteen-read : (o : Op) (at : ℕ) → at + moved o ≤ length σ.memory → Sixteen (padded (part (moved o) at σ.memory))
  sixteen-read o at l =
      sixteen-padded (part (moved o) at σ.memory) (subst (λ (n : ℕ). n ≤ 16) (sym (length_part (moved o) at σ.memory l)) (moved-small o))
      (bytes-part (moved o) at σ.memory ok.memory)

  -- bytes stored at an address
  stores : (n : ℕ) (g : List ℕ → List ℕ) → ((v : List ℕ) → Sixteen v → length (g v) ≡ n) → ((v : List ℕ) → Sixteen v → Bytes (g v))
      → From (i32 ∷ v128 ∷ []) [] (pop_v128 σ.stack (λ v st. pop_i32 st (λ a st. access σ (a + i.offset) n (go_on st σ.locals (stored σ.memory (a + i.offset) (g v))))))
  stores n g long small rest e room =
      pop-v128 σ.stack _ (all-stack e) (λ v st x u. pop-i32 st _ u (λ a st l u. accessed (a + i.offset) n _ (λ inside.
      goes_on st σ.locals (stored σ.memory (a + i.offset) (g v)) room u all-locals (bytes-stored σ.memory (a + i.offset) (g v) ok.memory (small v x))
      (length-stored σ.memory (a + i.offset) (g v) (omega (arith, inside, long v x))))))

  extracts : (s : Sign) (w : Width) → T (narrow w) → From (v128 ∷ []) (scalar w ∷ []) (exec_vector (ExtractLane s w) i σ)
  extracts s w8 t = one-vector (λ a. I32 (extracted s w8 a i.lane)) i32 (λ a. extracted-lt s w8 a i.lane) (λ a. refl)
  extracts s w16 t = one-vector (λ a. I32 (extracted s w16 a i.lane)) i32 (λ a. extracted-lt s w16 a i.lane) (λ a. refl)
  extracts s w32 t = one-vector (λ a. I32 (extracted s w32 a i.lane)) i32 (λ a. extracted-lt s w32 a i.lane) (λ a. refl)
  extracts s w64 t = one-vector (λ a. I64 (extracted s w64 a i.lane)) i64 (λ a. extracted-lt s w64 a i.lane) (λ a. refl)
  extracts s w128 t = absurd t

  -- ---- by the signature

  abbrev By : Option Signature → Outcome → Type 0
  By none o = Unit {0}
  By (some (ins ⇒ outs)) o = From ins outs o

  signed-plain : (p : Plain) → By (effect (plain p)) (exec_plain rs p i σ)
  signed-plain End = tt
  signed-plain Drop = tt
  signed-plain LocalGet = tt
  signed-plain LocalSet = tt
  signed-plain LocalTee = tt
  signed-plain I32Const = constant (I32 i.word) apt.word
  signed-plain I64Const = constant (I64 i.long) apt.long
  signed-plain I32Add = two-numbers (iadd w32) (λ a b. wrap-lt w32 (pos a +ℤ pos b))
  signed-plain I32Sub = two-numbers (isub w32) difference-lt
  signed-plain I32Eqz = one_number (λ a. cond (eqb a 0) 1 0) (λ a. flag-lt (eqb a 0))
  signed-plain I32LtU = two-numbers (λ a b. cond (ltb a b) 1 0) (λ a b. flag-lt (ltb a b))

  signed-vector : (o : Op) → T (scalars o) → By (some (signature o)) (exec_vector o i σ)
  signed-vector (Load l) t = λ rest e room.
      pop-i32 σ.stack _ (all-stack e) (λ a st l' u. accessed (a + i.offset) (moved (Load l)) _ (λ inside.
      pushes (V128 (loaded l (padded (part (moved (Load l)) (a + i.offset) σ.memory)))) st (sixteen-loaded l _ (sixteen-read (Load l) (a + i.offset) inside)) u room))
  signed-vector (LoadLane w) t = λ rest e room.
      pop-v128 σ.stack _ (all-stack e) (λ v st x u. pop-i32 st _ u (λ a st l u. accessed (a + i.offset) (moved (LoadLane w)) _ (λ inside.
      pushes (V128 (lane_in w (padded (part (moved (LoadLane w)) (a + i.offset) σ.memory)) v i.lane)) st (sixteen-lane_in w _ v i.lane) u room)))
  signed-vector Store t = stores 16 (λ v. v) (λ v x. x.long) (λ v x. x.bytes)
  signed-vector (StoreLane w) t =
      stores (moved (StoreLane w)) (λ v. take (moved (StoreLane w)) (lane_out w v i.lane)) (λ v x. lane-long w v i.lane)
      (λ v x. bytes_take (moved (StoreLane w)) (lane_out w v i.lane) (sixteen-lane_out w v i.lane).bytes)
  signed-vector Const t = constant (V128 i.bytes) apt.sixteen
  signed-vector Shuffle t = two-vectors (λ a b. shuffled a b i.bytes) (λ a b. sixteen-shuffled a b i.bytes)
  signed-vector (Splat w) t = λ rest e room. pop-scalar w t σ.stack _ (all-stack e) (λ x st u. pushes (V128 (splat w x)) st (sixteen-splat w x) u room)
  signed-vector (ExtractLane s w) t = extracts s w t
  signed-vector (ReplaceLane w) t = λ rest e room.
      pop-scalar w t σ.stack _ (all-stack e) (λ x st u. pop-v128 st _ u (λ a st y u. pushes (V128 (replaced w a i.lane x)) st (sixteen-replaced w a i.lane x) u room))
  signed-vector (Unary o) t = one-vector (λ a. V128 (unary o a)) v128 (sixteen-unary o) (λ a. refl)
  signed-vector (Binary o) t = two-vectors (binary o) (sixteen-binary o)
  signed-vector Bitselect t = λ rest e room.
      pop-v128 σ.stack _ (all-stack e) (λ m st x u. pop-v128 st _ u (λ b st y u. pop-v128 st _ u (λ a st z u.
      pushes (V128 (bitselect a b m)) st (sixteen-bitselect a b m) u room)))
  signed-vector (Test o) t = one-vector (λ a. I32 (test o a)) i32 (test-lt o) (λ a. refl)
  signed-vector (Shift o) t = λ rest e room.
      pop-i32 σ.stack _ (all-stack e) (λ n st l u. pop-v128 st _ u (λ a st x u. pushes (V128 (shift o a n)) st (sixteen-shift o a n) u room))

  signed : (ver : ℕ) (c : Code) → row_in ver i ≡ carried c → By (effect c) (exec rs c i σ)
  signed ver (plain p) row = signed-plain p
  signed ver (control k) row = tt
  signed ver (vector o) row = signed-vector o (narrow-scalars ver i o row)

  -- ---- by the kind of a local

  abbrev named_value : Value
  named_value = get_or σ.locals i.index (I32 0)

  inside : {k : Kind} → Local (map kind_of σ.locals) i.index k → i.index < length σ.locals
  inside l = omega (arith, local-inside l, length-map σ.locals kind_of)

  -- a local set to a value of its kind
  sets : (v : Value) → kind_of v ≡ kind_of named_value → InRange v → Under (map kind_of σ.locals) (set σ.locals i.index v)
  sets v e g = record { kinds = map-set_same kind_of σ.locals i.index v (I32 0) e; range = range-set σ.locals i.index v ok.locals g }

  pub typed-fine : (ver : ℕ) {c : Code} {ins outs : List Kind} → row_in ver i ≡ carried c → Typed (map kind_of σ.locals) i.index c ins outs → From ins outs (exec rs c i σ)
  typed-fine ver {c} row (by_signature p) = subst (λ (s : Option Signature). By s (exec rs c i σ)) p (signed ver c row)
  typed-fine ver row dropped = λ rest e room.
      pop-any σ.stack _ (all-stack e) (λ v st k g u. goes_on st σ.locals σ.memory room u all-locals ok.memory refl)
  typed-fine ver row (got {k} l) = λ rest e room.
      named i.index _ (inside l)
      (subst (λ (j : Kind). Fine σ (j ∷ rest) (push σ σ.stack named_value)) (local-kind σ.locals l)
      (pushes named_value σ.stack (range_at σ.locals i.index ok.locals (inside l)) (all-stack e) room))
  typed-fine ver row (was-set {k} l) = λ rest e room.
      pop-any σ.stack _ (all-stack e) (λ v st f g u.
      let same = f ∙ sym (local-kind σ.locals l) in
      named i.index _ (inside l) (same_kind v named_value _ same (goes_on st _ σ.memory room u (sets v same g) ok.memory refl)))
  typed-fine ver row (teed {k} l) = λ rest e room.
      pop-any σ.stack _ (all-stack e) (λ v st f g u.
      let same = f ∙ sym (local-kind σ.locals l) in
      named i.index _ (inside l) (same_kind v named_value _ same
      (goes_on (v ∷ st) _ σ.memory room (record { kinds = ap₂ ◌∷◌ f u.kinds; range = (g, u.range) }) (sets v same g) ok.memory refl)))
