-- One instruction over flat bytes does what the standard's machine does.
use Prim.Native.Nat.{ℕ, ◌+◌, ◌-◌, ◌^◌, ◌≤◌, ◌<◌}
use mathlib.Core.Path.{◌≡◌, refl, ap, ap₂, sym, ◌∙◌, subst}
use mathlib.Core.Bool.{Bool, true, false, cond}
use mathlib.Core.List.{List, ◌∷◌, reverse}
use native.Mathlib.Omega.{arith}
use lib.Dec.{eqb, ltb}
use lib.ListN.{length, get_or, take}
use mir.Syntax.{Width, w8, w16, w32, w64, w128}
use lib.IntN.{pos, ◌+ℤ◌, ◌-ℤ◌}
use Rattle.scalar.specs.Scalar.{Sign, iadd, isub}
use Rattle.scalar.proofs.Laws.Integers.{wrap-lt}
use Rattle.operation.specs.Vector.{le, Sixteen}
use Rattle.operation.specs.Op.{Loadop, Shiftop, Op, Load, LoadLane, Store, StoreLane, Const, Shuffle, Splat, ExtractLane, ReplaceLane, Unary, Binary, Bitselect}
use Rattle.operation.specs.Op.{Test, Shift, unary, binary, bitselect, test, shift, splat, extracted, replaced, shuffled, loaded, lane_in, lane_out}
use Rattle.operation.proofs.Laws.Number.{Bytes, bytes_take}
use Rattle.operation.proofs.Laws.Vectors.{test-lt, extracted-lt, sixteen-unary, sixteen-binary, sixteen-bitselect, sixteen-shift, sixteen-splat}
use Rattle.operation.proofs.Laws.Vectors.{sixteen-replaced, sixteen-shuffled, sixteen-loaded, sixteen-lane_in, sixteen-lane_out}
use Rattle.limits.specs.Limits.{slot}
use Rattle.opcode.specs.Kind.{Kind}
use Rattle.opcode.specs.Table.{Plain, End, Drop, LocalGet, LocalSet, LocalTee, I32Const, I64Const, I32Add, I32Sub, I32Eqz, I32LtU, Code, plain, control, vector}
use Rattle.opcode.specs.Immediate.{moved}
use Rattle.opcode.proofs.Classes.{moved-small}
use Rattle.instr.specs.declared.Instr.{Instr}
use Rattle.machine.specs.Value.{Value, I32, I64, V128, InRange, bytes_of}
use Rattle.machine.specs.Memory.{part, padded, stored}
use Rattle.machine.specs.Exec.{State, goes, done, stuck, go_on, access, of_kinds, pop_i32, pop_v128, exec_plain, exec_vector, exec}
use Rattle.machine.specs.Inner.Flat.{slot_at, put_slot, top_of, low32, low64, lowest, reach, Flat, flat_plain, flat_vector, flat}
use Rattle.machine.specs.Inner.Rep.{Rep}
use Rattle.machine.proofs.Laws.Rep.{low-i32, low-i64}
use Rattle.machine.proofs.Laws.Pops.{scalar_of, pop-i32, pop-v128, pop-any, pop-scalar, named, same_kind, reached}
use Rattle.machine.proofs.Laws.Ranges.{bytes-part, length_part, sixteen-padded, bytes-stored, range_at}
use Rattle.machine.proofs.Laws.Update.{all_held, with-memory, with-local, pushed, popped}

-- the immediates are in the range of their types
pub record Apt (i : Instr) : Type 0 where
  pub word : i.word < 2 ^ 32
  pub long : i.long < 2 ^ 64
  pub sixteen : Sixteen i.bytes

scalar-low : (w : Width) (v : List ℕ) (x : ℕ) → v ≡ bytes_of (scalar_of w x) → InRange (scalar_of w x) → lowest w v ≡ x
scalar-low w8 v x e h = ap low32 e ∙ low-i32 x h
scalar-low w16 v x e h = ap low32 e ∙ low-i32 x h
scalar-low w32 v x e h = ap low32 e ∙ low-i32 x h
scalar-low w64 v x e h = ap low64 e ∙ low-i64 x h
scalar-low w128 v x e h = ap low64 e ∙ low-i64 x h

difference-lt : (a b : ℕ) → isub w32 a b < 2 ^ 32
unfolding isub
difference-lt a b = wrap-lt w32 (pos a -ℤ pos b)

flag-lt : (t : Bool) → cond t 1 0 < 2 ^ 32
flag-lt true = omega arith
flag-lt false = omega arith

-- ---- one lemma a group: σ goes to σ', and the flat state holds σ'
module _ (rs : List Kind) (i : Instr) (apt : Apt i) (σ σ' : State) (st : List ℕ) (d : ℕ) (ls m : List ℕ) (rep : Rep σ st d ls m) where
  moves : goes σ' ≡ stuck → ⊥
  moves e = let z : ◌≡◌ {A = ℕ} 0 1 = cc in omega arith

  abbrev After : Flat → Type 0
  After f = Rep σ' f.stack f.depth f.locals f.memory

  top : (j n : ℕ) (x : List ℕ) → d - j ≡ n → slot_at st n ≡ x → top_of st d j ≡ x
  top j n x e f = ap (slot_at st) e ∙ f

  memory_bytes : Bytes σ.memory
  memory_bytes = subst Bytes (sym rep.memory) rep.memory_bytes

  sim-drop : exec_plain rs Drop i σ ≡ goes σ' → After (flat_plain Drop i st d ls m)
  sim-drop e =
      let p = pop-any st (goes σ') moves σ.stack _ (all_held rep) e in
      popped rep p.rest p.under (d - 1) (omega (arith, rep.depth, p.long)) p.next

  sim-get : exec_plain rs LocalGet i σ ≡ goes σ' → After (flat_plain LocalGet i st d ls m)
  sim-get e =
      let n = named st (goes σ') moves σ i.index _ e in
      pushed rep σ.stack (all_held rep) (get_or σ.locals i.index (I32 0)) (slot_at ls i.index) d (d + 1)
      (range_at σ.locals i.index rep.local_range n.declared) (rep.held i.index n.declared) (sym rep.depth) (omega (arith, rep.depth))
      n.next

  sim-set : exec_plain rs LocalSet i σ ≡ goes σ' → After (flat_plain LocalSet i st d ls m)
  sim-set e =
      let p = pop-any st (goes σ') moves σ.stack _ (all_held rep) e in
      let n = named st (goes σ') moves σ i.index _ p.next in
      let k = same_kind st (goes σ') moves p.value (get_or σ.locals i.index (I32 0)) _ n.next in
      popped
      (with-local rep i.index p.value (top_of st d 1) n.declared p.ok (top 1 (length p.rest) _ (omega (arith, rep.depth, p.long)) p.at))
      p.rest p.under (d - 1) (omega (arith, rep.depth, p.long)) k.1

  sim-tee : exec_plain rs LocalTee i σ ≡ goes σ' → After (flat_plain LocalTee i st d ls m)
  sim-tee e =
      let p = pop-any st (goes σ') moves σ.stack _ (all_held rep) e in
      let n = named st (goes σ') moves σ i.index _ p.next in
      let k = same_kind st (goes σ') moves p.value (get_or σ.locals i.index (I32 0)) _ n.next in
      popped
      (with-local rep i.index p.value (top_of st d 1) n.declared p.ok (top 1 (length p.rest) _ (omega (arith, rep.depth, p.long)) p.at))
      (p.value ∷ p.rest) (record { slots = (p.at, p.under.slots); range = (p.ok, p.under.range) }) d (omega (arith, rep.depth, p.long)) k.1

  sim-i32-const : exec_plain rs I32Const i σ ≡ goes σ' → After (flat_plain I32Const i st d ls m)
  sim-i32-const e =
      pushed rep σ.stack (all_held rep) (I32 i.word) (le slot i.word) d (d + 1) apt.word refl (sym rep.depth) (omega (arith, rep.depth)) e

  sim-i64-const : exec_plain rs I64Const i σ ≡ goes σ' → After (flat_plain I64Const i st d ls m)
  sim-i64-const e =
      pushed rep σ.stack (all_held rep) (I64 i.long) (le slot i.long) d (d + 1) apt.long refl (sym rep.depth) (omega (arith, rep.depth)) e

  -- two numbers
  sim-two : (f : ℕ → ℕ → ℕ) → ((a b : ℕ) → f a b < 2 ^ 32)
      → pop_i32 σ.stack (λ b vs. pop_i32 vs (λ a vs. go_on (I32 (f a b) ∷ vs) σ.locals σ.memory)) ≡ goes σ'
      → Rep σ' (put_slot st (d - 2) (le slot (f (low32 (top_of st d 2)) (low32 (top_of st d 1))))) (d - 1) ls m
  sim-two f small e =
      let p = pop-i32 st (goes σ') moves σ.stack _ (all_held rep) e in
      let q = pop-i32 st (goes σ') moves p.rest _ p.under p.next in
      let t1 = ap low32 (top 1 (length p.rest) _ (omega (arith, rep.depth, p.long)) p.at) ∙ low-i32 p.value p.ok in
      let t2 = ap low32 (top 2 (length q.rest) _ (omega (arith, rep.depth, p.long, q.long)) q.at) ∙ low-i32 q.value q.ok in
      pushed rep q.rest q.under (I32 (f q.value p.value)) _ (d - 2) (d - 1) (small q.value p.value) (ap₂ (λ (a b : ℕ). le slot (f a b)) t2 t1)
      (omega (arith, rep.depth, p.long, q.long)) (omega (arith, rep.depth, p.long, q.long)) q.next

  -- one number
  sim-number : (f : ℕ → ℕ) → ((a : ℕ) → f a < 2 ^ 32) → pop_i32 σ.stack (λ a vs. go_on (I32 (f a) ∷ vs) σ.locals σ.memory) ≡ goes σ'
      → Rep σ' (put_slot st (d - 1) (le slot (f (low32 (top_of st d 1))))) d ls m
  sim-number f small e =
      let p = pop-i32 st (goes σ') moves σ.stack _ (all_held rep) e in
      let t1 = ap low32 (top 1 (length p.rest) _ (omega (arith, rep.depth, p.long)) p.at) ∙ low-i32 p.value p.ok in
      pushed rep p.rest p.under (I32 (f p.value)) _ (d - 1) d (small p.value) (ap (λ (a : ℕ). le slot (f a)) t1)
      (omega (arith, rep.depth, p.long)) (omega (arith, rep.depth, p.long)) p.next

  -- ---- vectors

  -- the bytes read by an access within the memory
  sixteen-read : (o : Op) (at : ℕ) → at + moved o ≤ length σ.memory → Sixteen (padded (part (moved o) at σ.memory))
  sixteen-read o at h =
      sixteen-padded (part (moved o) at σ.memory) (subst (λ (n : ℕ). n ≤ 16) (sym (length_part (moved o) at σ.memory h)) (moved-small o))
      (bytes-part (moved o) at σ.memory memory_bytes)

  address : (j n a : ℕ) → d - j ≡ n → slot_at st n ≡ le slot a → a < 2 ^ 32 → reach i (top_of st d j) ≡ a + i.offset
  address j n a e f h = ap (λ (x : ℕ). x + i.offset) (ap low32 (top j n (le slot a) e f) ∙ low-i32 a h)

  sim-load : (l : Loadop) → exec_vector (Load l) i σ ≡ goes σ' → After (flat_vector (Load l) i st d ls m)
  sim-load l e =
      let p = pop-i32 st (goes σ') moves σ.stack _ (all_held rep) e in
      let r = reached σ (p.value + i.offset) (moved (Load l)) _ σ' p.next in
      let t = address 1 (length p.rest) p.value (omega (arith, rep.depth, p.long)) p.at p.ok in
      pushed rep p.rest p.under (V128 (loaded l (padded (part (moved (Load l)) (p.value + i.offset) σ.memory)))) _ (d - 1) d
      (sixteen-loaded l _ (sixteen-read (Load l) (p.value + i.offset) r.0))
      (ap₂ (λ (a : ℕ) (bs : List ℕ). loaded l (padded (part (moved (Load l)) a bs))) t (sym rep.memory))
      (omega (arith, rep.depth, p.long)) (omega (arith, rep.depth, p.long)) r.1

  sim-load-lane : (w : Width) → exec_vector (LoadLane w) i σ ≡ goes σ' → After (flat_vector (LoadLane w) i st d ls m)
  sim-load-lane w e =
      let p = pop-v128 st (goes σ') moves σ.stack _ (all_held rep) e in
      let q = pop-i32 st (goes σ') moves p.rest _ p.under p.next in
      let r = reached σ (q.value + i.offset) (moved (LoadLane w)) _ σ' q.next in
      let t1 = top 1 (length p.rest) _ (omega (arith, rep.depth, p.long)) p.at in
      let t = address 2 (length q.rest) q.value (omega (arith, rep.depth, p.long, q.long)) q.at q.ok in
      pushed rep q.rest q.under (V128 (lane_in w (padded (part (moved (LoadLane w)) (q.value + i.offset) σ.memory)) p.value i.lane)) _
      (d - 2) (d - 1)
      (sixteen-lane_in w _ p.value i.lane)
      (ap₂ (λ (bs v : List ℕ). lane_in w (padded bs) v i.lane) (ap₂ (part (moved (LoadLane w))) t (sym rep.memory)) t1)
      (omega (arith, rep.depth, p.long, q.long)) (omega (arith, rep.depth, p.long, q.long)) r.1

  -- bytes stored at an address
  sim-stored : (n : ℕ) (g : List ℕ → List ℕ) → ((v : List ℕ) → Sixteen v → Bytes (g v))
      → pop_v128 σ.stack (λ v vs. pop_i32 vs (λ a vs. access σ (a + i.offset) n (go_on vs σ.locals (stored σ.memory (a + i.offset) (g v))))) ≡ goes σ'
      → Rep σ' st (d - 2) ls (stored m (reach i (top_of st d 2)) (g (top_of st d 1)))
  sim-stored n g small e =
      let p = pop-v128 st (goes σ') moves σ.stack _ (all_held rep) e in
      let q = pop-i32 st (goes σ') moves p.rest _ p.under p.next in
      let r = reached σ (q.value + i.offset) n _ σ' q.next in
      let t1 = top 1 (length p.rest) _ (omega (arith, rep.depth, p.long)) p.at in
      let t = address 2 (length q.rest) q.value (omega (arith, rep.depth, p.long, q.long)) q.at q.ok in
      let same : stored σ.memory (q.value + i.offset) (g p.value) ≡ stored m (reach i (top_of st d 2)) (g (top_of st d 1)) =
      ap₂ (λ (bs v : List ℕ). stored bs (q.value + i.offset) (g v)) rep.memory (sym t1) ∙ ap (λ (a : ℕ). stored m a (g (top_of st d 1))) (sym t) in
      subst (λ (bs : List ℕ). Rep σ' st (d - 2) ls bs) same
      (popped (with-memory rep _ (bytes-stored σ.memory (q.value + i.offset) (g p.value) memory_bytes (small p.value p.ok)))
      q.rest q.under (d - 2) (omega (arith, rep.depth, p.long, q.long)) r.1)

  sim-const : exec_vector Const i σ ≡ goes σ' → After (flat_vector Const i st d ls m)
  sim-const e = pushed rep σ.stack (all_held rep) (V128 i.bytes) i.bytes d (d + 1) apt.sixteen refl (sym rep.depth) (omega (arith, rep.depth)) e

  -- one vector, two, three
  sim-one : (f : List ℕ → Value) (g : List ℕ → List ℕ) → ((v : List ℕ) → InRange (f v)) → ((v : List ℕ) → g v ≡ bytes_of (f v))
      → pop_v128 σ.stack (λ v vs. go_on (f v ∷ vs) σ.locals σ.memory) ≡ goes σ' → Rep σ' (put_slot st (d - 1) (g (top_of st d 1))) d ls m
  sim-one f g ok same e =
      let p = pop-v128 st (goes σ') moves σ.stack _ (all_held rep) e in
      let t1 = top 1 (length p.rest) _ (omega (arith, rep.depth, p.long)) p.at in
      pushed rep p.rest p.under (f p.value) _ (d - 1) d (ok p.value) (ap g t1 ∙ same p.value) (omega (arith, rep.depth, p.long))
      (omega (arith, rep.depth, p.long)) p.next

  sim-pair : (f : List ℕ → List ℕ → List ℕ) → ((a b : List ℕ) → Sixteen (f a b))
      → pop_v128 σ.stack (λ b vs. pop_v128 vs (λ a vs. go_on (V128 (f a b) ∷ vs) σ.locals σ.memory)) ≡ goes σ'
      → Rep σ' (put_slot st (d - 2) (f (top_of st d 2) (top_of st d 1))) (d - 1) ls m
  sim-pair f ok e =
      let p = pop-v128 st (goes σ') moves σ.stack _ (all_held rep) e in
      let q = pop-v128 st (goes σ') moves p.rest _ p.under p.next in
      let t1 = top 1 (length p.rest) _ (omega (arith, rep.depth, p.long)) p.at in
      let t2 = top 2 (length q.rest) _ (omega (arith, rep.depth, p.long, q.long)) q.at in
      pushed rep q.rest q.under (V128 (f q.value p.value)) _ (d - 2) (d - 1) (ok q.value p.value) (ap₂ f t2 t1)
      (omega (arith, rep.depth, p.long, q.long)) (omega (arith, rep.depth, p.long, q.long)) q.next

  sim-bitselect : exec_vector Bitselect i σ ≡ goes σ' → After (flat_vector Bitselect i st d ls m)
  sim-bitselect e =
      let p = pop-v128 st (goes σ') moves σ.stack _ (all_held rep) e in
      let q = pop-v128 st (goes σ') moves p.rest _ p.under p.next in
      let r = pop-v128 st (goes σ') moves q.rest _ q.under q.next in
      let t1 = top 1 (length p.rest) _ (omega (arith, rep.depth, p.long)) p.at in
      let t2 = top 2 (length q.rest) _ (omega (arith, rep.depth, p.long, q.long)) q.at in
      let t3 = top 3 (length r.rest) _ (omega (arith, rep.depth, p.long, q.long, r.long)) r.at in
      pushed rep r.rest r.under (V128 (bitselect r.value q.value p.value)) _ (d - 3) (d - 2) (sixteen-bitselect r.value q.value p.value)
      (ap₂ (λ (a b : List ℕ). bitselect a b (top_of st d 1)) t3 t2 ∙ ap (bitselect r.value q.value) t1)
      (omega (arith, rep.depth, p.long, q.long, r.long)) (omega (arith, rep.depth, p.long, q.long, r.long)) r.next

  sim-shift : (o : Shiftop) → exec_vector (Shift o) i σ ≡ goes σ' → After (flat_vector (Shift o) i st d ls m)
  sim-shift o e =
      let p = pop-i32 st (goes σ') moves σ.stack _ (all_held rep) e in
      let q = pop-v128 st (goes σ') moves p.rest _ p.under p.next in
      let t1 = ap low32 (top 1 (length p.rest) _ (omega (arith, rep.depth, p.long)) p.at) ∙ low-i32 p.value p.ok in
      let t2 = top 2 (length q.rest) _ (omega (arith, rep.depth, p.long, q.long)) q.at in
      pushed rep q.rest q.under (V128 (shift o q.value p.value)) _ (d - 2) (d - 1) (sixteen-shift o q.value p.value) (ap₂ (shift o) t2 t1)
      (omega (arith, rep.depth, p.long, q.long)) (omega (arith, rep.depth, p.long, q.long)) q.next

  sim-splat : (w : Width) → exec_vector (Splat w) i σ ≡ goes σ' → After (flat_vector (Splat w) i st d ls m)
  sim-splat w e =
      let p = pop-scalar st (goes σ') moves w σ.stack _ (all_held rep) e in
      let t1 = scalar-low w _ p.value (top 1 (length p.rest) _ (omega (arith, rep.depth, p.long)) p.at) p.ok in
      pushed rep p.rest p.under (V128 (splat w p.value)) _ (d - 1) d (sixteen-splat w p.value) (ap (splat w) t1)
      (omega (arith, rep.depth, p.long)) (omega (arith, rep.depth, p.long)) p.next

  sim-replace : (w : Width) → exec_vector (ReplaceLane w) i σ ≡ goes σ' → After (flat_vector (ReplaceLane w) i st d ls m)
  sim-replace w e =
      let p = pop-scalar st (goes σ') moves w σ.stack _ (all_held rep) e in
      let q = pop-v128 st (goes σ') moves p.rest _ p.under p.next in
      let t1 = scalar-low w _ p.value (top 1 (length p.rest) _ (omega (arith, rep.depth, p.long)) p.at) p.ok in
      let t2 = top 2 (length q.rest) _ (omega (arith, rep.depth, p.long, q.long)) q.at in
      pushed rep q.rest q.under (V128 (replaced w q.value i.lane p.value)) _ (d - 2) (d - 1) (sixteen-replaced w q.value i.lane p.value)
      (ap₂ (λ (a : List ℕ) (x : ℕ). replaced w a i.lane x) t2 t1)
      (omega (arith, rep.depth, p.long, q.long)) (omega (arith, rep.depth, p.long, q.long)) q.next

  sim-extract : (s : Sign) (w : Width) → exec_vector (ExtractLane s w) i σ ≡ goes σ' → After (flat_vector (ExtractLane s w) i st d ls m)
  sim-extract s w8 e =
      sim-one (λ a. I32 (extracted s w8 a i.lane)) (λ a. le slot (extracted s w8 a i.lane)) (λ a. extracted-lt s w8 a i.lane) (λ a. refl) e
  sim-extract s w16 e =
      sim-one (λ a. I32 (extracted s w16 a i.lane)) (λ a. le slot (extracted s w16 a i.lane)) (λ a. extracted-lt s w16 a i.lane) (λ a. refl) e
  sim-extract s w32 e =
      sim-one (λ a. I32 (extracted s w32 a i.lane)) (λ a. le slot (extracted s w32 a i.lane)) (λ a. extracted-lt s w32 a i.lane) (λ a. refl) e
  sim-extract s w64 e =
      sim-one (λ a. I64 (extracted s w64 a i.lane)) (λ a. le slot (extracted s w64 a i.lane)) (λ a. extracted-lt s w64 a i.lane) (λ a. refl) e
  sim-extract s w128 e = absurd (moves (sym (pop-v128 st (goes σ') moves σ.stack _ (all_held rep) e).next))

  sim-plain : (p : Plain) → exec_plain rs p i σ ≡ goes σ' → After (flat_plain p i st d ls m)
  sim-plain End e = absurd (ended (of_kinds σ.stack (reverse rs)) e)
    where
      ended : (t : Bool) → cond t (done (reverse σ.stack)) stuck ≡ goes σ' → ⊥
      ended true q = let z : ◌≡◌ {A = ℕ} 0 1 = cc in omega arith
      ended false q = moves (sym q)
  sim-plain Drop e = sim-drop e
  sim-plain LocalGet e = sim-get e
  sim-plain LocalSet e = sim-set e
  sim-plain LocalTee e = sim-tee e
  sim-plain I32Const e = sim-i32-const e
  sim-plain I64Const e = sim-i64-const e
  sim-plain I32Add e = sim-two (iadd w32) (λ a b. wrap-lt w32 (pos a +ℤ pos b)) e
  sim-plain I32Sub e = sim-two (isub w32) difference-lt e
  sim-plain I32Eqz e = sim-number (λ a. cond (eqb a 0) 1 0) (λ a. flag-lt (eqb a 0)) e
  sim-plain I32LtU e = sim-two (λ a b. cond (ltb a b) 1 0) (λ a b. flag-lt (ltb a b)) e

  sim-vector : (o : Op) → exec_vector o i σ ≡ goes σ' → After (flat_vector o i st d ls m)
  sim-vector (Load l) e = sim-load l e
  sim-vector (LoadLane w) e = sim-load-lane w e
  sim-vector Store e = sim-stored 16 (λ v. v) (λ v h. h.bytes) e
  sim-vector (StoreLane w) e =
      sim-stored (moved (StoreLane w)) (λ v. take (moved (StoreLane w)) (lane_out w v i.lane))
      (λ v h. bytes_take (moved (StoreLane w)) (lane_out w v i.lane) (sixteen-lane_out w v i.lane).bytes) e
  sim-vector Const e = sim-const e
  sim-vector Shuffle e = sim-pair (λ a b. shuffled a b i.bytes) (λ a b. sixteen-shuffled a b i.bytes) e
  sim-vector (Splat w) e = sim-splat w e
  sim-vector (ExtractLane s w) e = sim-extract s w e
  sim-vector (ReplaceLane w) e = sim-replace w e
  sim-vector (Unary o) e = sim-one (λ a. V128 (unary o a)) (unary o) (sixteen-unary o) (λ a. refl) e
  sim-vector (Binary o) e = sim-pair (binary o) (sixteen-binary o) e
  sim-vector Bitselect e = sim-bitselect e
  sim-vector (Test o) e = sim-one (λ a. I32 (test o a)) (λ a. le slot (test o a)) (test-lt o) (λ a. refl) e
  sim-vector (Shift o) e = sim-shift o e

  -- where the standard's machine goes to σ', the flat state holds σ'
  pub simulates : (c : Code) → exec rs c i σ ≡ goes σ' → After (flat c i st d ls m)
  simulates (plain p) e = sim-plain p e
  simulates (control k) e = absurd (moves (sym e))
  simulates (vector o) e = sim-vector o e
