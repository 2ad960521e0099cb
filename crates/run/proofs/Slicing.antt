-- SLICES: however a budget is cut, the last code and place, the results, the memory and the sum of the steps are those of one run.
use Prim.Native.Nat.{ℕ, ◌+◌, ◌≤◌, ◌<◌}
use mathlib.Core.Path.{◌≡◌, refl, ap, sym, ◌∙◌, subst}
use mathlib.Core.List.{List, ◌++◌}
use mathlib.Core.Option.{Option, none, some}
use mathlib.Core.Logic.{inl, inr}
use native.Mathlib.Nat.{add-zero, zero-add}
use native.Mathlib.Omega.{arith}
use lib.ListN.{length, drop}
use Rattle.card.specs.Card.{TRAP, BUDGET}
use Rattle.limits.specs.Limits.{memory_limit}
use Rattle.leb128.specs.Bytes.{bytes}
use Rattle.image.specs.Image.{image_bytes}
use Rattle.rules.specs.Header.{Header}
use Rattle.rules.specs.Strip.{Valid}
use Rattle.standard.specs.Standard.{Config, going, runs}
use Rattle.standard.specs.Safety.{Sound, Placed, Safe, safe_going}
use Rattle.standard.proofs.Never.{never_stuck}
use Rattle.standard.proofs.Placed.{begin-placed, runs-placed}
use Rattle.rules.proofs.Onward.{declared}
use Rattle.run.specs.Meter.{Left, leaves, picture_of, meter}
use Rattle.run.specs.Call.{Fails, Asks, TurnsAway, breaks, fails, refused, metered}
use Rattle.run.specs.Run.{Slots, run_asks, Runs}
use Rattle.run.specs.Resume.{Pictures, Resumes}
use Rattle.run.specs.Slices.{sum, Slices, no_slice, over, slice, Together}
use Rattle.run.proofs.Metered.{meter-along, budget-exact}
use Rattle.run.proofs.Parting.{meter-further, meter-over, meter-spent}
use Rattle.run.proofs.Picturing.{pictured-room}
use Rattle.run.proofs.Promises.{breach-range, run_call}
use Rattle.run.proofs.Unique.{runs-once, resumes-once}

-- no slice after x
alone : {x w : Left} → w ≡ x → Together x x 0 w
alone {x} e =
    subst (Together x x 0) (sym e) (record { code = refl; place = refl; steps = sym (add-zero x.answer.steps); memory = refl; results = refl })

-- ---- from any state that a run may be in

module _ {s : List ℕ} (v : Valid s) (out : List ℕ) (o : Slots v.header.results out) where
  abbrev h : Header
  h = v.header

  record From (b : Config) : Type 0 where
    sound : Sound s h b
    placed : Placed s h b
    room : length b.state.memory ≤ memory_limit

  going-from : (k : ℕ) {b d : Config} → From b → runs s h k b ≡ going d → From d
  going-from k {b} {d} f e = by (subst (Safe s h b) e (never_stuck v b f.sound k))
    where
      by : Safe s h b (going d) → From d
      by (safe_going sound long) = record { sound = sound; placed = runs-placed v b d f.sound f.placed k e; room = omega (arith, long, f.room) }

  -- a resume from the image of d is the machine from d
  resumed : (d : Config) (rest : List ℕ) (k : ℕ) (y : Left) → From d → Resumes s d.state.memory out (picture_of d ++ rest) k y
      → y ≡ meter s h k 0 d out (some (picture_of d ++ rest))
  resumed d rest k y f r =
      let p : Pictures s h d.state.memory (picture_of d ++ rest) d = record { sound = f.sound; placed = f.placed; memory = refl; rest = rest; bytes = refl } in
      resumes-once s d.state.memory out (picture_of d ++ rest) k r (metered v d (f.room, (o, (pictured-room p, ((d, p), tt)))) p)

  -- x is what a budget of k leaves of b, and it leaves b going, at d
  module _ (k : ℕ) (b d : Config) (buffer : List ℕ) (x : Left) (e : x ≡ meter s h k 0 b out (some buffer)) (run : runs s h k b ≡ going d) where
    there : x ≡ leaves BUDGET d.place k d.state.memory out (some (picture_of d ++ drop image_bytes buffer))
    there = e ∙ budget-exact s h out (some buffer) b k d run

    -- a resume with what it left
    goes_on : (next : List ℕ) (j : ℕ) (y : Left) → From b → x.image ≡ some next → Resumes s x.memory x.results next j y
        → y ≡ meter s h j 0 d out (some (picture_of d ++ drop image_bytes buffer))
    goes_on next j y f image r =
        let held : some next ≡ some (picture_of d ++ drop image_bytes buffer) = sym image ∙ ap (λ (z : Left). z.image) there in
        let same : next ≡ picture_of d ++ drop image_bytes buffer = cc (held) in
        resumed d (drop image_bytes buffer) j y (going-from k f run)
        (subst (λ (i : List ℕ). Resumes s d.state.memory out i j y) same
        (subst (λ (z : List ℕ). Resumes s d.state.memory z next j y) (ap (λ (z : Left). z.results) there)
        (subst (λ (z : List ℕ). Resumes s z x.results next j y) (ap (λ (z : Left). z.memory) there) r)))

    -- what is left from d on is left from b on, k steps later
    joins : (j n : ℕ) (y z : Left) (i : Option (List ℕ)) → Together y z n (meter s h j 0 d out i)
        → Together x z (y.answer.steps + n) (meter s h (k + j) 0 b out (some buffer))
    joins j n y z i t =
        let later = meter-further s h out i (some buffer) k j 0 d in
        let same : meter s h (k + j) 0 b out (some buffer) ≡ meter s h j (k + 0) d out (some buffer) =
        meter-along s h out (some buffer) k j 0 b d run ∙ ap (λ (m : ℕ). meter s h j m d out (some buffer)) (zero-add k ∙ sym (add-zero k)) in
        subst (Together x z (y.answer.steps + n)) (sym same)
        (record {
          code = later.code ∙ t.code;
          place = later.place ∙ t.place;
          steps = later.steps ∙ ap (λ (m : ℕ). k + m) t.steps ∙ ap (λ (m : ℕ). m + (y.answer.steps + n)) (sym (ap (λ (z : Left). z.answer.steps) there));
          memory = later.memory ∙ t.memory;
          results = later.results ∙ t.results;
        })

  whole : (k : ℕ) (b : Config) (buffer : List ℕ) {n : ℕ} {ks : List ℕ} {x z : Left} → From b → x ≡ meter s h k 0 b out (some buffer) → Slices s x ks z n
      → Together x z n (meter s h (k + sum ks) 0 b out (some buffer))
  whole k b buffer f e no_slice = alone (ap (λ (j : ℕ). meter s h j 0 b out (some buffer)) (add-zero k) ∙ sym e)
  whole k b buffer {ks = ks} f e (over ne) =
      alone (meter-over s h out (some buffer) k (sum ks) 0 b (λ z. ne (ap (λ (x : Left). x.answer.code) e ∙ z)) ∙ sym e)
  whole k b buffer {x = x} {z = z} f e (slice {y = y} {k = j} {n = n} {ks = ks} {buffer = next} spent image r more) =
      let at = meter-spent s h out (some buffer) k 0 b (sym (ap (λ (x : Left). x.answer.code) e) ∙ spent) in
      let pic : List ℕ = picture_of at.0 ++ drop image_bytes buffer in
      joins k b at.0 buffer x e at.1 (j + sum ks) n y z (some pic)
      (whole j at.0 pic (going-from k f at.1) (goes_on k b at.0 buffer x e at.1 next j y f image r) more)

-- ---- from the run on

-- a call that is turned away spends no budget
unspent : {s : List ℕ} {asks : Asks} {c p : ℕ} → ((v : Valid s) → (c : ℕ) → Fails (asks v.header) c → c < TRAP) → TurnsAway s asks c p → c ≡ BUDGET → ⊥
unspent early (breaks b) e = omega (arith, (breach-range b).1, e)
unspent early (fails {c} v f) e = omega (arith, early v c f, e)

pub slices : {s args mem out buffer : List ℕ} {k n : ℕ} {ks : List ℕ} {x z w : Left} → bytes mem → Runs s args mem out (some buffer) k x → Slices s x ks z n
    → Runs s args mem out (some buffer) (k + sum ks) w → Together x z n w
slices {s} {args} {mem} {out} {buffer} {k} {n} {ks} {x} {z} {w} m (refused t) sl r =
    by sl (unspent (run_call {s = s} {args = args} {mem = mem} {out = out} (some buffer) m).early t)
    (runs-once s args mem out (some buffer) (k + sum ks) r (refused t))
  where
    by : {ks : List ℕ} {x z : Left} {n : ℕ} → Slices s x ks z n → (x.answer.code ≡ BUDGET → ⊥) → w ≡ x → Together x z n w
    by no_slice never e = alone e
    by (over ne) never e = alone e
    by (slice spent image q more) never e = absurd (never spent)
slices {s} {args} {mem} {out} {buffer} {k} {n} {ks} {x} {z} {w} m (metered v c well b) sl r =
    subst (Together x z n) (sym (runs-once s args mem out (some buffer) (k + sum ks) r (metered v c well b)))
    (whole v out well.1.1.0 k c buffer
    (record {
      sound = ((run_call {out = out} (some buffer) m).sound v c b).0;
      placed = subst (Placed s v.header) (sym b.begins) (begin-placed (declared v.reached) b.values mem);
      room = subst (λ (x : List ℕ). length x ≤ memory_limit) (sym (ap (λ (y : Config). y.state.memory) b.begins)) well.0;
    }) refl sl)

-- ---- and a run without an image

module _ (args mem out buffer : List ℕ) (long : image_bytes ≤ length buffer) where
  -- it is asked all but 24
  fewer : (g : Header) {c : ℕ} → Fails (run_asks args mem out (some buffer) g) c → Fails (run_asks args mem out none g) c
  fewer g (inl n) = inl n
  fewer g (inr (a, inl n)) = inr (a, inl n)
  fewer g (inr (a, inr (b, inl n))) = inr (a, inr (b, inl n))
  fewer g (inr (a, inr (b, inr (d, inl n)))) = inr (a, inr (b, inr (d, inl n)))
  fewer g (inr (a, inr (b, inr (d, inr (e, inl n))))) = absurd (n.0 long)
  fewer g (inr (a, inr (b, inr (d, inr (e, inr n))))) = absurd n.1

  without : {s : List ℕ} {c p : ℕ} → TurnsAway s (run_asks args mem out (some buffer)) c p → TurnsAway s (run_asks args mem out none) c p
  without (breaks b) = breaks b
  without (fails v f) = fails v (fewer v.header f)

  -- A RUN THAT LENDS NO IMAGE ends as one that lends a buffer with room
  pub same-at-once : {s : List ℕ} {k : ℕ} {x w : Left} → Runs s args mem out (some buffer) k x → Runs s args mem out none k w → Together x x 0 w
  same-at-once {s} {k} (refused {c} {p} t) r =
      subst (Together (leaves c p 0 mem out (some buffer)) (leaves c p 0 mem out (some buffer)) 0)
      (runs-once s args mem out none k (refused (without t)) r)
      (record { code = refl; place = refl; steps = refl; memory = refl; results = refl })
  same-at-once {s} {k} (metered v c well b) r =
      let same = meter-further s v.header out (some buffer) none 0 k 0 c in
      let x : Left = meter s v.header k 0 c out (some buffer) in
      subst (Together x x 0) (runs-once s args mem out none k (metered v c (well.0, (well.1.0, (well.1.1.0, (well.1.1.1.0, (tt, tt))))) b) r)
      (record {
        code = same.code;
        place = same.place;
        steps = same.steps ∙ omega arith;
        memory = same.memory;
        results = same.results;
      })

  -- SLICES are 01's run too
  pub slices-at-once : {s : List ℕ} {k n : ℕ} {ks : List ℕ} {x z w : Left} → bytes mem → Runs s args mem out (some buffer) k x → Slices s x ks z n
      → Runs s args mem out none (k + sum ks) w → Together x z n w
  slices-at-once {s} {k} {n} {ks} {x} {z} {w} m r sl q =
      let one = lent r in
      let t = slices m r sl one.1 in
      let u = same-at-once one.1 q in
      record {
        code = u.code ∙ t.code;
        place = u.place ∙ t.place;
        steps = u.steps ∙ omega (arith, t.steps);
        memory = u.memory ∙ t.memory;
        results = u.results ∙ t.results;
      }
    where
      lent : {x : Left} → Runs s args mem out (some buffer) k x → (y : Left) × Runs s args mem out (some buffer) (k + sum ks) y
      lent (refused {c} {p} t) = (leaves c p 0 mem out (some buffer), refused t)
      lent (metered v c well b) = (meter s v.header (k + sum ks) 0 c out (some buffer), metered v c well b)
