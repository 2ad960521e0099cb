-- ALIGNED ACCESS EARNS NO DIFFERENT ANSWER, of the run: two strips that differ in alignment exponents at most are answered alike and leave the same.
use Prim.Native.Nat.{ℕ, zero, suc}
use mathlib.Core.Path.{◌≡◌, refl, ap, sym, ◌∙◌, subst}
use mathlib.Core.List.{List}
use mathlib.Core.Option.{Option}
use Rattle.leb128.specs.Bytes.{bytes}
use Rattle.rules.specs.Header.{Header}
use Rattle.rules.specs.Strip.{Valid}
use Rattle.rules.proofs.Verdicts.{valid-no-breach}
use Rattle.standard.specs.Standard.{Config, Stage, going, ended, trapped, halted, step}
use Rattle.standard.specs.Safety.{Sound, Safe, safe_going}
use Rattle.standard.specs.Exponents.{Realigned}
use Rattle.standard.proofs.Turn.{safe-step}
use Rattle.standard.proofs.Realigning.{valid-too, realigned-step}
use Rattle.run.specs.Meter.{Left, meter, meter_by}
use Rattle.run.specs.Call.{breaks, fails, refused, metered}
use Rattle.run.specs.Run.{run_asks, Begins, Runs}
use Rattle.run.proofs.Promises.{run_call}
use Rattle.run.proofs.Unique.{header-once, fails-for, well-for, runs-once}

module _ {s t : List ℕ} (v : Valid s) (r : Realigned s t v.header) where
  abbrev h : Header
  h = v.header

  pub realigned-meter : (k n : ℕ) (c : Config) (out : List ℕ) (img : Option (List ℕ)) → Sound s h c → meter t h k n c out img ≡ meter s h k n c out img
  unfolding meter
  realigned-meter zero n c out img sound = refl
  realigned-meter (suc k) n c out img sound =
      ap (meter_by n c out img (λ d. meter t h k (suc n) d out img)) (realigned-step v r c sound)
      ∙ by (step s h c) (safe-step v c sound) (λ d there. realigned-meter k (suc n) d out img there)
    where
      by : (g : Stage) → Safe s h c g → ((d : Config) → Sound s h d → meter t h k (suc n) d out img ≡ meter s h k (suc n) d out img)
          → meter_by n c out img (λ d. meter t h k (suc n) d out img) g ≡ meter_by n c out img (λ d. meter s h k (suc n) d out img) g
      by (going d) (safe_going there long) next = next d there
      by (ended vs m) safe next = refl
      by (trapped a j) safe next = refl
      by halted safe next = elim safe [ ]

  module _ {args mem out : List ℕ} {img : Option (List ℕ)} {budget : ℕ} (m : bytes mem) where
    answered-too : {x : Left} → Runs s args mem out img budget x → Runs t args mem out img budget x
    answered-too (refused (breaks b)) = absurd (valid-no-breach v b)
    answered-too (refused (fails {c} w f)) = refused (fails (valid-too v r) (fails-for (run_asks args mem out img) w v c f))
    answered-too (metered w c well b) =
        let e = header-once w v in
        let b' : Begins args mem h c = subst (λ (x : Header). Begins args mem x c) e b in
        subst (Runs t args mem out img budget)
        (realigned-meter budget 0 c out img ((run_call {out = out} img m).sound v c b').0 ∙ ap (λ (x : Header). meter s x budget 0 c out img) (sym e))
        (metered (valid-too v r) c (well-for (run_asks args mem out img) w v well) b')

    -- ONE ANSWER, one memory, one content of the results and of the image's buffer
    pub realigned-run : {x y : Left} → Runs s args mem out img budget x → Runs t args mem out img budget y → x ≡ y
    realigned-run p q = runs-once t args mem out img budget (answered-too p) q
