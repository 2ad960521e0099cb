-- Of any bytes the program prints one text. The memory that it lends is within the limit, and the buffer for the results is the one that the strip
-- asks for.
use Prim.Native.Nat.{ℕ, ◌*◌, ◌≤◌}
use mathlib.Core.Path.{◌≡◌, ap, ap₂, sym, ◌∙◌, subst}
use mathlib.Core.List.{List, [], ◌∷◌, ◌++◌}
use native.Mathlib.Omega.{arith}
use lib.ListN.{length, take, length-replicate}
use Rattle.card.specs.declared.Answer.{Answer}
use Rattle.limits.specs.Limits.{memory_limit, slot}
use Rattle.rules.specs.Strip.{Valid}
use Rattle.rules.proofs.Onward.{declared}
use Rattle.run.specs.Meter.{Left}
use Rattle.run.specs.Run.{Slots}
use Rattle.run.proofs.HeaderBytes.{result_count_lem}
use Rattle.run.proofs.Unique.{runs-once}
use Rattle.text.specs.Words.{blank, newline}
use Rattle.text.proofs.Decimals.{decimal-once}
use Rattle.gevurlat.specs.Text.{result_lines, Shown}
use Rattle.gevurlat.specs.Program.{memory_bytes, zeros, result_count, PrintsFrom}
use Rattle.gevurlat.proofs.answer.answer.Reads as answer

shown-once : {a : Answer} {results t u : List ℕ} → Shown a results t → Shown a results u → t ≡ u
shown-once {a} {results} p q =
    p.whole
    ∙ ap₂ (λ (x y : List ℕ). (x ++ blank ∷ []) ++ (y ++ blank ∷ []) ++ (p.steps ++ newline ∷ []) ++ result_lines a.code results)
    (decimal-once p.code_is q.code_is) (decimal-once p.place_is q.place_is)
    ∙ ap (λ (x : List ℕ). (q.code ++ blank ∷ []) ++ (q.place ++ blank ∷ []) ++ (x ++ newline ∷ []) ++ result_lines a.code results)
    (decimal-once p.steps_is q.steps_is)
    ∙ sym q.whole

pub prints-once : {s memory results t u : List ℕ} → PrintsFrom s memory results t → PrintsFrom s memory results u → t ≡ u
prints-once {u = u} p q =
    let same = runs-once _ _ _ _ _ _ q.ran p.ran in
    shown-once p.shown (subst (λ (x : Left). Shown x.answer x.results u) same q.shown)

-- of the function's own contract
pub one-text : (κs : _) (a : _) (e e' : _) (r r' : ℕ) → answer.Post κs a r e → answer.Post κs a r' e' → take r e.1.0.now ≡ take r' e'.1.0.now
one-text κs a e e' r r' p q = prints-once p.1 q.1

-- 01's number, which C-15 leaves as it is
pub memory-lent : length (zeros memory_bytes) ≡ 65536
unfolding zeros
memory-lent = length-replicate {A = ℕ} memory_bytes 0

pub memory-fits : length (zeros memory_bytes) ≤ memory_limit
unfolding zeros
memory-fits = omega (arith, length-replicate {A = ℕ} memory_bytes 0)

pub buffer-fits : {s : List ℕ} (v : Valid s) → Slots v.header.results (zeros (slot * result_count s))
unfolding zeros
buffer-fits {s} v =
    let d = declared v.reached in
    length-replicate (slot * result_count s) 0 ∙ omega (arith, result_count_lem d, d.few.results)
