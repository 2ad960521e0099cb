-- Where an instruction may stand: after the header, and before the strip's last byte is passed.
use Prim.Native.Nat.{ℕ, ◌≤◌, ◌<◌}
use mathlib.Core.List.{List}
use native.Mathlib.Omega.{arith}
use lib.ListN.{length}
use Rattle.limits.specs.Limits.{file_limit}
use Rattle.instr.proofs.Ranges.{stands-some, stands-inside}
use Rattle.rules.specs.Header.{Header}
use Rattle.rules.specs.Typing.{Frame}
use Rattle.rules.specs.Strip.{Reaches, front, past, Valid}
use Rattle.rules.proofs.Onward.{declared}
use Rattle.standard.proofs.Unwinding.{Next, last, goes_on, what-next}
use Rattle.run.proofs.HeaderBytes.{start, inside}

pub late : {s : List ℕ} {h : Header} {p : ℕ} {fs : List Frame} → Reaches s h p fs → 8 ≤ p
late (front d) = omega (arith, start d)
late (past r q t w) = omega (arith, late r)

before_last : {s : List ℕ} {h : Header} {p : ℕ} {fs : List Frame} → Next s h p fs → p < length s
before_last (last q e) = omega (arith, stands-inside q.stands)
before_last (goes_on q t w) = omega (arith, stands-some q.stands, stands-inside q.stands)

pub early : {s : List ℕ} (v : Valid s) {p : ℕ} {fs : List Frame} → Reaches s v.header p fs → p < file_limit
early v r = omega (arith, before_last (what-next v r), (declared v.reached).sized)

-- a place that is reached is one of the file
pub reached-inside : {s : List ℕ} {h : Header} {p : ℕ} {fs : List Frame} → Reaches s h p fs → p ≤ file_limit
reached-inside (front d) = omega (arith, inside d, d.sized)
reached-inside (past r q t l) = omega (arith, stands-inside q.stands, (declared r).sized)
