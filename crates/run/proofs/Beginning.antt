-- The configuration from which a run begins, as the code holds it.
use Prim.Native.Nat.{ℕ, ◌+◌, ◌*◌, ◌≤◌}
use mathlib.Core.Path.{◌≡◌, refl, sym, subst}
use mathlib.Core.List.{List}
use native.Mathlib.Omega.{arith}
use lib.ListN.{length, replicate, length-replicate}
use Rattle.limits.specs.Limits.{local_count, stack_bytes, local_bytes, nest_limit}
use Rattle.operation.proofs.Laws.Number.{Bytes}
use Rattle.machine.specs.Memory.{stored}
use Rattle.machine.specs.Inner.Rep.{Rep}
use Rattle.rules.specs.Header.{Header, header_bytes}
use Rattle.rules.proofs.Onward.{declared}
use Rattle.standard.specs.Standard.{Config, begin}
use Rattle.standard.specs.Safety.{Sound}
use Rattle.standard.proofs.Begin.{begin-sound}
use Rattle.run.specs.Inner.Steps.{Prepared}
use Rattle.run.specs.Inner.Carried.{open_in, Carries, Going}
use Rattle.run.proofs.Start.{args-long, counted, start-holds}

module _ {s args mem out : List ℕ} (r : Prepared s args mem out) where
  abbrev h : Header
  h = r.valid.header

  few-locals : length h.parameters + length h.further ≤ local_count
  few-locals = omega (arith, (declared r.valid.reached).few.parameters, (declared r.valid.reached).few.further)

  pub args_fit : length args ≤ local_bytes
  args_fit = omega (arith, args-long h args r.values r.given few-locals, counted h args r.values r.given few-locals, few-locals)

  module _ (b : Bytes mem) {locals : List ℕ} (f : locals ≡ stored (replicate local_bytes 0) 0 args) {at : ℕ} (e : at ≡ length (header_bytes h)) where
    abbrev c : Config
    c = begin h r.values mem

    sound : Sound s h c
    sound = begin-sound r.valid r.values mem (record { kinds = r.given.kinds; range = r.given.range; bytes = λ k. (b k).fits })

    pub begins : Carries s h c at 0 (open_in (replicate (3 * nest_limit + 1) 0)) (replicate stack_bytes 0) (replicate (3 * nest_limit + 1) 0) locals mem
    begins =
        record {
          place = sym e;
          sound = sound;
          rep =
              subst (λ (ls : List ℕ). Rep c.state (replicate stack_bytes 0) 0 ls mem) (sym f)
              (start-holds h args r.values r.given few-locals mem b sound);
          many = refl;
          marked = tt;
          marks_long = length-replicate {A = ℕ} (3 * nest_limit + 1) 0;
        }

    pub may-begin : Going s out at 0 (open_in (replicate (3 * nest_limit + 1) 0)) (replicate stack_bytes 0) (replicate (3 * nest_limit + 1) 0) locals mem
    may-begin = record { held = record { valid = r.valid; config = c; carries = begins }; slots = r.slots }
