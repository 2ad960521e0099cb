-- What a function with a lane's index answers (01, "Numbers on the inspector's card"): DONE with the value, or LANE, place 0 and zero.
use Rattle.std.specs.Prelude.{ℕ, Bool, cond, List, ltb, replicate, Result, Ok, Err}
use Rattle.std.specs.Int.{Width}
use Rattle.card.specs.Card.{DONE, LANE}
use Rattle.scalar.specs.Scalar.{Sign}
use Rattle.operation.specs.Shape.{i8x16, lanes}
use Rattle.operation.specs.Vector.{lane}
use Rattle.operation.specs.Op.{all, extracted, replaced, shuffled, lane_in, lane_out}
use Rattle.lane.specs.declared.V128.{V128}
use Rattle.lane.specs.declared.answer.NoSuchLane.{NoSuchLane}

-- number, place and value
pub record LaneAnswer : Type 0 where
  pub code : ℕ
  pub place : ℕ
  pub value : ℕ

pub record VectorAnswer : Type 0 where
  pub code : ℕ
  pub place : ℕ
  pub value : V128

abbrev pub scalar_if : Bool → ℕ → LaneAnswer
scalar_if ok x = cond ok (record { code = DONE; place = 0; value = x }) (record { code = LANE; place = 0; value = 0 })

abbrev pub vector_if : Bool → List ℕ → VectorAnswer
vector_if ok v =
    cond ok (record { code = DONE; place = 0; value = record { bytes = v } }) (record { code = LANE; place = 0; value = record { bytes = replicate 16 0 } })

-- number, place and value of each case
abbrev pub lane_answer : Result ℕ NoSuchLane → LaneAnswer
lane_answer (Ok x) = record { code = DONE; place = 0; value = x }
lane_answer (Err e) = record { code = LANE; place = 0; value = 0 }

abbrev pub vector_answer : Result V128 NoSuchLane → VectorAnswer
vector_answer (Ok v) = record { code = DONE; place = 0; value = v }
vector_answer (Err e) = record { code = LANE; place = 0; value = record { bytes = replicate 16 0 } }

abbrev pub extract_lane : Sign → Width → List ℕ → ℕ → LaneAnswer
extract_lane s w a i = scalar_if (ltb i (lanes w)) (extracted s w a i)

abbrev pub replace_lane : Width → List ℕ → ℕ → ℕ → VectorAnswer
replace_lane w a i x = vector_if (ltb i (lanes w)) (replaced w a i x)

-- every index is below 32
abbrev pub shuffle : List ℕ → List ℕ → List ℕ → VectorAnswer
shuffle a b s = vector_if (all (lanes i8x16) (λ n. ltb (lane i8x16 s n) 32)) (shuffled a b s)

abbrev pub load_lane : Width → List ℕ → List ℕ → ℕ → VectorAnswer
load_lane w m a i = vector_if (ltb i (lanes w)) (lane_in w m a i)

abbrev pub store_lane : Width → List ℕ → ℕ → VectorAnswer
store_lane w a i = vector_if (ltb i (lanes w)) (lane_out w a i)
