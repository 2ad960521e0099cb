-- A `match` on an instruction's id with an arm for each operation of a class: an arm is right if the table has its operation at its
-- number, and the default if no other number has an operation of the class, which antt computes.
use mathlib.Core.Path.{◌≡◌, refl, sym, ap, ap₂, subst, ◌∙◌}
use mathlib.Core.Bool.{cond}
use mathlib.Core.Logic.{⊎_elim}
use Prim.Native.Nat.{ℕ, ◌≤◌, ◌<◌}
use native.Mathlib.Omega.{arith}
use lib.Dec.{T, eqb, ltb}
use borrow.Author.Tests.{eq-eqb, le-ltb}
use mir.Syntax.{Width, Body}
use Rattle.scalar.specs.Scalar.{Sign}
use Rattle.operation.specs.Op.{Unop, Binop, Testop, Shiftop, Loadop, Op, Load, LoadLane, StoreLane, Splat, ExtractLane, ReplaceLane, Unary, Binary, Test, Shift}
use Rattle.opcode.specs.Table.{Code, carried, vector, does}
use Rattle.opcode.specs.Number.{row_of, group_of, group_of_op}
use Rattle.opcode.proofs.Every.{below-or-past}
use Rattle.opcode.proofs.Rows.{row-beyond}
use Rattle.opcode.proofs.Arms.{arms, Missed, others, past-arms as number-past-arms}

-- 1 where the number is of group n, from lo on
abbrev pub of_group : ℕ → ℕ → ℕ → ℕ
of_group n lo id = cond (ltb id lo) 0 (cond (eqb n (group_of (row_of id))) 1 0)

in_table : (id : ℕ) {c : Code} → row_of id ≡ carried c → id < 512
in_table id row = ⊎_elim (λ l. l) (λ h. let wrong : ◌≡◌ {A = ℕ} 0 1 = cc (row-beyond id h) in omega arith) (below-or-past 512 id)

-- the operations that one function of src/vector is for
pub record Class (X : Type 0) : Type 0 where
  pub op : X → Op
  pub number : ℕ
  pub is : (x : X) → group_of_op (op x) ≡ number
  pub once : (x y : X) → does (op x) ≡ does (op y) → x ≡ y

pub load-once : (x y : Loadop) → does (Load x) ≡ does (Load y) → x ≡ y
load-once x y e = cc

abbrev pub loads : Class Loadop
loads = record { op = Load; number = 9; is = λ x. refl; once = load-once }

pub lane-load-once : (x y : Width) → does (LoadLane x) ≡ does (LoadLane y) → x ≡ y
lane-load-once x y e = cc

abbrev pub lane_loads : Class Width
lane_loads = record { op = LoadLane; number = 10; is = λ x. refl; once = lane-load-once }

pub lane-store-once : (x y : Width) → does (StoreLane x) ≡ does (StoreLane y) → x ≡ y
lane-store-once x y e = cc

abbrev pub lane_stores : Class Width
lane_stores = record { op = StoreLane; number = 12; is = λ x. refl; once = lane-store-once }

pub splat-once : (x y : Width) → does (Splat x) ≡ does (Splat y) → x ≡ y
splat-once x y e = cc

abbrev pub splats : Class Width
splats = record { op = Splat; number = 15; is = λ x. refl; once = splat-once }

pub extract-once : (x y : Sign × Width) → does (ExtractLane x.0 x.1) ≡ does (ExtractLane y.0 y.1) → x ≡ y
extract-once (s, w) (s', w') e = cc

abbrev pub extracts : Class (Sign × Width)
extracts = record { op = λ x. ExtractLane x.0 x.1; number = 16; is = λ x. refl; once = extract-once }

pub replace-once : (x y : Width) → does (ReplaceLane x) ≡ does (ReplaceLane y) → x ≡ y
replace-once x y e = cc

abbrev pub replaces : Class Width
replaces = record { op = ReplaceLane; number = 17; is = λ x. refl; once = replace-once }

pub unary-once : (x y : Unop) → does (Unary x) ≡ does (Unary y) → x ≡ y
unary-once x y e = cc

abbrev pub unaries : Class Unop
unaries = record { op = Unary; number = 18; is = λ x. refl; once = unary-once }

pub binary-once : (x y : Binop) → does (Binary x) ≡ does (Binary y) → x ≡ y
binary-once x y e = cc

abbrev pub binaries : Class Binop
binaries = record { op = Binary; number = 19; is = λ x. refl; once = binary-once }

pub test-once : (x y : Testop) → does (Test x) ≡ does (Test y) → x ≡ y
test-once x y e = cc

abbrev pub tests : Class Testop
tests = record { op = Test; number = 21; is = λ x. refl; once = test-once }

pub shift-once : (x y : Shiftop) → does (Shift x) ≡ does (Shift y) → x ≡ y
shift-once x y e = cc

abbrev pub shifts : Class Shiftop
shifts = record { op = Shift; number = 22; is = λ x. refl; once = shift-once }

module _ {X : Type 0} (K : Class X) (P : X → Type 0) where
  -- what a function of the class promises of an id
  abbrev pub Right : ℕ → Type 0
  Right id = (x : X) → row_of id ≡ carried (vector (K.op x)) → P x

  -- the arm of number k, at which the table has x
  pub in-arm : {x : X} {k id : ℕ} → id ≡ k → row_of k ≡ does (K.op x) → P x → Right id
  in-arm {x} at row p y is = subst P (K.once x y (sym row ∙ ap row_of (sym at) ∙ is)) p

  -- the default: of the numbers from lo and below hi, those of the arms alone have an operation of the class
  pub past-between : (b : Body) (lo hi id : ℕ) → T (others (of_group K.number lo) 0 (arms b) hi) → Missed (Unit {0}) (arms b) id → lo ≤ id → id < hi
      → Right id
  past-between b lo hi id t m l h x row =
      let yes : of_group K.number lo id ≡ 1 = simp (le-ltb id lo l, row, eq-eqb K.number (group_of_op (K.op x)) (sym (K.is x))) in
      let no : 0 ≡ of_group K.number lo id = number-past-arms (of_group K.number lo) b hi t (λ g. let wrong : ⊥ = omega arith in absurd wrong) m in
      let wrong : ⊥ = omega arith in
      absurd wrong

  pub past-from : (b : Body) (lo id : ℕ) → T (others (of_group K.number lo) 0 (arms b) 512) → Missed (Unit {0}) (arms b) id → lo ≤ id → Right id
  past-from b lo id t m l x row = past-between b lo 512 id t m l (in_table id row) x row

  pub past-arms : (b : Body) (id : ℕ) → T (others (of_group K.number 0) 0 (arms b) 512) → Missed (Unit {0}) (arms b) id → Right id
  past-arms b id t m = past-from b 0 id t m (omega arith)

-- an arm that reads what the operation is of: one value, or two
module _ {X A C : Type 0} (K : Class X) (f : X → A → C) where
  pub on_one : {x : X} {k id : ℕ} {a b : A} {v : C} → id ≡ k → row_of k ≡ does (K.op x) → a ≡ b → v ≡ f x a → Right K (λ y. v ≡ f y b) id
  on_one {x} {b = b} {v = v} at row read p = in-arm K (λ y. v ≡ f y b) at row (p ∙ ap (f x) read)

module _ {X A B C : Type 0} (K : Class X) (f : X → A → B → C) where
  pub on-two : {x : X} {k id : ℕ} {a c : A} {b d : B} {v : C} → id ≡ k → row_of k ≡ does (K.op x) → a ≡ c → b ≡ d → v ≡ f x a b → Right K (λ y. v ≡ f y c d) id
  on-two {x} {c = c} {d = d} {v = v} at row left right p = in-arm K (λ y. v ≡ f y c d) at row (p ∙ ap₂ (f x) left right)

-- the same of a class of two arguments
module _ (P : Sign → Width → Type 0) where
  pub in-arm₂ : {s : Sign} {w : Width} {k id : ℕ} → id ≡ k → row_of k ≡ does (ExtractLane s w) → P s w → (t : Sign) (v : Width)
      → row_of id ≡ carried (vector (ExtractLane t v)) → P t v
  in-arm₂ at row p t v = in-arm extracts (λ x. P x.0 x.1) at row p (t, v)

  pub past-arms₂ : (b : Body) (id : ℕ) → T (others (of_group extracts.number 0) 0 (arms b) 512) → Missed (Unit {0}) (arms b) id → (t : Sign) (v : Width)
      → row_of id ≡ carried (vector (ExtractLane t v)) → P t v
  past-arms₂ b id tests m t v = past-arms extracts (λ x. P x.0 x.1) b id tests m (t, v)
