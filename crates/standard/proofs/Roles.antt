-- What an instruction does to the nesting says of which sort it is, by the rules: `end` closes a block, `block` and `loop` open one, no other does.
use Prim.Native.Nat.{ℕ}
use mathlib.Core.Path.{◌≡◌, refl, ap, sym, ◌∙◌}
use mathlib.Core.Bool.{Bool, true, false, cond}
use native.Mathlib.Omega.{arith}
use Rattle.opcode.specs.Table.{Plain, End, Drop, LocalGet, LocalSet, LocalTee, I32Const, I64Const, I32Add, I32Sub, I32Eqz, I32LtU}
use Rattle.opcode.specs.Table.{Block, Loop, Br, BrIf, Code, plain, control, vector}
use Rattle.rules.specs.Typing.{Opens, block_opens, loop_opens}
use Rattle.standard.specs.Closing.{is_end, opener, closer, neither, role}

is-end : (p : Plain) → is_end p ≡ true → p ≡ End
is-end End e = refl
is-end Drop e = absurd (let z : ◌≡◌ {A = ℕ} 0 1 = cc in omega arith)
is-end LocalGet e = absurd (let z : ◌≡◌ {A = ℕ} 0 1 = cc in omega arith)
is-end LocalSet e = absurd (let z : ◌≡◌ {A = ℕ} 0 1 = cc in omega arith)
is-end LocalTee e = absurd (let z : ◌≡◌ {A = ℕ} 0 1 = cc in omega arith)
is-end I32Const e = absurd (let z : ◌≡◌ {A = ℕ} 0 1 = cc in omega arith)
is-end I64Const e = absurd (let z : ◌≡◌ {A = ℕ} 0 1 = cc in omega arith)
is-end I32Add e = absurd (let z : ◌≡◌ {A = ℕ} 0 1 = cc in omega arith)
is-end I32Sub e = absurd (let z : ◌≡◌ {A = ℕ} 0 1 = cc in omega arith)
is-end I32Eqz e = absurd (let z : ◌≡◌ {A = ℕ} 0 1 = cc in omega arith)
is-end I32LtU e = absurd (let z : ◌≡◌ {A = ℕ} 0 1 = cc in omega arith)

pub closer-ends : (c : Code) → role c ≡ closer → c ≡ plain End
closer-ends (plain p) e = by (is_end p) refl e
  where
    by : (t : Bool) → is_end p ≡ t → cond t closer neither ≡ closer → plain p ≡ plain End
    by true q e = ap plain (is-end p q)
    by false q e = absurd (let z : ◌≡◌ {A = ℕ} 0 1 = cc (e) in omega arith)
closer-ends (control Block) e = absurd (let z : ◌≡◌ {A = ℕ} 0 1 = cc in omega arith)
closer-ends (control Loop) e = absurd (let z : ◌≡◌ {A = ℕ} 0 1 = cc in omega arith)
closer-ends (control Br) e = absurd (let z : ◌≡◌ {A = ℕ} 0 1 = cc in omega arith)
closer-ends (control BrIf) e = absurd (let z : ◌≡◌ {A = ℕ} 0 1 = cc in omega arith)
closer-ends (vector o) e = absurd (let z : ◌≡◌ {A = ℕ} 0 1 = cc in omega arith)

pub opener-opens : (c : Code) → role c ≡ opener → Opens c
opener-opens (plain p) e = by (is_end p) e
  where
    by : (t : Bool) → cond t closer neither ≡ opener → Opens (plain p)
    by true e = absurd (let z : ◌≡◌ {A = ℕ} 0 1 = cc (e) in omega arith)
    by false e = absurd (let z : ◌≡◌ {A = ℕ} 0 1 = cc (e) in omega arith)
opener-opens (control Block) e = block_opens
opener-opens (control Loop) e = loop_opens
opener-opens (control Br) e = absurd (let z : ◌≡◌ {A = ℕ} 0 1 = cc in omega arith)
opener-opens (control BrIf) e = absurd (let z : ◌≡◌ {A = ℕ} 0 1 = cc in omega arith)
opener-opens (vector o) e = absurd (let z : ◌≡◌ {A = ℕ} 0 1 = cc in omega arith)

pub neither-opens : {c : Code} → role c ≡ neither → Opens c → ⊥
neither-opens e block_opens = let z : ◌≡◌ {A = ℕ} 0 1 = cc in omega arith
neither-opens e loop_opens = let z : ◌≡◌ {A = ℕ} 0 1 = cc in omega arith

pub neither-ends : {c : Code} → role c ≡ neither → c ≡ plain End → ⊥
neither-ends e f = let x = sym e ∙ ap role f in let z : ◌≡◌ {A = ℕ} 0 1 = cc (x) in omega arith
