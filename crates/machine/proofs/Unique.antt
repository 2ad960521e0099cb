-- One answer, and one content of each buffer, for the code that the number has.
use Prim.Native.Nat.{ℕ}
use mathlib.Core.Path.{◌≡◌, refl, ap, sym, ◌∙◌}
use mathlib.Core.List.{List}
use native.Mathlib.Omega.{arith}
use Rattle.card.specs.Card.{DONE, TRAP}
use Rattle.opcode.specs.Table.{Code, carried}
use Rattle.opcode.specs.Number.{row_of}
use Rattle.instr.specs.declared.Instr.{Instr}
use Rattle.machine.specs.Inner.Fit.{DidBy, bounds_of}
use Rattle.machine.specs.Answer.{Reach, told_bounds}
use Rattle.std.specs.Prelude.{Ok, Err}
use Rattle.std.specs.declared.result.Result.{Result}
use Rattle.machine.specs.declared.access.PastEnd.{PastEnd}
use Rattle.machine.proofs.slot.top_word.Reads as top-word
use Rattle.machine.proofs.slot.carry.Reads as carry

-- the card's numbers tell the answers apart
told-once : (r r' : Result (Unit {0}) PastEnd) → told_bounds r ≡ told_bounds r' → r ≡ r'
told-once (Ok x) (Ok y) e = refl
told-once (Ok x) (Err a) e = absurd (let z : DONE ≡ TRAP = ap (λ (x : Reach). x.code) e in omega (arith, z))
told-once (Err a) (Ok x) e = absurd (let z : TRAP ≡ DONE = ap (λ (x : Reach). x.code) e in omega (arith, z))
told-once (Err a) (Err b) e = ap (λ (n : ℕ). Err (record { address = n })) (ap (λ (x : Reach). x.address) e)

module _ (id : ℕ) (i : Instr) (st : List ℕ) (d : ℕ) (c : Code) (row : row_of id ≡ carried c) where
  pub one-bounds : (len : ℕ) (r r' : Result (Unit {0}) PastEnd) → ((c : Code) → row_of id ≡ carried c → told_bounds r ≡ bounds_of c i st d len)
      → ((c : Code) → row_of id ≡ carried c → told_bounds r' ≡ bounds_of c i st d len) → r ≡ r'
  one-bounds len r r' p q = told-once r r' (p c row ∙ sym (q c row))

  pub one-exec : (ls m : List ℕ) (d₁ d₂ : ℕ) (st₁ st₂ ls₁ ls₂ m₁ m₂ : List ℕ) → DidBy id i st d ls m d₁ st₁ ls₁ m₁ → DidBy id i st d ls m d₂ st₂ ls₂ m₂
      → (d₁ ≡ d₂) × (st₁ ≡ st₂) × (ls₁ ≡ ls₂) × (m₁ ≡ m₂)
  one-exec ls m d₁ d₂ st₁ st₂ ls₁ ls₂ m₁ m₂ p q =
      let x = p.does c row in let y = q.does c row in
      (x.depth ∙ sym y.depth, x.stack ∙ sym y.stack, x.locals ∙ sym y.locals, x.memory ∙ sym y.memory)

-- of what a branch asks and takes along, by the functions' own contracts
pub one_word : (κs : _) (a : _) (e e' : _) (r r' : ℕ) → top-word.Post κs a r e → top-word.Post κs a r' e' → r ≡ r'
one_word κs a e e' r r' p q = p ∙ sym q

pub one-carry : (κs : _) (a : _) (e e' : _) (r r' : _) → carry.Post κs a r e → carry.Post κs a r' e' → e.0.now ≡ e'.0.now
one-carry κs a e e' r r' p q = p ∙ sym q
