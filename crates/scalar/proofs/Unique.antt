-- Each promise of this crate leaves one answer: a promise is an equation, `r ≡ x`, whose right side does not name r; no function
-- changes anything lent. One theorem for all types of answer: a lane's bits, a bool, an integer.
use Rattle.std.proofs.Common.{◌≡◌, sym, ◌∙◌}

pub one_answer : {A : Type 0} (r r' x : A) → r ≡ x → r' ≡ x → r ≡ r'
one_answer r r' x e f = e ∙ sym f
