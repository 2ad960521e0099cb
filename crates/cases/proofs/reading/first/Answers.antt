use Rattle.std.proofs.Common.{◌≡◌, ℕ, ◌≤◌, ◌==◌, Some, None, cond, ltb, length, ap, ◌∙◌, arith, tests, rules}
use Rattle.std.specs.Option.{unwrap_or}
use Rattle.std.proofs.lemmas.Bool.Decides.{nat_tests}
use Rattle.std.proofs.lemmas.Iterator.{YieldsList-from_slice}
use Rattle.std.proofs.lemmas.Iterator.Search.{position_from_yields_List}
use Rattle.std.proofs.lemmas.List.Sums.{prefix_len-le-length}
use Rattle.cases.proofs.reading.first.Goals as goal

or-the-end : (p n : ℕ) → p ≤ n → unwrap_or (cond (ltb p n) (Some p) None) n ≡ p
or-the-end p n h = grind (arith, nat_tests)

pub returns-clause-first : goal.returns-clause-first
returns-clause-first c =
    let xs = c.args.s.now in
    let p = position_from_yields_List (λ b. b == c.args.c) _ _ c.position.result c.position.ensures.ran (YieldsList-from_slice xs cc) (λ x b q k. search (rules, tests)) in
    c.unwrap_or.ensures ∙ ap (λ r. unwrap_or r (length xs)) p ∙ or-the-end _ _ (prefix_len-le-length _ xs)
