-- The innermost block's values change, and nothing else.
use Rattle.checker.proofs.Same.{as-index, as-told, err-told}
use Rattle.checker.proofs.Straights.{straight}
use Rattle.checker.proofs.turns.straight.Goals as goal

pub returns-in_err-depth-clause-judges : goal.returns-in_err-depth-clause-judges
returns-in_err-depth-clause-judges c =
    λ v i ls rs fs blocks row o e h w.
    as-told (err-told c.from_residual.ensures) (straight o w (λ outer f t. as-index e (c.in_err-depth.ensures.gives v ls outer f row o h t)))

pub returns-clause-judges : goal.returns-clause-judges
returns-clause-judges c =
    λ v i ls rs fs blocks row o e h w. straight o w (λ outer f t. as-index e (c.in_ok-depth.ensures.gives v ls outer f row o h t))
