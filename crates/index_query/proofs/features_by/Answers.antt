use Rattle.std.proofs.Common.{ap, ◌∙◌, length, List, ℕ, Bor}
use Rattle.std.proofs.lemmas.List.{take-replicate}
use Rattle.index_query.proofs.PointLaws.{laid_as, laid_or}
use Rattle.index_query.proofs.features_by.Goals as goal

-- `features_by` meets its contract: where no weights are carried, the first of its ones are as many as the point has coordinates.
pub returns : goal.returns
returns c =
    laid_as c.ask.ensures (ap (λ (r : Bor (List ℕ)). r.now) c.unwrap_or.ensures
    ∙ laid_or c.args.weights _ (length c.args.q.now) (take-replicate _ _ _ c.requires.0))
