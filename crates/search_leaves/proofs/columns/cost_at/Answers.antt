use Rattle.std.proofs.Common.{ap, ◌∙◌}
use Rattle.search_leaves.specs.Columns.{gap_square}
use Rattle.search_leaves.proofs.columns.cost_at.Goals as goal

pub returns : goal.returns
returns c =
    let S = c.square_gap.ensures in (S.0 ∙ ap (gap_square c.args.x) c.read_coord.ensures.0, S.1)
