use Rattle.std.proofs.Common.{refl, ◌∙◌}
use Rattle.search_leaves.specs.Columns.{record_in}
use Rattle.search_leaves.proofs.CandidateLaws.{stage_refuses, window_tells}
use Rattle.search_leaves.proofs.is_candidate.Goals as goal

pub returns-then-in_stages : goal.returns-then-in_stages
returns-then-in_stages c =
    let a = c.args in
    window_tells a.choice (record_in a.page.now a.i) _ _ _ c.in_stages.ensures c.if-in_stages.true refl c.read_stage.ensures
    _ _ _ c.in_window.ensures refl c.read_stamp.ensures

pub returns-else-in_stages : goal.returns-else-in_stages
returns-else-in_stages c =
    let a = c.args in
    λ q w. c.if-in_stages.false ∙ stage_refuses a.choice (record_in a.page.now a.i) _ _ _ c.in_stages.ensures c.if-in_stages.false refl c.read_stage.ensures q w
