use Rattle.index_refusals.specs.TrustedLaws.{delete_same}
use Rattle.index.proofs.RuleLaws.{checked_sound}
use Rattle.index.proofs.upkeep.delete.Goals as goal

pub returns : goal.returns
returns c =
    let a = c.args in
    (delete_same a.index.now (checked_sound a.index.now c.in_ok-refuse_index.ensures) a.id _ c.delete.ensures.0, c.delete.ensures.1)
