use Rattle.index_refusals.specs.TrustedLaws.{insert_same}
use Rattle.index.proofs.RuleLaws.{checked_sound}
use Rattle.index.proofs.upkeep.insert.Goals as goal

pub returns : goal.returns
returns c =
    let a = c.args in
    (insert_same a.index.now (checked_sound a.index.now c.in_ok-refuse_index.ensures) a.epoch a.point.now _ c.insert.ensures.0, c.insert.ensures.1)
