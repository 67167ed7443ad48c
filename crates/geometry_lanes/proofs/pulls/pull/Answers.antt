use Rattle.std.proofs.Common.{rules}
use Rattle.geometry_lanes.proofs.TurnLaws.{product_fits, pull_small}
use Rattle.geometry_lanes.proofs.pulls.pull.Goals as goal

-- The product of two numbers of 16 bits fits.
pub overflow_mul-result : goal.overflow_mul-result
overflow_mul-result c =
    let a = c.args in
    let s = product_fits a.weight a.x c.ranges.weight.fits c.ranges.x.fits in
    rw (c.from.ensures, c.from-2.ensures) (search (s, rules))

pub returns : goal.returns
returns c =
    let a = c.args in
    (rw (c.from.ensures, c.from-2.ensures), λ l. rw (c.from.ensures, c.from-2.ensures) (pull_small a.weight a.x c.ranges.weight.fits l))
