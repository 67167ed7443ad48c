use Rattle.std.proofs.Common.{refl, arith, mul-le-mul}
use Rattle.search_leaves.proofs.columns.weighted_cost.Goals as goal

pub overflow_mul-result : goal.overflow_mul-result
overflow_mul-result c = let l = mul-le-mul c.requires.1 c.requires.0 in rw (c.from.ensures, c.from-2.ensures) (record { fits = omega (arith, l) })

pub returns : goal.returns
returns c = rw (c.from.ensures, c.from-2.ensures) (refl, mul-le-mul c.requires.1 c.requires.0)
