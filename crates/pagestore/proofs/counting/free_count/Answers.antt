use Rattle.std.proofs.Common.{arith}
use Rattle.pagestore.specs.Store.CountLaws.{free_both, freed_most, fresh_most}
use Rattle.pagestore.proofs.counting.free_count.Goals as goal

pub overflow_add-result : goal.overflow_add-result
overflow_add-result c = omega (arith, c.freed_count.ensures, c.fresh_count.ensures, freed_most c.args.index.now, fresh_most c.args.index.now)

pub returns : goal.returns
returns c = omega (arith, c.freed_count.ensures, c.fresh_count.ensures, free_both c.args.index.now)
