use Rattle.std.proofs.Common.{sym, arith}
use Rattle.pagestore.specs.Store.RangeLaws.{range_high}
use Rattle.pagestore.specs.Store.CountLaws.{fresh_counted, fresh_absent}
use Rattle.pagestore.proofs.counting.fresh_count.Goals as goal

pub overflow_sub-result : goal.overflow_sub-result
overflow_sub-result c = omega (arith, range_high c.args.index.now c.fresh_page-fresh.result (sym c.if-in_range.ensures), c.page_count.ensures)

pub returns-then-in_range : goal.returns-then-in_range
returns-then-in_range c = fresh_counted _ _ _ c.fresh_page-fresh.ensures (sym c.if-in_range.ensures) c.page_count.ensures

pub returns-else-in_range : goal.returns-else-in_range
returns-else-in_range c = fresh_absent _ _ c.fresh_page-fresh.ensures (sym c.if-in_range.ensures)
