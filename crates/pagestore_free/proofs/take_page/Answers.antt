use Rattle.std.proofs.Common.{sym, arith}
use Rattle.pagestore.specs.Store.RangeLaws.{range_fits}
use Rattle.pagestore_free.proofs.TakeLaws.{take_freed, take_fresh, take_none}
use Rattle.pagestore_free.proofs.take_page.Goals as goal

pub returns-then-in_range : goal.returns-then-in_range
returns-then-in_range c = take_freed _ _ _ _ c.freed_head-freed.ensures (sym c.if-in_range.ensures) c.link_at-next.ensures c.set_freed_head.ensures

pub overflow_add-fresh : goal.overflow_add-fresh
overflow_add-fresh c = omega (arith, range_fits _ _ (sym c.if-in_range-2.ensures))

pub returns-then-in_range-2 : goal.returns-then-in_range-2
returns-then-in_range-2 c =
    take_fresh _ _ _ _ c.freed_head-freed.ensures (sym c.if-in_range.ensures) c.fresh_page-fresh.ensures (sym c.if-in_range-2.ensures) c.set_fresh_page.ensures

pub returns : goal.returns
returns c = take_none _ _ _ c.freed_head-freed.ensures (sym c.if-in_range.ensures) c.fresh_page-fresh.ensures (sym c.if-in_range-2.ensures)
