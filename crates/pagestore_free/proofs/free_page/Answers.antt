use Rattle.std.proofs.Common.{sym}
use Rattle.pagestore_free.proofs.TakeLaws.{free_step, free_none}
use Rattle.pagestore_free.proofs.free_page.Goals as goal

pub returns-then-in_range : goal.returns-then-in_range
returns-then-in_range c = free_step _ _ _ _ _ (sym c.if-in_range.ensures) c.freed_head-freed.ensures c.set_link.ensures c.set_freed_head.ensures

pub returns-else-in_range : goal.returns-else-in_range
returns-else-in_range c = free_none _ _ (sym c.if-in_range.ensures)
