use Rattle.std.proofs.Common.{sym, arith}
use Rattle.pagestore.specs.Store.CountLaws.{walk_first, walk_stops, walk_next, walk_ends}
use Rattle.pagestore.proofs.counting.freed_count.Goals as goal

pub loop-n-init : goal.loop-n-init
loop-n-init c = walk_first _ _ c.freed_head-page.ensures

pub returns-then-not-in_range : goal.returns-then-not-in_range
returns-then-not-in_range c = walk_stops _ _ _ _ c.loop-n.invariant (sym c.if-not-in_range.ensures)

pub loop-n-preserved : goal.loop-n-preserved
loop-n-preserved c = walk_next _ _ c.loop-n.page _ _ (omega (arith, c.page_count-pages.ensures)) (sym c.if-not-in_range.ensures) c.link_at-page.ensures c.loop-n.invariant

pub returns : goal.returns
returns c = omega (arith, walk_ends _ _ _ _ c.loop-n.invariant (omega (arith, c.page_count-pages.ensures)))
