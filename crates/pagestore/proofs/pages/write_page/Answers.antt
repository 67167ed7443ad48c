use Rattle.std.proofs.Common.{sym, refl, arith}
use Rattle.pagestore.specs.Store.RangeLaws.{range_whole}
use Rattle.pagestore.proofs.CodeLaws.{part_whole, part_set, part_none}
use Rattle.pagestore.proofs.pages.write_page.Goals as goal

pub slice_bounds-write-end : goal.slice_bounds-write-end
slice_bounds-write-end g c = omega (arith, range_whole _ _ (sym c.if-in_range.ensures))

pub returns-then-in_range : goal.returns-then-in_range
returns-then-in_range g c xs h =
    part_set _ c.args.page xs _ (sym c.if-in_range.ensures)
    (h _ _ (part_whole _ _ (sym c.if-in_range.ensures)) (record { shown = _; shows = refl; left = _; met = c.write.ensures; leaves = refl }))

pub returns-else-in_range : goal.returns-else-in_range
returns-else-in_range g c xs h = part_none _ _ xs (sym c.if-in_range.ensures)
