use Rattle.std.proofs.Common.{sym, arith}
use Rattle.pagestore.specs.Store.RangeLaws.{range_whole}
use Rattle.pagestore.specs.Store.StretchLaws.{stretch_out}
use Rattle.pagestore.proofs.CodeLaws.{part_is}
use Rattle.pagestore.proofs.pages.stretch.Goals as goal

pub slice_bounds-result-end : goal.slice_bounds-result-end
slice_bounds-result-end c = omega (arith, range_whole _ _ (sym c.if-in_range.ensures))

pub returns-then-in_range : goal.returns-then-in_range
returns-then-in_range c = part_is _ _ (sym c.if-in_range.ensures)

pub returns-else-in_range : goal.returns-else-in_range
returns-else-in_range c = sym (stretch_out _ _ (sym c.if-in_range.ensures))
