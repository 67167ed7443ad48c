use Rattle.std.proofs.Common.{sym}
use Rattle.pagestore.specs.Store.StretchLaws.{clear_short}
use Rattle.pagestore.proofs.CodeLaws.{clear_step}
use Rattle.pagestore.proofs.making.clear_header.Goals as goal

pub returns-then-index-ge-PAGE_SIZE : goal.returns-then-index-ge-PAGE_SIZE
returns-then-index-ge-PAGE_SIZE c = clear_step _ _ c.if-index-ge-PAGE_SIZE.true c.clear.ensures

pub returns-else-index-ge-PAGE_SIZE : goal.returns-else-index-ge-PAGE_SIZE
returns-else-index-ge-PAGE_SIZE c = sym (clear_short _ c.if-index-ge-PAGE_SIZE.false)
