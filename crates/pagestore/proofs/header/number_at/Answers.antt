use Rattle.std.proofs.Common.{sym, ◌∙◌}
use Rattle.pagestore.specs.Store.StretchLaws.{number_long, number_short}
use Rattle.pagestore.proofs.header.number_at.Goals as goal

pub returns-then-index-ge-PAGE_SIZE : goal.returns-then-index-ge-PAGE_SIZE
returns-then-index-ge-PAGE_SIZE g c = c.read.ensures ∙ sym (number_long _ _ _ c.if-index-ge-PAGE_SIZE.true)

pub returns-else-index-ge-PAGE_SIZE : goal.returns-else-index-ge-PAGE_SIZE
returns-else-index-ge-PAGE_SIZE g c = c.zero.ensures ∙ sym (number_short _ _ _ c.if-index-ge-PAGE_SIZE.false)
