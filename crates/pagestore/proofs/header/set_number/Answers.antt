use Rattle.std.proofs.Common.{sym, ◌∙◌}
use Rattle.pagestore.specs.Store.StretchLaws.{set_number_long, set_number_short}
use Rattle.pagestore.proofs.header.set_number.Goals as goal

pub returns-then-index-ge-PAGE_SIZE : goal.returns-then-index-ge-PAGE_SIZE
returns-then-index-ge-PAGE_SIZE g c = c.write.ensures ∙ sym (set_number_long _ _ _ _ c.if-index-ge-PAGE_SIZE.true)

pub returns-else-index-ge-PAGE_SIZE : goal.returns-else-index-ge-PAGE_SIZE
returns-else-index-ge-PAGE_SIZE g c = sym (set_number_short _ _ _ _ c.if-index-ge-PAGE_SIZE.false)
