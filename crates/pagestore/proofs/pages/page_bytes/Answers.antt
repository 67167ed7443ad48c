use Rattle.std.proofs.Common.{sym, ◌∙◌, ap, length, arith}
use Rattle.pagestore.specs.Store.StretchLaws.{stretch_short, stretch_whole}
use Rattle.pagestore.proofs.pages.page_bytes.Goals as goal

pub returns-then-bytes-lt-PAGE_SIZE : goal.returns-then-bytes-lt-PAGE_SIZE
returns-then-bytes-lt-PAGE_SIZE c = stretch_short _ _ (rw (sym c.stretch-bytes.ensures) (omega arith))

pub returns-else-bytes-lt-PAGE_SIZE : goal.returns-else-bytes-lt-PAGE_SIZE
returns-else-bytes-lt-PAGE_SIZE c = (c.stretch-bytes.ensures, ap length c.stretch-bytes.ensures ∙ stretch_whole _ _ (rw (sym c.stretch-bytes.ensures) (omega arith)))
