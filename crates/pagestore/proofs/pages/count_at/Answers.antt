use Rattle.std.proofs.Common.{sym, ◌∙◌}
use Rattle.pagestore.specs.Store.StretchLaws.{count_opens}
use Rattle.pagestore.proofs.pages.count_at.Goals as goal

pub returns : goal.returns
returns c = c.byte_of.ensures ∙ sym (count_opens _ _)
