use Rattle.std.proofs.Common.{sym, ◌∙◌}
use Rattle.pagestore.specs.Store.StretchLaws.{level_opens}
use Rattle.pagestore.proofs.pages.level_at.Goals as goal

pub returns : goal.returns
returns c = c.byte_of.ensures ∙ sym (level_opens _ _)
