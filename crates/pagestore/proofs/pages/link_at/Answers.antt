use Rattle.std.proofs.Common.{sym, ap, ◌∙◌}
use Rattle.pagestore_bytes.specs.Bytes.{le_at}
use Rattle.pagestore_page.specs.Layout.{link_of}
use Rattle.pagestore.specs.Store.StretchLaws.{link_opens}
use Rattle.pagestore.proofs.pages.link_at.Goals as goal

pub returns-in-Some : goal.returns-in-Some
returns-in-Some c = c.read_link.ensures ∙ ap link_of c.in-Some.ensures.0 ∙ sym (link_opens _ _)

pub returns-in-None : goal.returns-in-None
unfolding link_of le_at
returns-in-None c = sym (link_opens _ _ ∙ ap link_of c.in-None.ensures)
