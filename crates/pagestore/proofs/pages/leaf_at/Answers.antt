use Rattle.std.proofs.Common.{sym, ap, ◌∙◌}
use Rattle.pagestore_page.specs.Layout.{leaf_of}
use Rattle.pagestore.specs.Store.StretchLaws.{leaf_opens}
use Rattle.pagestore.proofs.pages.leaf_at.Goals as goal

pub returns-in-Some : goal.returns-in-Some
returns-in-Some c = c.read_leaf.ensures ∙ ap leaf_of c.in-Some.ensures.0 ∙ sym (leaf_opens _ _)

pub returns-in-None : goal.returns-in-None
returns-in-None c = c.empty_leaf.ensures ∙ sym (leaf_opens _ _ ∙ ap leaf_of c.in-None.ensures)
