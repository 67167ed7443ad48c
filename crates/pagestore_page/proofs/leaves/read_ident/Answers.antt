use Rattle.std.proofs.Common.{◌∙◌, rules}
use Rattle.pagestore_page.proofs.ReadLaws.{ident_read}
use Rattle.pagestore_page.proofs.leaves.read_ident.Goals as goal

pub returns : goal.returns
returns c = c.read.ensures ∙ ident_read _ _ (search rules)
