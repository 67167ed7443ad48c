use Rattle.std.proofs.Common.{◌∙◌, rules}
use Rattle.pagestore_page.proofs.ReadLaws.{stamp_read}
use Rattle.pagestore_page.proofs.leaves.read_stamp.Goals as goal

pub returns : goal.returns
returns c = c.read.ensures ∙ stamp_read _ _ (search rules)
