use Rattle.std.proofs.Common.{◌∙◌, rules}
use Rattle.pagestore_page.proofs.ReadLaws.{entry_read}
use Rattle.pagestore_page.proofs.inners.read_entry.Goals as goal

pub returns : goal.returns
returns c = c.get_entry.ensures ∙ entry_read _ c.args.i (search rules)
