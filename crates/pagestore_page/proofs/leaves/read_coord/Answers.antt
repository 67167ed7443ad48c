use Rattle.std.proofs.Common.{ℕ, ◌%◌, ap, ◌∙◌, arith, rules}
use Rattle.pagestore_page.specs.Layout.{coord_room}
use Rattle.pagestore_page.proofs.ReadLaws.{coord_read}
use Rattle.pagestore_page.proofs.leaves.read_coord.Goals as goal

pub returns : goal.returns
returns c = (ap (λ (x : ℕ). x % coord_room) c.coord_bytes.ensures ∙ coord_read _ _ _ (search rules) (search rules), omega arith)
