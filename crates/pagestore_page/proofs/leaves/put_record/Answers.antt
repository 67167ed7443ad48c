use Rattle.pagestore_page.proofs.WriteLaws.{record_put}
use Rattle.pagestore_page.proofs.leaves.put_record.Goals as goal

pub returns : goal.returns
returns c = record_put _ _ _ _ c.args.r c.put_label.ensures c.put_coords.ensures
