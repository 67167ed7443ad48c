use Rattle.std.proofs.Common.{refl}
use Rattle.pagestore_bytes.specs.Bytes.{put}
use Rattle.pagestore_page.proofs.WriteLaws.{label_put}
use Rattle.pagestore_page.proofs.leaves.put_label.Goals as goal

pub returns : goal.returns
unfolding put
returns c = label_put _ _ _ _ _ c.args.r c.write.ensures refl c.write-2.ensures
