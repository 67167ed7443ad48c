use Rattle.pagestore_bytes.specs.Bytes.{le_bytes}
use Rattle.pagestore_bytes.specs.ByteLaws.{length_le}
use Rattle.pagestore_bytes.proofs.StoreLaws.{part_put}
use Rattle.pagestore_bytes.proofs.U16Number.write.Goals as goal

pub returns : goal.returns
unfolding le_bytes
returns c = part_put _ _ (le_bytes 2 c.args.self) c.args.at 2 c.requires (length_le 2 c.args.self) (cc)
