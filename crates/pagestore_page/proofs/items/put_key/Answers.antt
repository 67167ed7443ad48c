use Rattle.std.proofs.Common.{refl}
use Rattle.pagestore_bytes.specs.Bytes.{put}
use Rattle.pagestore_page.proofs.WriteLaws.{key_put}
use Rattle.pagestore_page.proofs.items.put_key.Goals as goal

pub returns : goal.returns
unfolding put
returns c = key_put _ _ _ _ _ _ c.args.k c.write.ensures c.write-2.ensures refl refl
