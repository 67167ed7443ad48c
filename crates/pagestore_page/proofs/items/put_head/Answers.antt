use Rattle.std.proofs.Common.{refl}
use Rattle.pagestore_bytes.specs.Bytes.{put}
use Rattle.pagestore_page.proofs.items.put_head.Goals as goal

pub returns : goal.returns
unfolding put
returns c = refl
