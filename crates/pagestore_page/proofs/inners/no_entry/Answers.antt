use Rattle.std.proofs.Common.{refl}
use Rattle.pagestore_bytes.specs.Bytes.{le_at}
use Rattle.pagestore_page.specs.Layout.{entry_at, key_at}
use Rattle.pagestore_page.proofs.inners.no_entry.Goals as goal

pub returns : goal.returns
unfolding entry_at key_at le_at
returns c = refl
