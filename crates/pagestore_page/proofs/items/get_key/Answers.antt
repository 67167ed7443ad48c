use Rattle.std.proofs.Common.{◌+◌, arith}
use Rattle.pagestore_page.proofs.ReadLaws.{key_is}
use Rattle.pagestore_page.proofs.items.get_key.Goals as goal

pub returns : goal.returns
returns c = key_is _ _ _ _ _ (omega (arith, c.type_inv.s (c.args.at + 6))) c.read.ensures c.read-2.ensures
