use Rattle.std.proofs.Common.{◌≡◌, refl, length, rules}
use Rattle.tree_core.proofs.InsertionLaws.{renewed_is}
use Rattle.lists.specs.Lengths.{unmapped}
use Rattle.tree_insert.proofs.insertion.renewed.Goals as goal

pub returns : goal.returns
returns c =
    let x = c.args.inner in
    let slots : length x.entries ≡ 16 = search (unmapped, rules) in
    (refl, renewed_is x.entries c.filled.result x.count c.args.i slots c.filled.ensures c.requires.1 c.max.result _ c.requires.0 c.max.ensures)
