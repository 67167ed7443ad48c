use Rattle.std.proofs.Common.{◌≡◌, arith, rules, length, length-take}
use Rattle.lists.specs.Leading.{leading_le}
use Rattle.lists.specs.Lengths.{unmapped}
use Rattle.pagestore.specs.Store.{set_leaf, records_in}
use Rattle.tree_model.specs.Inserting.{rank_below}
use Rattle.tree_core.specs.Entries.{leaf_entry}
use Rattle.tree_core.proofs.InsertionLaws.{fill_is, put_filled}
use Rattle.tree_insert_leaf.proofs.leaves.fill_leaf.Goals as goal

pub insert_record-next-requires : goal.insert_record-next-requires
insert_record-next-requires c = let a = c.args in
    let few = leading_le (rank_below a.x.features a.x.rank) (records_in a.leaf) in
    (c.requires.0, omega (arith, c.requires.1, few, length-take a.leaf.count a.leaf.records))

pub returns : goal.returns
returns c = let a = c.args in
    let I = c.insert_record-next in
    let g = I.type_inv in
    let slots : length I.result.records ≡ 16 = search (unmapped, rules) in
    put_filled set_leaf (leaf_entry a.x.features) a.index.now a.page _ I.result.count I.result.records slots (omega (arith, I.ensures.0, c.requires.0))
    (fill_is a.x.features a.x.stored a.x.rank a.i (records_in a.leaf) (records_in I.result) a.x.ranked c.requires.1 I.ensures.1) c.set_leaf.ensures c.leaf_entry.ensures
