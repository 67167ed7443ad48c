use Rattle.std.proofs.Common.{◌≡◌, rules, length, add-one}
use Rattle.lists.specs.Lengths.{unmapped}
use Rattle.tree_core.proofs.EntryLaws.{filled_is}
use Rattle.tree_insert.proofs.insertion.put_inner.Goals as goal

pub returns-in-One : goal.returns-in-One
returns-in-One c = rw c.in-One.is c.put_entry.ensures

pub returns : goal.returns
returns c = let x = c.args.inner in
    let slots : length x.entries ≡ 16 = search (unmapped, rules) in
    rw (c.splice_grown-n.ensures.held.items, ← filled_is x.entries c.filled.result x.count slots c.filled.ensures, add-one c.args.i) at c.put_items.ensures
