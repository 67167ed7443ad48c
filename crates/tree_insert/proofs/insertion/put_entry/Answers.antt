use Rattle.std.proofs.Common.{◌≡◌, arith, length, rules}
use Rattle.tree_core.specs.Entries.{inner_entry}
use Rattle.tree_core.specs.Insertion.{write_inner}
use Rattle.tree_core.proofs.HeldLaws.{held_most}
use Rattle.tree_core.proofs.InsertionLaws.{put_held, level_is}
use Rattle.lists.specs.Lengths.{unmapped}
use Rattle.tree_insert.proofs.insertion.put_entry.Goals as goal

pub returns : goal.returns
returns c =
    let S = c in let a = S.args in let I = c.renewed-next in
    let g = I.type_inv in
    let slots : length I.result.entries ≡ 16 = search (unmapped, rules) in
    put_held (write_inner a.level) inner_entry a.index.now a.page _ I.ensures.1 (omega (arith, held_most I.ensures.1))
    (level_is _ _ _ a.level _ I.ensures.0 c.set_inner.ensures) c.inner_entry.ensures
