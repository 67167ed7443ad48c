use Rattle.std.proofs.Common.{◌≡◌, sym, length, take, rules}
use Rattle.tree_core.proofs.EntryLaws.{length_filled}
use Rattle.tree_core.proofs.DeletionLaws.{leave_is}
use Rattle.lists.specs.Lengths.{unmapped}
use Rattle.tree_delete.proofs.deletion.leave_page.Goals as goal

pub returns : goal.returns
returns c = let a = c.args in
    let slots : length a.inner.entries ≡ 16 = search (unmapped, rules) in
    leave_is a.inner.level a.index.now a.page (take a.inner.count a.inner.entries) c.set_inner.ensures c.inner_entry.ensures
    (sym (length_filled a.inner.entries c.filled.result a.inner.count slots c.filled.ensures))
