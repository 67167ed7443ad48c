use Rattle.pagestore.specs.Store.{leaf_at, records_in}
use Rattle.tree.proofs.FindLaws.{found_in_slots, absent_from}
use Rattle.tree.proofs.lookup.find_in_leaf.Goals as goal

pub returns : goal.returns
returns c = let a = c.args in
    let M = leaf_at a.index.now a.page in
    found_in_slots a.id M.records M.count c.in_ok-i.i _ _ c.record_at.ensures c.in_ok-i.ensures.0 c.in_ok-i.ensures.1

pub returns-in_err-i : goal.returns-in_err-i
returns-in_err-i c = let a = c.args in
    rw c.from_residual.ensures (absent_from a.id (records_in (leaf_at a.index.now a.page)) c.in_err-i.ensures)
