use Rattle.std.proofs.Common.{◌≡◌, ◌≤◌, length, arith, rules}
use Rattle.lists.specs.Lengths.{unmapped}
use Rattle.pagestore_page.proofs.WriteLaws.{records_next, leaf_put}
use Rattle.pagestore_page.proofs.leaves.write_leaf.Goals as goal

pub loop-i-preserved : goal.loop-i-preserved
loop-i-preserved c =
    let L = c.loop-i in
    let F = c.filled-n in
    let slots : length c.args.leaf.records ≡ 16 = search (unmapped, rules) in
    let few : F.result ≤ length c.args.leaf.records = omega arith in
    records_next _ _ _ L.i F.result _ (omega arith) few c.put_record.ensures L.invariant

pub returns : goal.returns
returns c =
    let L = c.loop-i in
    let S = c.args in
    let F = c.filled-n in
    let slots : length S.leaf.records ≡ 16 = search (unmapped, rules) in
    leaf_put S.page.now _ _ _ L.i F.result S.leaf c.requires slots F.ensures c.clear.ensures c.put_head.ensures (omega arith) L.invariant
