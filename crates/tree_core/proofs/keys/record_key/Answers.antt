use Rattle.std.proofs.Common.{◌≡◌, arith, length, length-take, rules}
use Rattle.tree_core.proofs.EntryLaws.{key_none, key_some}
use Rattle.lists.specs.Lengths.{unmapped}
use Rattle.tree_core.proofs.keys.record_key.Goals as goal

pub returns-then-n-eq0 : goal.returns-then-n-eq0
returns-then-n-eq0 c = let S = c in key_none S.args.x c.filled-n.result S.args.d c.filled-n.ensures c.if-n-eq0.true

pub pair_of-requires : goal.pair_of-requires
pair_of-requires c = let S = c in
    let F = c.filled-n in
    let slots : length S.args.x.coords ≡ 16 = search (unmapped, rules) in
    let n = length-take F.result S.args.x.coords in
    let e = F.ensures in
    let z = c.if-n-eq0.false in
    (omega arith, omega arith)

pub returns : goal.returns
returns c = let S = c in
    let F = c.filled-n in
    let P = c.pair_of in
    let slots : length S.args.x.coords ≡ 16 = search (unmapped, rules) in
    key_some S.args.x F.result S.args.d P.result c.key_of.result slots F.ensures P.ensures.0 P.ensures.1 c.key_of.ensures
