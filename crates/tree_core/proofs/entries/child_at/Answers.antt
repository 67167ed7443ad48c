use Rattle.std.proofs.Common.{◌≡◌, length, rules}
use Rattle.tree_core.proofs.EntryLaws.{child_in, child_out}
use Rattle.lists.specs.Lengths.{unmapped}
use Rattle.tree_core.proofs.entries.child_at.Goals as goal

pub returns-then-i-filled : goal.returns-then-i-filled
returns-then-i-filled c = let S = c in let F = c.filled in child_in S.args.inner.entries F.result S.args.inner.count S.args.i F.ensures c.if-i-filled.true

pub returns-else-i-filled : goal.returns-else-i-filled
returns-else-i-filled c = let S = c in
    let F = c.filled in
    let slots : length S.args.inner.entries ≡ 16 = search (unmapped, rules) in
    child_out S.args.inner.entries F.result S.args.inner.count S.args.i slots F.ensures c.if-i-filled.false
