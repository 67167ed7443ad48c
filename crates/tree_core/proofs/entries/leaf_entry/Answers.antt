use Rattle.std.proofs.Common.{◌≡◌, ◌∙◌, length, rules}
use Rattle.tree_model.specs.Trees.{no_record}
use Rattle.tree_core.proofs.EntryLaws.{leaf_bare, leaf_some, head_filled, last_filled}
use Rattle.lists.specs.Lengths.{unmapped}
use Rattle.tree_core.proofs.entries.leaf_entry.Goals as goal

pub returns-then-n-eq0 : goal.returns-then-n-eq0
returns-then-n-eq0 c = let S = c in
    let F = c.filled-n in
    let slots : length S.args.leaf.records ≡ 16 = search (unmapped, rules) in
    c.bare_entry.ensures ∙ leaf_bare S.args.d S.args.page F.result S.args.leaf.count S.args.leaf.records slots F.ensures c.if-n-eq0.true

pub returns : goal.returns
returns c = let S = c in
    let F = c.filled-n in
    let slots : length S.args.leaf.records ≡ 16 = search (unmapped, rules) in
    let z = c.if-n-eq0.false in
    leaf_some S.args.d S.args.page F.result S.args.leaf.count S.args.leaf.records _ _ _ _
    (head_filled no_record _ S.args.leaf.records F.result S.args.leaf.count slots F.ensures z)
    (last_filled no_record _ S.args.leaf.records F.result S.args.leaf.count slots F.ensures z)
    c.record_key.ensures c.record_key-2.ensures
