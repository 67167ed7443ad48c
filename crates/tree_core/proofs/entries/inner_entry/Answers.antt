use Rattle.std.proofs.Common.{◌≡◌, ◌∙◌, length, rules}
use Rattle.tree_core.proofs.EntryLaws.{inner_bare, inner_some, head_filled, last_filled}
use Rattle.lists.specs.Lengths.{unmapped}
use Rattle.pagestore_page.specs.Layout.{no_entry}
use Rattle.tree_core.proofs.entries.inner_entry.Goals as goal

pub returns-then-n-eq0 : goal.returns-then-n-eq0
returns-then-n-eq0 c = let S = c in
    let F = c.filled-n in
    let slots : length S.args.inner.entries ≡ 16 = search (unmapped, rules) in
    c.bare_entry.ensures ∙ inner_bare S.args.page F.result S.args.inner.count S.args.inner.entries slots F.ensures c.if-n-eq0.true

pub returns : goal.returns
returns c = let S = c in
    let F = c.filled-n in
    let slots : length S.args.inner.entries ≡ 16 = search (unmapped, rules) in
    let z = c.if-n-eq0.false in
    inner_some S.args.page S.args.inner.count S.args.inner.entries _ _
    (head_filled no_entry no_entry S.args.inner.entries F.result S.args.inner.count slots F.ensures z)
    (last_filled no_entry no_entry S.args.inner.entries F.result S.args.inner.count slots F.ensures z)
