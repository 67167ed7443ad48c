use Rattle.std.proofs.Common.{◌≡◌, refl, sym, ap, ◌∙◌, List, ◌++◌, ◌+◌, rules, length, take, drop}
use Rattle.lists.specs.Lengths.{unmapped}
use Rattle.pagestore_page.specs.declared.Entry.{Entry}
use Rattle.tree_core.specs.CodeTerms.{grown_list}
use Rattle.tree_core.proofs.EntryLaws.{filled_is}
use Rattle.tree_core.proofs.DeletionLaws.{leave_is, rebalanced_below_law}
use Rattle.tree_delete.proofs.deletion.rebalance.Goals as goal

pub returns : goal.returns
returns c = let a = c.args in
    let F = c.filled in
    let slots : length a.inner.entries ≡ 16 = search (unmapped, rules) in
    let all : take F.result a.inner.entries ≡ take a.inner.count a.inner.entries = sym (filled_is a.inner.entries F.result a.inner.count slots F.ensures) in
    let J = c.left_of-j in
    let G = c.rebalance_pages-pair in
    let H = c.splice_grown-count.ensures.held in
    rebalanced_below_law a.d a.below a.inner.level a.index.now a.page (take a.inner.count a.inner.entries) a.i _ (ap (λ (l : List Entry). length l) all) J.ensures.0
    c.child_at-p.ensures c.child_at-q.ensures G.ensures refl
    (H.items ∙ ap (λ (l : List Entry). take J.result l ++ (grown_list G.result ++ drop (J.result + 2) l)) all)
    (leave_is a.inner.level _ a.page _ c.write-entry.ensures.bytes c.write-entry.ensures.entry (H.count ∙ ap (λ (l : List Entry). length l) (sym H.items)))
