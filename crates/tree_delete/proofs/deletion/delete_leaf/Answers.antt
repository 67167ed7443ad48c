use Rattle.std.proofs.Common.{◌≡◌, sym, ap, ◌∙◌, List, [], ◌++◌, ◌+◌, rules, length, take, drop}
use Rattle.lists.specs.Lengths.{unmapped}
use Rattle.pagestore.specs.Store.{leaf_at, records_in}
use Rattle.pagestore_page.specs.declared.Leaf.{Leaf}
use Rattle.pagestore_page.specs.declared.Record.{Record}
use Rattle.tree_core.proofs.EntryLaws.{filled_is}
use Rattle.tree_core.proofs.DeletionLaws.{delete_is, delete_leaf}
use Rattle.tree_delete.proofs.PlaceLaws.{place_is}
use Rattle.tree_delete.proofs.deletion.delete_leaf.Goals as goal

pub returns : goal.returns
returns c = let a = c.args in
    let L = c.leaf_at-leaf in
    let g = L.type_inv in
    let F = c.filled in
    let slots : length L.result.records ≡ 16 = search (unmapped, rules) in
    let all : take F.result L.result.records ≡ records_in (leaf_at a.index.now a.page) =
    sym (filled_is L.result.records F.result L.result.count slots F.ensures) ∙ ap (λ (l : Leaf). records_in l) L.ensures in
    let I = c.unwrap_or-i in
    let i = I.ensures ∙ place_is a.x.id _ (records_in (leaf_at a.index.now a.page)) c.ident_place.result c.ident_place.ensures (ap (λ (l : List Record). length l) all) in
    let H = c.splice-count.ensures.held in
    delete_leaf a.d a.index.now a.page a.x
    (H.items ∙ ap (λ (l : List Record). take I.result l ++ ([] ++ drop (I.result + 1) l)) all ∙ delete_is I.result a.x.id (records_in (leaf_at a.index.now a.page)) i)
    c.write-entry.ensures.bytes c.write-entry.ensures.entry (H.count ∙ ap (λ (l : List Record). length l) (sym H.items))
