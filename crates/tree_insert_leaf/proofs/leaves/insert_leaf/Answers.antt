use Rattle.std.proofs.Common.{◌≡◌, sym, ap, ◌∙◌, List, rules, length, take}
use Rattle.lists.specs.Leading.{leading}
use Rattle.lists.specs.Lengths.{unmapped}
use Rattle.pagestore.specs.Store.{records_in}
use Rattle.pagestore_page.specs.declared.Leaf.{Leaf}
use Rattle.pagestore_page.specs.declared.Record.{Record}
use Rattle.tree_model.specs.Inserting.{insert_record, rank_below}
use Rattle.tree_core.proofs.EntryLaws.{filled_is}
use Rattle.tree_core.proofs.InsertionLaws.{leaf_step, insert_is}
use Rattle.tree_insert_leaf.proofs.leaves.insert_leaf.Goals as goal

pub fill_leaf-requires : goal.fill_leaf-requires
fill_leaf-requires c = let a = c.args in
    let M = c.leaf_at-leaf in
    let g = M.type_inv in
    let slots : length M.result.records ≡ 16 = search (unmapped, rules) in
    (c.if-leaf-lt-MAX_ITEMS.true, c.place_of-i.ensures.0 ∙ ap (leading (rank_below a.x.features a.x.rank)) (sym (filled_is M.result.records c.filled.result M.result.count slots c.filled.ensures)))

pub returns-then-leaf-lt-MAX_ITEMS : goal.returns-then-leaf-lt-MAX_ITEMS
returns-then-leaf-lt-MAX_ITEMS c = let a = c.args in
    leaf_step a.x.features a.index.now a.page a.x.stored (ap (λ (l : Leaf). insert_record a.x.features a.x.stored (records_in l)) c.leaf_at-leaf.ensures) c.fill_leaf.ensures

pub returns : goal.returns
returns c = let a = c.args in
    let M = c.leaf_at-leaf in
    let g = M.type_inv in
    let slots : length M.result.records ≡ 16 = search (unmapped, rules) in
    leaf_step a.x.features a.index.now a.page a.x.stored
    (c.splice-n.ensures.held.items
    ∙ insert_is a.x.features a.x.stored a.x.rank c.place_of-i.result (take c.filled.result M.result.records) a.x.ranked c.place_of-i.ensures.0
    ∙ ap (λ (l : List Record). insert_record a.x.features a.x.stored l) (sym (filled_is M.result.records c.filled.result M.result.count slots c.filled.ensures))
    ∙ ap (λ (l : Leaf). insert_record a.x.features a.x.stored (records_in l)) M.ensures)
    c.put_items.ensures
