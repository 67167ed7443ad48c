use Rattle.std.proofs.Common.{refl, ap, ◌∙◌, arith}
use Rattle.pagestore_page.specs.declared.Entry.{Entry}
use Rattle.tree_core.specs.Lookup.{leaf_count}
use Rattle.search_model.specs.Asked.{asking}
use Rattle.search_model.specs.Branches.{branch_of}
use Rattle.search_frontier.specs.Keys.{key_of}
use Rattle.tree.proofs.CountLaws.{inner_number}
use Rattle.search_frontier.proofs.OpenLaws.{opening_start, opening_places, opening_next, opening_end}
use Rattle.search_frontier.proofs.open_page.Goals as goal

pub loop-i-init : goal.loop-i-init
loop-i-init c = let S = c in opening_start _ _ _ _ _ _ _ _ _ S.requires refl (inner_number S.args.index.now S.args.page _ _ c.count_at.ensures c.filled-count.ensures)

pub overflow_add-at : goal.overflow_add-at
overflow_add-at c = let v = c.loop-i.invariant in let p = opening_places _ _ _ _ _ _ _ _ _ _ _ _ _ v (omega arith) in let m = c.leaf_count-at.ensures.1 in omega arith

pub loop-i-preserved : goal.loop-i-preserved
loop-i-preserved c = let S = c in let b = S.args.index.now in let L = c.loop-i in let P = c.push-held in let E = c.entry_key-key in let X = c.entry_at-entry in let C = c.leaf_count-at in
    opening_next _ _ _ _ _ _ _ _ _ _ _ _ _ L.invariant _ _ _ _ _ (omega arith)
    (λ k choice. E.ensures k choice ∙ ap (λ (x : Entry). key_of (branch_of b (asking S.args.tables.now.asked.now k choice) S.args.level L.at x)) X.ensures) P.ensures P.auto.a
    (C.ensures.0 ∙ ap (λ (x : Entry). leaf_count S.args.level b x.child) X.ensures) C.ensures.1

pub returns : goal.returns
returns c = let n = c.loop-i.invariant.number in opening_end _ _ _ _ _ _ _ _ _ _ _ _ _ c.loop-i.invariant (omega arith)
