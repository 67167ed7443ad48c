use Rattle.std.proofs.Common.{sym, ◌∙◌, arith}
use Rattle.lists.specs.Leading.{leading_step, leading_stop, leading_end}
use Rattle.pagestore.specs.Store.{leaf_at}
use Rattle.pagestore.specs.Store.PageLaws.{leaf_counts, records_slots}
use Rattle.pagestore_page.specs.Layout.{no_record}
use Rattle.tree_model.specs.Deleting.{other_ident}
use Rattle.tree_core.proofs.EntryLaws.{length_filled}
use Rattle.tree_core.proofs.DeletionLaws.{other_no, other_yes}
use Rattle.tree_core.proofs.places.ident_place.Goals as goal

pub loop-i-init : goal.loop-i-init
loop-i-init c = let a = c.args in (omega (arith, c.filled_at-i-end.ensures, leaf_counts a.index.now a.page), omega arith)

pub returns-then-ident_at-id : goal.returns-then-ident_at-id
returns-then-ident_at-id c = let a = c.args in
    let L = c.loop-i in
    let T = c.loop-i-test.true in
    let M = leaf_at a.index.now a.page in
    let slots = records_slots a.index.now a.page in
    let all = length_filled M.records _ M.count slots L.invariant.0 in (
      leading_stop (other_ident a.id) no_record M.records M.count _ L.i L.i L.invariant.1 (omega arith) (omega arith)
          (other_no _ a.id (sym c.ident_at.ensures ∙ c.if-ident_at-id.true)),
      omega arith,
      omega arith,
    )

pub loop-i-preserved : goal.loop-i-preserved
loop-i-preserved c = let a = c.args in
    let L = c.loop-i in
    let T = c.loop-i-test.true in
    let M = leaf_at a.index.now a.page in
    let slots = records_slots a.index.now a.page in (
      L.invariant.0,
      leading_step (other_ident a.id) no_record M.records M.count _ L.i L.i L.invariant.1 (omega arith) (omega arith)
          (other_yes _ a.id (λ e. c.if-ident_at-id.false (c.ident_at.ensures ∙ e))),
    )

pub returns : goal.returns
returns c = let a = c.args in
    let L = c.loop-i in
    let M = leaf_at a.index.now a.page in
    let all = length_filled M.records _ M.count (records_slots a.index.now a.page) L.invariant.0 in
    let i = leading_end (other_ident a.id) no_record M.records M.count _ L.i L.i L.invariant.1 (omega arith) in omega arith
