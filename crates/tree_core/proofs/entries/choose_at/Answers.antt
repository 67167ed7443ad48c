use Rattle.std.proofs.Common.{◌≡◌, ◌+◌, ◌-◌, sym, ap, ◌∙◌, arith, drop, le-leb}
use borrow.Author.Tests.{lt-leb}
use Rattle.lists.specs.Leading.{leading, leading_step, leading_stop, leading_end}
use Rattle.pagestore.specs.Store.{inner_at, entries_in}
use Rattle.pagestore.specs.Store.PageLaws.{inner_counts, entries_slots}
use Rattle.pagestore_page.specs.Layout.{no_entry}
use Rattle.tree_model.specs.Inserting.{choose}
use Rattle.tree_core.proofs.EntryLaws.{low_first, choose_start, length_filled}
use Rattle.tree_core.proofs.entries.choose_at.Goals as goal

pub loop-i-init : goal.loop-i-init
loop-i-init c = let a = c.args in
    let M = inner_at a.index.now a.page in
    (omega (arith, c.filled_at-n.ensures, inner_counts a.index.now a.page), omega arith, choose_start a.rank (entries_in M))

pub returns-then-rank-key_number : goal.returns-then-rank-key_number
returns-then-rank-key_number c = let a = c.args in
    let L = c.loop-i in
    let T = c.loop-i-test.true in
    let M = inner_at a.index.now a.page in
    let slots = entries_slots a.index.now a.page in (
      leading_stop (low_first a.rank) no_entry M.entries M.count _ (L.i - 1) L.i L.invariant.2 (omega arith) (omega arith)
          (ap (low_first a.rank) (sym c.entry_at-e.ensures) ∙ lt-leb _ a.rank (omega (arith, c.key_number.ensures, c.if-rank-key_number.true))),
      omega arith,
      omega arith,
    )

pub loop-i-preserved : goal.loop-i-preserved
loop-i-preserved c = let a = c.args in
    let L = c.loop-i in
    let T = c.loop-i-test.true in
    let M = inner_at a.index.now a.page in
    let slots = entries_slots a.index.now a.page in
    let from = L.auto.i in
    let next : choose a.rank (entries_in M) ≡ (L.i - 1) + 1 + leading (low_first a.rank) (drop (L.i + 1) (entries_in M)) =
    leading_step (low_first a.rank) no_entry M.entries M.count _ (L.i - 1) L.i L.invariant.2 (omega arith) (omega arith)
    (ap (low_first a.rank) (sym c.entry_at-e.ensures) ∙ le-leb _ a.rank (omega (arith, c.key_number.ensures, c.if-rank-key_number.false))) in
    (L.invariant.0, omega arith, omega arith)

pub returns : goal.returns
returns c = let a = c.args in
    let L = c.loop-i in
    let M = inner_at a.index.now a.page in
    let all = length_filled M.entries _ M.count (entries_slots a.index.now a.page) L.invariant.0 in
    let from = L.auto.i in
    let end = leading_end (low_first a.rank) no_entry M.entries M.count _ (L.i - 1) L.i L.invariant.2 (omega arith) in
    (omega arith, omega arith, omega arith)
