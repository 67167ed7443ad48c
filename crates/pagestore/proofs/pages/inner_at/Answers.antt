use Rattle.std.proofs.Common.{◌<◌, length, sym, ◌∙◌, arith, rules}
use Rattle.lists.specs.Basics.{tabulate}
use Rattle.lists.specs.Tabulated.{tabulate_more, tabulate_done}
use Rattle.pagestore.specs.Store.{inner_at}
use Rattle.pagestore.specs.Store.PageLaws.{inner_levels, inner_counts, entries_slots}
use Rattle.pagestore.proofs.CodeLaws.{inner_whole}
use Rattle.pagestore.proofs.pages.inner_at.Goals as goal

pub loop-i-init : goal.loop-i-init
unfolding tabulate
loop-i-init c = search rules

pub loop-i-preserved : goal.loop-i-preserved
loop-i-preserved c =
    let L = c.loop-i in
    let h : L.i < length L.entries = omega arith in
    (search rules, tabulate_more _ L.entries L.i _ h L.invariant.1 c.entry_at.ensures)

pub returns : goal.returns
returns c =
    let L = c.loop-i in
    let b = c.args.index.now in
    let p = c.args.page in
    inner_whole (inner_at b p) _ _ _ (entries_slots b p) (c.level_at.ensures ∙ sym (inner_levels b p)) (c.count_at.ensures ∙ sym (inner_counts b p))
    (tabulate_done _ 16 L.entries L.i (omega arith) (omega arith) L.invariant.0 L.invariant.1)
