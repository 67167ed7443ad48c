use Rattle.std.proofs.Common.{◌≡◌, refl, ap, sym, ◌∙◌, ◌-◌, arith}
use Rattle.pagestore_page.specs.declared.Entry.{Entry}
use Rattle.pagestore.specs.Store.{leaf_at, inner_at, entries_in}
use Rattle.pagestore.specs.Store.PageLaws.{inner_counts, entries_slots}
use Rattle.tree_core.specs.Lookup.{find_under, blank}
use Rattle.tree_core.proofs.EntryLaws.{length_filled}
use Rattle.tree_core.proofs.LookupLaws.{seeks_start, seeks_found, seeks_next, seeks_end, find_leaf}
use Rattle.tree.proofs.lookup.+find_under.Goals as goal

pub returns-then-level-eq0 : goal.returns-then-level-eq0
returns-then-level-eq0 t c = let a = c.args in
    rw (find_leaf a.level a.index.now a.page a.id (leaf_at a.index.now a.page) c.if-level-eq0.true refl refl) at c.find_in_leaf.ensures

pub loop-i-init : goal.loop-i-init
loop-i-init t c = let a = c.args in
    (omega (arith, c.filled_at-i-end.ensures, inner_counts a.index.now a.page), seeks_start a.level a.index.now a.page a.id (inner_at a.index.now a.page) c.if-level-eq0.false refl)

pub returns-in-Some : goal.returns-in-Some
returns-in-Some t c = let a = c.args in
    let M = inner_at a.index.now a.page in
    let L = c.loop-i in
    let T = c.loop-i-test.true in
    let slots = entries_slots a.index.now a.page in
    let f : (c.in-Some.x ≡ find_under (a.level - 1) a.index.now c.entry_at-e.result.child a.id) × (c.in-Some.x.id ≡ a.id) = c.in-Some.ensures in (
      seeks_found a.level a.index.now a.page a.id M.entries M.count L.i c.in-Some.x L.invariant.1 c.requires (omega arith) (omega arith)
          (f.0 ∙ ap (λ (e : Entry). find_under (a.level - 1) a.index.now e.child a.id) c.entry_at-e.ensures) f.1,
      f.1,
    )

pub loop-i-preserved : goal.loop-i-preserved
loop-i-preserved t c = let a = c.args in
    let M = inner_at a.index.now a.page in
    let L = c.loop-i in
    let T = c.loop-i-test.true in
    let slots = entries_slots a.index.now a.page in (
      L.invariant.0,
      seeks_next a.level a.index.now a.page a.id M.entries M.count L.i blank L.invariant.1 c.requires (omega arith) (omega arith)
          (sym c.in_default.ensures ∙ ap (λ (e : Entry). find_under (a.level - 1) a.index.now e.child a.id) c.entry_at-e.ensures) (λ e. omega (arith, c.requires, e)),
    )

pub returns : goal.returns
returns t c = let a = c.args in
    let L = c.loop-i in
    sym (seeks_end a.level a.index.now a.page a.id (entries_in (inner_at a.index.now a.page)) L.i L.invariant.1
    (omega (arith, length_filled (inner_at a.index.now a.page).entries _ (inner_at a.index.now a.page).count (entries_slots a.index.now a.page) L.invariant.0, c.loop-i-test.false)))
