use Rattle.std.proofs.Common.{◌-◌, refl, ap, ◌∙◌, arith}
use Rattle.pagestore_page.specs.declared.Entry.{Entry}
use Rattle.pagestore.specs.Store.{inner_at}
use Rattle.tree_core.specs.Lookup.{leaf_count}
use Rattle.tree.proofs.CountLaws.{count_from, inner_number, swapped, count_most, count_leaf, count_low, count_start, count_next, count_end}
use Rattle.tree.proofs.CountLaws as laws
use Rattle.tree.proofs.lookup.+leaf_count.Goals as goal

pub returns-then-level-eq0 : goal.returns-then-level-eq0
returns-then-level-eq0 t c = count_leaf c.args.index.now c.args.level c.args.page c.if-level-eq0.true

pub returns-then-level-eq1 : goal.returns-then-level-eq1
returns-then-level-eq1 t c = let a = c.args in count_low a.index.now a.level a.page _ _ c.if-level-eq1.true refl (swapped _ _ c.filled_at-n.ensures)

pub loop-i-init : goal.loop-i-init
loop-i-init t c = let S = c in let z = c.if-level-eq0.false in
    let w = inner_number S.args.index.now S.args.page _ _ refl (swapped _ _ c.filled_at-n.ensures) in
    let e = count_start S.args.index.now S.args.level S.args.page (inner_at S.args.index.now S.args.page) refl c.filled_at-n.result w z in
    (omega arith, S.requires, z, w, omega arith)

pub entry_at-requires : goal.entry_at-requires
entry_at-requires t c = let w = c.loop-i.invariant.3 in omega (arith, c.loop-i-test.true)

pub overflow_sub-level : goal.overflow_sub-level
overflow_sub-level t c = let L = c.loop-i in omega (arith, L.invariant.2)

pub overflow_add-sum : goal.overflow_add-sum
overflow_add-sum t c = let S = c in let L = c.loop-i in
    let b = S.args.index.now in
    let r = c.leaf_count-sum.ensures.0 ∙ ap (λ (x : Entry). leaf_count (S.args.level - 1) b x.child) c.entry_at.ensures in
    let e = count_next b S.args.level S.args.page (inner_at b S.args.page) refl _ L.invariant.3 (S.args.level - 1) L.i L.sum _ _ _ c.loop-i-test.true r L.invariant.4 in
    let m = laws.count_fits S.args.level S.args.index.now S.args.page L.invariant.1 in omega arith

pub loop-i-preserved : goal.loop-i-preserved
loop-i-preserved t c = let S = c in let L = c.loop-i in
    let b = S.args.index.now in
    let r = c.leaf_count-sum.ensures.0 ∙ ap (λ (x : Entry). leaf_count (S.args.level - 1) b x.child) c.entry_at.ensures in
    let e = count_next b S.args.level S.args.page (inner_at b S.args.page) refl _ L.invariant.3 (S.args.level - 1) L.i L.sum _ _ _ c.loop-i-test.true r L.invariant.4 in
    (omega arith, L.invariant.1, L.invariant.2, L.invariant.3, e)

pub returns : goal.returns
returns t c = let S = c in let L = c.loop-i in
    let e = count_end S.args.index.now S.args.level S.args.page (inner_at S.args.index.now S.args.page) refl _ L.invariant.3 (S.args.level - 1) L.i (omega arith) in
    let m = count_most S.args.level S.args.index.now S.args.page in
    let v = L.invariant.4 in (omega arith, omega arith)
