use Rattle.std.proofs.Common.{◌≡◌, ◌+◌, arith}
use Rattle.search_leaves.specs.Columns.{cost_from, most_cost}
use Rattle.search_leaves.proofs.ColumnLaws.{asked_low, cost_more, column_start, column_most, column_next, column_end}
use Rattle.search_leaves.proofs.columns.add_column.Goals as goal

pub loop-r-init : goal.loop-r-init
loop-r-init c = column_start _ _ _ _ _ _ _ c.requires.0

pub cost_at-requires : goal.cost_at-requires
cost_at-requires c =
    let s = c.requires.0.sized in let a = c.args in
    (s.bytes, omega arith, omega arith, asked_low a.page.now a.q.now a.n a.m s c.requires.1)

pub overflow_add-sums : goal.overflow_add-sums
overflow_add-sums c =
    let a = c.args in let w = column_most (cost_from a.page.now a.q.now) most_cost a.page.now a.q.now a.m a.n c.loop-r.r c.loop-r.sums c.loop-r.invariant c.loop-r-test.true c.requires.1 c.requires.0.sized.most in omega (arith, w, c.cost_at.ensures.1)

pub loop-r-preserved : goal.loop-r-preserved
loop-r-preserved c =
    let L = c.loop-r in let a = c.args in let C = c.cost_at in let s = c.requires.0.sized in
    let more = cost_more a.page.now a.q.now a.m L.r c.requires.1 s.most (omega arith) in
    let e : cost_from a.page.now a.q.now a.m L.r ≡ C.result + cost_from a.page.now a.q.now (a.m + 1) L.r = omega (arith, more, C.ensures.0) in
    column_next (cost_from a.page.now a.q.now) most_cost a.page.now a.q.now a.m a.n L.r C.result L.sums c.loop-r-test.true s.few e C.ensures.1 L.invariant

pub returns : goal.returns
returns c = let L = c.loop-r in column_end _ _ _ _ _ _ L.r L.sums (omega arith) c.requires.0.sized c.requires.1 L.invariant
