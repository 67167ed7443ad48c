use Rattle.std.proofs.Common.{◌≡◌, ℕ, ◌+◌, ◌*◌, get_or, ap, ◌∙◌, arith}
use Rattle.search_leaves.specs.Columns.{weighted_from, most_weighted}
use Rattle.search_leaves.proofs.ColumnLaws.{asked_low, weight_light, weighted_cost_more, column_start, column_most, column_next, column_end}
use Rattle.search_leaves.proofs.columns.add_weighted.Goals as goal

pub loop-r-init : goal.loop-r-init
loop-r-init c = column_start _ _ _ _ _ _ _ c.requires.0.by

pub cost_at-requires : goal.cost_at-requires
cost_at-requires c =
    let s = c.requires.0.by.sized in let a = c.args in
    (s.bytes, omega arith, omega arith, asked_low a.page.now a.q.now a.n a.m s c.requires.1)

pub weighted_cost-requires : goal.weighted_cost-requires
weighted_cost-requires c = (c.cost_at.ensures.1, weight_light _ _ _ _ _ _ c.requires.0 c.requires.1)

pub overflow_add-sums : goal.overflow_add-sums
overflow_add-sums c =
    let a = c.args in let w = column_most (weighted_from a.page.now a.weights.now a.q.now) most_weighted a.page.now a.q.now a.m a.n c.loop-r.r c.loop-r.sums c.loop-r.invariant c.loop-r-test.true c.requires.1 c.requires.0.by.sized.most in omega (arith, w, c.weighted_cost.ensures.1)

pub loop-r-preserved : goal.loop-r-preserved
loop-r-preserved c =
    let L = c.loop-r in let a = c.args in let C = c.weighted_cost in let s = c.requires.0.by.sized in
    let page = a.page.now in let q = a.q.now in let ws = a.weights.now in
    let more = weighted_cost_more page ws q a.m L.r c.requires.0.number c.requires.1 s.most (omega arith) in
    let cost : C.result ≡ get_or ws a.m 0 * _ = C.ensures.0 ∙ ap (λ (x : ℕ). get_or ws a.m 0 * x) c.cost_at.ensures.0 in
    let e : weighted_from page ws q a.m L.r ≡ C.result + weighted_from page ws q (a.m + 1) L.r = omega (arith, more, cost) in
    column_next (weighted_from page ws q) most_weighted page q a.m a.n L.r C.result L.sums c.loop-r-test.true s.few e C.ensures.1 L.invariant

pub returns : goal.returns
returns c =
    let L = c.loop-r in let P = c.requires.0 in
    record { by = column_end _ _ _ _ _ _ L.r L.sums (omega arith) P.by.sized c.requires.1 L.invariant; number = P.number; light = P.light }
