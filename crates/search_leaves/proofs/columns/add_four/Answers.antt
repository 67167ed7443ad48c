use Rattle.std.proofs.Common.{◌≡◌, ℕ, ◌+◌, ◌*◌, ◌≤◌, arith}
use Rattle.search_leaves.specs.Columns.{most_cost, quarters_left}
use Rattle.search_leaves.proofs.ColumnLaws.{asked_low, four_start, four_next, four_fits, four_end, quarters_more}
use Rattle.search_leaves.proofs.columns.add_four.Goals as goal

pub loop-r-init : goal.loop-r-init
loop-r-init c = four_start _ _ _ _ _ _ c.requires.0

pub cost_at-a-requires : goal.cost_at-a-requires
cost_at-a-requires c =
    let s = c.requires.0.sized in let a = c.args in
    (s.bytes, omega arith, omega arith, asked_low a.page.now a.q.now a.n a.m s (omega arith))

pub cost_at-b-requires : goal.cost_at-b-requires
cost_at-b-requires c =
    let s = c.requires.0.sized in let a = c.args in
    (s.bytes, omega arith, omega arith, asked_low a.page.now a.q.now a.n (a.m + a.apart) s (omega arith))

pub cost_at-c-requires : goal.cost_at-c-requires
cost_at-c-requires c =
    let s = c.requires.0.sized in let a = c.args in
    (s.bytes, omega arith, omega arith, asked_low a.page.now a.q.now a.n (a.m + a.apart + a.apart) s (omega arith))

pub cost_at-e-requires : goal.cost_at-e-requires
cost_at-e-requires c =
    let s = c.requires.0.sized in let a = c.args in
    (s.bytes, omega arith, omega arith, asked_low a.page.now a.q.now a.n (a.m + a.apart + a.apart + a.apart) s (omega arith))

pub overflow_add-sums : goal.overflow_add-sums
overflow_add-sums c = omega (arith, c.cost_at-a.ensures.1, c.cost_at-b.ensures.1, c.cost_at-c.ensures.1, c.cost_at-e.ensures.1, c.pair_cost.ensures, c.pair_cost-in-loop-r.ensures)

pub overflow_add-sums-in-loop-r : goal.overflow_add-sums-in-loop-r
overflow_add-sums-in-loop-r c =
    let L = c.loop-r in let a = c.args in
    let m : 4 * a.m ≤ 16 = omega arith in
    let w = four_fits a.page.now a.q.now a.apart a.m a.n L.r L.sums L.invariant c.loop-r-test.true m in
    omega (arith, w, c.cost_at-a.ensures.1, c.cost_at-b.ensures.1, c.cost_at-c.ensures.1, c.cost_at-e.ensures.1, c.pair_cost.ensures, c.pair_cost-in-loop-r.ensures)

pub loop-r-preserved : goal.loop-r-preserved
loop-r-preserved c =
    let P = c.pair_cost in let Q = c.pair_cost-in-loop-r in
    let A = c.cost_at-a in let B = c.cost_at-b in let C = c.cost_at-c in let E = c.cost_at-e in
    let L = c.loop-r in let a = c.args in
    let more = quarters_more a.page.now a.q.now a.apart a.m a.n L.r c.requires.1 in
    let left : ℕ → ℕ = λ m. quarters_left a.page.now a.q.now a.apart m L.r in
    let e : left a.m ≡ (P.result + Q.result) + left (a.m + 1) =
    omega (arith, more, A.ensures.0, B.ensures.0, C.ensures.0, E.ensures.0, P.ensures, Q.ensures) in
    let l : P.result + Q.result ≤ most_cost * 4 =
    omega (arith, A.ensures.1, B.ensures.1, C.ensures.1, E.ensures.1, P.ensures, Q.ensures) in
    four_next a.page.now a.q.now a.apart a.m a.n L.r (P.result + Q.result) L.sums c.loop-r-test.true c.requires.0.sized.few e l L.invariant

pub returns : goal.returns
returns c = let L = c.loop-r in four_end _ _ _ _ _ L.r L.sums (omega arith) c.requires.0.sized c.requires.0.within c.requires.1 L.invariant
