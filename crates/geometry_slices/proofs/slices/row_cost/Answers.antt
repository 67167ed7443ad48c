use Rattle.std.proofs.Common.{arith, ap, ◌∙◌, ℕ}
use Rattle.geometry_slices.specs.Questions.{sum_to, row_from, row_cost}
use Rattle.geometry_slices.proofs.UnweightedLaws.{row_room, squares, unweighted_sum}
use Rattle.geometry_slices.proofs.slices.row_cost.Goals as goal

pub row_squares-requires : goal.row_squares-requires
row_squares-requires c =
    let a = c.args in let p = c.requires in
    squares a.asked.now a.near.now a.j p.0 (p.0.unweighted c.if-near-eq1.true) p.1 _ c.width-n.ensures

pub returns-then-near-eq1 : goal.returns-then-near-eq1
returns-then-near-eq1 c =
    let a = c.args in
    let p = c.requires in
    let s = c.row_squares.ensures in
    let e = c.width-n.ensures in
    let w = (row_room a.asked.now a.near.now a.j _ p.0 p.1 e).0 in
    let t = unweighted_sum a.asked.now a.near.now a.j p.0 (p.0.unweighted c.if-near-eq1.true) p.1 a.h _ e in
    (c.from.ensures ∙ s.0 ∙ t ∙ ap (λ (n : ℕ). sum_to n (row_cost a.asked.now a.near.now (row_from a.j) a.h)) e, omega (arith, w, s.1))
