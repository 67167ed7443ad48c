use Rattle.std.proofs.Common.{arith, ◌/◌, ◌≤◌}
use Rattle.geometry_slices.specs.Questions.{size_of}
use Rattle.geometry_slices.proofs.PackedLaws.{asked_length, asked_few}
use Rattle.geometry_lanes.proofs.FallLaws.{in_enough, unweighted_lanes}
use Rattle.geometry_lanes.proofs.TurnLaws.{halving_start, halving_turn, halving_end, movable}
use Rattle.geometry_lanes.proofs.bisection.bisect.Goals as goal

pub overflow_sub-asked : goal.overflow_sub-asked
overflow_sub-asked c = omega (arith, c.requires.0.asked.packed.whole)

pub lanes-n-requires : goal.lanes-n-requires
lanes-n-requires c = let s = c in asked_few s.args.asked.now s.requires.0.asked.packed

pub is_unweighted-unweighted-requires : goal.is_unweighted-unweighted-requires
is_unweighted-unweighted-requires c = c.requires.0.asked.packed

pub loop-size-init : goal.loop-size-init
loop-size-init c =
    let n = c in let s = n in
    let a = s.args in let p = s.requires in let e = n.lanes-n.ensures in
    (omega arith, e, p.1.long, rw e p.0, halving_start a.asked.now n.lanes-n.result a.heights.now p.1)

pub halve-requires : goal.halve-requires
halve-requires c =
    let u = c in let l = u.loop-size in let i = l.invariant in let o = u in
    let a = o.args in
    let m = movable a.asked.now a.tables.falls.now a.tables.weights.now a.tables.owns.now a.tables.ends.now l.heights _ l.size i.3 in
    let p = unweighted_lanes a.asked.now a.tables.falls.now a.tables.weights.now in
    (m u.loop-size-test.true i.0 i.4, λ e. p _ (o.is_unweighted-unweighted.ensures.0 e) i.3.falling i.3.weighing)

pub loop-size-preserved : goal.loop-size-preserved
loop-size-preserved c =
    let h = c in let u = h in let l = u.loop-size in let i = l.invariant in
    let o = u in let n = o.lanes-n.result in
    let a = o.args in
    let k = in_enough o.is_unweighted-unweighted.result (size_of a.asked.now) n (asked_few a.asked.now i.3.asked.packed) i.3.enough in
    let z : l.size / 2 ≤ 1000 = omega (arith, i.0) in
    let t = halving_turn a.asked.now a.tables.falls.now a.tables.weights.now a.tables.owns.now a.tables.ends.now l.heights _ _ n l.size i.3 k in
    (z, i.1, i.2, i.3, t u.loop-size-test.true i.4 h.halve.ensures)

pub shape_of-heights : goal.shape_of-heights
shape_of-heights c = let i = c.loop-size.invariant in omega (arith, i.2, i.4.long)

pub returns : goal.returns
returns c =
    let l = c.loop-size in let i = l.invariant in let a = c.args in
    let e = asked_length a.asked.now i.3.asked.packed in
    (halving_end a.asked.now _ l.size l.heights e (omega (arith, c.loop-size-test.false)) i.4, i.4.long)
