use Rattle.std.proofs.Common.{[], arith, lt-ltb, le-ltb}
use Rattle.tree_model.specs.Inserting.{rank_below}
use Rattle.tree_insert_leaf.proofs.PlaceLaws.{place_next, place_here, place_end}
use Rattle.tree_insert_leaf.proofs.leaves.place_of.Goals as goal

pub returns-then-rank-record_rank : goal.returns-then-rank-record_rank
returns-then-rank-record_rank c = let a = c.args in
    let T = c.loop-i-test.true in (
      place_here (rank_below a.d a.rank) (record { id = 0; stage = 0; stamp = 0; coords = [] }) a.records.now _ c.loop-i.i c.loop-i.invariant c.loop-i-test.true
          (le-ltb _ a.rank (omega (arith, c.record_rank.ensures, c.if-rank-record_rank.true))),
      omega arith,
    )

pub loop-i-preserved : goal.loop-i-preserved
loop-i-preserved c = let a = c.args in
    place_next (rank_below a.d a.rank) (record { id = 0; stage = 0; stamp = 0; coords = [] }) a.records.now _ c.loop-i.i c.loop-i.invariant c.loop-i-test.true
    (lt-ltb _ a.rank (omega (arith, c.record_rank.ensures, c.if-rank-record_rank.false)))

pub returns : goal.returns
returns c = let a = c.args in
    let end = place_end (rank_below a.d a.rank) (record { id = 0; stage = 0; stamp = 0; coords = [] }) a.records.now _ c.loop-i.i c.loop-i.invariant c.loop-i-test.false in
    (omega arith, omega arith)
