use Rattle.std.proofs.Common.{arith}
use Rattle.lists.specs.Judges.{faults}
use Rattle.pagestore.specs.Store.{view_of}
use Rattle.sound_pages.proofs.TurnLaws.{state_lost, state_all}
use Rattle.sound_pages.proofs.find_lost.Goals as goal

pub in_state-requires : goal.in_state-requires
unfolding view_of
in_state-requires c =
    (omega (arith, c.loop-p-test.true, c.fresh_page-p-end.ensures, c.requires.3, c.requires.0.size), omega (arith, c.loop-p-test.true, c.fresh_page-p-end.ensures, c.requires.3, c.requires.1.size))

pub returns-then-not-in_state : goal.returns-then-not-in_state
unfolding view_of
returns-then-not-in_state c =
    state_lost (view_of c.args.index.now) c.args.marks.now c.args.freed.now c.requires.0 c.requires.1 (faults c.in_state.ensures c.if-not-in_state.true)
    (c.loop-p.auto.p, omega (arith, c.loop-p-test.true, c.fresh_page-p-end.ensures, c.requires.3)) (omega (arith, c.loop-p-test.true, c.fresh_page-p-end.ensures))

pub returns : goal.returns
unfolding view_of
returns c = state_all (view_of c.args.index.now) c.loop-p.invariant (omega (arith, c.loop-p-test.false, c.fresh_page-p-end.ensures))
