use borrow.Author.Tests.{not-false}
use Rattle.acts.proofs.RunLaws.{input_start, input_turn}
use Rattle.acts.proofs.run_input.Goals as goal

pub turns-init : goal.turns-init
turns-init g c = input_start _ _ _ _ c.args.s c.requires

pub returns-then-not-t : goal.returns-then-not-t
returns-then-not-t g c = c.turns.invariant.taken

pub returns-then-n-eq0 : goal.returns-then-n-eq0
returns-then-n-eq0 g c = c.turns.invariant.taken

pub use_up-t-requires : goal.use_up-t-requires
use_up-t-requires g c = c.turns.invariant.taken.fits

pub turns-preserved : goal.turns-preserved
turns-preserved g c =
    let U = c.use_up-t in let L = c.turns in
    input_turn _ _ _ _ _ L.index L.held L.chunk L.out _ _ _ _ _ L.t U.result L.invariant (not-false _ c.if-not-t.false) U.auto.index U.auto.held c.read_chunk-n.auto.chunk U.auto.out U.ensures

pub returns : goal.returns
returns g c = c.turns.invariant.taken
