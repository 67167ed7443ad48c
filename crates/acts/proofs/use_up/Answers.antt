use Rattle.std.proofs.Common.{refl, sym, ◌∙◌}
use borrow.Author.Tests.{not-true, not-false}
use Rattle.lists.specs.Tests.{false_true}
use Rattle.acts.proofs.RunLaws.{use_start, use_turn, use_less, use_done, use_broken, use_needs}
use Rattle.acts.proofs.use_up.Goals as goal

pub loop-t-init : goal.loop-t-init
loop-t-init g c = use_start _ _ _ _ c.args.s _ refl refl c.requires refl

pub make_room-u-requires : goal.make_room-u-requires
make_room-u-requires g c = let f = c.loop-t.invariant.fits in (f.space, f.most)

pub returns-then-not-u : goal.returns-then-not-u
returns-then-not-u g c =
    let L = c.loop-t in let M = c.make_room-u in
    use_broken _ _ _ _ c.args.s _ refl refl L.index L.held L.out L.t M.result c.requires.space refl refl refl L.invariant c.loop-t-test.true M.ensures (not-true _ c.if-not-u.true)

pub run_chunk-t-requires : goal.run_chunk-t-requires
run_chunk-t-requires g c = let L = c.loop-t in let M = c.make_room-u in use_needs _ L.t M.result L.invariant.fits L.invariant.within M.ensures

pub loop-t-smaller : goal.loop-t-smaller
loop-t-smaller g c =
    let L = c.loop-t in let M = c.make_room-u in let R = c.run_chunk-t in
    use_less c.args.chunk.now L.out L.t M.result R.result c.loop-t-test.true c.if-t-chunk.true M.ensures (not-false _ c.if-not-u.false) R.ensures.onward

pub loop-t-preserved : goal.loop-t-preserved
loop-t-preserved g c =
    let L = c.loop-t in let M = c.make_room-u in let R = c.run_chunk-t in
    use_turn _ _ _ _ _ L.index L.held L.out L.t M.result _ _ _ R.result L.invariant c.loop-t-test.true M.ensures (not-false _ c.if-not-u.false) R.auto.index R.auto.held R.auto.out R.ensures

pub returns-else-t-chunk : goal.returns-else-t-chunk
returns-else-t-chunk g c =
    let L = c.loop-t in
    use_done _ _ _ _ c.args.s _ refl refl L.index L.held L.out L.t c.requires.space refl refl refl (λ g. c.if-t-chunk.false) L.invariant

pub returns-after-loop-t : goal.returns-after-loop-t
returns-after-loop-t g c =
    let L = c.loop-t in
    use_done _ _ _ _ c.args.s _ refl refl L.index L.held L.out L.t c.requires.space refl refl refl (λ g. false_true (sym c.loop-t-test.false ∙ g)) L.invariant
