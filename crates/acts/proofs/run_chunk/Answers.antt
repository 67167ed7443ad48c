use Rattle.std.proofs.Common.{inl, inr, arith}
use Rattle.acts.proofs.RunLaws.{chunk_start, chunk_turn, chunk_done}
use Rattle.acts.proofs.run_chunk.Goals as goal

pub loop-t-init : goal.loop-t-init
loop-t-init c = chunk_start _ _ _ _ c.args.s c.requires.0 c.requires.1

pub has_room-requires : goal.has_room-requires
has_room-requires c = c.loop-t.invariant.fits.space

pub take_line-t-requires : goal.take_line-t-requires
take_line-t-requires c =
    let w = c.loop-t.invariant in let o = c.has_room.ensures.0 c.if-has_room.true in
    (record { pages = w.fits.pages; room = o.room; numbers = o.numbers }, record { line = w.fits.line; few = w.fits.few; at = w.within })

pub loop-t-smaller : goal.loop-t-smaller
loop-t-smaller c =
    let h = c.if-t-chunk.true in let g = c.take_line-t.ensures.onward h in
    omega arith

pub loop-t-preserved : goal.loop-t-preserved
loop-t-preserved c =
    let T = c.take_line-t in let L = c.loop-t in
    chunk_turn _ _ _ _ _ L.index L.held L.out _ _ _ L.t T.result L.invariant c.loop-t-test.true c.if-t-chunk.true (c.has_room.ensures.0 c.if-has_room.true) T.auto.index T.auto.held T.auto.out T.ensures

pub returns-else-has_room : goal.returns-else-has_room
returns-else-has_room c =
    let L = c.loop-t in
    chunk_done _ _ _ _ c.args.s L.index L.held L.out L.t (inr (inr (c.has_room.ensures.1 c.if-has_room.false))) L.invariant

pub returns-else-t-chunk : goal.returns-else-t-chunk
returns-else-t-chunk c =
    let L = c.loop-t in
    chunk_done _ _ _ _ c.args.s L.index L.held L.out L.t (inr (inl c.if-t-chunk.false)) L.invariant

pub returns-after-loop-t : goal.returns-after-loop-t
returns-after-loop-t c =
    let L = c.loop-t in
    chunk_done _ _ _ _ c.args.s L.index L.held L.out L.t (inl c.loop-t-test.false) L.invariant
