use Rattle.std.proofs.Common.{refl, ◌∙◌, length-set, drop-set-lt, arith}
use Rattle.search_heap.proofs.HeapLaws.{lowest_kid, lowest, sunk, sinks, held_sinks, settled, fits_of}
use Rattle.search_heap.proofs.sink.Goals as goal

pub loop-a-init : goal.loop-a-init
loop-a-init c = let st = c in (refl, fits_of st.args.a.now 0 st.args.x _ st.requires.fits, st.requires, refl, refl)

pub returns-then-n-left : goal.returns-then-n-left
returns-then-n-left c =
    let l = c.loop-a in
    let i = l.invariant in
    settled _ l.h _ l.a _ _ i.2.place (sunk _ l.h _ l.a i.2 (λ j k. absurd (let q = k.low in let w = k.within in omega arith))) i.3 i.4

pub lowest_child-c-requires : goal.lowest_child-c-requires
lowest_child-c-requires c = let l = c.loop-a in (l.invariant.1, omega arith)

pub returns-then-x-a : goal.returns-then-x-a
returns-then-x-a c =
    let l = c.loop-a in
    let i = l.invariant in
    settled _ l.h _ l.a _ _ i.2.place (sunk _ l.h _ l.a i.2 (λ j k. let q = lowest _ l.h l.a _ c.lowest_child-c.ensures j k in let w = c.if-x-a.true in omega arith)) i.3 i.4

pub loop-a-preserved : goal.loop-a-preserved
loop-a-preserved c =
    let l = c.loop-a in
    let i = l.invariant in
    let e = c.lowest_child-c.ensures in
    let k = lowest_kid _ l.h l.a _ e in
    let y = lowest _ l.h l.a _ e in
    let w = c.if-x-a.false in (
      simp length-set i.0,
      simp length-set i.1,
      sinks _ l.h _ l.a i.2 _ k w y,
      held_sinks _ l.h _ l.a i.2 _ k w y ∙ i.3,
      drop-set-lt _ l.a l.h _ i.2.place ∙ i.4,
    )
