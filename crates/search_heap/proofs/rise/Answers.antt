use Rattle.std.proofs.Common.{◌<◌, refl, ◌∙◌, length-set, drop-set-lt, arith}
use Rattle.search_heap.proofs.HeapLaws.{risen, rises, held_rises, settled, fits_of}
use Rattle.search_heap.proofs.rise.Goals as goal

pub loop-h-init : goal.loop-h-init
loop-h-init c =
    let st = c in
    (refl, fits_of st.args.a.now st.args.n st.args.x _ st.requires.fits, st.requires, refl, refl)

pub returns-then-h-eq0 : goal.returns-then-h-eq0
returns-then-h-eq0 c =
    let l = c.loop-h in
    let i = l.invariant in
    settled _ l.h _ l.a _ _ i.2.place (risen _ l.h _ l.a i.2 (λ z. absurd (omega arith))) i.3 i.4

pub returns-then-a-p : goal.returns-then-a-p
returns-then-a-p c =
    let l = c.loop-h in
    let i = l.invariant in
    settled _ l.h _ l.a _ _ i.2.place (risen _ l.h _ l.a i.2 (λ _. c.if-a-p.true)) i.3 i.4

pub loop-h-preserved : goal.loop-h-preserved
loop-h-preserved c =
    let l = c.loop-h in
    let i = l.invariant in
    let z : 0 < l.h = omega arith in
    let w = c.if-a-p.false in (
      simp length-set i.0,
      simp length-set i.1,
      rises _ l.h _ l.a i.2 _ z refl w,
      held_rises _ l.h _ l.a i.2 _ z refl w ∙ i.3,
      drop-set-lt _ l.a l.h _ i.2.place ∙ i.4,
    )
