use Rattle.std.proofs.Common.{refl, ◌∙◌, length-set}
use Rattle.search_rows.specs.Rows.{row_of}
use Rattle.search_rows.proofs.HeldLaws.{slide_start, slide_on, slide_done}
use Rattle.search_rows.proofs.slide.Goals as goal

pub loop-highs-init : goal.loop-highs-init
loop-highs-init c =
    let S = c in
    (refl, refl, slide_start S.args.highs.now S.args.lows.now S.args.n (row_of S.args.words.high S.args.words.low) S.requires)

pub loop-highs-preserved : goal.loop-highs-preserved
loop-highs-preserved c =
    let l = c.loop-highs in
    let g = c.gives_way.ensures.gives c.loop-highs-test.true in
    (length-set l.highs l.i _ ∙ l.invariant.0, length-set l.lows l.i _ ∙ l.invariant.1, slide_on _ _ _ _ l.highs l.lows l.i l.invariant.2 g.0 g.1)

pub returns : goal.returns
returns c =
    let l = c.loop-highs in
    slide_done _ _ _ _ l.highs l.lows l.i _ _ l.invariant.2 (c.gives_way.ensures.stays c.loop-highs-test.false) refl c.requires
