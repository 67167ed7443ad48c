use Rattle.std.proofs.Common.{arith}
use Rattle.acts_step.proofs.ActLaws.{rows_fit, asked_none, asked_some}
use Rattle.acts_step.proofs.acting.question_line.Goals as goal

pub returns-then-answer-eq0 : goal.returns-then-answer-eq0
returns-then-answer-eq0 c =
    let Q = c.ask-answer in let P = c.put_result in
    asked_none _ _ _ _ Q.result Q.ensures _ _ _ _ _ c.if-answer-eq0.true P.ensures.0 P.ensures.1

pub put_rows-requires : goal.put_rows-requires
put_rows-requires c =
    let Q = c.ask-answer in let w = rows_fit _ _ _ _ Q.result Q.ensures in
    let d = Q.auto.highs in let t = Q.auto.lows in
    (c.requires, omega (arith, w, d), omega (arith, w, d), omega (arith, w, d, t))

pub returns : goal.returns
returns c =
    let Q = c.ask-answer in asked_some _ _ _ _ Q.result Q.ensures _ _ _ _ _ c.if-answer-eq0.false c.put_rows.ensures
