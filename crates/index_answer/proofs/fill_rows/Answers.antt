use Rattle.std.proofs.Common.{arith, ◌∙◌, ap, List, slice_set}
use Rattle.search_rows.specs.declared.Row.{Row}
use Rattle.index_answer.specs.Filling.{up_to}
use Rattle.index_answer.proofs.FillingLaws.{up_to_next}
use Rattle.index_answer.proofs.fill_rows.Goals as goal

pub loop-i-preserved : goal.loop-i-preserved
loop-i-preserved c =
    let a = c.args in let l = c.loop-i in
    ap (λ (r : List Row). slice_set r l.i c.row_of.result) l.invariant
    ∙ ap (slice_set (up_to a.highs.now a.lows.now a.rows.now l.i) l.i) c.row_of.ensures
    ∙ up_to_next a.highs.now a.lows.now a.rows.now l.i (grind arith) (grind arith) (grind arith)
