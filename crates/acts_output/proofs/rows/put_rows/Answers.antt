use Rattle.std.proofs.Common.{arith}
use Rattle.acts_output.proofs.PutLaws.{rows_start, rows_turn, rows_done}
use Rattle.acts_output.proofs.rows.put_rows.Goals as goal

pub loop-i-init : goal.loop-i-init
loop-i-init c = rows_start _ _ _ _ _ _

pub put_result-end-requires : goal.put_result-end-requires
put_result-end-requires c = let w = c.loop-i.invariant in let x = w.room in let y = w.same in let p = c.requires in omega (arith, p.0, p.1)

pub loop-i-preserved : goal.loop-i-preserved
loop-i-preserved c =
    let L = c.loop-i in let w = L.invariant in let x = w.room in let p = c.requires in
    let P = c.put_result-end in let R = c.row_of-row in
    rows_turn _ _ _ _ _ _ L.out _ L.end _ L.i R.result (omega (arith, p.2)) (omega (arith, p.3)) (omega (arith, p.0, p.1)) w R.ensures P.ensures.0 P.ensures.1 P.auto.out

pub returns : goal.returns
returns c =
    let L = c.loop-i in let p = c.requires in
    rows_done _ _ _ _ _ _ L.out L.end L.i _ p.1 p.0 (omega arith) L.invariant
