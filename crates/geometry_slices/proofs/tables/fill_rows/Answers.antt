use Rattle.std.proofs.Common.{refl}
use Rattle.geometry_slices.proofs.WholeLaws.{rows_over}
use Rattle.geometry_slices.proofs.tables.fill_rows.Goals as goal

pub returns : goal.returns
returns c =
    let a = c.args in
    let r = c.reaches-reach in
    let p = c.requires in
    rows_over a.asked.now r.result a.near.now _ _ _ _ p.0 p.1 refl
    c.width-n.ensures r.ensures c.each_row.ensures c.flag.ensures
