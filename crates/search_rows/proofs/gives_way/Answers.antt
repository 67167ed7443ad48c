use Rattle.std.proofs.Common.{◌≢◌, ◌-◌, ◌<◌, true, false, get_or, inl, inr, arith, sym, ◌∙◌, lt-ltb, le-ltb, ne_eqb}
use Rattle.std.proofs.lemmas.Bool.Decides.{leb_tells}
use Rattle.search_rows.specs.Rows.{row_of}
use Rattle.search_rows.proofs.HeldLaws.{nearer, farther, as_near, way_some}
use Rattle.search_rows.proofs.gives_way.Goals as goal

pub returns-then-highs-i : goal.returns-then-highs-i
returns-then-highs-i c =
    let a = c.args in
    let x = row_of a.words.high a.words.low in
    rw (lt-ltb a.words.high (get_or a.highs.now (a.i - 1) 0) c.if-highs-i.true) (way_some a.highs.now a.lows.now a.i x false (omega arith)
    (farther _ _ a.words.high a.words.low (omega (arith, c.type_inv.lows (a.i - 1))) (omega arith) c.if-highs-i.true))

pub returns-then-highs-i-2 : goal.returns-then-highs-i-2
returns-then-highs-i-2 c =
    let a = c.args in
    let x = row_of a.words.high a.words.low in
    let l = get_or a.lows.now (a.i - 1) 0 in
    let z : a.i ≢ 0 = omega arith in
    let f : l < 18446744073709551616 = omega (arith, c.type_inv.lows (a.i - 1)) in
    let g : a.words.low < 18446744073709551616 = omega arith in
    let near = as_near (get_or a.highs.now (a.i - 1) 0) l a.words.high a.words.low f g c.if-highs-i-2.true in
    elim (leb_tells a.words.low l) [
      | inl p ↦ rw p.0 (way_some a.highs.now a.lows.now a.i x false z (sym (le-ltb l a.words.low p.1) ∙ near))
      | inr p ↦ rw p.0 (way_some a.highs.now a.lows.now a.i x true z (sym (lt-ltb l a.words.low p.1) ∙ near))
    ]

pub returns-else-highs-i-2 : goal.returns-else-highs-i-2
returns-else-highs-i-2 c =
    let a = c.args in
    let x = row_of a.words.high a.words.low in
    let h = get_or a.highs.now (a.i - 1) 0 in
    rw (ne_eqb h a.words.high c.if-highs-i-2.false) (way_some a.highs.now a.lows.now a.i x true (omega arith)
    (nearer _ _ a.words.high a.words.low (omega (arith, c.type_inv.lows (a.i - 1))) (omega arith) (omega arith)))
