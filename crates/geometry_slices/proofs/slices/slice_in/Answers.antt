use Rattle.std.proofs.Common.{refl, ap, ◌∙◌, ℕ, ◌+◌}
use Rattle.geometry_slices.proofs.WholeLaws.{slice_of}
use Rattle.geometry_slices.proofs.slices.slice_in.Goals as goal

pub returns : goal.returns
returns c =
    let a = c.args in
    let j = c.axis_no-j in
    let w = c.weigh-on.ensures.0 in
    let s = slice_of a.asked.now a.near.now a.i j.result a.h _ _ _ _
    c.requires.0 c.requires.1 j.ensures.0 refl refl
    c.axis_gap.ensures c.row_cost.ensures.0 in
    ap (λ (x : ℕ). x + c.row_cost.result) w ∙ s
