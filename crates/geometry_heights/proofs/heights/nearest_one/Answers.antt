use Rattle.std.proofs.Common.{ℕ, get_or, replicate, ap, ◌∙◌, eqb, arith}
use Rattle.lists.specs.Basics.{if}
use Rattle.geometry_heights.proofs.OneLaws.{one_nearest}
use Rattle.geometry_heights.proofs.heights.nearest_one.Goals as goal

pub returns : goal.returns
returns c =
    let a = c.args in let p = c.requires in
    let u = c.reached.ensures ∙ ap (λ (x : ℕ). if (eqb (get_or a.asked.now 32 0) 0) 0 x) c.saturating_sub.ensures in
    let v = c.reached-2.ensures ∙ ap (λ (x : ℕ). if (eqb (get_or a.asked.now 32 0) 0) 0 x) c.saturating_sub-2.ensures in
    (one_nearest a.asked.now (replicate 32 0) _ _ p.0 p.1 (omega arith) u v, omega arith)
