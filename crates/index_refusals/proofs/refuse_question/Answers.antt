use Rattle.std.proofs.Common.{refl, arith, inr, ◌≤◌}
use Rattle.index_query.specs.Asking.{question_of}
use Rattle.index_refusals.specs.Refusals.{asked_rules}
use Rattle.index_refusals.specs.Trusted.{weighing_rules}
use Rattle.index_refusals.proofs.RuleLaws.{first_passes}
use Rattle.index_refusals.proofs.refuse_question.Goals as goal

pub returns : goal.returns
returns c =
    let a = c.args in let w = question_of a.point.now a.weights.now a.what in
    let f = rw c.weights.ensures at c.in_ok-refuse_weighing.ensures in
    let d = rw c.days.ensures at c.refuse_days.ensures in
    let k : (1 ≤ a.what.k) × (a.what.k ≤ 64) = (grind arith, grind arith) in
    let s : (1 ≤ a.what.stages) × (a.what.stages ≤ 63) = (grind arith, grind arith) in
    first_passes (weighing_rules a.index.now w.point w.weights) (asked_rules w a.lent) refl f _ (inr (k, inr (omega arith, inr (s, d))))
