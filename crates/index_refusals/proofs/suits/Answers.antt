use Rattle.std.proofs.Common.{arith, ◌∙◌, length, ◌≡◌}
use Rattle.pagestore.specs.Store.{view_of}
use Rattle.lists.specs.Judges.{fault, judge_eq}
use Rattle.index_refusals.proofs.RuleLaws.{features_view}
use Rattle.index_refusals.proofs.suits.Goals as goal

pub returns-then-contains : goal.returns-then-contains
returns-then-contains c =
    let a = c.args in
    let d : c.from.result ≡ (view_of a.index.now).d = c.from.ensures ∙ c.features_of.ensures ∙ features_view a.index.now in
    judge_eq (length a.point.now) c.from.result (λ e. (grind arith, grind arith, e ∙ d)) (λ w h. w (grind (arith, h.2, d)))

pub returns-else-contains : goal.returns-else-contains
returns-else-contains c = rw c.if-contains.false (fault (λ h. grind (arith, h.0, h.1)))
