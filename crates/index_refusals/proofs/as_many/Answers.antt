use Rattle.std.proofs.Common.{◌∙◌, length, ◌≡◌, sym}
use Rattle.pagestore.specs.Store.{view_of}
use Rattle.lists.specs.Judges.{pass, judge_eq}
use Rattle.index_refusals.proofs.RuleLaws.{features_view}
use Rattle.index_refusals.proofs.as_many.Goals as goal

pub returns-in-Some : goal.returns-in-Some
returns-in-Some c =
    let index = c.args.index.now in
    let d : c.from.result ≡ (view_of index).d = c.from.ensures ∙ c.features_of.ensures ∙ features_view index in
    rw c.in-Some.is (judge_eq (length c.in-Some.carried.now) c.from.result (λ e. e ∙ d) (λ w h. w (h ∙ sym d)))

pub returns-in-None : goal.returns-in-None
returns-in-None c = rw c.in-None.is (pass tt)
