use Rattle.std.proofs.lemmas.Result.{err_from_is_err_and}
use Rattle.index_query.specs.Asking.{question_of}
use Rattle.index_refusals.specs.Refusals.{question_rules}
use Rattle.index_query.specs.Answers.{Answers}
use Rattle.index.specs.QuestionLaws.{asked_same}
use Rattle.index.proofs.RuleLaws.{checked_sound, question_unsound}
use Rattle.index_trusted.proofs.AskLaws.{asked_refused}
use Rattle.index.proofs.asking.question_outcome.Goals as goal

pub returns-in_err-refuse_index : goal.returns-in_err-refuse_index
returns-in_err-refuse_index c =
    let a = c.args in let b = a.index.now in let w = question_of a.point.now a.weights.now a.what in
    let p = err_from_is_err_and c.from_residual.result c.from_residual.ensures.1 in
    rw (p.1, p.2) (asked_refused (question_rules b w a.lent) (Answers b w) b w _ _ _ (question_unsound b _ c.in_err-refuse_index.ensures w a.lent))

pub returns : goal.returns
returns c =
    let a = c.args in let b = a.index.now in
    asked_same b (checked_sound b c.in_ok-refuse_index.ensures) (question_of a.point.now a.weights.now a.what) a.lent _ _ _ c.question_outcome.ensures
