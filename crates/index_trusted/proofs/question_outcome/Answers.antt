use Rattle.std.proofs.Common.{rules}
use Rattle.std.proofs.lemmas.Result.{err_from_is_err_and}
use Rattle.index_query.specs.Asking.{question_of}
use Rattle.index_query.specs.Answers.{AnswersIfSound}
use Rattle.index_refusals.specs.Trusted.{trusted_question}
use Rattle.index_trusted.proofs.AskLaws.{asked_refused, asked_answered, may_search, trusted_answers}
use Rattle.index_trusted.proofs.question_outcome.Goals as goal

pub returns-in_err-refuse_question : goal.returns-in_err-refuse_question
returns-in_err-refuse_question c =
    let a = c.args in let b = a.index.now in let w = question_of a.point.now a.weights.now a.what in
    let p = err_from_is_err_and c.from_residual.result c.from_residual.ensures.1 in
    rw (p.1, p.2) (asked_refused (trusted_question b w a.lent) (AnswersIfSound b w) b w _ _ _ c.in_err-refuse_question.ensures)

pub answered-requires : goal.answered-requires
answered-requires c =
    let a = c.args in
    (may_search a.index.now (question_of a.point.now a.weights.now a.what) a.lent c.in_ok-refuse_question.ensures, c.requires)

pub returns : goal.returns
returns c =
    let a = c.args in let b = a.index.now in let w = question_of a.point.now a.weights.now a.what in let first = c.in_ok-refuse_question.ensures in
    asked_answered (trusted_question b w a.lent) (AnswersIfSound b w) b w _ _ _ first (search rules, search rules) (may_search b w a.lent first).few
    (trusted_answers b w a.lent first) c.answered.ensures
