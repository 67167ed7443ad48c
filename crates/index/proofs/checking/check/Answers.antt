use Rattle.std.specs.Prelude.{Err}
use Rattle.std.proofs.lemmas.Result.{err_from_is_err_and}
use Rattle.lists.specs.Judges.{passes}
use Rattle.index.specs.CheckAnswers.{check_passes}
use Rattle.index.proofs.checking.check.Goals as goal

pub returns-in_err-check : goal.returns-in_err-check
returns-in_err-check c =
    let p = err_from_is_err_and c.from_residual.result c.from_residual.ensures.1 in
    rw (p.1, p.2) (check_passes c.args.index.now (Err c.in_err-check.field-0.0) (passes c.permitted.ensures c.if-not-permitted.false) c.in_err-check.ensures)
