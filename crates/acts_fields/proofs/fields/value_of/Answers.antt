use Rattle.std.proofs.Common.{sym, ◌∙◌, arith}
use Rattle.acts_fields.proofs.DigitLaws.{value_step, value_stop, value_end}
use Rattle.acts_fields.proofs.fields.value_of.Goals as goal

pub returns-in_err-v : goal.returns-in_err-v
returns-in_err-v c =
    let a = c.args in let p = c.loop-b in
    c.from_residual.ensures ∙ value_stop a.cap p.v a.f.now p.b-index (omega arith) (sym c.in_err-v.was ∙ c.with_digit.ensures) ∙ p.invariant

pub loop-b-preserved : goal.loop-b-preserved
loop-b-preserved c =
    let a = c.args in let p = c.loop-b in
    value_step a.cap p.v c.in_ok-v.v a.f.now p.b-index (omega arith) (sym c.in_ok-v.was ∙ c.with_digit.ensures) ∙ p.invariant

pub returns : goal.returns
returns c = let a = c.args in let p = c.loop-b in value_end a.cap p.v a.f.now p.b-index (omega arith) ∙ p.invariant
