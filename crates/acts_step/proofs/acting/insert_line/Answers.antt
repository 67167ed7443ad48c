use Rattle.std.proofs.Common.{arith}
use Rattle.acts_step.proofs.ActLaws.{inserted}
use Rattle.acts_step.proofs.acting.insert_line.Goals as goal

pub returns : goal.returns
returns c =
    let a = c.args in let P = c.put_result in let I = c.insert in let K = c.code_of-code in
    inserted _ _ _ _ _ K.result _ _ P.ensures.1 a.epoch _ (omega arith, omega arith) (rw K.ensures I.ensures.0) (rw K.ensures I.ensures.1) P.ensures.0
