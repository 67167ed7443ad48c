use Rattle.acts_step.proofs.ActLaws.{deleted}
use Rattle.acts_step.proofs.acting.delete_line.Goals as goal

pub returns : goal.returns
returns c =
    let P = c.put_result in let D = c.delete in let K = c.code_of-code in
    deleted _ _ _ _ _ K.result _ _ P.ensures.1 _ (rw K.ensures D.ensures.0) (rw K.ensures D.ensures.1) P.ensures.0
