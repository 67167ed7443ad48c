use Rattle.std.proofs.Common.{arith}
use Rattle.acts_output.proofs.OutputLaws.{result_put}
use Rattle.acts_output.proofs.put_result.Goals as goal

pub returns : goal.returns
returns c =
    let f1 = c.put_field-a.ensures in
    let f2 = c.put_field-b.ensures in
    let f3 = c.put_field-c.ensures in
    let f4 = c.put_field-e.ensures in
    let f5 = c.put_field.ensures in
    (result_put _ _ _ _ _ _ _ _ _ _ _ _ _ _ _ _ _ (omega (arith, f1.1, f2.1, f3.1, f4.1, f5.1, c.requires)) f1.0 f2.0 f3.0 f4.0 f5.0, omega (arith, f1.1, f2.1, f3.1, f4.1, f5.1))
