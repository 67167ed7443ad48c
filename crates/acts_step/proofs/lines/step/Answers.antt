use Rattle.acts_step.proofs.StepLaws.{few_coordinates, step_passed, step_acted}
use Rattle.acts_step.proofs.lines.step.Goals as goal

pub do_act-requires : goal.do_act-requires
do_act-requires c = let R = c.read_act in (few_coordinates _ _ R.result R.ensures c.in-Some.a c.in-Some.is, c.requires)

pub returns-in-Some : goal.returns-in-Some
returns-in-Some c = let R = c.read_act in step_acted _ _ R.result R.ensures _ _ _ _ _ _ _ c.in-Some.a c.in-Some.is c.do_act.ensures

pub returns-in-None : goal.returns-in-None
returns-in-None c = let R = c.read_act in let P = c.put_result in step_passed _ _ R.result R.ensures _ _ _ _ _ _ c.in-None.is P.ensures.0 P.ensures.1
