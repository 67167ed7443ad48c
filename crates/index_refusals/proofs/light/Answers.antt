use Rattle.lists.specs.Judges.{pass}
use Rattle.index_refusals.proofs.light.Goals as goal

pub returns-in-Some : goal.returns-in-Some
returns-in-Some c = rw c.in-Some.is c.are_light.ensures

pub returns-in-None : goal.returns-in-None
returns-in-None c = rw c.in-None.is (pass tt)
