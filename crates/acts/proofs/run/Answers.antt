use Rattle.std.proofs.Common.{refl}
use Rattle.acts.proofs.RunLaws.{whole_run}
use Rattle.acts.proofs.run.Goals as goal

pub returns : goal.returns
returns g c =
    let R = c.run_input-t in let C = c.close in
    whole_run _ _ _ _ _ _ _ R.result _ _ C.result (record { going = refl; number = refl; held = refl; empty = refl }) C.auto.out R.ensures C.ensures
