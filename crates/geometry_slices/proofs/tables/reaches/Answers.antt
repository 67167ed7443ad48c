use Rattle.geometry_slices.proofs.PackedLaws.{asked_few}
use Rattle.geometry_slices.proofs.TableLaws.{reaches_copied}
use Rattle.geometry_slices.proofs.tables.reaches.Goals as goal

pub returns : goal.returns
returns c = let a = c.args.asked.now in reaches_copied a _ (asked_few a c.requires) c.copy_from_slice.ensures.after
