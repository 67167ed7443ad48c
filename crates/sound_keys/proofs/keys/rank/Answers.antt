use Rattle.std.proofs.Common.{arith}
use Rattle.geometry.specs.Keys.{key_number}
use Rattle.sound_keys.proofs.keys.rank.Goals as goal

pub returns : goal.returns
unfolding key_number
returns c = (c.key_number.ensures, omega (arith, c.key_number.ensures))
