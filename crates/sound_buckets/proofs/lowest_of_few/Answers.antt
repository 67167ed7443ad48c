use Rattle.std.proofs.Common.{refl, arith}
use Rattle.sound_chains.proofs.ChainLaws.{blank, room}
use Rattle.sound_buckets.proofs.lowest_of_few.Goals as goal

pub compare-requires : goal.compare-requires
compare-requires c = let p = c.requires in (room _ 16384 16384 refl p.0 (omega arith), p.1, blank 16384)
