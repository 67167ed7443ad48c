use Rattle.std.proofs.Common.{refl}
use Rattle.sound_chains.proofs.ChainLaws.{blank, long, room}
use Rattle.sound_buckets.proofs.lowest_of_many.Goals as goal

-- `lowest_of_many` makes blank arrays for at most 65,535 identifiers.
pub chain_and_walk-requires : goal.chain_and_walk-requires
chain_and_walk-requires c = let p = c.requires in (room _ 16384 65535 refl p.0 p.0, p.1, long 262144, blank 16384, blank 262144)
