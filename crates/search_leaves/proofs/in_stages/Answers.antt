use Rattle.std.proofs.Common.{arith, le-ltb}
use Rattle.search_leaves.proofs.CandidateLaws.{past_bits, bit_in}
use Rattle.search_leaves.proofs.in_stages.Goals as goal

-- The shift brings the stage's bit to the front, and the mask leaves that bit.
pub returns-then-stage-lt-SET_BITS : goal.returns-then-stage-lt-SET_BITS
returns-then-stage-lt-SET_BITS c = bit_in c.args.stages c.args.stage _ (omega arith)

pub returns-else-stage-lt-SET_BITS : goal.returns-else-stage-lt-SET_BITS
returns-else-stage-lt-SET_BITS c = rw (le-ltb c.args.stage 8 (omega arith)) (past_bits c.args.stages c.args.stage (omega (arith, c.ranges.stages)) (omega arith))
