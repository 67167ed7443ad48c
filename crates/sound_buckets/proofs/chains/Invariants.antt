use Rattle.sound_chains.specs.Chains.{Heads, Chained}
use Rattle.sound_buckets.proofs.chains.Given as goal

-- The first i are chained.
abbrev pub invariant-loop-i : goal.invariant-loop-i
invariant-loop-i l = Heads l.i l.ids l.head × Chained l.i l.ids l.next
