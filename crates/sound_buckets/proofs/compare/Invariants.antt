use Rattle.std.proofs.Common.{◌<◌}
use Rattle.sound_chains.specs.Chains.{Heads, Chained}
use Rattle.sound_buckets.specs.Buckets.{Sofar}
use Rattle.sound_buckets.proofs.compare.Given as goal

-- The first i are chained, and the lowest page so far is theirs.
abbrev pub invariant-loop-i : goal.invariant-loop-i
invariant-loop-i l = Heads l.i l.ids l.head × Chained l.i l.ids l.next × Sofar (λ k. k < l.i) l.ids l.pages l.best
