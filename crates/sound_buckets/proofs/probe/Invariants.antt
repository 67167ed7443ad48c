use Rattle.sound_buckets.proofs.BucketLaws.{Probing}
use Rattle.sound_buckets.proofs.probe.Given as goal

-- `probe` looks along the chain: no place that was passed holds the identifier.
abbrev pub invariant-passes : goal.invariant-passes
invariant-passes l = Probing l.ids l.i l.x l.j
