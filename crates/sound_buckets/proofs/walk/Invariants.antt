use Rattle.sound_buckets.proofs.BucketLaws.{Walking}
use Rattle.sound_buckets.proofs.walk.Given as goal

-- `walk` meets the identifiers of one bucket, last to first.
abbrev pub invariant-loop-j : goal.invariant-loop-j
invariant-loop-j l = Walking l.ids l.pages l.g l.seen l.j l.best

abbrev pub decreases-loop-j : goal.decreases-loop-j
decreases-loop-j l = l.j
