use Rattle.sound_buckets.specs.Buckets.{Stage}
use Rattle.sound_buckets.proofs.walks.Given as goal

-- The buckets below g are walked.
abbrev pub invariant-loop-g : goal.invariant-loop-g
invariant-loop-g l = Stage l.ids l.pages l.g l.seen l.best
