-- What a batch has to be for its points and its questions.
use Rattle.std.specs.Prelude.{◌≤◌}
use Rattle.test_model.specs.declared.Batch.{Batch}

-- a batch of 1 to 16 features whose points have room in an array of 1,024
abbrev pub Fits : Batch → Type 0
Fits b = (1 ≤ b.d) × (b.d ≤ 16) × (b.points ≤ 1024)
