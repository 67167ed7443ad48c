-- The numbers of kinds, ways and marks. Each number is taken as a kind and as a way, and each but 0 as a mark.
use Rattle.std.specs.Prelude.{◌≡◌, ℕ, ◌+◌, ◌*◌, ◌/◌, ◌%◌, zero, suc, refl, Option, Some, None}
use Rattle.test_model.specs.declared.points.Kind.{Kind}
use Rattle.test_model.specs.declared.points.Kind.TheVariants.{Wide, Clustered, Tied, Other}
use Rattle.test_model.specs.declared.batches.Way.{Way}
use Rattle.test_model.specs.declared.batches.Way.TheVariants.{Plain, Weighted, Dated}
use Rattle.test_model.specs.declared.marks.Mark.{Mark}

-- a number that is that of no kind is a kind of its own
abbrev pub kind_of : ℕ → Kind
kind_of zero = Wide
kind_of (suc zero) = Clustered
kind_of (suc (suc zero)) = Tied
kind_of (suc (suc (suc n))) = Other (suc (suc (suc n)))

abbrev pub number_of_kind : Kind → ℕ
number_of_kind Wide = 0
number_of_kind Clustered = 1
number_of_kind Tied = 2
number_of_kind (Other n) = n

-- the kind of a number has that number
pub kind_numbered : (n : ℕ) → number_of_kind (kind_of n) ≡ n
kind_numbered zero = refl
kind_numbered (suc zero) = refl
kind_numbered (suc (suc zero)) = refl
kind_numbered (suc (suc (suc n))) = refl

-- a number that is that of no way is taken as the one with weights
abbrev pub way_of : ℕ → Way
way_of zero = Plain
way_of (suc zero) = Weighted
way_of (suc (suc zero)) = Dated
way_of (suc (suc (suc n))) = Weighted

-- an odd number: eight bits for the stage, and the stamp above them
abbrev pub number_of_mark : Mark → ℕ
number_of_mark m = 512 * m.stamp + 2 * m.stage + 1

-- 0 holds no mark; of any other number the bits beside those of the stage and the stamp are passed over
abbrev pub mark_in : ℕ → Option Mark
mark_in zero = None
mark_in (suc n) = Some (record { stage = suc n / 2 % 256; stamp = suc n / 512 % 4294967296 })
