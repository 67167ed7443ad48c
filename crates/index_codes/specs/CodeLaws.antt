-- Laws of the numbers: no refusal has 12 (Q-7), and success alone has 0.
use Rattle.std.specs.Prelude.{◌≡◌, refl, ◌≢◌, ◌≤◌, Result, Ok, Err}
use Rattle.std.proofs.Common.{arith}
use Rattle.index_codes.specs.declared.Refusal.{Refusal}
use Rattle.index_codes.specs.declared.Refusal.TheVariants.{BadLength, Unsound, BadFeatures, BadCoordinate, ZeroId, AlreadyLive, NotLive, Full, NoPages, BadK, FewRows, BadWeight, BadStage, BadStageSet, BadDate, DatesReversed}
use Rattle.index_codes.specs.Codes.{number_of, code_of}

pub not_twelve : (refusal : Refusal) → number_of refusal ≢ 12
not_twelve BadLength = omega arith
not_twelve Unsound = omega arith
not_twelve BadFeatures = omega arith
not_twelve BadCoordinate = omega arith
not_twelve ZeroId = omega arith
not_twelve AlreadyLive = omega arith
not_twelve NotLive = omega arith
not_twelve Full = omega arith
not_twelve NoPages = omega arith
not_twelve BadK = omega arith
not_twelve FewRows = omega arith
not_twelve BadWeight = omega arith
not_twelve BadStage = omega arith
not_twelve BadStageSet = omega arith
not_twelve BadDate = omega arith
not_twelve DatesReversed = omega arith

pub some_number : (refusal : Refusal) → 1 ≤ number_of refusal
some_number BadLength = omega arith
some_number Unsound = omega arith
some_number BadFeatures = omega arith
some_number BadCoordinate = omega arith
some_number ZeroId = omega arith
some_number AlreadyLive = omega arith
some_number NotLive = omega arith
some_number Full = omega arith
some_number NoPages = omega arith
some_number BadK = omega arith
some_number FewRows = omega arith
some_number BadWeight = omega arith
some_number BadStage = omega arith
some_number BadStageSet = omega arith
some_number BadDate = omega arith
some_number DatesReversed = omega arith

pub carried_out : (outcome : Result (Unit {0}) Refusal) → code_of outcome ≡ 0 → outcome ≡ Ok tt
carried_out (Ok done) e = refl
carried_out (Err refusal) e = absurd (omega (arith, some_number refusal))
