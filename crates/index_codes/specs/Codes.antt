-- The number of each refusal (01, "Order"; 02), by the words of include/epoch_index.h, and that of an outcome; 12 is none of them (Q-7).
use Rattle.std.specs.Prelude.{ℕ, Result, Ok, Err}
use Rattle.index_codes.specs.declared.Refusal.{Refusal}
use Rattle.index_codes.specs.declared.Refusal.TheVariants.{BadLength, Unsound, BadFeatures, BadCoordinate, ZeroId, AlreadyLive, NotLive, Full, NoPages, BadK, FewRows, BadWeight, BadStage, BadStageSet, BadDate, DatesReversed}

abbrev pub number_of : Refusal → ℕ
number_of BadLength = 1
number_of Unsound = 2
number_of BadFeatures = 3
number_of BadCoordinate = 4
number_of ZeroId = 5
number_of AlreadyLive = 6
number_of NotLive = 7
number_of Full = 8
number_of NoPages = 9
number_of BadK = 10
number_of FewRows = 11
number_of BadWeight = 14
number_of BadStage = 15
number_of BadStageSet = 16
number_of BadDate = 17
number_of DatesReversed = 18

-- 0 for an act that is carried out
abbrev pub code_of : Result (Unit {0}) Refusal → ℕ
code_of (Ok done) = 0
code_of (Err refusal) = number_of refusal
