-- The tally (01, "A question"): questions plus 1, leaves plus the leaves read, each staying at 4,294,967,295 once it would pass it.
use Rattle.std.specs.Prelude.{ℕ, ◌+◌, min}
use Rattle.index_answer.specs.declared.Tally.{Tally}

abbrev pub saturated : ℕ → ℕ → ℕ
saturated a b = min (a + b) 4294967295

abbrev pub counted : Tally → ℕ → Tally
counted t leaves = record { questions = saturated t.questions 1; leaves = saturated t.leaves leaves }
