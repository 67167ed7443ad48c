-- The question (01): its number, its rows and count, the rows lent and the tally afterwards.
use Rattle.std.specs.Prelude.{List, ℕ, length}
use Rattle.search_rows.specs.declared.Row.{Row}
use Rattle.index_answer.specs.declared.Answer.{Answer}
use Rattle.index_answer.specs.declared.Tally.{Tally}
use Rattle.index_query.specs.Asking.{Question}
use Rattle.index_query.specs.Answers.{Answers}
use Rattle.index_refusals.specs.Refusals.{question_rules}
use Rattle.index_trusted.specs.Questions.{QuestionedBy, OutcomeBy}

-- Its rules are the table's, and where it is carried out, the rows are the k nearest of the live records whose stage is in the set and whose stamp lies in
-- the days, and the count is that of demand 3's set.
abbrev pub Questioned : List ℕ → Question → List Row → Tally → Answer → List Row → Tally → Type 0
Questioned b w lent tally r lent' tally' = QuestionedBy (question_rules b w (length lent)) (Answers b w) b w lent tally r lent' tally'

-- and before it is handed over, with n rows lent
abbrev pub QuestionOutcome : List ℕ → Question → ℕ → List ℕ → List ℕ → Answer → Type 0
QuestionOutcome b w n highs lows r = OutcomeBy (question_rules b w n) (Answers b w) b w highs lows r
