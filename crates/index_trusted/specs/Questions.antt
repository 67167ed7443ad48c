-- A question (01), with the check or without: its number, its rows and count, the rows lent and the tally afterwards.
use Rattle.std.specs.Prelude.{◌≡◌, List, ◌++◌, ℕ, ◌≤◌, length, take, drop}
use Rattle.search_rows.specs.declared.Row.{Row}
use Rattle.search_rows.specs.Held.{rows_in}
use Rattle.search_model.specs.Visit.{Answer as Found, found}
use Rattle.index_answer.specs.declared.Answer.{Answer}
use Rattle.index_answer.specs.declared.Tally.{Tally}
use Rattle.index_answer.specs.Tallies.{counted}
use Rattle.index_query.specs.Asking.{Question, sought, max_rows}
use Rattle.index_query.specs.Answers.{AnswersIfSound}
use Rattle.index_refusals.specs.Refusals.{Rule, First}
use Rattle.index_refusals.specs.Outcomes.{unless_refused, found_with}
use Rattle.index_refusals.specs.Trusted.{trusted_question}

-- rows lent, once these rows have been returned in them: rows past those keep their contents
abbrev pub written : List Row → List Row → List Row
written rows lent = rows ++ drop (length rows) lent

-- What the question w on index b returns and leaves, by its rules. lent, tally: the rows lent and the caller's tally before it;
-- answers: what is promised of the rows returned and of the count where it is carried out.
pub record QuestionedBy (rules : List Rule) (answers : Found → Type 0) (b : List ℕ) (w : Question) (lent : List Row) (tally : Tally)
    (r : Answer) (lent' : List Row) (tally' : Tally) : Type 0 where
  pub first : First rules r.code
  pub count : r.count ≡ length (found_with r.code b w).rows
  pub leaves : r.leaves ≡ (found_with r.code b w).leaves
  pub rows : lent' ≡ written (found_with r.code b w).rows lent
  pub tallying : tally' ≡ unless_refused r.code (counted tally r.leaves) tally
  pub carried : r.code ≡ 0 → answers (record { rows = take r.count lent'; leaves = r.leaves })

-- two arrays have places for the rows of any question that is carried out
abbrev pub Places : List ℕ → List ℕ → Type 0
Places highs lows = (max_rows ≤ length highs) × (max_rows ≤ length lows)

-- the same before it is handed over: the answer r, and its rows in two arrays
pub record OutcomeBy (rules : List Rule) (answers : Found → Type 0) (b : List ℕ) (w : Question) (highs lows : List ℕ) (r : Answer) : Type 0 where
  pub first : First rules r.code
  pub few : r.count ≤ w.k
  pub count : r.count ≡ length (found_with r.code b w).rows
  pub leaves : r.leaves ≡ (found_with r.code b w).leaves
  pub rows : rows_in highs lows r.count ≡ (found_with r.code b w).rows
  pub carried : r.code ≡ 0 → answers (record { rows = rows_in highs lows r.count; leaves = r.leaves })

-- A question without the check, before it is handed over, with n rows lent, and afterwards. Where it is carried out on a sound index, its rows and its
-- count are the act's.
abbrev pub TrustedOutcome : List ℕ → Question → ℕ → List ℕ → List ℕ → Answer → Type 0
TrustedOutcome b w n highs lows r = OutcomeBy (trusted_question b w n) (AnswersIfSound b w) b w highs lows r

abbrev pub TrustedQuestioned : List ℕ → Question → List Row → Tally → Answer → List Row → Tally → Type 0
TrustedQuestioned b w lent tally r lent' tally' = QuestionedBy (trusted_question b w (length lent)) (AnswersIfSound b w) b w lent tally r lent' tally'

-- carried out: the rows and the count are the search's
pub record Answered (b : List ℕ) (w : Question) (highs lows : List ℕ) (r : Answer) : Type 0 where
  pub code : r.code ≡ 0
  pub few : r.count ≤ w.k
  pub same : record { rows = rows_in highs lows r.count; leaves = r.leaves } ≡ found b (sought w)
