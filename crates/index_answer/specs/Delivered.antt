-- Rows and tally after a question (01): filled and counted where it is carried out; refused, it leaves both as they were.
use Rattle.std.specs.Prelude.{◌≡◌, Bool, List, ℕ, eqb, Result, Ok, Err}
use Rattle.lists.specs.Basics.{if}
use Rattle.search_rows.specs.declared.Row.{Row}
use Rattle.index_codes.specs.declared.Refusal.{Refusal}
use Rattle.index_codes.specs.Codes.{number_of}
use Rattle.index_answer.specs.declared.Answer.{Answer}
use Rattle.index_answer.specs.declared.Found.{Found}
use Rattle.index_answer.specs.declared.Tally.{Tally}
use Rattle.index_answer.specs.Filling.{filled}
use Rattle.index_answer.specs.Tallies.{counted}

-- an outcome as C is answered: what is found with the number 0, or the number that refuses with 0 rows, 0 leaves
abbrev pub answer_of : Result Found Refusal → Answer
answer_of (Ok found) = record { code = 0; count = found.count; leaves = found.leaves }
answer_of (Err refusal) = record { code = number_of refusal; count = 0; leaves = 0 }

-- success is 0
abbrev pub carried_out : Answer → Bool
carried_out a = eqb a.code 0

abbrev pub rows_after : Answer → List ℕ → List ℕ → List Row → List Row
rows_after a highs lows old = if (carried_out a) (filled highs lows a.count old) old

abbrev pub tally_after : Answer → Tally → Tally
tally_after a old = if (carried_out a) (counted old a.leaves) old

-- the answer, the rows and the tally after the answer a is handed over, with candidates in two arrays
pub record Delivered (a : Answer) (highs lows : List ℕ) (rows : List Row) (tally : Tally) (answer : Answer) (rows' : List Row) (tally' : Tally) : Type 0 where
  pub same : answer ≡ a
  pub filling : rows' ≡ rows_after a highs lows rows
  pub count : tally' ≡ tally_after a tally
