-- On a sound index a question without the check is the question; and an outcome of it, handed over, is the question.
use Rattle.std.specs.Prelude.{List, ℕ, length}
use Rattle.tree_model.specs.Sound.{SoundIndex}
use Rattle.search_rows.specs.declared.Row.{Row}
use Rattle.index_answer.specs.declared.Answer.{Answer}
use Rattle.index_answer.specs.declared.Tally.{Tally}
use Rattle.index_answer.specs.Delivered.{Delivered}
use Rattle.index_query.specs.Asking.{Question}
use Rattle.index_query.specs.Answers.{Answers}
use Rattle.index_refusals.specs.Refusals.{question_rules}
use Rattle.index_refusals.proofs.CarriedLaws.{question_carried}
use Rattle.index_refusals.specs.TrustedLaws.{question_same}
use Rattle.index_trusted.specs.Questions.{Places, TrustedOutcome}
use Rattle.index_trusted.proofs.QuestionLaws.{handed_over}
use Rattle.index.specs.Questions.{QuestionOutcome, Questioned}

pub asked_same : (b : List ℕ) → SoundIndex b → (w : Question) (m : ℕ) (hs ls : List ℕ) (r : Answer) → TrustedOutcome b w m hs ls r → QuestionOutcome b w m hs ls r
asked_same b s w m hs ls r a =
    record { first = question_same b s w m r.code a.first; few = a.few; count = a.count; leaves = a.leaves; rows = a.rows; carried = λ z. a.carried z s }

pub question_hands : (b : List ℕ) (w : Question) (lent : List Row) (tally : Tally) (hs ls : List ℕ) (o : Answer) → Places hs ls → QuestionOutcome b w (length lent) hs ls o
    → (r : Answer) (lent' : List Row) (tally' : Tally) → Delivered o hs ls lent tally r lent' tally' → Questioned b w lent tally r lent' tally'
question_hands b w lent tally hs ls o = handed_over (question_rules b w (length lent)) (Answers b w) b w lent tally hs ls o (question_carried b w (length lent))
