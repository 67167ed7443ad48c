use Rattle.std.proofs.Common.{◌≡◌, ap, subst, List, ℕ, ℤ}
use Rattle.index_query.specs.declared.Criteria.{Criteria}
use Rattle.index_query.specs.Asking.{Question, nearest_by, nearest_of, question_of}
use Rattle.index.specs.Questions.{QuestionOutcome}
use Rattle.index_answer.specs.declared.Answer.{Answer}
use Rattle.acts_step.proofs.acting.ask.Goals as goal

-- criteria without weights and dates ask for the nearest, of whichever point
asks-nearest : {k stages : ℕ} {c : Criteria} → c ≡ nearest_by k stages → (p : List ℤ) (ws : List ℕ) → question_of p ws c ≡ nearest_of p k stages
asks-nearest e p ws = ap (question_of p ws) e

-- what comes of a question comes of an equal one
same_outcome : {b hs ls : List ℕ} {n : ℕ} {r : Answer} {v w : Question} → v ≡ w → QuestionOutcome b v n hs ls r → QuestionOutcome b w n hs ls r
same_outcome {b} {hs} {ls} {n} {r} e h = subst (λ (x : Question). QuestionOutcome b x n hs ls r) e h

pub returns : goal.returns
returns c = rw c.from.ensures (same_outcome (asks-nearest c.nearest_of.ensures _ _) c.question_outcome.ensures)
