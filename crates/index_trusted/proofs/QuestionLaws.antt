-- An outcome of a question, handed over, is the question.
use Rattle.std.specs.Prelude.{◌≡◌, refl, List, ◌++◌, ℕ, zero, suc, ◌≤◌, eqb, length, take, drop}
use Rattle.std.proofs.Common.{sym, ap, ◌∙◌, subst, arith, take_at, ne_eqb}
use Rattle.lists.specs.Basics.{if}
use Rattle.pagestore.specs.Store.{view_of}
use Rattle.search_rows.specs.declared.Row.{Row}
use Rattle.search_rows.specs.Held.{rows_in}
use Rattle.search_model.specs.Visit.{Answer as Found, found}
use Rattle.index_answer.specs.declared.Answer.{Answer}
use Rattle.index_answer.specs.declared.Tally.{Tally}
use Rattle.index_answer.specs.Tallies.{counted}
use Rattle.index_answer.specs.Filling.{filled}
use Rattle.index_answer.proofs.FillingLaws.{filled_is}
use Rattle.index_answer.specs.Delivered.{Delivered}
use Rattle.index_query.specs.Asking.{Question, sought}
use Rattle.index_refusals.specs.Refusals.{Rule, First}
use Rattle.index_refusals.specs.RefusalLaws.{Carried}
use Rattle.index_refusals.specs.Outcomes.{unless_refused, found_with, nothing_found}
use Rattle.index_query.specs.Answers.{AnswersIfSound}
use Rattle.index_refusals.specs.Trusted.{trusted_question}
use Rattle.index_refusals.proofs.CarriedLaws.{trusted_carried}
use Rattle.index_trusted.specs.Questions.{written, Places, QuestionedBy, OutcomeBy, TrustedOutcome, TrustedQuestioned}

module _ (lent : List Row) (hs ls : List ℕ) (c : ℕ) (f : Found) where
  -- a refused question leaves the rows, one carried out writes those found
  rows_by : (n : ℕ) → rows_in hs ls c ≡ (unless_refused n f nothing_found).rows → c ≡ length (unless_refused n f nothing_found).rows → (n ≡ 0 → filled hs ls c lent ≡ rows_in hs ls c ++ drop c lent)
      → if (eqb n 0) (filled hs ls c lent) lent ≡ written (unless_refused n f nothing_found).rows lent
  rows_by zero rows count h = h refl ∙ (λ i. rows i ++ drop (count i) lent)
  rows_by (suc n) rows count h = rw (ne_eqb (suc n) 0 (λ (e : suc n ≡ 0). omega arith))

tally_by : (n : ℕ) (t u : Tally) → if (eqb n 0) t u ≡ unless_refused n t u
tally_by zero t u = refl
tally_by (suc n) t u = rw (ne_eqb (suc n) 0 (λ (e : suc n ≡ 0). omega arith))

-- by any rules that, where they refuse nothing, leave room for the k rows asked for
module _ (rules : List Rule) (answers : Found → Type 0) (b : List ℕ) (w : Question) (lent : List Row) (tally : Tally) (hs ls : List ℕ) (o : Answer) (leave_room : First rules 0 → Carried (view_of b).d w (length lent)) where
  pub handed_over : Places hs ls → OutcomeBy rules answers b w hs ls o → (r : Answer) (lent' : List Row) (tally' : Tally) → Delivered o hs ls lent tally r lent' tally' → QuestionedBy rules answers b w lent tally r lent' tally'
  handed_over p a r lent' tally' h =
      let room : o.code ≡ 0 → Carried (view_of b).d w (length lent) = λ z. leave_room (subst (First rules) z a.first) in
      let few : o.count ≤ w.k = a.few in
      let lent-then : lent' ≡ written (found_with o.code b w).rows lent =
      h.filling
      ∙ rows_by lent hs ls o.count (found b (sought w)) o.code a.rows a.count (λ z. let top : w.k ≤ 64 = (room z).most in
      let most : w.k ≤ length lent = (room z).lent in filled_is hs ls o.count lent (omega (arith, p.0)) (omega (arith, p.1)) (omega arith)) in
      let rows_then : rows_in hs ls o.count ≡ take o.count lent' =
      a.rows
      ∙ sym (ap (take o.count) lent-then ∙ take_at (found_with o.code b w).rows (drop (length (found_with o.code b w).rows) lent) o.count (sym a.count)) in
      subst (λ (x : Answer). QuestionedBy rules answers b w lent tally x lent' tally') (sym h.same)
      (record {
        first = a.first;
        count = a.count;
        leaves = a.leaves;
        rows = lent-then;
        tallying = h.count ∙ tally_by o.code (counted tally o.leaves) tally;
        carried = λ z. subst (λ (xs : List Row). answers (record { rows = xs; leaves = o.leaves })) rows_then (a.carried z);
      })

-- those of a question without the check
pub trusted_hands : (b : List ℕ) (w : Question) (lent : List Row) (tally : Tally) (hs ls : List ℕ) (o : Answer) → Places hs ls → TrustedOutcome b w (length lent) hs ls o
    → (r : Answer) (lent' : List Row) (tally' : Tally) → Delivered o hs ls lent tally r lent' tally' → TrustedQuestioned b w lent tally r lent' tally'
trusted_hands b w lent tally hs ls o = handed_over (trusted_question b w (length lent)) (AnswersIfSound b w) b w lent tally hs ls o (trusted_carried b w (length lent))
