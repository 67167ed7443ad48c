-- The outcome of a question, refused or carried out.
use Rattle.std.specs.Prelude.{◌≡◌, refl, ◌≢◌, List, ℕ, zero, suc, ◌≤◌, length, Err}
use Rattle.std.proofs.Common.{sym, ap, ◌∙◌, subst, arith}
use Rattle.pagestore.specs.Store.{view_of}
use Rattle.search_rows.specs.Held.{rows_in}
use Rattle.index_answer.proofs.FillingLaws.{rows_held}
use Rattle.search.specs.declared.Query.{Query}
use Rattle.search.specs.declared.Seen.{Seen}
use Rattle.search_model.specs.Asked.{Asked}
use Rattle.search.specs.Steps.{asks, Searches, Searched}
use Rattle.search_model.specs.Visit.{Answer as Found, found}
use Rattle.index_codes.specs.declared.Refusal.{Refusal}
use Rattle.index_codes.specs.Codes.{number_of}
use Rattle.index_codes.specs.CodeLaws.{some_number}
use Rattle.index_answer.specs.declared.Answer.{Answer}
use Rattle.index_answer.specs.Delivered.{answer_of}
use Rattle.index_query.specs.Asking.{Question, Searchable, QueryFor, sought}
use Rattle.index_query.proofs.AskingLaws.{weights_own}
use Rattle.index_query.specs.Answers.{AnswersIfSound}
use Rattle.index_query.proofs.AnswerLaws.{search_answers}
use Rattle.index_refusals.specs.Refusals.{Rule, First}
use Rattle.index_refusals.specs.Trusted.{trusted_question}
use Rattle.index_refusals.proofs.CarriedLaws.{trusted_carried}
use Rattle.index_refusals.specs.Outcomes.{found_with, nothing_found}
use Rattle.index_trusted.specs.Questions.{Places, OutcomeBy, Answered}
use Rattle.index_refusals.specs.RefusalLaws.{all_hold}

module _ (rules : List Rule) (answers : Found → Type 0) (b : List ℕ) (w : Question) (hs ls : List ℕ) where
  nothing_with : (m : ℕ) → m ≢ 0 → found_with m b w ≡ nothing_found
  nothing_with zero z = absurd (z refl)
  nothing_with (suc m) z = refl

  pub asked_refused : (e : Refusal) → First rules (number_of e) → OutcomeBy rules answers b w hs ls (answer_of (Err e))
  asked_refused e f =
      let some : number_of e ≢ 0 = λ z. omega (arith, some_number e) in
      let none : found_with (number_of e) b w ≡ nothing_found = nothing_with (number_of e) some in
      record {
        first = f;
        few = omega arith;
        count = sym (ap (λ (x : Found). length x.rows) none);
        leaves = sym (ap (λ (x : Found). x.leaves) none);
        rows = sym (ap (λ (x : Found). x.rows) none);
        carried = λ z. absurd (some z);
      }

  pub asked_answered : (r : Answer) → First rules 0 → Places hs ls → w.k ≤ 64 → answers (found b (sought w)) → Answered b w hs ls r → OutcomeBy rules answers b w hs ls r
  asked_answered r f p top answer h =
      let e : found b (sought w) ≡ found_with r.code b w = sym (ap (λ (x : ℕ). found_with x b w) h.code) in
      let rows : rows_in hs ls r.count ≡ (found_with r.code b w).rows = ap (λ (x : Found). x.rows) (h.same ∙ e) in
      let few : r.count ≤ w.k = h.few in
      record {
        first = subst (First rules) (sym h.code) f;
        few = few;
        count = sym (rows_held hs ls r.count (omega (arith, p.0)) (omega (arith, p.1))) ∙ ap length rows;
        leaves = ap (λ (x : Found). x.leaves) (h.same ∙ e);
        rows = rows;
        carried = λ z. subst answers (sym h.same) answer;
      }

-- the query for a question, with places for its rows, can be searched for
pub query_sought : (w : Question) (r : Query) (hs ls : List ℕ) → QueryFor w r → Searchable w → Places hs ls → Searches r hs ls
query_sought w r hs ls q can p =
    let k : r.k ≡ w.k = ap (λ (a : Asked). a.k) q.is in
    record {
      slots = q.slots;
      few = q.few;
      looked = record { seekable = q.seekable; one = omega (arith, can.some); room_highs = omega (arith, can.few, p.0); room_lows = omega (arith, can.few, p.1) };
    }

-- what the search returns, as an answer
pub answered_by : (b : List ℕ) (w : Question) (q : Query) (hs ls : List ℕ) (r : Seen) → QueryFor w q → Searched b (asks q) hs ls r
    → Answered b w hs ls (record { code = 0; count = r.rows; leaves = r.leaves })
answered_by b w q hs ls r e h =
    record { code = refl; few = omega (arith, h.few, ap (λ (a : Asked). a.k) e.is); same = h.answer ∙ ap (found b) e.is }

module _ (b : List ℕ) (w : Question) (lent : ℕ) (f : First (trusted_question b w lent) 0) where
  -- a question that is not refused can be searched for
  pub may_search : Searchable w
  may_search =
      let h = all_hold (trusted_question b w lent) refl f in
      let c = trusted_carried b w lent f in
      record { features = h.1.1.0.0.0; most = h.1.1.0.0.1; ranges = c.ranges; weights = weights_own (view_of b).d w c.features; light = c.light; some = c.some; few = c.most }

  -- and what is found on a sound index
  pub trusted_answers : AnswersIfSound b w (found b (sought w))
  trusted_answers s = let c = trusted_carried b w lent f in search_answers b s w c.features c.some c.dates
