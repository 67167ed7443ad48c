-- What an act does and prints, from what its function and the writer of a line ensure.
use Rattle.std.proofs.Common.{◌≡◌, refl, sym, ap, ◌∙◌, subst, ◌≢◌, List, [], ◌∷◌, ℕ, zero, suc, ◌+◌, ◌≤◌, ℤ, length, length-take, arith}
use Rattle.search_rows.specs.declared.Row.{Row}
use Rattle.search_rows.specs.Held.{rows_of, rows_in}
use Rattle.search_model.specs.Visit.{Answer as Found}
use Rattle.index_answer.specs.declared.Answer.{Answer}
use Rattle.index_refusals.specs.Refusals.{First, insert_rules, delete_rules}
use Rattle.index_refusals.specs.Outcomes.{inserted_with, deleted_with, found_with, nothing_found}
use Rattle.index_query.specs.Asking.{Question, nearest_of}
use Rattle.index_refusals.specs.declared.Epoch.{Epoch}
use Rattle.index.specs.Acts.{EpochFits, Act, insert, delete, question}
use Rattle.index.specs.Questions.{QuestionOutcome}
use Rattle.acts_text.specs.declared.Act.TheVariants.{Insert, Delete, Ask}
use Rattle.acts_text.specs.declared.ActLine.{ActLine}
use Rattle.acts_fields.specs.Bytes.{Written}
use Rattle.acts_output.specs.Output.{result_line}
use Rattle.acts_output.specs.Output.{row_lines}
use Rattle.acts_step.specs.Printed.{answer_lines}
use Rattle.acts_output.specs.Puts.{rows_lent, most_printed, Puts}
use Rattle.acts_step.specs.Steps.{point_of, stage_in, asked_by, Acted, Replies}

module _ (b c out out' : List ℕ) (n code at r : ℕ) (room : r ≤ at + 105) where
  pub inserted : (x : Epoch) (p : List ℤ) → EpochFits x → First (insert_rules b x p) code → c ≡ inserted_with code b x p → Written out out' at r (result_line n code x.id 0 0)
      → Puts (Acted (insert x p) b n c) most_printed out out' at r
  inserted x p low first e w = record {
    text = result_line n code x.id 0 0;
    says = record { code = code; answer = nothing_found; done = (low, first, e); prints = refl };
    written = w;
    room = omega arith;
  }

  pub deleted : (i : ℕ) → First (delete_rules b i) code → c ≡ deleted_with code b i → Written out out' at r (result_line n code i 0 0) → Puts (Acted (delete i) b n c) most_printed out out' at r
  deleted i first e w = record {
    text = result_line n code i 0 0;
    says = record { code = code; answer = nothing_found; done = (first, e); prints = refl };
    written = w;
    room = omega arith;
  }

-- ---- A QUESTION

lines_none : (n code leaves : ℕ) (xs : List Row) → length xs ≡ 0 → result_line n code 0 0 leaves ≡ answer_lines n code leaves xs
lines_none n code leaves [] e = refl
lines_none n code leaves (x ∷ xs) e = absurd (omega (arith, e))

lines_some : (n code leaves : ℕ) (xs : List Row) → length xs ≢ 0 → row_lines n code leaves xs ≡ answer_lines n code leaves xs
lines_some n code leaves [] e = absurd (e refl)
lines_some n code leaves (x ∷ xs) e = refl

-- one that has rows is not refused
rows_zero : (b : List ℕ) (w : Question) (m : ℕ) → length (found_with m b w).rows ≢ 0 → m ≡ 0
rows_zero b w zero e = refl
rows_zero b w (suc m) e = absurd (e refl)

length_rows : (hs ls : List ℕ) → length (rows_of hs ls) ≤ length hs
unfolding rows_of
length_rows [] ls = omega arith
length_rows (h ∷ hs) [] = omega arith
length_rows (h ∷ hs) (l ∷ ls) = omega (arith, length_rows hs ls)

module _ (b : List ℕ) (w : Question) (hs ls : List ℕ) (o : Answer) (a : QuestionOutcome b w 64 hs ls o) where
  abbrev answer : Found
  answer = found_with o.code b w

  -- no more rows than there are places for them
  pub rows_fit : o.count ≤ length hs
  rows_fit =
      let e : o.count ≡ length (rows_in hs ls o.count) = a.count ∙ ap length (sym a.rows) in
      let l = length-take o.count (rows_of hs ls) in
      let m = length_rows hs ls in omega arith

  module _ (n : ℕ) (out out' : List ℕ) (at r : ℕ) where
    pub asked_none : o.count ≡ 0 → Written out out' at r (result_line n o.code 0 0 o.leaves) → r ≤ at + 105
        → Puts (Replies w b n) most_printed out out' at r
    asked_none z t room = record {
      text = result_line n o.code 0 0 o.leaves;
      says = record {
        code = o.code;
        answer = answer;
        done = (a.first, refl, refl);
        prints = ap (λ (x : ℕ). result_line n o.code 0 0 x) a.leaves ∙ lines_none n o.code answer.leaves answer.rows (sym a.count ∙ z);
      };
      written = t;
      room = omega arith;
    }

    pub asked_some : o.count ≢ 0 → Puts (λ t. t ≡ row_lines n 0 o.leaves (rows_in hs ls o.count)) most_printed out out' at r
        → Puts (Replies w b n) most_printed out out' at r
    asked_some z t =
        let some : length answer.rows ≢ 0 = λ e. z (a.count ∙ e) in
        let zero : o.code ≡ 0 = rows_zero b w o.code some in
        record {
          text = t.text;
          says = record {
            code = o.code;
            answer = answer;
            done = (a.first, refl, refl);
            prints = t.says
                ∙ ap (λ (x : ℕ). row_lines n x o.leaves (rows_in hs ls o.count)) (sym zero)
                ∙ ap (λ (x : ℕ). row_lines n o.code x (rows_in hs ls o.count)) a.leaves
                ∙ ap (row_lines n o.code answer.leaves) a.rows
                ∙ lines_some n o.code answer.leaves answer.rows some;
          };
          written = t.written;
          room = t.room;
        }

-- ---- THE ACT THAT A LINE ASKS FOR

module _ (a : ActLine) (b : List ℕ) (n : ℕ) (c out out' : List ℕ) (at r : ℕ) where
  abbrev Does : Act → Type 0
  Does x = Puts (Acted x b n c) most_printed out out' at r

  -- the stage as the code narrows it
  pub does_insert : (g : ℕ) → a.act ≡ Insert → g ≡ stage_in a → Does (insert (record { id = a.id; stage = g; stamp = a.stamp }) (point_of a)) → Does (asked_by a)
  does_insert g e s w = rw e (subst Does (ap (λ (x : ℕ). insert (record { id = a.id; stage = x; stamp = a.stamp }) (point_of a)) s) w)

  pub does_delete : a.act ≡ Delete → Does (delete a.id) → Does (asked_by a)
  does_delete e w = rw e w

  pub does_question : (g : ℕ) → a.act ≡ Ask → g ≡ stage_in a → Does (question (nearest_of (point_of a) a.k g) rows_lent) → Does (asked_by a)
  does_question g e s w = rw e (subst Does (ap (λ (x : ℕ). question (nearest_of (point_of a) a.k x) rows_lent) s) w)
