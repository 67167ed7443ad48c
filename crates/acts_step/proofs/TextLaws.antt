-- Texts of acts. `runs_append`, `runs-split`: lines one after the other. `runs_kept`: what is kept of each line says the same. `text_stands`: after any text the
-- index is sound and holds the records inserted and not deleted since. `text_question`: a question's lines are the k nearest of those
-- of its stages.
use Rattle.std.proofs.Common.{◌≡◌, sym, ap, ◌∙◌, subst, List, [], ◌∷◌, ◌++◌, map, ℕ, suc, ◌+◌, ◌≤◌, length, arith, append_assoc}
use Rattle.pagestore.specs.Store.{new_index}
use Rattle.search_model.specs.Visit.{Answer as Found}
use Rattle.tree_model.specs.Sound.{Permitted}
use Rattle.index_query.specs.Asking.{Question}
use Rattle.index.specs.Acts.{Act, question, Done, Series, end, next, held_by}
use Rattle.index.specs.Acts as acts
use Rattle.index_laws.specs.Series.{Stands}
use Rattle.index_laws.proofs.Series.{series}
use Rattle.index_query.specs.Answers.{Answers}
use Rattle.index_laws.specs.Answers.{question_answers}
use Rattle.acts_text.specs.Input.{kept}
use Rattle.acts_text.proofs.LineLaws.{act_kept}
use Rattle.acts_step.specs.Printed.{answer_lines}
use Rattle.acts_step.specs.Steps.{Acted, Steps, passed, acted}
use Rattle.acts_step.specs.Texts.{Runs}
use Rattle.acts_step.specs.Texts as texts

-- ---- LINES ONE AFTER THE OTHER

number_on : (n k : ℕ) → n + 1 + k ≡ n + suc k
number_on n k = omega arith

pub runs_append : {d n : ℕ} {b m c s t : List ℕ} {xs ys : List (List ℕ)} → Runs d b n xs m s → Runs d m (n + length xs) ys c t → Runs d b n (xs ++ ys) c (s ++ t)
runs_append {d = d} {n = n} {m = m} {c = c} {t = t} {ys = ys} texts.end q = subst (λ (k : ℕ). Runs d m k ys c t) (let e : n + 0 ≡ n = omega arith in e) q
runs_append {d = d} {n = n} {m = m} {c = c} {t = t} {ys = ys} (texts.next {s = s} {t = u} {l = l} {ls = ls} h r) q =
    subst (Runs d _ n (l ∷ (ls ++ ys)) c) (sym (append_assoc s u t))
    (texts.next h (runs_append r (subst (λ (k : ℕ). Runs d m k ys c t) (sym (number_on n (length ls))) q)))

-- ---- WHAT IS KEPT OF A LINE

pub step_kept : {d n : ℕ} {b l c t : List ℕ} → Steps d b n (kept l) c t → Steps d b n l c t
step_kept {d = d} {l = l} (passed e f g) = passed (sym (act_kept d l) ∙ e) f g
step_kept {d = d} {l = l} (acted a e w) = acted a (sym (act_kept d l) ∙ e) w

pub runs_kept : {d n : ℕ} {b c t : List ℕ} (ls : List (List ℕ)) → Runs d b n (map kept ls) c t → Runs d b n ls c t
runs_kept [] texts.end = texts.end
runs_kept {d = d} {n = n} {c = c} (l ∷ ls) (texts.next {m = m} h r) = texts.next (step_kept h) (runs_kept {d = d} {n = n + 1} {b = m} {c = c} ls r)

-- ---- A TEXT IS A SERIES OF ACTS

abbrev done_in : {x : Act} {b : List ℕ} {n : ℕ} {c t : List ℕ} → Acted x b n c t → Done
done_in {x = x} w = record { act = x; code = w.code; answer = w.answer }

pub runs_series : {d n : ℕ} {b c t : List ℕ} {ls : List (List ℕ)} → Runs d b n ls c t → (os : List Done) × Series b os c
runs_series texts.end = ([], end)
runs_series {b = b} {c = c} (texts.next (passed e f g) r) = let w = runs_series r in (w.0, subst (λ (x : List ℕ). Series x w.0 c) f w.1)
runs_series (texts.next (acted x e a) r) = let w = runs_series r in (done_in a ∷ w.0, next a.done w.1)

module _ (b : List ℕ) (d : ℕ) (lent : Permitted (length b)) (low : 1 ≤ d) (high : d ≤ 16) where
  -- after the lines of any text the index is sound, and its live records are those inserted and not deleted since
  pub text_stands : {n : ℕ} {c t : List ℕ} {ls : List (List ℕ)} → (r : Runs d (new_index b d) n ls c t) → Stands d (held_by d (runs_series r).0 []) c
  text_stands r = series b d lent low high (runs_series r).1

-- a question that is carried out on index m prints the k nearest of the records held whose stage is in its set (a text's questions name no days), and the exact number of leaves
pub record Told (w : Question) (n : ℕ) (m t : List ℕ) : Type 0 where
  pub found : Found
  pub nearest : Answers m w found
  pub lines : t ≡ answer_lines n 0 found.leaves found.rows

pub text_question : {n : ℕ} {m c t : List ℕ} (w : Question) (j : ℕ) (a : Acted (question w j) m n c t) → a.code ≡ 0 → Told w n m t
text_question {n = n} {m = m} {c = c} w j a z =
    let h : acts.does (question w j) m 0 a.answer c = subst (λ (x : ℕ). acts.does (question w j) m x a.answer c) z a.done in
    record {
      found = a.answer;
      nearest = subst (Answers m w) (sym h.1) (question_answers m w j h.0);
      lines = a.prints ∙ ap (λ (x : ℕ). answer_lines n x a.answer.leaves a.answer.rows) z;
    }
