-- Q-4, recording days, for the question as an act: the days narrow the candidates as a stage set does, and every row's stamp lies in them. That rows and
-- count are those of these candidates is `Answers`, whose `days` says which stamps lie in the window.
use Rattle.std.specs.Prelude.{◌≡◌, refl, Bool, true, false, ◌&&◌, List, ℕ}
use Rattle.std.proofs.Common.{sym, ap, ◌∙◌, subst}
use Rattle.lists.specs.Basics.{All}
use Rattle.lists.specs.Tests.{false_true}
use Rattle.lists.specs.Sorting.{filter}
use Rattle.lists.specs.SortingLaws.{filter_filter, all_kept, all_sort}
use Rattle.lists.specs.ConcatMapLaws.{all_every}
use Rattle.lists.specs.Tabulated.{all_take}
use Rattle.calendar.specs.Days.{undated, Passes}
use Rattle.calendar.specs.Counting.{window_of, in_window}
use Rattle.pagestore_page.specs.declared.Record.{Record}
use Rattle.pagestore.specs.Store.{View, view_of}
use Rattle.tree_model.specs.Trees.{live}
use Rattle.search_rows.specs.Rows.{stamp, newest_first}
use Rattle.search_model.specs.Asked.{in_stages, candidate}
use Rattle.search_model.specs.Questions.{live_candidates, rows_of}
use Rattle.search_model.proofs.OneStampLaws.{rows_stamped}
use Rattle.index_query.specs.Asking.{Question, sought}
use Rattle.index_refusals.specs.Refusals.{First, question_rules}
use Rattle.index_refusals.specs.Outcomes.{found_with}
use Rattle.index_laws.specs.Answers.{question_answers}

-- the question without its dates
abbrev pub any_day : Question → Question
any_day w = record { point = w.point; weights = w.weights; k = w.k; stages = w.stages; days = undated }

and_true : (a : Bool) → a && true ≡ a
and_true true = refl
and_true false = refl

-- days_narrow: of the candidates without dates those are left whose stamp lies in the window
pub days_narrow : (w : Question) (v : View) → live_candidates v (sought w) ≡ filter (λ r. in_window (window_of w.days) r.stamp) (live_candidates v (sought (any_day w)))
unfolding candidate in_window
days_narrow w v =
    let staged : Record → Bool = λ r. in_stages w.stages r.stage in
    let passed : Record → Bool = λ r. in_window (window_of w.days) r.stamp in
    let whole : candidate (sought (any_day w)) ≡ staged = λ i r. and_true (staged r) i in
    sym (ap (λ (f : Record → Bool). filter passed (filter f (live v))) whole ∙ filter_filter staged passed (live v))

and_right : (a b : Bool) → a && b ≡ true → b ≡ true
and_right true b e = e
and_right false b e = false_true e

module _ (b : List ℕ) (w : Question) (n : ℕ) (h : First (question_rules b w n) 0) where
  -- every candidate's stamp passes
  looked_in : (r : Record) → candidate (sought w) r ≡ true → Passes w.days r.stamp
  unfolding candidate
  looked_in r e = ((question_answers b w n h).days r.stamp).1 (and_right (in_stages w.stages r.stage) (in_window (window_of w.days) r.stamp) e)

  -- rows_in_days: and every row's (02: "only stamps in those days pass")
  pub rows_in_days : All (λ x. Passes w.days (stamp x)) (found_with 0 b w).rows
  rows_in_days =
      let v = view_of b in
      let all : All (λ x. Passes w.days (stamp x)) (rows_of v (sought w)) =
      rows_stamped (sought w) (Passes w.days) v (all_kept (candidate (sought w)) (live v) (all_every looked_in (live v))) in
      subst (All (λ x. Passes w.days (stamp x))) (sym (question_answers b w n h).order) (all_take w.k (all_sort newest_first (rows_of v (sought w)) all))
