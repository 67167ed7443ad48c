use Rattle.std.specs.Prelude.{List, ℕ, ◌≤◌}
use Rattle.std.proofs.Common.{ap, ◌∙◌}
use Rattle.calendar.specs.Days.{InCalendars}
use Rattle.calendar.proofs.Promises.{window_days}
use Rattle.pagestore.specs.Store.{view_of}
use Rattle.tree_model.specs.Sound.{SoundIndex}
use Rattle.search_model.specs.Visit.{Answer as Found, found}
use Rattle.search_model.proofs.ExactLaws.{rows_by_stamp}
use Rattle.index_query.specs.Asking.{Question, sought, Suited}
use Rattle.index_query.proofs.AskingLaws.{distance_by_law, gap_by, among_live, full_live, live_rows, called_for, sought_exact}
use Rattle.index_query.specs.Answers.{Answers}

-- what the search finds on a sound index that the question suits, its dates being in the calendar
pub search_answers : (b : List ℕ) → SoundIndex b → (w : Question) → Suited (view_of b).d w → 1 ≤ w.k → InCalendars w.days → Answers b w (found b (sought w))
search_answers b s w d one dates =
    let e = sought_exact b s w d one in
    record {
      rows = ap (λ (f : Found). f.rows) e;
      order = ap (λ (f : Found). f.rows) e ∙ rows_by_stamp b s (sought w);
      each = live_rows w (view_of b);
      among = among_live w (view_of b);
      full = full_live b s w;
      days = window_days w.days dates;
      squared = gap_by (view_of b).d w d;
      grid = distance_by_law w.weights w.point;
      leaves = ap (λ (f : Found). f.leaves) e;
      set = called_for b s w d;
    }
