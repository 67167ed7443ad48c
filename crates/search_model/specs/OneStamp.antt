-- What 01's own tie rule calls for, the lower identifier alone, and when Q-9's (02) is the same.
use Rattle.std.specs.Prelude.{◌≡◌, true, ℕ}
use Rattle.lists.specs.Basics.{All}
use Rattle.search_theory.specs.Nearest.{Ranking}
use Rattle.search_rows.specs.declared.Row.{Row}
use Rattle.search_rows.specs.Rows.{by_identifier}
use Rattle.pagestore.specs.Store.{View}
use Rattle.tree_model.specs.Trees.{live}
use Rattle.search_model.specs.Asked.{Asked}
use Rattle.search_model.specs.Visit.{Answer}
use Rattle.search_model.specs.Questions.{live_candidates, due_by}

-- rows go by distance, then by identifier
abbrev pub id_ranking : Ranking Row
id_ranking = by_identifier (λ x. true)

-- the answer that demands 2 and 3 call for by it
abbrev pub due_by_id : View → Asked → Answer
due_by_id = due_by id_ranking

-- every candidate has the stamp s, and every live record
abbrev pub OneStamp : View → Asked → ℕ → Type 0
OneStamp v q s = All (λ r. r.stamp ≡ s) (live_candidates v q)

abbrev pub OneStampLive : View → ℕ → Type 0
OneStampLive v s = All (λ r. r.stamp ≡ s) (live v)
