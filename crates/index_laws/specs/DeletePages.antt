-- Q-7: what it is for an act to take no page, and for a table of refusals never to give a number.
use Rattle.std.specs.Prelude.{◌≡◌, ◌≢◌, List, ◌∷◌, ◌++◌, ℕ, ◌+◌}
use Rattle.lists.specs.Counts.{mult}
use Rattle.pagestore.specs.Store.{fresh_at, free_at}
use Rattle.tree_laws.specs.Wholes.{tree_pages}
use Rattle.search_model.specs.Questions.{AgreeBut}
use Rattle.index_refusals.specs.Refusals.{Rule, First}

-- ---- NO PAGE IS TAKEN

-- an act that freed the pages fs, the last freed first, and made c of the index b, took no page
pub record TakesNone (fs b c : List ℕ) : Type 0 where
  -- the pages free before are free afterwards, in the same order, behind those freed
  pub behind : free_at c ≡ fs ++ free_at b
  -- of these, the pages never used are the same
  pub unused : fresh_at c ≡ fresh_at b
  -- the pages freed were in the tree: it has the others still, and no page more
  pub tree : (q : ℕ) → mult q (tree_pages b) ≡ mult q fs + mult q (tree_pages c)
  -- outside the header and the pages of the tree no byte changes
  pub others : AgreeBut (0 ∷ tree_pages b) b c

-- ---- NUMBER 12

-- a table never gives the number m
abbrev pub Never : ℕ → List Rule → Type 0
Never m rules = (code : ℕ) → First rules code → code ≢ m
