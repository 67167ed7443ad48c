-- The examples of 01 that are marked P and speak of leaves, in the definitions' own terms, and those of the same records with stamps (02, Q-9).
use Rattle.std.specs.Prelude.{◌≡◌, List, [], ◌∷◌, map, ℕ, ◌*◌, ◌%◌, pos}
use Rattle.lists.specs.Basics.{range_from}
use Rattle.geometry.specs.Stored.{slots_of}
use Rattle.pagestore_page.specs.declared.Record.{Record}
use Rattle.pagestore.specs.Store.{View, view_of}
use Rattle.tree_model.specs.Trees.{leaves_of}
use Rattle.tree_model.specs.Sound.{SoundIndex}
use Rattle.search_model.specs.Asked.{Asked, every_record, plainly}
use Rattle.search_model.specs.Visit.{found}

-- identifier n at n, with its stamp
unfoldable pub record_no : (ℕ → ℕ) → ℕ → Record
record_no stamp n = record { id = n; stage = 0; stamp = stamp n; coords = slots_of (pos n ∷ []) }

-- d = 1, identifiers 1..17 at 1..17: leaves 1..9 and 10..17, on whatever pages
pub record Seventeen (stamp : ℕ → ℕ) (v : View) : Type 0 where
  pub d : v.d ≡ 1
  pub first : ℕ
  pub second : ℕ
  pub leaves : leaves_of v ≡ (first, map (record_no stamp) (range_from 1 9)) ∷ (second, map (record_no stamp) (range_from 10 8)) ∷ []

-- asked from a point for k, of all stages: the identifiers of the rows, in order, and the number of leaves read
pub record Example : Type 0 where
  pub point : ℕ
  pub k : ℕ
  pub rows : List ℕ
  pub read : ℕ

abbrev pub asked : Example → Asked
asked e = plainly (pos e.point ∷ []) e.k every_record

-- what an example says of every sound index with these leaves
abbrev pub Holds : (ℕ → ℕ) → Example → Type 0
Holds stamp e =
    (b : List ℕ) → SoundIndex b → Seventeen stamp (view_of b)
    → (map (λ x. x.id) (found b (asked e)).rows ≡ e.rows) × ((found b (asked e)).leaves ≡ e.read)

-- 01's, of the stamp 0
abbrev pub unstamped : ℕ → ℕ
unstamped n = 0

abbrev pub examples : List Example
examples =
    record { point = 9; k = 1; rows = 9 ∷ []; read = 1 }
    ∷ record { point = 9; k = 2; rows = 9 ∷ 8 ∷ []; read = 2 }
    ∷ record { point = 1; k = 9; rows = range_from 1 9; read = 1 }
    ∷ record { point = 9; k = 18; rows = 9 ∷ 8 ∷ 10 ∷ 7 ∷ 11 ∷ 6 ∷ 12 ∷ 5 ∷ 13 ∷ 4 ∷ 14 ∷ 3 ∷ 15 ∷ 2 ∷ 16 ∷ 1 ∷ 17 ∷ []; read = 2 }
    ∷ record { point = 1; k = 18; rows = range_from 1 17; read = 2 }
    ∷ []

-- Q-9's, of stamps in no order, some of them equal: of two at equal distance now the lower identifier comes first, now the higher
abbrev pub mixed : ℕ → ℕ
mixed n = n * n % 5

abbrev pub stamped_examples : List Example
stamped_examples =
    record { point = 9; k = 6; rows = 9 ∷ 8 ∷ 10 ∷ 7 ∷ 11 ∷ 12 ∷ []; read = 2 }
    ∷ record { point = 9; k = 18; rows = 9 ∷ 8 ∷ 10 ∷ 7 ∷ 11 ∷ 12 ∷ 6 ∷ 13 ∷ 5 ∷ 4 ∷ 14 ∷ 3 ∷ 15 ∷ 2 ∷ 16 ∷ 17 ∷ 1 ∷ []; read = 2 }
    ∷ []
