-- The model's rules at the specification's numbers.
use Rattle.std.specs.Prelude.{◌≡◌, refl, [], ◌∷◌}
use Rattle.lists.specs.Basics.{range_from}
use Rattle.tree_model.specs.Inserting.{cut}
use Rattle.tree_model.specs.Deleting.{left_count, rebalanced_items, left_of, place_pair}

-- a page that would hold 17 keeps the first 9; the last 8 go to a new page on the right
pub seventeen_cut : cut 1 (2 ∷ 3 ∷ []) (range_from 1 17) ≡ record { trees = (1, range_from 1 9) ∷ (2, range_from 10 8) ∷ []; free = 3 ∷ [] }
unfolding cut range_from
seventeen_cut = refl

-- the partner is the next page, or the one before for the last child
pub partner_next : left_of 0 3 ≡ 0
unfolding left_of
partner_next = refl

pub partner_last : left_of 2 3 ≡ 1
unfolding left_of
partner_last = refl

-- a partner with 9 gives its nearest item
pub nine_give : rebalanced_items (range_from 1 7) (range_from 8 9) ≡ range_from 1 8 ∷ range_from 9 8 ∷ []
unfolding rebalanced_items left_count range_from
nine_give = refl

-- both stay in their pages, and the free pages stay free
pub giving_takes_none : place_pair 4 5 (6 ∷ []) (range_from 1 8 ∷ range_from 9 8 ∷ []) ≡ record { trees = (4, range_from 1 8) ∷ (5, range_from 9 8) ∷ []; free = 6 ∷ [] }
unfolding place_pair
giving_takes_none = refl

-- with 8 the two merge in the left page, and the right page is freed
pub eight_merge : place_pair 4 5 (6 ∷ []) (rebalanced_items (range_from 1 7) (range_from 8 8)) ≡ record { trees = (4, range_from 1 15) ∷ []; free = 5 ∷ 6 ∷ [] }
unfolding place_pair rebalanced_items left_count range_from
eight_merge = refl
