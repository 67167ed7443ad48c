-- Small cases of `lowest_repeat`.
use Rattle.std.proofs.Common.{◌≡◌, refl, [], ◌∷◌}
use Rattle.lists.specs.Counts.{mult}
use Rattle.sound_chains.specs.Repeats.{lowest_of, lowest_repeat}

-- identifier 5 stands on pages 3 and 2, identifier 7 on page 1 alone
repeated_once : lowest_repeat (5 ∷ 7 ∷ 5 ∷ []) (3 ∷ 1 ∷ 2 ∷ []) ≡ 2
unfolding lowest_repeat lowest_of mult
repeated_once = refl

-- twice on the same page
same_page : lowest_repeat (5 ∷ 5 ∷ 7 ∷ []) (3 ∷ 3 ∷ 1 ∷ []) ≡ 3
unfolding lowest_repeat lowest_of mult
same_page = refl

none_repeated : lowest_repeat (5 ∷ 7 ∷ 6 ∷ []) (3 ∷ 1 ∷ 2 ∷ []) ≡ 0
unfolding lowest_repeat lowest_of mult
none_repeated = refl
