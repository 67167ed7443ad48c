-- The verdict, from what is known of all but identifiers, and from these. Assumes nothing.
use Rattle.std.proofs.Common.{◌≡◌, List, map, ℕ, ◌≤◌, length}
use Rattle.lists.specs.Counts.{mult}
use Rattle.pagestore.specs.Store.{view_of}
use Rattle.tree_model.specs.Trees.{ident_of, live}
use Rattle.tree_model.specs.Sound.{Permitted, SoundIndex}
use Rattle.sound_faults.specs.Faults.{FailsAt}
use Rattle.sound_faults.specs.Stored.{view_stored}
use Rattle.sound_faults.proofs.Assembled.{linked_sound}
use Rattle.lists.specs.Judges.{Found, found_nowhere}
use Rattle.sound_check.specs.Outcome.{Counted}

counted_sound : (b m : List ℕ) → Counted (view_of b) m → ((i : ℕ) → mult i (map ident_of (live (view_of b))) ≤ 1) → Permitted (length b) → SoundIndex b
unfolding view_of
counted_sound b m c d lent = linked_sound (view_of b) (view_stored b) c.linked lent c.fine c.state d c.total c.most

pub verdict_sound : (b m : List ℕ) {q : ℕ} → Counted (view_of b) m → Found ((i : ℕ) → mult i (map ident_of (live (view_of b))) ≤ 1) (FailsAt (view_of b)) q
    → q ≡ 0 → Permitted (length b) → SoundIndex b
verdict_sound b m c f e = counted_sound b m c (found_nowhere f e)
