-- What a moved leaf leaves, from the page store's laws alone. Assumes nothing.
use Rattle.std.specs.Prelude.{◌≡◌, true, ◌≢◌, ℕ, ◌≤◌, ◌<◌, length, drop, get_or}
use Rattle.std.proofs.Math.Path.{sym, ap}
use Rattle.std.proofs.Common.{◌∙◌, arith}
use mathlib.Core.List.{List, [], ◌∷◌}
use Rattle.lists.specs.Basics.{All, all_head}
use Rattle.lists.specs.Counts.{mult, mult_more, absent}
use Rattle.pagestore_page.specs.declared.Record.{Record}
use Rattle.pagestore_page.specs.declared.Leaf.{Leaf}
use Rattle.pagestore.specs.Store.{leaf, Field, Apart, field_at, freed, fresh, in_range, page_at, set_page, leaf_at, records_in, set_leaf, rest_at, freed_at, free_at, page_taken, take_page, free_page}
use Rattle.pagestore.specs.Store.RangeLaws.{range_same}
use Rattle.pagestore.specs.Store.PageLaws.{PageFits, SamePage, set_leaf_is, same_trans, page_same, page_other, field_page, leaf_view, page_fits, page_fill, length_set_page}
use Rattle.pagestore.specs.Store.FreeLaws.{free_range, freed_part, free_page_law, rest_page}
use Rattle.pagestore.specs.Store.TakeLaws.{taken_first, taken_gone, length_take_page, page_take, field_take, rest_take, free_take, page_free, field_free, free_free}
use Rattle.pagestore_use.specs.Moved.{moved_to}

-- c is b with the leaf of page p at the page that is taken
pub record Moved (b : List ℕ) (p : ℕ) (c : List ℕ) : Type 0 where
  pub page : page_at c (page_taken b) ≡ page_at b p
  pub free : free_at c ≡ p ∷ drop 1 (free_at b)
  pub other : (q : ℕ) → q ≢ p → q ≢ page_taken b → SamePage b c q
  pub field : (f : Field) → Apart freed f → Apart fresh f → field_at f c ≡ field_at f b

-- the first of some pages
first_in : {P : ℕ → Type 0} (xs : List ℕ) → 0 < length xs → All P xs → P (get_or xs 0 0)
first_in [] h a = absurd (omega arith)
first_in (x ∷ xs) h a = all_head a

-- is not a page that isn't among them
first_not : (p : ℕ) (xs : List ℕ) → 0 < length xs → mult p xs ≡ 0 → p ≢ get_or xs 0 0
first_not p [] h e = absurd (omega arith)
first_not p (x ∷ xs) h e = absent p x xs e

rest_not : (p : ℕ) (xs : List ℕ) → mult p xs ≡ 0 → mult p (drop 1 xs) ≡ 0
rest_not p [] e = e
rest_not p (x ∷ xs) e = omega (arith, mult_more p x xs)

module _ (b : List ℕ) (p n : ℕ) (rs : List Record) (sound : rest_at b ≡ 0) (some : 0 < length (free_at b)) (here : in_range b p ≡ true) (used : mult p (free_at b) ≡ 0)
    (was : page_at b p ≡ leaf n rs) (few : n ≤ 16) where
  mid : List ℕ
  mid = set_page (take_page b) (page_taken b) (leaf n rs)

  moved_is : moved_to b p ≡ free_page mid p
  unfolding moved_to mid
  moved_is = rw ((leaf_view b p n rs was).records, set_leaf_is (take_page b) (page_taken b) n rs)

  new_in : in_range (take_page b) (page_taken b) ≡ true
  new_in = range_same b (take_page b) (page_taken b) (length_take_page b) ∙ rw (taken_first b) (first_in (free_at b) some (free_range b))

  apart : p ≢ page_taken b
  apart = rw (taken_first b) (first_not p (free_at b) some used)

  fits : PageFits (leaf n rs)
  fits = rw was at (page_fits b p (rw (← page_fill b p, was) few))

  free_mid : free_at mid ≡ drop 1 (free_at b)
  unfolding mid
  free_mid = free_page_law (take_page b) (page_taken b) (leaf n rs) (taken_gone b sound) ∙ free_take b sound

  rest_mid : rest_at mid ≡ 0
  unfolding mid
  rest_mid = rest_page (take_page b) (page_taken b) (leaf n rs) (taken_gone b sound) ∙ rest_take b sound

  length_mid : length mid ≡ length b
  unfolding mid
  length_mid = length_set_page (take_page b) (page_taken b) (leaf n rs) ∙ length_take_page b

  same_mid : (q : ℕ) → q ≢ page_taken b → SamePage b mid q
  unfolding mid
  same_mid q ne = same_trans (page_take b q) (page_other (take_page b) (page_taken b) (leaf n rs) q ne)

  pub moves : Moved b p (moved_to b p)
  unfolding mid
  moves =
      let gone : mult p (freed_at mid) ≡ 0 = omega (arith, freed_part mid p, ap (mult p) free_mid, rest_not p (free_at b) used) in
      rw moved_is (record {
        page = (page_free mid p (page_taken b) (λ e. apart (sym e))).page ∙ page_same (take_page b) (page_taken b) (leaf n rs) new_in fits ∙ sym was;
        free = free_free mid p rest_mid (range_same b mid p length_mid ∙ here) gone ∙ ap (λ (l : List ℕ). p ∷ l) free_mid;
        other = λ q u v. same_trans (same_mid q v) (page_free mid p q u);
        field = λ f u v. field_free f mid p u ∙ field_page f (take_page b) (page_taken b) (leaf n rs) ∙ field_take f b u v;
      })

-- the steps of the move
pub move_steps : (b c d e : List ℕ) (p n : ℕ) (l : Leaf) → l ≡ leaf_at b p → n ≡ page_taken b → c ≡ take_page b → d ≡ set_leaf c n (records_in l) → e ≡ free_page d p → e ≡ moved_to b p
unfolding moved_to
move_steps b c d e p n l h i j k m = m ∙ rw (k, j, i, h)
