-- Trees with right fills, and the child that a descent chooses among theirs. Nothing here speaks of bytes.
use Rattle.std.specs.Prelude.{◌≡◌, refl, ℕ, zero, suc, ◌≤◌, ◌<◌, leb, length, take, drop, get_or}
use mathlib.Core.List.{List, [], ◌∷◌, ◌++◌, map}
use Rattle.std.proofs.Common.{arith, leb-true, leb-false}
use Rattle.std.proofs.lemmas.List.{length-map}
use Rattle.lists.specs.Basics.{if, All, none, also, concat_map, all_append, all_left, all_map}
use Rattle.lists.specs.Ascending.{head_or}
use Rattle.lists.specs.Choices.{bool_cases}
use Rattle.lists.specs.ConcatMapLaws.{concat_map_some}
use Rattle.lists.specs.Parts.{head_of}
use Rattle.lists.specs.AscendingBy.{AscendingBy, step, rising_right, rising_cross}
use Rattle.geometry.specs.Keys.{key_number}
use Rattle.pagestore_page.specs.declared.Record.{Record}
use Rattle.pagestore_page.specs.declared.Entry.{Entry}
use Rattle.pagestore_page.specs.Fits.{RecordFits}
use Rattle.tree_model.specs.Trees.{min_items, Item, records, no_record, first_key, rank_of, entry_of}
use Rattle.tree_model.specs.Inserting.{no_tree, not_above, choose, chosen}
use Rattle.tree_core.specs.Entries.{child_at}
use Rattle.pagestore_page.specs.Layout.{max_items}

-- a page other than the root, with all below it: 8 to 16 items each, and records that fit
unfoldable pub Ok : (l : ℕ) → Item l → Type 0
Ok zero r = RecordFits r
Ok (suc l) t = (min_items ≤ length t.1) × (length t.1 ≤ max_items) × All (Ok l) t.1

-- an inner root has 2 children; a root leaf may have no record
unfoldable pub Some : (l : ℕ) → Item (suc l) → Type 0
Some zero t = Unit {0}
Some (suc l) t = 2 ≤ length t.1

pub record Root (l : ℕ) (t : Item (suc l)) : Type 0 where
  pub some : Some l t
  pub most : length t.1 ≤ max_items
  pub subs : All (Ok l) t.1

pub ok_root : (l : ℕ) (t : Item (suc l)) → Ok (suc l) t → Root l t
unfolding Ok Some
ok_root zero t o = record { some = tt; most = o.1; subs = o.2 }
ok_root (suc l) t o = record { some = omega arith; most = o.1; subs = o.2 }

pub records_some : (l : ℕ) (x : Item l) → Ok l x → 0 < length (records l x)
unfolding records Ok
records_some zero r o = omega arith
records_some (suc l) t o = concat_map_some (records l) t.1 (omega arith) (all_map (records_some l) o.2)

-- THE CHILD CHOSEN

pub child_at_law : (d l i : ℕ) (ts : List (Item (suc l))) → child_at (map (entry_of d l) ts) i ≡ (get_or ts i (no_tree l)).0
unfolding child_at entry_of
child_at_law d l i [] = refl
child_at_law d l zero (t ∷ ts) = refl
child_at_law d l (suc i) (t ∷ ts) = child_at_law d l i ts

above_le : (k : ℕ) (es : List Entry) → not_above k es ≤ length es
unfolding not_above
above_le k [] = omega arith
above_le k (e ∷ es) =
    let h : not_above k es ≤ length es = above_le k es in
    bool_cases (λ c. if c (suc (not_above k es)) 0 ≤ suc (length es)) (leb (key_number e.first) k) (λ _. omega arith) (λ _. omega arith)

pub chosen_lt : (d l k : ℕ) (ts : List (Item (suc l))) → 0 < length ts → chosen d l k ts < length ts
unfolding chosen choose
chosen_lt d l k [] h = absurd (omega arith)
chosen_lt d l k (t ∷ ts) h = omega (arith, above_le k (map (entry_of d l) ts), length-map ts (entry_of d l))

pub first_rank_law : (d l : ℕ) (t : Item (suc l)) → key_number (entry_of d l t).first ≡ rank_of d (head_or no_record (records (suc l) t))
unfolding entry_of first_key rank_of
first_rank_law d l t = refl

-- In rising records those before the child chosen are below k, and those behind it above.
module _ (d l k : ℕ) where
  from_first : (xs ys : List Record) → 0 < length xs → AscendingBy (rank_of d) (xs ++ ys) → All (λ y. rank_of d (head_or no_record xs) ≤ rank_of d y) (xs ++ ys)
  unfolding head_or
  from_first [] ys h r = absurd (omega arith)
  from_first (x ∷ xs) ys h (step g r) = also {x = x} (omega arith) (all_map (λ y (w : rank_of d x < rank_of d y). omega arith) g)

  low : (u : Item (suc l)) (us : List (Item (suc l))) → AscendingBy (rank_of d) (records (suc l) u ++ concat_map (records (suc l)) us) → All (λ x. 0 < length (records (suc l) x)) us
      → All (λ x. rank_of d x < k) (concat_map (records (suc l)) (take (not_above k (map (entry_of d l) us)) (u ∷ us)))
  unfolding not_above concat_map
  low u [] r n = none
  low u (w ∷ ws) r (also p n) =
      bool_cases (λ c. All (λ x. rank_of d x < k) (concat_map (records (suc l)) (take (if c (suc (not_above k (map (entry_of d l) ws))) 0) (u ∷ w ∷ ws)))) (leb (key_number (entry_of d l w).first) k)
      (λ e. let g : rank_of d (head_or no_record (records (suc l) w)) ≤ k = rw (← first_rank_law d l w) (leb-true _ _ e) in
      all_append
      (all_map (λ x (b : rank_of d x < rank_of d (head_or no_record (records (suc l) w))). omega arith)
      (rising_cross (rank_of d) (records (suc l) u) _ r (head_or no_record (records (suc l) w)) (λ P a. head_of no_record p (all_left (records (suc l) w) _ a))))
      (low w ws (rising_right (rank_of d) (records (suc l) u) _ r) n))
      (λ e. none)

  high : (u : Item (suc l)) (us : List (Item (suc l))) → AscendingBy (rank_of d) (records (suc l) u ++ concat_map (records (suc l)) us) → All (λ x. 0 < length (records (suc l) x)) us
      → All (λ x. k < rank_of d x) (concat_map (records (suc l)) (drop (not_above k (map (entry_of d l) us)) us))
  unfolding not_above concat_map
  high u [] r n = none
  high u (w ∷ ws) r (also p n) =
      bool_cases (λ c. All (λ x. k < rank_of d x) (concat_map (records (suc l)) (drop (if c (suc (not_above k (map (entry_of d l) ws))) 0) (w ∷ ws)))) (leb (key_number (entry_of d l w).first) k)
      (λ e. high w ws (rising_right (rank_of d) (records (suc l) u) _ r) n)
      (λ e. let g : k < rank_of d (head_or no_record (records (suc l) w)) = rw (← first_rank_law d l w) (leb-false _ _ e) in
      all_map (λ x (b : rank_of d (head_or no_record (records (suc l) w)) ≤ rank_of d x). omega arith)
      (from_first (records (suc l) w) (concat_map (records (suc l)) ws) p (rising_right (rank_of d) (records (suc l) u) _ r)))

  pub before_chosen : (ts : List (Item (suc l))) → 0 < length ts → All (Ok (suc l)) ts → AscendingBy (rank_of d) (concat_map (records (suc l)) ts)
      → All (λ x. rank_of d x < k) (concat_map (records (suc l)) (take (chosen d l k ts) ts))
  unfolding chosen choose concat_map
  before_chosen [] h o r = absurd (omega arith)
  before_chosen (u ∷ us) h (also p o) r = low u us r (all_map (records_some (suc l)) o)

  pub behind_chosen : (ts : List (Item (suc l))) → 0 < length ts → All (Ok (suc l)) ts → AscendingBy (rank_of d) (concat_map (records (suc l)) ts)
      → All (λ x. k < rank_of d x) (concat_map (records (suc l)) (drop (suc (chosen d l k ts)) ts))
  unfolding chosen choose concat_map
  behind_chosen [] h o r = absurd (omega arith)
  behind_chosen (u ∷ us) h (also p o) r = high u us r (all_map (records_some (suc l)) o)
