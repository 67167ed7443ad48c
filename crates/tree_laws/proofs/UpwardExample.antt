-- 01's example: d = 1, identifiers 1, 2, .. at 1, 2, .., inserted upward into a new index.
use Rattle.std.specs.Prelude.{◌≡◌, refl, eqb, ℤ, pos, length, take, drop, get_or, replicate}
use Rattle.std.proofs.Math.Path.{sym, ap, subst}
use Rattle.std.proofs.Common.{◌∙◌, arith, eq-eqb, ne_eqb, le-leb}
use mathlib.Core.List.{List, [], ◌∷◌, ◌++◌, map, append-nil}
use Prim.Native.Nat.{ℕ, zero, suc, max, ◌+◌, ◌-◌, ◌*◌, ◌^◌, ◌≤◌, ◌<◌}
use Rattle.std.proofs.lemmas.Bool.{lt-leb}
use Rattle.lists.specs.Basics.{indicator, All, none, also, concat_map, tabulate, length_tabulate, range_from, length_range_from, all_append, all_head, all_right}
use Rattle.lists.specs.Ascending.{head_or}
use Rattle.lists.specs.Counts.{mult, mult_append}
use Rattle.lists.specs.ConcatMapLaws.{map_append}
use Rattle.lists.specs.AscendingBy.{ins_left}
use Rattle.lists.specs.Sorting.{insert_by}
use Rattle.geometry.specs.Keys.{key_number}
use Rattle.geometry.specs.Points.{height_of, axis_at, axis_of, pyramid_of}
use Rattle.geometry.specs.Stored.{point_of, slots_of}
use Rattle.pagestore_page.specs.declared.Record.{Record}
use Rattle.pagestore_page.specs.Fits.{RecordFits}
use Rattle.pagestore.specs.Store.{pages_in, free_at, view_of}
use Rattle.tree_model.specs.Trees.{Item, records, first_key, entry_of, key_of, rank_of, ident_of, leaves, live, leaves_of}
use Rattle.tree_model.specs.Sound.{Permitted, RecordOk, SoundIndex}
use Rattle.tree_model.specs.Inserting.{insert_record, Shape, chosen, cut, insert_tree, rooted, inserted_tree, run_of, not_above, choose}
use Rattle.tree_model.specs.Deleting.{delete_record, left_count, rebalanced_items, left_of, place_pair, delete_tree, collapsed, deleted_tree}
use Rattle.tree_core.specs.Insertion.{pages_wanted}
use Rattle.tree_core.specs.Lookup.{find_in}
use Rattle.tree_laws.specs.Wholes.{shape_at}
use Rattle.tree_laws.specs.InsertPromises.{MayInsert}
use Rattle.tree_laws.proofs.InsertPromises.{pages_wanted_law, insert_sound, insert_live, insert_pages, insert_shape, insert_features}
use Rattle.tree_laws.specs.DeleteTree.{gives, given}
use Rattle.tree_laws.specs.DeleteRoot.{given_root}
use Rattle.tree_laws.specs.LookupPromises.{find_only}
use Rattle.tree_laws.specs.DeletePromises.{pages_given, delete_sound, delete_live, delete_pages, delete_shape, delete_features}
use Rattle.tree_laws.specs.NewPromises.{new_sound, new_live, new_free, new_features, new_shape}
use Rattle.geometry.proofs.StoredLaws.{coord_high}
use Rattle.tree_laws.specs.UpwardExample.{numbered, up_to, upward, Upward, split_shape, rebalanced_shape, sixteen, fifteen}

-- ITS RECORDS

zeros_fit : (k : ℕ) → All (λ c. c < 2 ^ 11) (replicate k 0)
zeros_fit zero = none
zeros_fit (suc k) = also {x = 0} (omega arith) (zeros_fit k)

numbered_fits : (n : ℕ) → n ≤ 1000 → RecordFits (numbered n)
unfolding slots_of
numbered_fits n h = record { id = omega arith; stage = omega arith; stamp = omega arith; slots = refl; coords = also {x = 1000 + n} (omega arith) (zeros_fit 15) }

numbered_ok : (n : ℕ) → 1 ≤ n → n ≤ 1000 → RecordOk 1 (numbered n)
unfolding slots_of
numbered_ok n l h = record { ident = l; stage = omega arith; coords = also {x = 1000 + n} (omega arith) none }

point_is : (n : ℕ) → point_of (take 1 (slots_of (pos n ∷ []))) ≡ pos n ∷ []
unfolding slots_of point_of
point_is n = let e : (1000 + n) - 1000 ≡ n = omega arith in ap (λ (z : ℤ). z ∷ []) (coord_high (1000 + n) (omega arith) ∙ ap pos e)

pair_is : (n : ℕ) → (pyramid_of (pos n ∷ []) ≡ 1) × (height_of (pos n ∷ []) ≡ n)
unfolding pyramid_of axis_of axis_at height_of
pair_is n = let e : max n 0 ≡ n = omega arith in (rw (e, eq-eqb n n refl), e)

rank_is : (n : ℕ) → rank_of 1 (numbered n) ≡ (65536 + n) * 4294967296 + n
unfolding rank_of key_of key_number
rank_is n = rw (point_is n, (pair_is n).0, (pair_is n).1)

up_to_below : (n m : ℕ) → n ≤ m → All (λ x. rank_of 1 x < rank_of 1 (numbered (suc m))) (up_to n)
unfolding tabulate
up_to_below zero m h = none
up_to_below (suc n) m h =
    let l : rank_of 1 (numbered (suc n)) < rank_of 1 (numbered (suc m)) = rw (rank_is (suc n), rank_is (suc m)) (omega arith) in
    all_append (up_to_below n m (omega arith)) (also l none)

up_new : (n m : ℕ) → n ≤ m → mult (suc m) (map ident_of (up_to n)) ≡ 0
unfolding tabulate mult
up_new zero m h = refl
up_new (suc n) m h =
    ap (mult (suc m)) (map_append ident_of (up_to n) (numbered (suc n) ∷ [])) ∙ mult_append (suc m) (map ident_of (up_to n)) (suc n ∷ [])
    ∙ omega (arith, up_new n m (omega arith), ap indicator (ne_eqb (suc m) (suc n) (λ (e : suc m ≡ suc n). omega arith)))

-- the next one goes behind all of them
up_next : (n : ℕ) → insert_record 1 (numbered (suc n)) (up_to n) ≡ up_to (suc n)
unfolding tabulate insert_by
up_next n = ap (insert_record 1 (numbered (suc n))) (sym (append-nil (up_to n))) ∙ ins_left (rank_of 1) (numbered (suc n)) [] (up_to_below n n (omega arith))

-- UP TO 16: ONE LEAF

-- the pages wanted, by the tree
abbrev wanted_by : ℕ → Record → Shape → ℕ
wanted_by d r s = let n = run_of d s.0 (rank_of d r) s.1 in n + indicator (eqb n (suc s.0))

leaf_wants : (n : ℕ) → n < 16 → wanted_by 1 (numbered (suc n)) (0, (1, up_to n)) ≡ 0
unfolding run_of
leaf_wants n h = rw (length_tabulate n (λ i. numbered (suc i)), lt-leb 16 n h)

leaf_shape : (n : ℕ) (fs : List ℕ) → n < 16 → inserted_tree 1 (numbered (suc n)) fs (0, (1, up_to n)) ≡ (0, (1, up_to (suc n)))
unfolding inserted_tree insert_tree cut rooted
leaf_shape n fs h =
    let m : length (up_to (suc n)) ≤ 16 = omega (arith, length_tabulate (suc n) (λ i. numbered (suc i))) in
    rw (up_next n, le-leb (length (up_to (suc n))) 16 m)

wants : (c : List ℕ) (r : Record) (s : Shape) → SoundIndex c → (view_of c).d ≡ 1 → ◌≡◌ {A = Shape} (shape_at c) s → pages_wanted c r ≡ wanted_by 1 r s
wants c r s h e f = pages_wanted_law c r h ∙ ap (λ (d : ℕ). wanted_by d r (shape_at c)) e ∙ ap (wanted_by 1 r) f

may : (b : List ℕ) (n : ℕ) → n ≤ 16 → (u : Upward b n) → pages_wanted (upward b n) (numbered (suc n)) ≤ length (free_at (upward b n)) → MayInsert (upward b n) (numbered (suc n))
may b n h u p =
    record {
      fits = numbered_fits (suc n) (omega arith);
      ranges = subst (λ (d : ℕ). RecordOk d (numbered (suc n))) (sym u.features) (numbered_ok (suc n) (omega arith) (omega arith));
      new = ap (λ (rs : List Record). mult (suc n) (map ident_of rs)) u.records_are ∙ up_new n n (omega arith);
      room = omega (arith, u.sound.total, ap (λ (rs : List Record). length rs) u.records_are, length_tabulate n (λ i. numbered (suc i)));
      free = p;
    }

next : (b : List ℕ) (n : ℕ) → n < 16 → Upward b n → Upward b (suc n)
unfolding upward
next b n h u =
    let c = upward b n in
    let r = numbered (suc n) in
    let z : pages_wanted c r ≡ 0 = wants c r (0, (1, up_to n)) u.sound u.features u.shape ∙ leaf_wants n h in
    let m = may b n (omega arith) u (omega arith) in
    record {
      sound = insert_sound c r u.sound m;
      shape =
          insert_shape c r u.sound m ∙ ap (λ (d : ℕ). inserted_tree d r (free_at c) (shape_at c)) u.features
          ∙ ap (inserted_tree 1 r (free_at c)) u.shape ∙ leaf_shape n (free_at c) h;
      records_are = insert_live c r u.sound m ∙ ap (λ (d : ℕ). insert_record d r (live (view_of c))) u.features ∙ ap (insert_record 1 r) u.records_are ∙ up_next n;
      free = insert_pages c r u.sound m ∙ ap (λ (k : ℕ). drop k (free_at c)) z ∙ u.free;
      features = insert_features c r u.sound m ∙ u.features;
    }

two_up : (m n : ℕ) → m ≡ suc (suc n) → range_from 2 m ≡ 2 ∷ 3 ∷ range_from 4 n
unfolding range_from
two_up m n e = ap (range_from 2) e

split_shape_law : (fs : List ℕ) → inserted_tree 1 (numbered 17) (2 ∷ 3 ∷ fs) (0, (1, up_to 16)) ≡ split_shape
unfolding inserted_tree insert_tree cut rooted split_shape tabulate range_from
split_shape_law fs = ap (λ (rs : List Record). rooted 0 (get_or (cut 1 (2 ∷ 3 ∷ fs) rs).free 0 0) (cut 1 (2 ∷ 3 ∷ fs) rs).trees) (up_next 16)

rebalanced_shape_law : deleted_tree 1 (numbered 17) split_shape ≡ rebalanced_shape
unfolding deleted_tree collapsed delete_tree chosen choose not_above entry_of first_key head_or records concat_map rank_of key_of key_number pyramid_of axis_of axis_at height_of point_of slots_of range_from delete_record left_count rebalanced_items left_of place_pair split_shape rebalanced_shape
rebalanced_shape_law = refl

drop_seventeen : delete_record 17 (up_to 17) ≡ up_to 16
unfolding delete_record tabulate
drop_seventeen = refl

one_shape : deleted_tree 1 (numbered 16) rebalanced_shape ≡ (0, (1, map numbered (range_from 1 15)))
unfolding deleted_tree collapsed delete_tree chosen choose not_above entry_of first_key head_or records concat_map rank_of key_of key_number pyramid_of axis_of axis_at height_of point_of slots_of range_from delete_record left_count rebalanced_items left_of place_pair rebalanced_shape
one_shape = refl

-- the pages given up, by the tree
abbrev given_by : ℕ → Record → Shape → List ℕ
given_by d r s = given_root d s.0 r s.1

two_given : given_by 1 (numbered 16) rebalanced_shape ≡ 3 ∷ 2 ∷ []
unfolding given_root given gives delete_tree chosen choose not_above entry_of first_key head_or records concat_map rank_of key_of key_number pyramid_of axis_of axis_at height_of point_of slots_of range_from delete_record left_count rebalanced_items left_of place_pair rebalanced_shape
two_given = refl

leaves_by : Shape → List (Item 1)
leaves_by s = leaves s.0 s.1

module _ (b : List ℕ) (lent : Permitted (length b)) where
  pub one_leaf : (n : ℕ) → n ≤ 16 → Upward b n
  unfolding upward tabulate
  one_leaf zero h =
      record {
        sound = new_sound b 1 lent (omega arith) (omega arith);
        shape = new_shape b 1 lent (omega arith) (omega arith);
        records_are = new_live b 1 lent (omega arith) (omega arith);
        free = new_free b 1 lent (omega arith) (omega arith);
        features = new_features b 1 lent (omega arith) (omega arith);
      }
  one_leaf (suc n) h = next b n (omega arith) (one_leaf n (omega arith))

  -- THE 17TH

  -- it wants 2 pages, and all but the header and the leaf are free: 3 pages are too few, 4 are enough
  pub wants_two : pages_wanted (upward b 16) (numbered 17) ≡ 2
  unfolding run_of tabulate
  wants_two =
      let u = one_leaf 16 (omega arith) in
      wants (upward b 16) (numbered 17) (0, (1, up_to 16)) u.sound u.features u.shape

  pub free_sixteen : length (free_at (upward b 16)) ≡ pages_in b - 2
  free_sixteen = ap (λ (z : List ℕ). length z) (one_leaf 16 (omega arith)).free ∙ length_range_from 2 (pages_in b - 2)

  -- in 4 pages or more: leaves 1..9 and 10..17
  module _ (four : 4 ≤ pages_in b) where
    may_seventeen : MayInsert (upward b 16) (numbered 17)
    may_seventeen = may b 16 (omega arith) (one_leaf 16 (omega arith)) (omega (arith, wants_two, free_sixteen))

    free_starts : free_at (upward b 16) ≡ 2 ∷ 3 ∷ range_from 4 (pages_in b - 4)
    free_starts = (one_leaf 16 (omega arith)).free ∙ two_up (pages_in b - 2) (pages_in b - 4) (omega arith)

    pub seventeen_sound : SoundIndex (upward b 17)
    unfolding upward
    seventeen_sound = insert_sound (upward b 16) (numbered 17) (one_leaf 16 (omega arith)).sound may_seventeen

    pub seventeen_features : (view_of (upward b 17)).d ≡ 1
    unfolding upward
    seventeen_features = insert_features (upward b 16) (numbered 17) (one_leaf 16 (omega arith)).sound may_seventeen ∙ (one_leaf 16 (omega arith)).features

    pub seventeen_live : live (view_of (upward b 17)) ≡ up_to 17
    unfolding upward
    seventeen_live =
        let u = one_leaf 16 (omega arith) in
        insert_live (upward b 16) (numbered 17) u.sound may_seventeen ∙ ap (λ (d : ℕ). insert_record d (numbered 17) (live (view_of (upward b 16)))) u.features
        ∙ ap (insert_record 1 (numbered 17)) u.records_are ∙ up_next 16

    pub seventeen_shape : ◌≡◌ {A = Shape} (shape_at (upward b 17)) split_shape
    unfolding upward
    seventeen_shape =
        let u = one_leaf 16 (omega arith) in
        insert_shape (upward b 16) (numbered 17) u.sound may_seventeen ∙ ap (λ (d : ℕ). inserted_tree d (numbered 17) (free_at (upward b 16)) (shape_at (upward b 16))) u.features
        ∙ ap (inserted_tree 1 (numbered 17) (free_at (upward b 16))) u.shape ∙ ap (λ (fs : List ℕ). inserted_tree 1 (numbered 17) fs (0, (1, up_to 16))) free_starts
        ∙ split_shape_law (range_from 4 (pages_in b - 4))

    pub seventeen_leaves : leaves_of (view_of (upward b 17)) ≡ (1, map numbered (range_from 1 9)) ∷ (2, map numbered (range_from 10 8)) ∷ []
    unfolding leaves_of leaves_by leaves concat_map split_shape
    seventeen_leaves = ap leaves_by seventeen_shape

    -- DELETE 17: LEAVES 1..8 AND 9..16

    found_seventeen : find_in (upward b 17) 17 ≡ numbered 17
    unfolding tabulate
    found_seventeen =
        let a : All (λ x. x.id ≡ 17 → x ≡ find_in (upward b 17) 17) (up_to 16 ++ (numbered 17 ∷ [])) =
        subst (All (λ x. x.id ≡ 17 → x ≡ find_in (upward b 17) 17)) seventeen_live (find_only (upward b 17) 17 seventeen_sound) in
        sym (all_head (all_right (up_to 16) (numbered 17 ∷ []) a) refl)

    live_seventeen : 0 < mult 17 (map ident_of (live (view_of (upward b 17))))
    unfolding tabulate mult
    live_seventeen = rw seventeen_live (omega arith)

    pub sixteen_sound : SoundIndex (sixteen b lent four)
    sixteen_sound = delete_sound (upward b 17) 17 seventeen_sound live_seventeen

    pub sixteen_shape : ◌≡◌ {A = Shape} (shape_at (sixteen b lent four)) rebalanced_shape
    sixteen_shape =
        delete_shape (upward b 17) 17 seventeen_sound live_seventeen
        ∙ ap (λ (d : ℕ). deleted_tree d (find_in (upward b 17) 17) (shape_at (upward b 17))) seventeen_features
        ∙ ap (λ (r : Record). deleted_tree 1 r (shape_at (upward b 17))) found_seventeen
        ∙ ap (deleted_tree 1 (numbered 17)) seventeen_shape ∙ rebalanced_shape_law

    sixteen_live : live (view_of (sixteen b lent four)) ≡ up_to 16
    sixteen_live = delete_live (upward b 17) 17 seventeen_sound live_seventeen ∙ ap (delete_record 17) seventeen_live ∙ drop_seventeen

    sixteen_features : (view_of (sixteen b lent four)).d ≡ 1
    sixteen_features = delete_features (upward b 17) 17 seventeen_sound live_seventeen ∙ seventeen_features

    pub sixteen_leaves : leaves_of (view_of (sixteen b lent four)) ≡ (1, map numbered (range_from 1 8)) ∷ (2, map numbered (range_from 9 8)) ∷ []
    unfolding leaves_of leaves_by leaves concat_map rebalanced_shape
    sixteen_leaves = ap leaves_by sixteen_shape

    -- DELETE 16: ONE LEAF, TWO PAGES FREED

    found_sixteen : find_in (sixteen b lent four) 16 ≡ numbered 16
    unfolding tabulate
    found_sixteen =
        let a : All (λ x. x.id ≡ 16 → x ≡ find_in (sixteen b lent four) 16) (up_to 15 ++ (numbered 16 ∷ [])) =
        subst (All (λ x. x.id ≡ 16 → x ≡ find_in (sixteen b lent four) 16)) sixteen_live (find_only (sixteen b lent four) 16 sixteen_sound) in
        sym (all_head (all_right (up_to 15) (numbered 16 ∷ []) a) refl)

    live_sixteen : 0 < mult 16 (map ident_of (live (view_of (sixteen b lent four))))
    unfolding tabulate mult
    live_sixteen = rw sixteen_live (omega arith)

    pub fifteen_leaves : leaves_of (view_of (fifteen b lent four)) ≡ (1, map numbered (range_from 1 15)) ∷ []
    unfolding leaves_of leaves_by leaves
    fifteen_leaves =
        ap leaves_by (delete_shape (sixteen b lent four) 16 sixteen_sound live_sixteen
        ∙ ap (λ (d : ℕ). deleted_tree d (find_in (sixteen b lent four) 16) (shape_at (sixteen b lent four))) sixteen_features
        ∙ ap (λ (r : Record). deleted_tree 1 r (shape_at (sixteen b lent four))) found_sixteen
        ∙ ap (deleted_tree 1 (numbered 16)) sixteen_shape ∙ one_shape)

    pub fifteen_freed : pages_given (sixteen b lent four) 16 ≡ 3 ∷ 2 ∷ []
    unfolding pages_given
    fifteen_freed =
        ap (λ (d : ℕ). given_by d (find_in (sixteen b lent four) 16) (shape_at (sixteen b lent four))) sixteen_features
        ∙ ap (λ (r : Record). given_by 1 r (shape_at (sixteen b lent four))) found_sixteen ∙ ap (given_by 1 (numbered 16)) sixteen_shape ∙ two_given

    pub fifteen_free : free_at (fifteen b lent four) ≡ 3 ∷ 2 ∷ free_at (sixteen b lent four)
    fifteen_free = delete_pages (sixteen b lent four) 16 sixteen_sound live_sixteen ∙ ap (λ (ps : List ℕ). ps ++ free_at (sixteen b lent four)) fifteen_freed
