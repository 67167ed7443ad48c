-- Why the search of a frontier gives what the flat visit of the leaves under it gives.
use Rattle.std.specs.Prelude.{◌≡◌, Bool, false}
use Rattle.std.proofs.Math.Path.{refl, sym, ap, ap₂}
use Rattle.std.proofs.Common.{◌∙◌, List, [], ◌∷◌, ◌++◌, append-nil, ℕ, zero, suc, ◌+◌, ◌*◌, ◌≤◌, ◌<◌, arith, le-leb}
use Rattle.std.proofs.Math.Bool.{true}
use Rattle.std.proofs.Math.ListN.{length, length-append}
use borrow.Author.Tests.{lt-leb}
use Rattle.lists.specs.Basics.{if, All, none, also, all_tail, all_map, concat_map}
use Rattle.lists.specs.Tests.{false_true, from_one, by_cases}
use Rattle.lists.specs.Sorting.{count, sum, Order, sort, insert_all, Sorted, end, next}
use Rattle.lists.specs.SortingLaws.{irrefl, not_before, all_ins_all, all_sort, sorted_ins_all, sort_first, sort_canonical, length_sort, count_append}
use Rattle.lists.specs.ConcatMapLaws.{all_both, all_concat_map, concat_map_same, count_concat_map, sum_same, sum_ins_all}
use Rattle.search_theory.specs.Nearest.{Ranking, reading, exceeds, offered, visit}
use Rattle.search_theory.proofs.VisitLaws.{exceeds_below, below_more, visit_stop, visit_read}
use Rattle.search_theory.specs.Frontier.{leaves_under, Descends, seek}

module _ {E : Type 0} (is_leaf : E → Bool) (kids : E → List E) where
  -- the number of entries under an entry, itself one of them
  unfoldable entries_under : ℕ → E → ℕ
  unfolding sum
  entries_under zero e = 1
  entries_under (suc n) e = if (is_leaf e) 1 (suc (sum (entries_under n) (kids e)))

  under_leaf : (n : ℕ) (e : E) → is_leaf e ≡ true → leaves_under is_leaf kids n e ≡ e ∷ []
  unfolding leaves_under
  under_leaf zero e h = rw h
  under_leaf (suc n) e h = rw h

  entries_some : (n : ℕ) (e : E) → 1 ≤ entries_under n e
  unfolding entries_under
  entries_some zero e = omega arith
  entries_some (suc n) e = by_cases (is_leaf e) (λ h. rw h (omega arith)) (λ h. rw h (omega arith))

  module _ (before : E → E → Bool) where
    -- more levels may be looked at
    leaves_more : (n : ℕ) (e : E) → Descends is_leaf kids before n e → leaves_under is_leaf kids (suc n) e ≡ leaves_under is_leaf kids n e
    unfolding Descends leaves_under
    leaves_more zero e d = rw d
    leaves_more (suc n) e d =
        by_cases (is_leaf e)
        (λ h. rw h)
        (λ h. rw h (concat_map_same (kids e) (all_map (leaves_more n) (d h).2)))

    pub descends_more : (n : ℕ) (e : E) → Descends is_leaf kids before n e → Descends is_leaf kids before (suc n) e
    unfolding Descends
    descends_more zero e d = λ h. false_true (sym h ∙ d)
    descends_more (suc n) e d = λ h. ((d h).0, rw (leaves_more (suc n) e d) (d h).1, all_map (descends_more n) (d h).2)

    entries_more : (n : ℕ) (e : E) → Descends is_leaf kids before n e → entries_under (suc n) e ≡ entries_under n e
    unfolding Descends entries_under
    entries_more zero e d = rw d
    entries_more (suc n) e d =
        by_cases (is_leaf e)
        (λ h. rw h)
        (λ h. rw h (ap suc (sum_same (kids e) (all_map (entries_more n) (d h).2))))

    -- an inner entry: what its entries are
    record Opens (n : ℕ) (e : E) : Type 0 where
      pub descend : All (Descends is_leaf kids before n) (kids e)
      pub leaves : leaves_under is_leaf kids n e ≡ concat_map (leaves_under is_leaf kids n) (kids e)
      pub entries : entries_under n e ≡ suc (sum (entries_under n) (kids e))

    opens : (n : ℕ) (e : E) → is_leaf e ≡ false → Descends is_leaf kids before n e → Opens n e
    unfolding Descends leaves_under entries_under
    opens zero e h d = false_true (sym h ∙ d)
    opens (suc n) e h d = record {
      descend = all_map (descends_more n) (d h).2;
      leaves = rw h (sym (concat_map_same (kids e) (all_map (leaves_more n) (d h).2)));
      entries = rw h (ap suc (sym (sum_same (kids e) (all_map (entries_more n) (d h).2))));
    }

    -- there is a leaf under each entry
    leaves_some : (n : ℕ) (e : E) → Descends is_leaf kids before n e → 1 ≤ length (leaves_under is_leaf kids n e)
    unfolding Descends leaves_under
    leaves_some zero e d = rw d (omega arith)
    leaves_some (suc n) e d =
        by_cases (is_leaf e)
        (λ h. rw h (omega arith))
        (λ h. rw h (first_some (kids e) (let q = (d h).0 in omega arith) (all_map (leaves_some n) (d h).2)))
      where
        first_some : (xs : List E) → 1 ≤ length xs → All (λ x. 1 ≤ length (leaves_under is_leaf kids n x)) xs → 1 ≤ length (concat_map (leaves_under is_leaf kids n) xs)
        first_some [] w a = absurd (omega arith)
        first_some (x ∷ xs) w (also g a) = rw (length-append (leaves_under is_leaf kids n x) (concat_map (leaves_under is_leaf kids n) xs)) (omega arith)

    -- fewer entries than twice the leaves
    entries_list : (n : ℕ) (xs : List E) → All (λ x. entries_under n x < 2 * length (leaves_under is_leaf kids n x)) xs
        → sum (entries_under n) xs + length xs ≤ 2 * length (concat_map (leaves_under is_leaf kids n) xs)
    unfolding sum concat_map
    entries_list n [] none = omega arith
    entries_list n (x ∷ xs) (also h a) =
        let q = entries_list n xs a in rw (length-append (leaves_under is_leaf kids n x) (concat_map (leaves_under is_leaf kids n) xs)) (omega arith)

    entries_few : (n : ℕ) (e : E) → Descends is_leaf kids before n e → entries_under n e < 2 * length (leaves_under is_leaf kids n e)
    unfolding Descends entries_under leaves_under
    entries_few zero e d = rw d (omega arith)
    entries_few (suc n) e d =
        by_cases (is_leaf e)
        (λ h. rw h (omega arith))
        (λ h. let q = entries_list n (kids e) (all_map (entries_few n) (d h).2) in let w = (d h).0 in rw h (omega arith))

    -- there are no more entries than leaves under them
    room_enough : (n : ℕ) (f : List E) → All (Descends is_leaf kids before n) f → length f ≤ length (concat_map (leaves_under is_leaf kids n) f)
    unfolding concat_map
    room_enough n [] none = omega arith
    room_enough n (e ∷ f) (also d a) =
        let p = leaves_some n e d in
        let q = room_enough n f a in
        rw (length-append (leaves_under is_leaf kids n e) (concat_map (leaves_under is_leaf kids n) f)) (omega arith)

    module _ (o : Order before) where
      under_floor : (n : ℕ) (e : E) → Descends is_leaf kids before n e → All (λ x. before x e ≡ false) (leaves_under is_leaf kids n e)
      unfolding Descends leaves_under
      under_floor zero e d = rw d (also (irrefl before o e) none)
      under_floor (suc n) e d =
          by_cases (is_leaf e)
          (λ h. rw (under_leaf (suc n) e h) (also (irrefl before o e) none))
          (λ h. (d h).1)

      module _ (n : ℕ) where
        -- no leaf under a frontier in order is before its first entry
        frontier_floor : (e : E) (f : List E) → Sorted before (e ∷ f) → All (Descends is_leaf kids before n) (e ∷ f)
            → All (λ x. before x e ≡ false) (concat_map (leaves_under is_leaf kids n) (e ∷ f))
        frontier_floor e f (next a s) d =
            all_concat_map (leaves_under is_leaf kids n) (e ∷ f)
            (all_map (λ x p. all_map (λ y q. not_before before o e x y p.0 q) (under_floor n x p.1)) (all_both (also (irrefl before o e) a) d))

        -- an entry gives way to the entries of its page
        frontier_opened : (e : E) (f : List E) → leaves_under is_leaf kids n e ≡ concat_map (leaves_under is_leaf kids n) (kids e)
            → sort before (concat_map (leaves_under is_leaf kids n) (insert_all before (kids e) f)) ≡ sort before (concat_map (leaves_under is_leaf kids n) (e ∷ f))
        unfolding concat_map
        frontier_opened e f h = sort_canonical before o _ _ (λ p.
            let u : E → ℕ = λ x. count p (leaves_under is_leaf kids n x) in
            count_concat_map p (leaves_under is_leaf kids n) (insert_all before (kids e) f) ∙ sum_ins_all before u (kids e) f
            ∙ ap₂ (λ (a b : ℕ). a + b)
            (sym (ap (count p) h ∙ count_concat_map p (leaves_under is_leaf kids n) (kids e)))
            (sym (count_concat_map p (leaves_under is_leaf kids n) f))
            ∙ sym (count_append p (leaves_under is_leaf kids n e) (concat_map (leaves_under is_leaf kids n) f)))

        length_opened : (e : E) (f : List E) → leaves_under is_leaf kids n e ≡ concat_map (leaves_under is_leaf kids n) (kids e)
            → length (concat_map (leaves_under is_leaf kids n) (insert_all before (kids e) f)) ≡ length (concat_map (leaves_under is_leaf kids n) (e ∷ f))
        length_opened e f h =
            sym (length_sort before (concat_map (leaves_under is_leaf kids n) (insert_all before (kids e) f))) ∙ ap length (frontier_opened e f h) ∙ length_sort before (concat_map (leaves_under is_leaf kids n) (e ∷ f))

        -- a leaf that is first
        leaf_first : (e : E) (f : List E) → is_leaf e ≡ true → All (λ x. before x e ≡ false) (concat_map (leaves_under is_leaf kids n) (e ∷ f))
            → sort before (concat_map (leaves_under is_leaf kids n) (e ∷ f)) ≡ e ∷ sort before (concat_map (leaves_under is_leaf kids n) f)
        unfolding concat_map
        leaf_first e f h = rw (under_leaf n e h) (λ a. sort_first before o e (concat_map (leaves_under is_leaf kids n) f) (all_tail a))

-- ---- the steps of the search

module _ {A E : Type 0} (r : Ranking A) (bound : E → ℕ) (rows : E → List A) (before : E → E → Bool) (is_leaf : E → Bool) (kids : E → List E) (k room : ℕ) where
  pub seek_end : (n : ℕ) (s : List A) → seek r bound rows before is_leaf kids k room n [] s ≡ record { rows = s; read = [] }
  unfolding seek
  seek_end zero s = refl
  seek_end (suc n) s = refl

  pub seek_stop : (n : ℕ) (e : E) (f : List E) (s : List A) → exceeds r k (bound e) s ≡ true
      → seek r bound rows before is_leaf kids k room (suc n) (e ∷ f) s ≡ record { rows = s; read = [] }
  unfolding seek
  seek_stop n e f s x = rw x

  pub seek_read : (n : ℕ) (e : E) (f : List E) (s : List A) → exceeds r k (bound e) s ≡ false → is_leaf e ≡ true
      → seek r bound rows before is_leaf kids k room (suc n) (e ∷ f) s ≡ reading e (seek r bound rows before is_leaf kids k room n f (offered r bound rows k e s))
  unfolding seek
  seek_read n e f s x h = rw (x, h)

  pub seek_open : (n : ℕ) (e : E) (f : List E) (s : List A) → exceeds r k (bound e) s ≡ false → is_leaf e ≡ false → length (kids e) + length f ≤ room
      → seek r bound rows before is_leaf kids k room (suc n) (e ∷ f) s ≡ seek r bound rows before is_leaf kids k room n (insert_all before (kids e) f) s
  unfolding seek
  seek_open n e f s x h g = rw (x, h, le-leb (length (kids e) + length f) room g)

  pub seek_full : (n : ℕ) (e : E) (f : List E) (s : List A) → exceeds r k (bound e) s ≡ false → is_leaf e ≡ false → room < length (kids e) + length f
      → seek r bound rows before is_leaf kids k room (suc n) (e ∷ f) s ≡ record { rows = s; read = [] }
  unfolding seek
  seek_full n e f s x h g = rw (x, h, lt-leb (length (kids e) + length f) room g)

  -- ---- the same rows and the same leaves read, in the same order

  module _ (o : Order before) (floor : (x y : E) → before y x ≡ false → bound x ≤ bound y) (depth : ℕ) where
    visit_stops : (e : E) (ls : List E) (s : List A) → 1 ≤ k → exceeds r k (bound e) s ≡ true → All (λ x. before x e ≡ false) ls
        → visit r bound rows k ls s ≡ record { rows = s; read = [] }
    unfolding visit
    visit_stops e [] s one x none = refl
    visit_stops e (l ∷ ls) s one x (also h a) =
        visit_stop r bound rows k l ls s (from_one (λ m. exceeds r m (bound e) s ≡ true → exceeds r m (bound l) s ≡ true)
        (λ j y. exceeds_below r j (bound l) s ∙ below_more r.cost j (bound e) (bound l) s (floor e l h) (sym (exceeds_below r j (bound e) s) ∙ y)) k one x)

    seek_entries : (n : ℕ) (f : List E) (s : List A) → 1 ≤ k → Sorted before f → All (Descends is_leaf kids before depth) f
        → length (concat_map (leaves_under is_leaf kids depth) f) ≤ room → sum (entries_under is_leaf kids depth) f ≤ n
        → seek r bound rows before is_leaf kids k room n f s ≡ visit r bound rows k (sort before (concat_map (leaves_under is_leaf kids depth) f)) s
    unfolding concat_map sort visit sum
    seek_entries zero [] s one q d g w = seek_end zero s
    seek_entries zero (e ∷ f) s one q d g w = let p = entries_some is_leaf kids depth e in absurd (omega arith)
    seek_entries (suc n) [] s one q d g w = seek_end (suc n) s
    seek_entries (suc n) (e ∷ f) s one (next a q) (also d ds) g w =
        let all = concat_map (leaves_under is_leaf kids depth) (e ∷ f) in
        let first = frontier_floor is_leaf kids before o depth e f (next a q) (also d ds) in
        let parts = length-append (leaves_under is_leaf kids depth e) (concat_map (leaves_under is_leaf kids depth) f) in
        let some = entries_some is_leaf kids depth e in
        by_cases (exceeds r k (bound e) s)
        (λ x. seek_stop n e f s x ∙ sym (visit_stops e (sort before all) s one x (all_sort before all first)))
        (λ x. by_cases (is_leaf e)
        (λ h. seek_read n e f s x h
        ∙ ap (reading e) (seek_entries n f (offered r bound rows k e s) one q ds (omega arith) (omega arith))
        ∙ sym (ap (λ (ls : List E). visit r bound rows k ls s) (leaf_first is_leaf kids before o depth e f h first)
        ∙ visit_read r bound rows k e (sort before (concat_map (leaves_under is_leaf kids depth) f)) s x))
        (λ h. let t = opens is_leaf kids before depth e h d in
        let leaves = t.leaves in
        let entries = t.entries in
        let kidsRoom = room_enough is_leaf kids before depth (kids e) t.descend in
        let restRoom = room_enough is_leaf kids before depth f ds in
        let split : length (leaves_under is_leaf kids depth e) ≡ length (concat_map (leaves_under is_leaf kids depth) (kids e)) = ap length leaves in
        let same = length_opened is_leaf kids before o depth e f leaves in
        let total = sum_ins_all before (entries_under is_leaf kids depth) (kids e) f in
        seek_open n e f s x h (omega arith)
        ∙ seek_entries n (insert_all before (kids e) f) s one (sorted_ins_all before o (kids e) f q) (all_ins_all before (kids e) f t.descend ds) (omega arith) (omega arith)
        ∙ ap (λ (ls : List E). visit r bound rows k ls s) (frontier_opened is_leaf kids before o depth e f leaves)))

    -- twice as many steps as there are leaves are enough
    pub seek_visit : (n : ℕ) (f : List E) (s : List A) → 1 ≤ k → Sorted before f → All (Descends is_leaf kids before depth) f
        → length (concat_map (leaves_under is_leaf kids depth) f) ≤ room → 2 * length (concat_map (leaves_under is_leaf kids depth) f) ≤ n
        → seek r bound rows before is_leaf kids k room n f s ≡ visit r bound rows k (sort before (concat_map (leaves_under is_leaf kids depth) f)) s
    seek_visit n f s one q d g w = let e = entries_list is_leaf kids before depth f (all_map (entries_few is_leaf kids before depth) d) in seek_entries n f s one q d g (omega arith)

    -- from the root
    pub seek_root : (n : ℕ) (root : E) → 1 ≤ k → Descends is_leaf kids before depth root
        → length (leaves_under is_leaf kids depth root) ≤ room → 2 * length (leaves_under is_leaf kids depth root) ≤ n
        → seek r bound rows before is_leaf kids k room n (root ∷ []) [] ≡ visit r bound rows k (sort before (leaves_under is_leaf kids depth root)) []
    unfolding concat_map
    seek_root n root one d g w =
        let e : leaves_under is_leaf kids depth root ++ [] ≡ leaves_under is_leaf kids depth root = append-nil (leaves_under is_leaf kids depth root) in
        seek_visit n (root ∷ []) [] one (next none end) (also d none) (rw e g) (rw e w)
        ∙ ap (λ (ls : List E). visit r bound rows k (sort before ls) []) e
