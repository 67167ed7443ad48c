-- Records of leaves left unread may be exchanged: neither rows nor count change (demand 3).
use Rattle.std.proofs.Common.{◌≡◌, refl, sym, ap, ap₂, subst, ◌∙◌, Bool, true, false, List, [], ◌∷◌, ◌++◌, map, ℕ, zero, suc, ◌+◌, ◌≤◌, arith, length, get_or, ltb, ltb-false}
use lib.ListN.{length-map}
use Rattle.lists.specs.Basics.{if, All, none, also, concat_map, range_from}
use Rattle.lists.specs.Tests.{by_cases, false_true}
use Rattle.lists.specs.Ascending.{head_or, last_or, last_map}
use Rattle.lists.specs.Sorting.{count, Order}
use Rattle.lists.specs.Orders.{by, lower, by_weak, by_same, lower_weak, lower_same, weak_order}
use Rattle.lists.specs.ConcatMapLaws.{all_every}
use Rattle.lists.specs.Lengths.{length_none}
use Rattle.search_theory.specs.Nearest.{nearest, in_set, Floor}
use Rattle.search_theory.proofs.Promises as flatly
use Rattle.search_rows.specs.declared.Row.{Row}
use Rattle.search_rows.proofs.RowLaws.{row_order_law}
use Rattle.pagestore_page.specs.declared.Record.{Record}
use Rattle.pagestore.specs.Store.{view_of}
use Rattle.tree_model.specs.Trees.{Item, key_of, first_key, last_key, leaves_of}
use Rattle.tree_model.specs.Sound.{SoundIndex}
use Rattle.search_model.specs.Asked.{Asked, Askable}
use Rattle.search_model.specs.Branches.{rows_among}
use Rattle.search_model.specs.Visit.{ranking, Answer, found}
use Rattle.search_model.specs.Questions.{rows_from, rows_of, leaf_bound, to_read_by, to_read, Kept, Exchanged, end, next}
use Rattle.search_model.proofs.VisitedLaws.{LeafFloor, among_floor, leaf_floors}
use Rattle.search_model.proofs.ExactLaws.{found_exact, rows_nearest}

-- ---- ANY STAGE

module _ (d : ℕ) (stage : Record → ℕ) where
  abbrev staged : Record → Record
  staged r = record { id = r.id; stage = stage r; stamp = r.stamp; coords = r.coords }

  staged_first : (rs : List Record) → first_key d (map staged rs) ≡ first_key d rs
  unfolding first_key key_of head_or
  staged_first [] = refl
  staged_first (r ∷ rs) = refl

  staged_last : (rs : List Record) → last_key d (map staged rs) ≡ last_key d rs
  unfolding last_key key_of last_or
  staged_last [] = refl
  staged_last (r ∷ rs) = ap (key_of d) (last_map staged r rs)

  -- a leaf: its own records where it is read, else each with the stage that is said
  abbrev restaged : Bool → Item 1 → Item 1
  restaged read t = if read t (t.0, map staged t.1)

  restaged_kept : (read : Bool) (t : Item 1) → Kept d read t (restaged read t)
  restaged_kept true t = search
  restaged_kept false t =
      let number : length (map staged t.1) ≡ length t.1 = length-map t.1 staged in
      search (false_true, number, staged_first, staged_last)

  -- exchange_any_stage: an exchanged record may have any stage (02)
  pub exchange_any_stage : (read : Item 1 → Bool) (ts : List (Item 1)) → Exchanged d read ts (map (λ t. restaged (read t) t) ts)
  exchange_any_stage read [] = end
  exchange_any_stage read (t ∷ ts) = next (restaged_kept (read t) t) (exchange_any_stage read ts)

-- ---- EXCHANGE

-- the leaf at position p
abbrev leaf_no : List (Item 1) → ℕ → Item 1
leaf_no ts p = get_or ts p (0, [])

abbrev rows_no : Asked → List (Item 1) → ℕ → List Row
rows_no q ts p = rows_among q p (leaf_no ts p).1

rows_from_law : (q : Asked) (all : List (Item 1)) (n : ℕ) (ts : List (Item 1)) → ((i : ℕ) → leaf_no all (n + i) ≡ leaf_no ts i) → concat_map (rows_no q all) (range_from n (length ts)) ≡ rows_from q n ts
unfolding concat_map range_from rows_from
rows_from_law q all n [] h = refl
rows_from_law q all n (t ∷ ts) h =
    let e : leaf_no all n ≡ t = ap (leaf_no all) (omega arith) ∙ h 0 in
    ap₂ (λ (x y : List Row). x ++ y) (ap (λ (u : Item 1). rows_among q n u.1) e)
    (rows_from_law q all (suc n) ts (λ i. ap (leaf_no all) (omega arith) ∙ h (suc i)))

rows_no_law : (q : Asked) (ts : List (Item 1)) → concat_map (rows_no q ts) (range_from 0 (length ts)) ≡ rows_from q 0 ts
rows_no_law q ts = rows_from_law q ts 0 ts (λ i. ap (leaf_no ts) (omega arith))

kept_no : {d : ℕ} {read : Item 1 → Bool} {ts us : List (Item 1)} → Exchanged d read ts us → (p : ℕ) → Kept d (read (leaf_no ts p)) (leaf_no ts p) (leaf_no us p)
kept_no end p = search
kept_no (next h x) zero = h
kept_no (next h x) (suc p) = kept_no x p

exchanged_length : {d : ℕ} {read : Item 1 → Bool} {ts us : List (Item 1)} → Exchanged d read ts us → length us ≡ length ts
exchanged_length end = refl
exchanged_length (next h x) = ap suc (exchanged_length x)

floor_no : (d : ℕ) (q : Asked) {ts : List (Item 1)} → All (LeafFloor d q) ts → (p : ℕ) → LeafFloor d q (leaf_no ts p)
floor_no d q none p = none
floor_no d q (also h a) zero = h
floor_no d q (also h a) (suc p) = floor_no d q a p

module _ (b c : List ℕ) (sb : SoundIndex b) (sc : SoundIndex c) (q : Asked) (suits : Askable (view_of b).d q) (alike : (view_of c).d ≡ (view_of b).d) (one : 1 ≤ q.k)
    (x : Exchanged (view_of b).d (to_read (view_of b) q) (leaves_of (view_of b)) (leaves_of (view_of c))) where
  abbrev d : ℕ
  d = (view_of b).d

  abbrev ts : List (Item 1)
  ts = leaves_of (view_of b)

  abbrev zs : List (Item 1)
  zs = leaves_of (view_of c)

  abbrev positions : List ℕ
  positions = range_from 0 (length ts)

  abbrev bound_no : ℕ → ℕ
  bound_no p = leaf_bound d q (leaf_no ts p)

  abbrev by_place : ℕ → ℕ → Bool
  by_place = by bound_no (lower (λ p. p))

  place_order : Order by_place
  place_order =
      weak_order (by_weak bound_no (lower (λ p. p)) (lower_weak (λ p. p)))
      (λ m n e f. let w = by_same bound_no (lower (λ p. p)) m n e f in lower_same (λ p. p) m n w.1 w.2)

  suits_c : Askable (view_of c).d q
  suits_c = rw alike suits

  -- the bounds are the same
  bound_kept : (t u : Item 1) (r : Bool) → Kept d r t u → leaf_bound d q u ≡ leaf_bound d q t
  unfolding leaf_bound
  bound_kept t u r h = rw (h.first, h.last)

  floors_first : All (Floor ranking bound_no (rows_no q ts)) positions
  floors_first = all_every (λ p. among_floor q (bound_no p) p (leaf_no ts p).1 (floor_no d q (leaf_floors b sb q suits one) p)) positions

  floors_second : All (Floor ranking bound_no (rows_no q zs)) positions
  floors_second =
      all_every (λ p. among_floor q (bound_no p) p (leaf_no zs p).1
      (rw (bound_kept (leaf_no ts p) (leaf_no zs p) _ (kept_no x p)) at (floor_no d q (subst (λ (n : ℕ). All (LeafFloor n q) zs) alike (leaf_floors c sc q suits_c one)) p))) positions

  rows_first : concat_map (rows_no q ts) positions ≡ rows_of (view_of b) q
  unfolding rows_of
  rows_first = rows_no_law q ts

  rows_second : concat_map (rows_no q zs) positions ≡ rows_of (view_of c) q
  unfolding rows_of
  rows_second = ap (λ (n : ℕ). concat_map (rows_no q zs) (range_from 0 n)) (sym (exchanged_length x)) ∙ rows_no_law q zs

  kept_rows : (p : ℕ) (t u : Item 1) → Kept d (to_read (view_of b) q t) t u → in_set ranking q.k (rows_of (view_of b) q) (leaf_bound d q t) ≡ true → rows_among q p u.1 ≡ rows_among q p t.1
  unfolding to_read_by
  kept_rows p t u h w =
      ap (rows_among q p)
      (by_cases (ltb 0 (length t.1))
      (λ e. h.same (rw e w))
      (λ e. let z : length t.1 ≡ 0 = omega (arith, ltb-false 0 (length t.1) e) in length_none u.1 (h.number ∙ z) ∙ sym (length_none t.1 z)))

  nearest_kept : nearest ranking q.k (rows_of (view_of c) q) ≡ nearest ranking q.k (rows_of (view_of b) q)
  nearest_kept =
      rw (← rows_first, ← rows_second)
      (flatly.exchange_rows ranking row_order_law bound_no (lower (λ p. p)) place_order positions (rows_no q ts) floors_first q.k one (rows_no q zs) floors_second
      (all_every (λ p w. kept_rows p (leaf_no ts p) (leaf_no zs p) (kept_no x p) (rw rows_first at w)) positions))

  set_kept : (t u : Item 1) (r : Bool) → Kept d r t u → to_read (view_of c) q u ≡ to_read (view_of b) q t
  unfolding to_read_by in_set
  set_kept t u r h = rw (nearest_kept, alike, h.number, bound_kept t u r h)

  count_kept : (r : Item 1 → Bool) {us ws : List (Item 1)} → Exchanged d r us ws → count (to_read (view_of c) q) ws ≡ count (to_read (view_of b) q) us
  unfolding count
  count_kept r end = refl
  count_kept r (next {t = t} {u = u} h y) = rw (set_kept t u (r t) h, count_kept r y)

  -- exchange: neither rows nor count change, and the rows are the k nearest of the records now held too
  pub exchange : (found c q ≡ found b q) × ((found b q).rows ≡ nearest ranking q.k (rows_of (view_of c) q))
  exchange =
      let n = count_kept (to_read (view_of b) q) x in
      let e : found c q ≡ found b q = found_exact c sc q suits_c one ∙ (λ i. record { rows = nearest_kept i; leaves = n i }) ∙ sym (found_exact b sb q suits one) in
      (e, ap (λ (f : Answer). f.rows) (sym e) ∙ rows_nearest c sc q suits_c one)
