-- The steps of adding columns.
use Rattle.std.proofs.Common.{◌≡◌, refl, sym, ap, ◌∙◌, Bool, true, false, not, ◌≢◌, List, [], ◌∷◌, ℕ, zero, suc, ◌+◌, ◌-◌, ◌*◌, ◌≤◌, ◌<◌, min, arith, mul-le-mul, mul-suc, le_refl, add-one, ltb, leb, length, get_or, take, set, replicate, length-set, get_or-set_same, get_or-set_other, take-suc, ltb-true, ltb-false, lt-ltb, le-ltb, le-leb, ne_eqb}
use lib.ListN.{get_or-replicate}
use borrow.Author.Tests.{lt-leb}
use Rattle.std.specs.Int.{from_bool}
use Rattle.lists.specs.Basics.{indicator, all_map}
use Rattle.lists.specs.Tabulated.{all_at}
use Rattle.lists.specs.Sorting.{count}
use Rattle.lists.specs.SortingLaws.{count_append}
use Rattle.lists.specs.Tests.{decide, by_cases}
use Rattle.geometry.specs.Points.{distance}
use Rattle.geometry.specs.Numbers.{max_weight}
use Rattle.geometry.specs.Features.{weighted_distance}
use Rattle.geometry.proofs.WeightLaws.{weighted_more, weighted_end}
use Rattle.geometry.specs.Stored.{point_of}
use Rattle.geometry.proofs.LoopLaws.{dist_more, dist_end}
use Rattle.pagestore_page.specs.LayoutLaws.{leaf_fits_law, leaf_slots}
use Rattle.pagestore_page.specs.Layout.{no_record}
use Rattle.search_model.specs.Asked.{AskedPoint}
use Rattle.search_rows.specs.Rows.{distances, distance_in}
use Rattle.search_leaves.specs.Columns.{coords_at, cost_from, weighted_from, gap_square, most_cost, most_weighted, Sized, SumsBy, Sums, WeightedSums, cost_span, quarters_left, Quarters, not_past, BehindPast}

-- the square of a gap below 2,048
pub square_most : (x y : ℕ) → x < 2048 → y < 2048 → gap_square x y ≤ most_cost
unfolding gap_square
square_most x y h g =
    let l : (x - y) + (y - x) ≤ 2047 = omega arith in mul-le-mul l l

coords_slots : (page : List ℕ) (r : ℕ) → r < 16 → length (coords_at page r) ≡ 16
coords_slots page r h = (all_at (leaf_fits_law page) r no_record (omega (arith, leaf_slots page))).slots

pub asked_low : (page q : List ℕ) (n m : ℕ) → Sized page q n → m < length q → get_or q m 0 < 2048
asked_low page q n m s h = all_at s.ranges m 0 h

-- one coordinate more
pub cost_more : (page q : List ℕ) (m r : ℕ) → m < length q → length q ≤ 16 → r < 16
    → cost_from page q m r ≡ gap_square (get_or q m 0) (get_or (coords_at page r) m 0) + cost_from page q (m + 1) r
unfolding cost_from gap_square
cost_more page q m r h l g = dist_more q (coords_at page r) m h (omega (arith, coords_slots page r g))

-- a coordinate more of a run
span_more : (page q : List ℕ) (a n k b r : ℕ) → k ≡ suc n → suc a ≡ b → cost_span page q a k r ≡ gap_square (get_or q a 0) (get_or (coords_at page r) a 0) + cost_span page q b n r
unfolding cost_span
span_more page q a n k b r e f = rw (e, sym f)

-- a run, and what comes behind it
span_join : (page q : List ℕ) (a n r : ℕ) → a + n ≤ length q → length q ≤ 16 → r < 16 → cost_from page q a r ≡ cost_span page q a n r + cost_from page q (a + n) r
unfolding cost_span
span_join page q a zero r h l g = let e : cost_from page q a r ≡ cost_from page q (a + 0) r = ap (λ (x : ℕ). cost_from page q x r) (omega arith) in omega (arith, e)
span_join page q a (suc n) r h l g =
    let e = cost_more page q a r (omega arith) l g in
    let f : cost_from page q (a + 1) r ≡ cost_span page q (suc a) n r + cost_from page q (a + suc n) r =
    ap (λ (x : ℕ). cost_from page q x r) (omega arith) ∙ span_join page q (suc a) n r (omega arith) l g ∙ ap (λ (x : ℕ). cost_span page q (suc a) n r + cost_from page q x r) (omega arith) in
    omega (arith, e, f)

-- before the first turn all is left, after the last what is behind the quarters
quarters_all : (page q : List ℕ) (s r : ℕ) → 4 * s ≤ length q → length q ≤ 16 → r < 16 → quarters_left page q s 0 r ≡ cost_from page q 0 r
unfolding quarters_left
quarters_all page q s r h l g =
    let join : (a b : ℕ) → a + s ≡ b → b ≤ length q → cost_from page q a r ≡ cost_span page q a (s - 0) r + cost_from page q b r =
    λ a b e f. let w : a + (s - 0) ≡ b = omega arith in span_join page q a (s - 0) r (omega arith) l g ∙ ap (λ (x : ℕ). cost_span page q a (s - 0) r + cost_from page q x r) w in
    let w = join 0 (0 + s) (omega arith) (omega arith) in
    let x = join (0 + s) (0 + s + s) (omega arith) (omega arith) in
    let y = join (0 + s + s) (0 + s + s + s) (omega arith) (omega arith) in
    let z = join (0 + s + s + s) (4 * s) (omega arith) (omega arith) in
    omega (arith, w, x, y, z)

quarters_none : (page q : List ℕ) (s m r : ℕ) → s ≤ m → quarters_left page q s m r ≡ cost_from page q (4 * s) r
unfolding quarters_left cost_span
quarters_none page q s m r h = let e : s - m ≡ 0 = omega arith in rw e (omega arith)

pub cost_end : (page q : List ℕ) (r : ℕ) → cost_from page q (length q) r ≡ 0
unfolding cost_from
cost_end page q r = dist_end q (coords_at page r) (length q) (le_refl (length q))

-- something has been added to the sums below i, nothing to those from i on: before, after: what is left to add for each record; lo, hi: so many coordinates
-- have been added; most: the most that one costs
pub record Adding (most : ℕ) (before after whole : ℕ → ℕ) (lo hi n i : ℕ) (sums : List ℕ) : Type 0 where
  pub slots : length sums ≡ 16
  pub done : (r : ℕ) → r < i → (get_or sums r 0 + after r ≡ whole r) × (get_or sums r 0 ≤ most * hi)
  pub todo : (r : ℕ) → i ≤ r → r < n → (get_or sums r 0 + before r ≡ whole r) × (get_or sums r 0 ≤ most * lo)

module _ (most : ℕ) (before after whole : ℕ → ℕ) (lo hi n : ℕ) where
  pub adding_start : (sums : List ℕ) → length sums ≡ 16 → ((r : ℕ) → r < n → get_or sums r 0 + before r ≡ whole r) → ((r : ℕ) → r < n → get_or sums r 0 ≤ most * lo)
      → Adding most before after whole lo hi n 0 sums
  adding_start sums l e f = record { slots = l; done = λ r h. absurd (omega arith); todo = λ r l h. (e r h, f r h) }

  -- c is added to the sum at i
  pub adding_next : (i c : ℕ) (sums : List ℕ) → i < n → n ≤ 16 → before i ≡ c + after i → c + most * lo ≤ most * hi → Adding most before after whole lo hi n i sums
      → Adding most before after whole lo hi n (i + 1) (set sums i (get_or sums i 0 + c))
  adding_next i c sums h f e l a =
      record {
        slots = length-set sums i (get_or sums i 0 + c) ∙ a.slots;
        done = λ r g. decide r i (λ z. here r z) (λ z. there r g z);
        todo = λ r g t. rw (get_or-set_other sums i r (get_or sums i 0 + c) 0 (omega arith)) (a.todo r (omega arith) t);
      }
    where
      here : (r : ℕ) → r ≡ i → (get_or (set sums i (get_or sums i 0 + c)) r 0 + after r ≡ whole r) × (get_or (set sums i (get_or sums i 0 + c)) r 0 ≤ most * hi)
      here r z =
          let s = a.slots in
          let w = a.todo i (le_refl i) h in
          rw (z, get_or-set_same sums i (get_or sums i 0 + c) 0 (omega arith)) (omega (arith, w.0), omega (arith, w.1))

      there : (r : ℕ) → r < i + 1 → (r ≡ i → ⊥) → (get_or (set sums i (get_or sums i 0 + c)) r 0 + after r ≡ whole r) × (get_or (set sums i (get_or sums i 0 + c)) r 0 ≤ most * hi)
      there r g z = rw (get_or-set_other sums i r (get_or sums i 0 + c) 0 (omega arith)) (a.done r (omega (arith, z)))

  -- what the sum at i is at most
  pub adding_most : (i : ℕ) (sums : List ℕ) → Adding most before after whole lo hi n i sums → i < n → get_or sums i 0 ≤ most * lo
  adding_most i sums a h = (a.todo i (le_refl i) h).1

-- a column
module _ (left : ℕ → ℕ → ℕ) (most : ℕ) (page q : List ℕ) (m n : ℕ) where
  abbrev pub AddingColumn : ℕ → List ℕ → Type 0
  AddingColumn i sums = Adding most (left m) (left (m + 1)) (left 0) m (m + 1) n i sums

  pub column_start : (sums : List ℕ) → SumsBy left most page q m n sums → AddingColumn 0 sums
  column_start sums s = adding_start most (left m) (left (m + 1)) (left 0) m (m + 1) n sums s.slots s.each s.low

  -- c is added for record i
  pub column_next : (i c : ℕ) (sums : List ℕ) → i < n → n ≤ 16 → left m i ≡ c + left (m + 1) i → c ≤ most → AddingColumn i sums → AddingColumn (i + 1) (set sums i (get_or sums i 0 + c))
  column_next i c sums h f e l a = let more : most * (m + 1) ≡ most * m + most = ap (λ (x : ℕ). most * x) (add-one m) ∙ mul-suc most m in adding_next most (left m) (left (m + 1)) (left 0) m (m + 1) n i c sums h f e (omega arith) a

  -- of at most 16 columns
  pub column_most : (i : ℕ) (sums : List ℕ) → AddingColumn i sums → i < n → m < length q → length q ≤ 16 → get_or sums i 0 ≤ most * 15
  column_most i sums a h l f = let w = (a.todo i (le_refl i) h).1 in let top : most * m ≤ most * 15 = mul-le-mul (le_refl most) (omega arith) in omega arith

  pub column_end : (i : ℕ) (sums : List ℕ) → n ≤ i → Sized page q n → m < length q → AddingColumn i sums → SumsBy left most page q (m + 1) n sums
  column_end i sums h s w a =
      record { sized = s; within = omega arith; slots = a.slots; each = λ r g. (a.done r (omega arith)).0; low = λ r g. (a.done r (omega arith)).1 }

-- four of them
module _ (page q : List ℕ) (s m n : ℕ) where
  abbrev pub AddingFour : ℕ → List ℕ → Type 0
  AddingFour i sums = Adding most_cost (quarters_left page q s m) (quarters_left page q s (m + 1)) (cost_from page q 0) (4 * m) (4 * (m + 1)) n i sums

  pub four_start : (sums : List ℕ) → Quarters page q s m n sums → AddingFour 0 sums
  four_start sums w = adding_start most_cost (quarters_left page q s m) (quarters_left page q s (m + 1)) (cost_from page q 0) (4 * m) (4 * (m + 1)) n sums w.slots w.each w.low

  -- c is added for record i
  pub four_next : (i c : ℕ) (sums : List ℕ) → i < n → n ≤ 16 → quarters_left page q s m i ≡ c + quarters_left page q s (m + 1) i → c ≤ most_cost * 4
      → AddingFour i sums → AddingFour (i + 1) (set sums i (get_or sums i 0 + c))
  four_next i c sums h f e l a =
      let before = quarters_left page q s m in let after = quarters_left page q s (m + 1) in
      adding_next most_cost before after (cost_from page q 0) (4 * m) (4 * (m + 1)) n i c sums h f e (omega arith) a

  pub four_fits : (i : ℕ) (sums : List ℕ) → AddingFour i sums → i < n → 4 * m ≤ 16 → get_or sums i 0 ≤ 67043344
  four_fits i sums a h l =
      let before = quarters_left page q s m in let after = quarters_left page q s (m + 1) in
      let w = adding_most most_cost before after (cost_from page q 0) (4 * m) (4 * (m + 1)) n i sums a h in omega arith

  pub four_end : (i : ℕ) (sums : List ℕ) → n ≤ i → Sized page q n → 4 * s ≤ length q → m < s → AddingFour i sums → Quarters page q s (m + 1) n sums
  four_end i sums h z w l a =
      record { sized = z; within = w; turns = omega arith; slots = a.slots; each = λ r g. (a.done r (omega arith)).0; low = λ r g. (a.done r (omega arith)).1 }

  -- one coordinate of each quarter
  pub quarters_more : (r : ℕ) → m < s → quarters_left page q s m r
      ≡ ((gap_square (get_or q m 0) (get_or (coords_at page r) m 0) + gap_square (get_or q (m + s) 0) (get_or (coords_at page r) (m + s) 0))
      + (gap_square (get_or q (m + s + s) 0) (get_or (coords_at page r) (m + s + s) 0) + gap_square (get_or q (m + s + s + s) 0) (get_or (coords_at page r) (m + s + s + s) 0)))
      + quarters_left page q s (m + 1) r
  unfolding quarters_left
  quarters_more r h =
      let e : s - m ≡ suc (s - (m + 1)) = omega arith in
      let step : (a b : ℕ) → suc a ≡ b → cost_span page q a (s - m) r ≡ gap_square (get_or q a 0) (get_or (coords_at page r) a 0) + cost_span page q b (s - (m + 1)) r = λ a b f. span_more page q a (s - (m + 1)) (s - m) b r e f in
      let w = step m (m + 1) (omega arith) in
      let x = step (m + s) (m + 1 + s) (omega arith) in
      let y = step (m + s + s) (m + 1 + s + s) (omega arith) in
      let z = step (m + s + s + s) (m + 1 + s + s + s) (omega arith) in
      omega (arith, w, x, y, z)

pub quarters_start : (page q : List ℕ) (s n : ℕ) (sums : List ℕ) → 4 * s ≤ length q → Sums page q 0 n sums → Quarters page q s 0 n sums
quarters_start page q s n sums h w =
    record {
      sized = w.sized;
      within = h;
      turns = omega arith;
      slots = w.slots;
      each = λ r g. let few = w.sized.few in rw (quarters_all page q s r h w.sized.most (omega arith)) (w.each r g);
      low = λ r g. omega (arith, w.low r g);
    }

pub quarters_end : (page q : List ℕ) (s m n : ℕ) (sums : List ℕ) → s ≤ m → Quarters page q s m n sums → Sums page q (4 * s) n sums
quarters_end page q s m n sums h w =
    let e : m ≡ s = omega (arith, w.turns) in
    record {
      sized = w.sized;
      within = w.within;
      slots = w.slots;
      each = λ r g. rw (quarters_none page q s m r h) at (w.each r g);
      low = λ r g. omega (arith, w.low r g, e);
    }

-- before the first column
pub sums_start : (left : ℕ → ℕ → ℕ) (most : ℕ) (page ws q : List ℕ) (n : ℕ) → length page ≡ 1024 → AskedPoint ws q → n ≤ 16 → SumsBy left most page q 0 n (replicate 16 0)
sums_start left most page ws q n l a f = record {
  sized = record { bytes = l; most = a.most; ranges = all_map (λ c (h : c ≤ 2000). omega arith) a.ranges; few = f };
  within = omega arith;
  slots = refl;
  each = λ r h. rw (get_or-replicate {A = ℕ} 16 r 0 0 (omega arith)) (omega arith);
  low = λ r h. rw (get_or-replicate {A = ℕ} 16 r 0 0 (omega arith)) (omega arith);
}

-- and after the last: the squared distances
pub sums_end : (page q : List ℕ) (n : ℕ) (sums : List ℕ) → Sums page q (length q) n sums → (r : ℕ) → r < n → get_or sums r 0 ≡ distance (point_of q) (point_of (coords_at page r))
unfolding cost_from
sums_end page q n sums s r h = let e = s.each r h in let z = cost_end page q r in omega arith

-- ---- WITH WEIGHTS

module _ (page ws q : List ℕ) where
  -- one coordinate more
  pub weighted_cost_more : (m r : ℕ) → length ws ≡ length q → m < length q → length q ≤ 16 → r < 16
      → weighted_from page ws q m r ≡ get_or ws m 0 * gap_square (get_or q m 0) (get_or (coords_at page r) m 0) + weighted_from page ws q (m + 1) r
  unfolding weighted_from gap_square
  weighted_cost_more m r e h l g = weighted_more ws q (coords_at page r) m (omega arith) h (omega (arith, coords_slots page r g))

  weighted_cost_end : (r : ℕ) → length ws ≡ length q → weighted_from page ws q (length q) r ≡ 0
  unfolding weighted_from
  weighted_cost_end r e = weighted_end ws q (coords_at page r) (length q) (omega arith)

  -- after the last column: the weighted distances
  pub weighted_sums_end : (n : ℕ) (sums : List ℕ) → WeightedSums page ws q (length q) n sums → (r : ℕ) → r < n → get_or sums r 0 ≡ weighted_distance ws (point_of q) (point_of (coords_at page r))
  unfolding weighted_from
  weighted_sums_end n sums s r h = let e = s.by.each r h in let z = weighted_cost_end r s.number in omega arith

  -- which the words of a row have room for
  pub weighted_sums_small : (n : ℕ) (sums : List ℕ) → WeightedSums page ws q (length q) n sums → (r : ℕ) → r < n → get_or sums r 0 < distances
  weighted_sums_small n sums s r h =
      let top : most_weighted * length q ≤ most_weighted * 16 = mul-le-mul (le_refl most_weighted) s.by.sized.most in omega (arith, s.by.low r h)

-- a weight of a coordinate
pub weight_light : (page ws q : List ℕ) (m n : ℕ) (sums : List ℕ) → WeightedSums page ws q m n sums → m < length q → get_or ws m 0 ≤ max_weight
weight_light page ws q m n sums s h = all_at s.light m 0 (omega (arith, s.number))

-- ---- NONE NEAR ENOUGH

-- one sum more is counted
pub within_more : (limit : ℕ) (sums : List ℕ) (r : ℕ) → r < length sums → count (not_past limit) (take (r + 1) sums) ≡ count (not_past limit) (take r sums) + from_bool (leb (get_or sums r 0) limit)
unfolding count
within_more limit sums r h =
    let b : from_bool (leb (get_or sums r 0) limit) ≡ indicator (not_past limit (get_or sums r 0)) = by_cases (ltb limit (get_or sums r 0))
    (λ e. rw (e, lt-leb (get_or sums r 0) limit (ltb-true limit (get_or sums r 0) e)))
    (λ e. rw (e, le-leb (get_or sums r 0) limit (ltb-false limit (get_or sums r 0) e))) in
    rw (add-one r, take-suc sums r 0 h, count_append (not_past limit) (take r sums) (get_or sums r 0 ∷ [])) (omega arith)

pub at_most_one : (b : Bool) → from_bool b ≤ 1
at_most_one true = omega arith
at_most_one false = omega arith

-- where none is counted, all are beyond the limit
pub none_within : (limit n : ℕ) (sums : List ℕ) → count (not_past limit) (take n sums) ≡ 0 → (r : ℕ) → r < n → r < length sums → limit < get_or sums r 0
unfolding count
none_within limit zero sums e r h g = absurd (omega arith)
none_within limit (suc n) [] e r h g = absurd (omega arith)
none_within limit (suc n) (x ∷ xs) e zero h g = by_cases (ltb limit x) (λ f. ltb-true limit x f) (λ f. let z : indicator (not_past limit x) ≡ 1 = ap (λ (b : Bool). indicator (not b)) f in absurd (omega arith))
none_within limit (suc n) (x ∷ xs) e (suc r) h g = none_within limit n xs (omega arith) r (omega arith) (omega arith)

-- a limit, from the k-th distance
pub limit_all : (highs : List ℕ) (n k : ℕ) → BehindPast highs n k 4294967295
limit_all highs n k x h l = absurd (omega arith)

limit_last : (highs : List ℕ) (n k : ℕ) → k ≤ n → k ≢ 0 → BehindPast highs n k (distance_in (get_or highs (k - 1) 0))
limit_last highs n k h z x g l = rw (le-ltb n k h, ne_eqb k 0 z, lt-ltb (distance_in (get_or highs (k - 1) 0)) x l)

pub limit_near : (highs : List ℕ) (n k : ℕ) → k ≤ n → k ≢ 0 → BehindPast highs n k (min (distance_in (get_or highs (k - 1) 0)) 4294967295)
limit_near highs n k h z x g l = limit_last highs n k h z x g (omega arith)
