-- Greatest leads, column by column, and the key that they tell. Assumes nothing.
use Rattle.std.proofs.Common.{◌≡◌, sym, ap, ◌∙◌, subst, List, ℕ, zero, suc, ◌+◌, ◌-◌, ◌*◌, ◌/◌, ◌%◌, ◌≤◌, ◌<◌, max, arith, add-one, nat_abs, length, get_or, take, drop, set, replicate, length-take, length-set, get_or-take, get_or-set_same, get_or-set_other}
use lib.ListN.{length-replicate}
use Rattle.lists.specs.Basics.{if}
use Rattle.lists.specs.Members.{all_spot, get_spot}
use Rattle.lists.specs.Tests.{decide}
use Rattle.geometry.specs.declared.Key.{Key}
use Rattle.geometry.specs.Points.{is_neg, height_of, axis_of, pyramid_of}
use Rattle.geometry.specs.Stored.{coord_of, point_of}
use Rattle.geometry.proofs.StoredLaws.{length_point}
use Rattle.geometry.proofs.PairLaws.{axis_inside}
use Rattle.geometry.proofs.LoopLaws.{top_lead, lead_more, lead_end, top_is, top_height, top_axis, pyramid_is}
use Rattle.pagestore_page.specs.declared.Leaf.{Leaf}
use Rattle.pagestore_page.specs.declared.Record.{Record}
use Rattle.pagestore_page.specs.Layout.{leaf_of, no_record}
use Rattle.pagestore_page.specs.LayoutLaws.{leaf_fits_law, leaf_slots}
use Rattle.tree_model.specs.Trees.{key_of}
use Rattle.sound_keys.specs.Leads.{lead_of, lead_to, Leads}
use Rattle.lists.specs.Lengths.{zero_at}

-- ---- ONE LEAD

pub lead_reads : (cs : List ℕ) (m x h : ℕ) → x ≡ get_or cs m 0 → h ≡ nat_abs (coord_of x) → h * 16 + (15 - m) ≡ lead_of m cs
unfolding lead_of
lead_reads cs m x h e f = ap (λ (y : ℕ). y * 16 + (15 - m)) (f ∙ ap (λ (z : ℕ). nat_abs (coord_of z)) e)

-- ---- COLUMNS

-- none more, and one more
pub lead_same : (cs : List ℕ) (m n : ℕ) {t : ℕ} → n ≡ m → t ≡ lead_to m cs → t ≡ lead_to n cs
lead_same cs m n e q = rw e q

pub lead_more_by : (cs : List ℕ) (m n : ℕ) {a l t : ℕ} → n ≡ m + 1 → l ≡ lead_of m cs → t ≡ max a l → a ≡ lead_to m cs → t ≡ lead_to n cs
unfolding lead_to
lead_more_by cs m n {a} {l} q e f g = rw (q, add-one m) (f ∙ (λ i. max (g i) (e i)))

-- the first i of n records have their leads up to coordinate k, the others up to m
pub record Leading (x : Leaf) (m k n i : ℕ) (tops : List ℕ) : Type 0 where
  pub size : n ≤ length tops
  pub done : (j : ℕ) → j < i → get_or tops j 0 ≡ lead_to k (get_or x.records j no_record).coords
  pub left : (j : ℕ) → i ≤ j → j < n → get_or tops j 0 ≡ lead_to m (get_or x.records j no_record).coords

module _ (x : Leaf) (m k n : ℕ) where
  pub leading_start : {tops : List ℕ} → Leads x m n tops → Leading x m k n 0 tops
  leading_start s = record { size = s.size; done = λ j h. absurd (omega arith); left = λ j h w. s.top j w }

  pub leading_step : {tops : List ℕ} {i t : ℕ} → Leading x m k n i tops → i < n
      → (get_or tops i 0 ≡ lead_to m (get_or x.records i no_record).coords → t ≡ lead_to k (get_or x.records i no_record).coords) → Leading x m k n (i + 1) (set tops i t)
  leading_step {tops} {i} {t} s h f =
      let l : i < length tops = omega (arith, s.size) in
      record {
        size = omega (arith, length-set tops i t, s.size);
        done = λ j b. decide j i
            (λ z. subst (λ (y : ℕ). get_or (set tops i t) y 0 ≡ lead_to k (get_or x.records y no_record).coords) (sym z)
            (get_or-set_same tops i t 0 l ∙ f (s.left i (omega arith) h)))
            (λ d. get_or-set_other tops i j t 0 d ∙ s.done j (omega (arith, d)));
        left = λ j a b. get_or-set_other tops i j t 0 (omega arith) ∙ s.left j (omega arith) b;
      }

  pub leading_done : {tops : List ℕ} {i : ℕ} → Leading x m k n i tops → n ≤ i → Leads x k n tops
  leading_done s h = record { size = s.size; top = λ j b. s.done j (omega arith) }

pub leads_start : (x : Leaf) (n k : ℕ) → n ≤ k → Leads x 0 n (replicate k 0)
unfolding lead_to
leads_start x n k h = record { size = omega (arith, length-replicate {A = ℕ} k 0); top = λ i b. zero_at k i }

pub leads_fewer : {x : Leaf} {m n k : ℕ} {tops : List ℕ} → Leads x m n tops → k ≤ n → Leads x m k tops
leads_fewer s h = record { size = omega (arith, s.size); top = λ i b. s.top i (omega arith) }

-- ---- KEYS

module _ (cs : List ℕ) (d : ℕ) (some : 1 ≤ d) (room : d ≤ length cs) where
  abbrev p : List ℕ
  p = take d cs

  point_length : length (take d cs) ≡ d
  point_length = omega (arith, length-take d cs)

  -- the greatest lead of the first m, with that of the others, is that of all
  lead_split : (m : ℕ) → m ≤ d → max (lead_to m cs) (top_lead m (drop m (point_of p))) ≡ top_lead 0 (point_of p)
  unfolding lead_to lead_of
  lead_split zero h = omega arith
  lead_split (suc m) h =
      let e = lead_more p m (omega (arith, point_length)) in
      let g : get_or p m 0 ≡ get_or cs m 0 = get_or-take d cs m 0 (omega arith) in
      let a = ap (λ (z : ℕ). nat_abs (coord_of z) * 16 + (15 - m)) g in
      let n = ap (λ (z : ℕ). top_lead z (drop z (point_of p))) (add-one m) in
      omega (arith, lead_split m (omega arith), e, a, n)

  top_of : {t : ℕ} → t ≡ lead_to d cs → t ≡ height_of (point_of p) * 16 + (15 - axis_of (point_of p))
  top_of {t} e = top_is p t (omega (arith, point_length)) (omega (arith, e, lead_split d (omega arith), lead_end p d (omega (arith, point_length))))

  axis_low : axis_of (point_of p) < d
  axis_low = omega (arith, length_point p, point_length, axis_inside (point_of p) (omega (arith, length_point p, point_length)))

  pub lead_height : {t : ℕ} → t ≡ lead_to d cs → t / 16 ≡ height_of (point_of (take d cs))
  lead_height {t} e = top_height t (height_of (point_of p)) (axis_of (point_of p)) (top_of e)

  lead_axis : {t : ℕ} → d ≤ 16 → t ≡ lead_to d cs → 15 - t % 16 ≡ axis_of (point_of p)
  lead_axis {t} l e = top_axis t (height_of (point_of p)) (axis_of (point_of p)) (top_of e) (omega (arith, axis_low))

  pub lead_inside : {t : ℕ} → d ≤ 16 → t ≡ lead_to d cs → 15 - t % 16 < d
  lead_inside l e = omega (arith, lead_axis l e, axis_low)

  pub lead_pyramid : {t x : ℕ} → d ≤ 16 → t ≡ lead_to d cs → x ≡ get_or cs (15 - t % 16) 0
      → if (is_neg (coord_of x)) (15 - t % 16) (15 - t % 16 + d) ≡ pyramid_of (point_of (take d cs))
  lead_pyramid {t} {x} l e f =
      let j : ℕ = 15 - t % 16 in
      let g : x ≡ get_or p j 0 = f ∙ sym (get_or-take d cs j 0 (lead_inside l e)) in
      ap (λ (y : ℕ). if (is_neg (coord_of y)) j (j + d)) g ∙ ap (λ (n : ℕ). if (is_neg (coord_of (get_or p j 0))) j (j + n)) (sym point_length)
      ∙ pyramid_is p j (omega (arith, lead_inside l e, point_length)) (lead_axis l e)

pub lead_key : (r : Record) (d : ℕ) (k : Key) → k.pyramid.0 ≡ pyramid_of (point_of (take d r.coords)) → k.height.0 ≡ height_of (point_of (take d r.coords)) → k.id ≡ r.id → k ≡ key_of d r
unfolding key_of
lead_key r d k a b e = λ i. record { pyramid = record { 0 = a i }; height = record { 0 = b i }; id = e i }

-- ---- A LEAF'S RECORDS

pub coords_length : (s : List ℕ) (i : ℕ) → i < 16 → length (get_or (leaf_of s).records i no_record).coords ≡ 16
coords_length s i h = (all_spot (leaf_fits_law s) (get_spot (leaf_of s).records i no_record (omega (arith, leaf_slots s)))).slots
