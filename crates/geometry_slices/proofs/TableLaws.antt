-- The tables of a question by place: its features, the rows of its axes, and its slices as sums over them.
use Rattle.std.proofs.Common.{◌≡◌, refl, sym, ap, ap₂, ◌∙◌, Bool, true, false, List, ◌++◌, ◌≢◌, ℕ, suc, ◌+◌, ◌*◌, ◌-◌, ◌≤◌, ◌<◌, arith, eq-eqb, leb-true, ltb-true, ltb-false, leb, ltb, eqb, length, get_or, drop, replicate, set, length-set, length-take, length-drop, length-append, get_or-take, get_or-drop, get_or-set_same, get_or-set_other}
use Rattle.std.proofs.Math.Decide.{ℕ_discrete, dec_lt}
use Rattle.std.proofs.Math.ListN.{get_or-append, get_or-eq_default}
use Rattle.std.proofs.Math.Seq.{get_or-append_right}
use Rattle.lists.specs.Basics.{if, indicator}
use Rattle.geometry.proofs.GapLaws.{reach_stored}
use Rattle.geometry_slices.proofs.QuestionLaws.{feature_at_law, reach_at_place}
use Rattle.geometry_slices.proofs.PackedLaws.{asked_length, asked_few, first_length}
use Rattle.geometry_slices.proofs.RowLaws.{sum_none, sum_ext, sum_past, side_from, slice_row}
use Rattle.geometry.specs.Features.{Feature, gap_to, cost_of}
use Rattle.geometry.specs.Slices.{on_axis, reach_of, axis_no, sign_no, slice_at}
use Rattle.geometry.specs.Stored.{coord_of}
use Rattle.geometry_slices.specs.Questions.{reach_at, size_of, part_from, asked_of, Packed, sum_to, row_at, row_from, width_of, row_cost, Filled, Rows}
use Rattle.lists.specs.Lengths.{zero_at}
use Rattle.geometry_slices.specs.Tables.{Reached}

-- coordinate m of a question
abbrev pub feature_in : List ℕ → ℕ → Feature
feature_in a m = record { low = coord_of (get_or a m 0); high = coord_of (get_or a (16 + m) 0); weight = get_or a (32 + m) 0 }

pub part_at : (s : ℕ) (a : List ℕ) (m : ℕ) → m < size_of a → get_or (part_from s a) m 0 ≡ get_or a (s + m) 0
part_at s a m l = get_or-take (size_of a) (drop s a) m 0 l ∙ get_or-drop s a m 0

pub axis_in : (d i : ℕ) → i < d + d → axis_no d i < d
unfolding axis_no
axis_in d i l = by (ltb i d) refl
  where
    by : (b : Bool) → ltb i d ≡ b → if b i (i - d) < d
    by true e = ltb-true i d e
    by false e = omega (arith, ltb-false i d e)

module _ (a : List ℕ) (p : Packed a) where
  pub feature_in_law : (m : ℕ) (z : Feature) → m < size_of a → get_or (asked_of a) m z ≡ feature_in a m
  unfolding asked_of
  feature_in_law m z l =
      let n : 0 + m ≡ m = omega arith in
      let x = rw n at (part_at 0 a m l) in
      rw (x, part_at 16 a m l, part_at 32 a m l)
      at (feature_at_law (part_from 0 a) (part_from 16 a) (part_from 32 a) m z (p.parts.highs, p.parts.weights) (omega (arith, first_length a p)))

  pub reach_in : (m : ℕ) → m < size_of a → get_or a (48 + m) 0 ≡ reach_at (get_or a m 0) (get_or a (16 + m) 0)
  reach_in m l =
      let n : 0 + m ≡ m = omega arith in
      let x = rw n at (part_at 0 a m l) in
      let e = reach_at_place (part_from 0 a) (part_from 16 a) m (omega (arith, first_length a p)) (omega (arith, first_length a p, p.parts.highs)) in
      sym (part_at 48 a m l) ∙ (ap (λ (r : List ℕ). get_or r m 0) p.parts.reaches ∙ rw (x, part_at 16 a m l) at e)

  reach_is : (m : ℕ) → m < size_of a → reach_of (feature_in a m) ≡ get_or a (48 + m) 0
  reach_is m l = ap suc (reach_stored (get_or a m 0) (get_or a (16 + m) 0)) ∙ sym (reach_in m l)

  side_is : (j m : ℕ) (z : Feature) → m < size_of a → side_from j m (get_or (asked_of a) m z) ≡ row_at a j m
  unfolding row_at
  side_is j m z l = rw (feature_in_law m z l) (ap (λ (x : ℕ). if (eqb m j) 0 (x - indicator (ltb j m))) (reach_is m l))

  -- a slice: the axis, and the row
  pub slice_asked : (i j h : ℕ) → i < size_of a + size_of a → j ≡ axis_no (size_of a) i
      → slice_at (asked_of a) i h
      ≡ cost_of (feature_in a j) (gap_to (feature_in a j) (on_axis (ltb i (size_of a)) h)) + sum_to (size_of a) (λ (m : ℕ). get_or a (32 + m) 0 * ((row_at a j m - h) * (row_at a j m - h)))
  unfolding slice_at sign_no
  slice_asked i j h l e =
      let z = feature_in a 0 in
      let k : j < size_of a = omega (arith, e, axis_in (size_of a) i l) in
      let n = asked_length a p in
      let s = slice_row j (ltb i (size_of a)) h (asked_of a) z (omega (arith, n)) in
      let t = sum_ext (size_of a) (λ (m : ℕ). cost_of (get_or (asked_of a) m z) (side_from j m (get_or (asked_of a) m z) - h)) (λ (m : ℕ). get_or a (32 + m) 0 * ((row_at a j m - h) * (row_at a j m - h)))
      (λ m u. ap₂ (λ (w x : ℕ). w * ((x - h) * (x - h))) (ap (λ (f : Feature). f.weight) (feature_in_law m z u)) (side_is j m z u)) in
      rw (n, ← e) (rw (n, feature_in_law j z k, t) at s)

-- a row is 0 past the last coordinate
pub row_past : (a : List ℕ) (j m : ℕ) → size_of a ≤ m → row_at a j m ≡ 0
unfolding row_at
row_past a j m l = by (eqb m j) (get_or-eq_default a 0 {n = 48 + m} (omega arith))
  where
    by : (b : Bool) → get_or a (48 + m) 0 ≡ 0 → if b 0 (get_or a (48 + m) 0 - indicator (ltb j m)) ≡ 0
    by true e = refl
    by false e = omega (arith, e)

pub row_on : (a : List ℕ) (j : ℕ) → row_at a j j ≡ 0
unfolding row_at
row_on a j = rw (eq-eqb j j refl)

free : (w x h : ℕ) → x ≡ 0 → w * ((x - h) * (x - h)) ≡ 0
free w x h e = let z : x - h ≡ 0 = omega arith in rw z (omega arith)

wide_enough : (d : ℕ) → 1 < d → d ≤ 16 → d ≤ width_of d
wide_enough d l k = by (leb d 1) refl (leb d 4) refl (leb d 8) refl
  where
    by : (x : Bool) → leb d 1 ≡ x → (y : Bool) → leb d 4 ≡ y → (z : Bool) → leb d 8 ≡ z → d ≤ if x 0 (if y 4 (if z 8 16))
    by true e y f z g = absurd (omega (arith, leb-true d 1 e))
    by false e true f z g = leb-true d 4 f
    by false e false f true g = leb-true d 8 g
    by false e false f false g = k

pub width_le : (d : ℕ) → width_of d ≤ 16
width_le d = by (leb d 1) (leb d 4) (leb d 8)
  where
    by : (x y z : Bool) → if x 0 (if y 4 (if z 8 16)) ≤ 16
    by true y z = omega arith
    by false true z = omega arith
    by false false true = omega arith
    by false false false = omega arith

-- the places summed are those of the row
pub width_sum : (a : List ℕ) (j h : ℕ) → size_of a ≤ 16 → j < size_of a
    → sum_to (width_of (size_of a)) (λ (m : ℕ). get_or a (32 + m) 0 * ((row_at a j m - h) * (row_at a j m - h))) ≡ sum_to (size_of a) (λ (m : ℕ). get_or a (32 + m) 0 * ((row_at a j m - h) * (row_at a j m - h)))
width_sum a j h few l = by (dec_lt 1 (size_of a))
  where
    f : ℕ → ℕ
    f m = get_or a (32 + m) 0 * ((row_at a j m - h) * (row_at a j m - h))

    by : Dec (1 < size_of a) → sum_to (width_of (size_of a)) f ≡ sum_to (size_of a) f
    by (yes s) =
        let w = wide_enough (size_of a) s few in
        let e : size_of a + (width_of (size_of a) - size_of a) ≡ width_of (size_of a) = omega arith in
        rw e at (sum_past (width_of (size_of a) - size_of a) (size_of a) f (λ m u v. free (get_or a (32 + m) 0) (row_at a j m) h (row_past a j m u)))
    by (no s) =
        let o : size_of a ≡ 1 = omega arith in
        let z : j ≡ 0 = omega arith in
        let t : f 0 ≡ 0 = free (get_or a 32 0) (row_at a j 0) h (ap (λ (x : ℕ). row_at a j x) (sym z) ∙ row_on a j) in
        rw o (sum_none f ∙ sym (sum_past 1 0 f (λ m u v. let q : m ≡ 0 = omega arith in ap f q ∙ t) ∙ sum_none f))

-- as the code sums it
pub row_sum : (a near : List ℕ) (j h n at : ℕ) → Rows a near → j < size_of a → n ≡ width_of (size_of a) → at ≡ row_from j
    → sum_to n (row_cost a near at h) ≡ sum_to (size_of a) (λ (m : ℕ). get_or a (32 + m) 0 * ((row_at a j m - h) * (row_at a j m - h)))
row_sum a near j h n at r l e k =
    rw (e, k)
    (sum_ext (width_of (size_of a)) (row_cost a near (row_from j) h) (λ (m : ℕ). get_or a (32 + m) 0 * ((row_at a j m - h) * (row_at a j m - h)))
    (λ m u. ap (λ (x : ℕ). get_or a (32 + m) 0 * ((x - h) * (x - h))) (r.row j m l u)) ∙ width_sum a j h (asked_few a r.packed) l)

-- filling place by place
pub filled_none : (g : ℕ → ℕ → ℕ) (at : ℕ) (xs : List ℕ) → Filled g at 0 xs xs
filled_none g at xs = record { long = refl; inside = λ x u v. absurd (omega arith); before = λ x u. refl; after = λ x u. refl }

pub filled_more : (g : ℕ → ℕ → ℕ) (at n : ℕ) (xs ys : List ℕ) (v : ℕ) → Filled g at n xs ys → at + n < length ys → v ≡ g (at + n) (get_or ys (at + n) 0)
    → Filled g at (n + 1) xs (set ys (at + n) v)
filled_more g at n xs ys v f l e =
    record {
      long = length-set ys (at + n) v ∙ f.long;
      inside = λ x u w. by x u w (ℕ_discrete x (at + n));
      before = λ x u. get_or-set_other ys (at + n) x v 0 (let o : x ≢ at + n = omega arith in o) ∙ f.before x u;
      after = λ x u. get_or-set_other ys (at + n) x v 0 (let o : x ≢ at + n = omega arith in o) ∙ f.after x (omega arith);
    }
  where
    by : (x : ℕ) → at ≤ x → x < at + (n + 1) → Dec (x ≡ at + n) → get_or (set ys (at + n) v) x 0 ≡ g x (get_or xs x 0)
    by x u w (yes o) = rw o (get_or-set_same ys (at + n) v 0 l ∙ (e ∙ ap (g (at + n)) (f.after (at + n) (omega arith))))
    by x u w (no o) = get_or-set_other ys (at + n) x v 0 o ∙ f.inside x u (omega arith)

-- from the list's first place on
pub filled_on : (g : ℕ → ℕ → ℕ) (n : ℕ) (xs ys : List ℕ) (v : ℕ) → Filled g 0 n xs ys → n < length ys → v ≡ g n (get_or ys n 0) → Filled g 0 (n + 1) xs (set ys n v)
filled_on g n xs ys v f l e = let z : 0 + n ≡ n = omega arith in rw z at (filled_more g 0 n xs ys v f (omega arith) (rw z e))

-- the reaches copied, and 0 past them
pub reaches_copied : (a r : List ℕ) → size_of a ≤ 16 → r ≡ part_from 48 a → Reached a (r ++ drop (size_of a) (replicate 16 0))
reaches_copied a r few e = record { long = whole; each = λ k l. by k l (dec_lt k (size_of a)) }
  where
    lent : length r ≡ size_of a
    lent = ap length e ∙ length-take (size_of a) (drop 48 a) ∙ omega (arith, length-drop 48 a)

    whole : length (r ++ drop (size_of a) (replicate 16 0)) ≡ 16
    whole = omega (arith, lent, length-append r (drop (size_of a) (replicate {A = ℕ} 16 0)), length-drop (size_of a) (replicate {A = ℕ} 16 0))

    by : (k : ℕ) → k < 16 → Dec (k < size_of a) → get_or (r ++ drop (size_of a) (replicate 16 0)) k 0 ≡ get_or a (48 + k) 0
    by k l (yes t) = get_or-append r (drop (size_of a) (replicate 16 0)) 0 k (omega (arith, lent)) ∙ (ap (λ (xs : List ℕ). get_or xs k 0) e ∙ part_at 48 a k t)
    by k l (no t) =
        get_or-append_right r (drop (size_of a) (replicate 16 0)) k 0 (omega (arith, lent))
        ∙ (get_or-drop (size_of a) (replicate 16 0) (k - length r) 0 ∙ zero_at 16 (size_of a + (k - length r)))
        ∙ sym (get_or-eq_default a 0 {n = 48 + k} (omega arith))
