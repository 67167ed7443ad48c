-- A question without weights, coordinate by coordinate.
use Rattle.std.proofs.Common.{◌≡◌, refl, sym, ap₂, subst, ◌∙◌, Bool, true, false, List, ℕ, ◌+◌, ◌*◌, ◌-◌, ◌≤◌, ◌<◌, arith, ltb, eqb, length, get_or, drop, length-take, length-drop, zip, HoldsAt, MatchBool}
use Rattle.std.proofs.Math.Decide.{dec_lt}
use Rattle.lists.specs.Basics.{if, indicator}
use Rattle.lists.specs.Tests.{false_true}
use Rattle.std.specs.List.{AllWithin}
use Rattle.std.proofs.lemmas.Slice.Zip.{length-zip, get_or-zip}
use Rattle.geometry_slices.proofs.PackedLaws.{asked_few}
use Rattle.geometry_slices.proofs.RowLaws.{sum_ext}
use Rattle.geometry_slices.proofs.TableLaws.{part_at, row_past, width_le}
use Rattle.geometry_slices.specs.Questions.{size_of, weights_from, reaches_from, small_reach, NoWeight, Unweighted, Packed, part_from, sum_to}
use Rattle.geometry_slices.specs.Questions.{row_at, row_from, width_of, row_cost, row_square, Rows}
use Rattle.geometry_slices.specs.Tables.{Squares}

-- a coordinate's weight and reach, side by side
module _ (a : List ℕ) (p : Packed a) where
  abbrev pairs : List (ℕ × ℕ)
  pairs = zip (part_from weights_from a) (part_from reaches_from a)

  long : (s : ℕ) → s ≤ reaches_from → length (part_from s a) ≡ size_of a
  long s l = length-take (size_of a) (drop s a) ∙ omega (arith, length-drop s a)

  many : length (zip (part_from weights_from a) (part_from reaches_from a)) ≡ size_of a
  many = omega (arith, length-zip (part_from weights_from a) (part_from reaches_from a), long weights_from (omega arith), long reaches_from (omega arith))

  pair_at : (m : ℕ) → m < size_of a → get_or (zip (part_from weights_from a) (part_from reaches_from a)) m (0, 0) ≡ (get_or a (weights_from + m) 0, get_or a (reaches_from + m) 0)
  pair_at m l =
      get_or-zip (part_from weights_from a) (part_from reaches_from a) m (0, 0) (omega (arith, long weights_from (omega arith))) (omega (arith, long reaches_from (omega arith)))
      ∙ ap₂ (λ (x y : ℕ). (x, y)) (part_at weights_from a m l) (part_at reaches_from a m l)

  -- no weight stands in all of them just where the question has none
  pub unweighted_all : (r : Bool)
      → MatchBool r (AllWithin (λ (x : ℕ × ℕ). NoWeight x.0 x.1) pairs 0 (length pairs)) ((k : ℕ) × (k < length pairs) × HoldsAt (λ (x : ℕ × ℕ). ¬ NoWeight x.0 x.1) pairs k)
      → (r ≡ true → Unweighted a) × (Unweighted a → r ≡ true)
  unweighted_all true f = (λ e m l. subst (λ (x : ℕ × ℕ). NoWeight x.0 x.1) (pair_at m l) (f m (0, 0) (omega arith) (omega (arith, many))), λ u. refl)
  unweighted_all false (k, l, f) =
      let l' : k < size_of a = omega (arith, many) in
      (λ (e : false ≡ true). false_true e, λ u. absurd (f (0, 0) (subst (λ (x : ℕ × ℕ). NoWeight x.0 x.1) (sym (pair_at k l')) (u k l'))))

-- no place of a row is above the coordinate's reach
row_below : (a : List ℕ) (j m : ℕ) → row_at a j m ≤ get_or a (reaches_from + m) 0
unfolding row_at
row_below a j m = by (eqb m j) (ltb j m)
  where
    by : (x y : Bool) → if x 0 (get_or a (reaches_from + m) 0 - indicator y) ≤ get_or a (reaches_from + m) 0
    by true y = omega arith
    by false y = omega arith

pub row_room : (a near : List ℕ) (j n : ℕ) → Rows a near → j < size_of a → n ≡ width_of (size_of a) → (n ≤ 16) × (row_from j + n ≤ length near)
row_room a near j n r l e =
    let w : n ≤ 16 = omega (arith, e, width_le (size_of a)) in (w, omega (arith, w, asked_few a r.packed, r.places))

-- of an unweighted question the places of a row are small, and cost the same with their weights and without
module _ (a near : List ℕ) (j : ℕ) (r : Rows a near) (p : Unweighted a) (l : j < size_of a) where
  row_small : (m : ℕ) → row_at a j m < small_reach
  row_small m = by (dec_lt m (size_of a))
    where
      by : Dec (m < size_of a) → row_at a j m < small_reach
      by (yes h) = omega (arith, row_below a j m, (p m h).1)
      by (no h) = omega (arith, row_past a j m (omega arith))

  pub squares : (n : ℕ) → n ≡ width_of (size_of a) → Squares near (row_from j) n
  squares n e =
      let w = row_room a near j n r l e in
      record {
        few = w.0;
        room = w.1;
        small = λ m h. let u : m < width_of (size_of a) = omega (arith, e) in omega (arith, r.row j m l u, row_small m);
      }

  one : (w x : ℕ) → w ≡ 1 → x * x ≡ w * (x * x)
  one w x e = rw e (omega arith)

  none : (w x h : ℕ) → x ≡ 0 → (x - h) * (x - h) ≡ w * ((x - h) * (x - h))
  none w x h e = let z : x - h ≡ 0 = omega arith in rw z (omega arith)

  place : (h m : ℕ) → get_or near (row_from j + m) 0 ≡ row_at a j m → row_square near (row_from j) h m ≡ row_cost a near (row_from j) h m
  place h m e = by (dec_lt m (size_of a))
    where
      by : Dec (m < size_of a) → row_square near (row_from j) h m ≡ row_cost a near (row_from j) h m
      by (yes v) = one (get_or a (weights_from + m) 0) (get_or near (row_from j + m) 0 - h) (p m v).0
      by (no v) = none (get_or a (weights_from + m) 0) (get_or near (row_from j + m) 0) h (e ∙ row_past a j m (omega arith))

  pub unweighted_sum : (h n : ℕ) → n ≡ width_of (size_of a) → sum_to n (row_square near (row_from j) h) ≡ sum_to n (row_cost a near (row_from j) h)
  unweighted_sum h n e =
      sum_ext n (row_square near (row_from j) h) (row_cost a near (row_from j) h)
      (λ m u. let v : m < width_of (size_of a) = omega (arith, e) in place h m (r.row j m l v))
