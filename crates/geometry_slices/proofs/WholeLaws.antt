-- A slice from its row, the rows of a question, and the least distance to each whole pyramid.
use Rattle.std.proofs.Common.{◌≡◌, sym, ap, ap₂, ◌∙◌, List, ◌≢◌, ℕ, min, max, ◌+◌, ◌*◌, ◌-◌, ◌<◌, arith, ltb, length, get_or, set, length-set, get_or-set_same, get_or-set_other}
use Rattle.geometry.proofs.BoundLaws.{least_in_is}
use Rattle.geometry_slices.proofs.PackedLaws.{asked_few}
use Rattle.geometry_slices.proofs.TableLaws.{slice_asked, axis_in, row_sum, width_le}
use Rattle.geometry.specs.Features.{Feature, gap_of}
use Rattle.geometry.specs.Slices.{on_axis, axis_no, slice_at, LeastAt, least_in}
use Rattle.geometry.specs.Stored.{coord_of}
use Rattle.geometry_slices.specs.Questions.{size_of, asked_of, Packed, Unweighted, sum_to, row_at, row_from, width_of, row_cost, unweighted_place, near_places, Rows}
use Rattle.geometry_slices.specs.Tables.{row_in, Reached, Rowed, RowsOver}

-- a slice as the code sums it
pub slice_of : (a near : List ℕ) (i j h n at g s : ℕ) → Rows a near → i < size_of a + size_of a → j ≡ axis_no (size_of a) i → n ≡ width_of (size_of a) → at ≡ row_from j
    → g ≡ gap_of (coord_of (get_or a j 0)) (coord_of (get_or a (16 + j) 0)) (on_axis (ltb i (size_of a)) h) → s ≡ sum_to n (row_cost a near at h) → get_or a (32 + j) 0 * (g * g) + s ≡ slice_at (asked_of a) i h
slice_of a near i j h n at g s r l e w f k t =
    let u : j < size_of a = omega (arith, e, axis_in (size_of a) i l) in
    ap₂ (λ (x y : ℕ). get_or a (32 + j) 0 * (x * x) + y) k (t ∙ row_sum a near j h n at r u w f) ∙ sym (slice_asked a r.packed i j h l e)

-- a row from the reaches
row_in_law : (a reach : List ℕ) (j m : ℕ) → Reached a reach → m < 16 → row_in reach j (row_from j + m) 0 ≡ row_at a j m
unfolding row_at
row_in_law a reach j m r l =
    let z : row_from j + m - row_from j ≡ m = omega arith in
    rw (z, r.each m l)

-- the rows, and behind them the flag
pub rows_over : (a reach xs ys : List ℕ) (d n v : ℕ) → Packed a → length xs ≡ near_places → d ≡ size_of a → n ≡ width_of d → Reached a reach → Rowed reach d n xs ys
    → (v ≡ 1 → Unweighted a) → RowsOver a xs (set ys unweighted_place v)
rows_over a reach xs ys d n v p l e w r s q =
    record {
      rows = record {
        packed = p;
        places = length-set ys unweighted_place v ∙ (s.long ∙ l);
        row = λ j m u h.
            let t : m < n = rw (w, e) h in
            other (row_from j + m) (omega (arith, width_le d, w, asked_few a p)) ∙ (s.row j m (rw e u) t ∙ row_in_law a reach j m r (omega (arith, width_le d, w)));
        unweighted = λ f. q (sym (get_or-set_same ys unweighted_place v 0 (omega (arith, s.long))) ∙ f);
      };
      before = λ x h. other x (omega arith) ∙ s.before x h;
    }
  where
    other : (x : ℕ) → x < unweighted_place → get_or (set ys unweighted_place v) x 0 ≡ get_or ys x 0
    other x h = get_or-set_other ys unweighted_place x v 0 (let o : x ≢ unweighted_place = omega arith in o)

-- a whole pyramid, and a span of heights in which its nearest one lies
pub whole_is : (fs : List Feature) (i lo r h v : ℕ) → LeastAt (slice_at fs i) 0 1000 r → h ≡ max lo r → v ≡ slice_at fs i h → v ≡ least_in fs i lo 1000
whole_is fs i lo r h v m e k =
    let t : h ≡ max lo (min r 1000) = omega (arith, m.high) in
    k ∙ (ap (slice_at fs i) t ∙ sym (least_in_is fs i lo 1000 r m (omega arith)))
