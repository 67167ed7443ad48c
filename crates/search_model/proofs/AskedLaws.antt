-- What is asked: a set of stages by its marks, the full set, a question for a point suits an index of as many features, and its tables can be made.
use Rattle.std.proofs.Common.{◌≡◌, refl, sym, ap, ◌∙◌, Bool, true, false, List, [], ◌∷◌, map, ℕ, zero, suc, ◌+◌, ◌*◌, ◌/◌, ◌%◌, ◌^◌, ◌≤◌, ◌<◌, arith, eqb, ℤ, length, drop, replicate, length-take, get_or-take, get_or-drop, ext_get_or, eqb-true}
use lib.ListN.{length-replicate, get_or-replicate}
use borrow.Author.Tests.{eqb-false}
use Rattle.lists.specs.Basics.{All, none, also, all_map, indicator}
use Rattle.lists.specs.Tests.{by_cases}
use Rattle.lists.specs.Choices.{indicator_le}
use Rattle.lists.specs.Sorting.{filter}
use Rattle.lists.specs.SortingLaws.{filter_all}
use Rattle.calendar.specs.Counting.{in_window}
use Rattle.geometry.specs.Points.{InRange}
use Rattle.geometry.specs.Features.{Feature, weighted}
use Rattle.geometry.specs.Numbers.{max_weight}
use Rattle.geometry_slices.specs.Questions.{features_of, weights_from, size_of, part_from, asked_of, Packed, Unweighted, near_places, whole_places}
use Rattle.geometry_bounds.specs.Bounds.{Preparable}
use Rattle.geometry.specs.Stored.{coord_of, point_of}
use Rattle.geometry.proofs.StoredLaws.{coord_magnitude, length_point}
use Rattle.geometry.proofs.SliceLaws.{plain_ordered, plain_length}
use Rattle.geometry.proofs.WeightLaws.{weighted_length, weighted_ordered, weighted_asks}
use Rattle.pagestore_page.specs.declared.Record.{Record}
use Rattle.tree_model.specs.Sound.{max_stage, RecordOk}
use Rattle.search_model.specs.declared.Choice.{Choice}
use Rattle.search_model.specs.Asked.{Asked, set_of, in_stages, full_set, plainly, candidate, LeavesOutNone, Askable}
use Rattle.search_model.specs.Asked.{low_ends, weights_in, Seekable}
use Rattle.search_model.proofs.RecordLaws.{in_range_law}

-- ---- STAGES

mark_read : (m : Bool) (n : ℕ) → n ≡ indicator m → eqb n 1 ≡ m
mark_read true n e = rw e
mark_read false n e = rw e

-- marks_read: the stages in a set are those whose mark it has
pub marks_read : (mark : ℕ → Bool) (s : ℕ) → s ≤ max_stage → in_stages (set_of mark) s ≡ mark s
unfolding in_stages
marks_read mark s h = mark_read (mark s) _ (bit s h)
  where
    a : (i : ℕ) → indicator (mark i) ≤ 1
    a i = indicator_le (mark i)

    bit : (s : ℕ) → s ≤ max_stage → set_of mark / 2 ^ s % 2 ≡ indicator (mark s)
    bit zero h = omega (arith, a 0, a 1, a 2, a 3, a 4, a 5)
    bit (suc zero) h = omega (arith, a 0, a 1, a 2, a 3, a 4, a 5)
    bit (suc (suc zero)) h = omega (arith, a 0, a 1, a 2, a 3, a 4, a 5)
    bit (suc (suc (suc zero))) h = omega (arith, a 0, a 1, a 2, a 3, a 4, a 5)
    bit (suc (suc (suc (suc zero)))) h = omega (arith, a 0, a 1, a 2, a 3, a 4, a 5)
    bit (suc (suc (suc (suc (suc zero))))) h = omega (arith, a 0, a 1, a 2, a 3, a 4, a 5)
    bit (suc (suc (suc (suc (suc (suc s)))))) h = absurd (omega arith)

-- six bits with their weights, each number but the last twice the next and its bit
weights : (n a b c d e u v w x y z : ℕ) → n ≡ u + 2 * a → a ≡ v + 2 * b → b ≡ w + 2 * c → c ≡ x + 2 * d → d ≡ y + 2 * e → e ≡ z
    → n ≡ u + 2 * v + 4 * w + 8 * x + 16 * y + 32 * z
weights n a b c d e u v w x y z f g h i j k = omega arith

last_bit : (n : ℕ) → n % 2 ≡ indicator (eqb (n % 2) 1)
last_bit n = by_cases (eqb (n % 2) 1) (λ t. rw t (eqb-true (n % 2) 1 t)) (λ t. rw t (omega (arith, eqb-false (n % 2) 1 t)))

-- a number, half of it, and its last bit as a mark
halved : (n m : ℕ) → m ≡ n / 2 → n ≡ indicator (eqb (n % 2) 1) + 2 * m
halved n m e = let b = last_bit n in omega arith

-- set_marks: and every number up to the full set is the set of its marks
pub set_marks : (set : ℕ) → set ≤ full_set → set ≡ set_of (in_stages set)
unfolding in_stages
set_marks set h =
    let one : indicator (eqb (set / 32 % 2) 1) ≡ set / 32 = sym (last_bit (set / 32)) ∙ omega arith in
    let whole : set ≡ set / 1 = omega arith in
    whole ∙ weights (set / 1) (set / 2) (set / 4) (set / 8) (set / 16) (set / 32) _ _ _ _ _ _ (halved (set / 1) (set / 2) (omega arith)) (halved (set / 2) (set / 4) (omega arith))
    (halved (set / 4) (set / 8) (omega arith)) (halved (set / 8) (set / 16) (omega arith)) (halved (set / 16) (set / 32) (omega arith)) (sym one)

-- full_marks: the full set has all six marks, so each stage is in it
pub full_marks : (s : ℕ) → s ≤ max_stage → in_stages full_set s ≡ true
full_marks s h =
    let all : full_set ≡ set_of (λ s. true) = omega arith in
    rw all (marks_read (λ s. true) s h)

-- whether a record is a candidate goes by its stage and its stamp alone
pub by_stage_and_stamp : (q : Asked) (r s : Record) → r.stage ≡ s.stage → r.stamp ≡ s.stamp → candidate q r ≡ candidate q s
unfolding candidate
by_stage_and_stamp q r s e f = rw (e, f)

-- so on a sound index each record is a candidate of a question for the full set without dates
full_candidate : (q : Asked) → LeavesOutNone q.choice → (r : Record) → r.stage ≤ max_stage → candidate q r ≡ true
unfolding candidate in_window
full_candidate q e r h =
    let staged : in_stages q.choice.stages r.stage ≡ true = rw e.0 (full_marks r.stage h) in
    rw (staged, e.1)

pub candidates_full : (q : Asked) → LeavesOutNone q.choice → (d : ℕ) (rs : List Record) → All (RecordOk d) rs → filter (candidate q) rs ≡ rs
candidates_full q e d rs a = filter_all (candidate q) rs (all_map (λ r (h : RecordOk d r). full_candidate q e r h.stage) a)

-- ---- A QUESTION FOR A POINT

pub plain_suits : (d : ℕ) (p : List ℤ) (k : ℕ) (c : Choice) → length p ≡ d → Askable d (plainly p k c)
plain_suits d p k c e = record { same = plain_length p ∙ e; ordered = plain_ordered p }

-- and with weights
pub weighted_suits : (d : ℕ) (ws : List ℕ) (p : List ℤ) (k : ℕ) (c : Choice) → length p ≡ d → length ws ≡ d → Askable d (record { features = weighted ws p; k = k; choice = c })
weighted_suits d ws p k c e f = record { same = weighted_length ws p (f ∙ sym e) ∙ e; ordered = weighted_ordered ws p }

-- ---- A QUESTION FOR A POINT, AS ONE LIST

abbrev lowest : Feature → ℤ
lowest f = f.low

abbrev weight_of : Feature → ℕ
weight_of f = f.weight

features_low : (ls hs ws : List ℕ) → length hs ≡ length ls → length ws ≡ length ls → map lowest (features_of ls hs ws) ≡ point_of ls
unfolding features_of point_of
features_low [] hs ws e f = refl
features_low (l ∷ ls) [] ws e f = absurd (omega arith)
features_low (l ∷ ls) (h ∷ hs) [] e f = absurd (omega arith)
features_low (l ∷ ls) (h ∷ hs) (w ∷ ws) e f = ap (λ (p : List ℤ). coord_of l ∷ p) (features_low ls hs ws (omega arith) (omega arith))

weights_of : (ls hs ws : List ℕ) → length hs ≡ length ls → length ws ≡ length ls → map weight_of (features_of ls hs ws) ≡ ws
unfolding features_of
weights_of [] hs [] e f = refl
weights_of [] hs (w ∷ ws) e f = absurd (omega arith)
weights_of (l ∷ ls) [] ws e f = absurd (omega arith)
weights_of (l ∷ ls) (h ∷ hs) [] e f = absurd (omega arith)
weights_of (l ∷ ls) (h ∷ hs) (w ∷ ws) e f = ap (λ (xs : List ℕ). w ∷ xs) (weights_of ls hs ws (omega arith) (omega arith))

weighted_low : (ws : List ℕ) (p : List ℤ) → length ws ≡ length p → map lowest (weighted ws p) ≡ p
unfolding weighted
weighted_low [] [] e = refl
weighted_low [] (c ∷ cs) e = absurd (omega arith)
weighted_low (w ∷ ws) [] e = refl
weighted_low (w ∷ ws) (c ∷ cs) e = ap (λ (p : List ℤ). c ∷ p) (weighted_low ws cs (omega arith))

weighted_weights : (ws : List ℕ) (p : List ℤ) → length ws ≡ length p → map weight_of (weighted ws p) ≡ ws
unfolding weighted
weighted_weights [] p e = refl
weighted_weights (w ∷ ws) [] e = absurd (omega arith)
weighted_weights (w ∷ ws) (c ∷ cs) e = ap (λ (xs : List ℕ). w ∷ xs) (weighted_weights ws cs (omega arith))

stored_range : (xs : List ℕ) → InRange (point_of xs) → All (λ c. c ≤ 2000) xs
unfolding point_of
stored_range [] r = none
stored_range (x ∷ xs) r = also {x = x} (omega (arith, coord_magnitude x, r.0)) (stored_range xs r.1)

-- a list that stands for a point in range and its weights has them as its low ends and weights
module _ (asked ws : List ℕ) (p : List ℤ) (packed : Packed asked) (e : asked_of asked ≡ weighted ws p) (n : length ws ≡ length p) where
  ends : point_of (low_ends asked) ≡ p
  unfolding asked_of
  ends =
      sym (features_low (part_from 0 asked) (part_from 16 asked) (part_from 32 asked) packed.parts.highs packed.parts.weights)
      ∙ ap (map lowest) e ∙ weighted_low ws p n

  ends_length : length (low_ends asked) ≡ length p
  ends_length = sym (length_point (low_ends asked)) ∙ ap length ends

  weights_are : weights_in asked ≡ ws
  unfolding asked_of
  weights_are =
      sym (weights_of (part_from 0 asked) (part_from 16 asked) (part_from 32 asked) packed.parts.highs packed.parts.weights)
      ∙ ap (map weight_of) e ∙ weighted_weights ws p n

  pub seekable_point : All (λ x. x ≤ max_weight) ws → InRange p → 1 ≤ length p → Seekable asked
  seekable_point l r some =
      record {
        packed = packed;
        point = record {
          some = omega (arith, ends_length);
          most = omega (arith, packed.parts.few);
          ranges = stored_range (low_ends asked) (rw ends r);
          number = ap length weights_are ∙ n ∙ sym ends_length;
          light = rw weights_are l;
        };
        is = e ∙ (λ i. weighted (sym weights_are i) (sym ends i));
      }

pub preparable : (asked near whole : List ℕ) → Seekable asked → length near ≡ near_places → length whole ≡ whole_places → Preparable asked near whole
preparable asked near whole s n w =
    let ws = weights_in asked in let p = point_of (low_ends asked) in
    record {
      some = omega (arith, s.point.some, length-take (size_of asked) asked);
      packed = s.packed;
      ordered = rw s.is (weighted_ordered ws p);
      asks = rw s.is (weighted_asks max_weight ws p s.point.light (in_range_law s.point.ranges));
      places = n;
      wholes = w;
    }

-- a question that has no weights has those of ones
pub ones_in : (asked : List ℕ) → Seekable asked → Unweighted asked → weights_in asked ≡ replicate (length (low_ends asked)) 1
ones_in asked s u =
    let d = size_of asked in
    let same : length (weights_in asked) ≡ length (low_ends asked) = s.point.number in
    let few : length (low_ends asked) ≤ d = omega (arith, length-take d asked) in
    ext_get_or 0 (weights_in asked) (replicate (length (low_ends asked)) 1) (same ∙ sym (length-replicate {A = ℕ} (length (low_ends asked)) 1))
    (λ m h. let l : m < d = omega arith in
    get_or-take d (drop weights_from asked) m 0 l ∙ get_or-drop weights_from asked m 0 ∙ (u m l).0 ∙ sym (get_or-replicate {A = ℕ} (length (low_ends asked)) m 1 0 (omega arith)))
