-- The list of a question, filled place by place.
use Rattle.std.proofs.Common.{◌≡◌, refl, sym, ap, ◌∙◌, List, ℕ, ◌+◌, ◌≤◌, ◌<◌, arith, length, get_or, take, drop, length-take, length-drop, get_or-take, get_or-drop, ext_get_or, length-take-le}
use Rattle.geometry_slices.proofs.QuestionLaws.{Even, length_reaches, reach_at_place}
use Rattle.geometry_slices.specs.Questions.{features_of, reach_at, reaches_of, size_of, asked_of, Packed, LaidOut}

-- the four numbers of coordinate k
abbrev pub Placed : List ℕ → List ℕ → List ℕ → List ℕ → ℕ → Type 0
Placed ls hs ws r k = (get_or r k 0 ≡ get_or ls k 0) × (get_or r (16 + k) 0 ≡ get_or hs k 0) × (get_or r (32 + k) 0 ≡ get_or ws k 0) × (get_or r (48 + k) 0 ≡ reach_at (get_or ls k 0) (get_or hs k 0))

-- a part of the list, by its places
part_is : (r xs : List ℕ) (s d : ℕ) → length xs ≡ d → s + d ≤ 48 + d → 48 + d ≤ length r → ((k : ℕ) → k < d → get_or r (s + k) 0 ≡ get_or xs k 0) → take d (drop s (take (48 + d) r)) ≡ xs
part_is r xs s d e u v f =
    let n : length (take (48 + d) r) ≡ 48 + d = length-take-le (48 + d) r v in
    let m : length (take d (drop s (take (48 + d) r))) ≡ d = length-take d (drop s (take (48 + d) r)) ∙ omega (arith, length-drop s (take (48 + d) r)) in
    ext_get_or 0 (take d (drop s (take (48 + d) r))) xs (m ∙ sym e)
    (λ k h. get_or-take d (drop s (take (48 + d) r)) k 0 (omega arith) ∙ (get_or-drop s (take (48 + d) r) k 0 ∙ (get_or-take (48 + d) r (s + k) 0 (omega arith) ∙ f k (omega arith))))

module _ (ls hs ws r : List ℕ) (few : length ls ≤ 16) (v : Even ls hs ws) (l : length r ≡ 64) (f : (k : ℕ) → k < length ls → Placed ls hs ws r k) where
  lent : List ℕ
  lent = take (48 + length ls) r

  size : size_of (take (48 + length ls) r) ≡ length ls
  size = omega (arith, length-take-le (48 + length ls) r (omega arith))

  lows : take (length ls) (drop 0 (take (48 + length ls) r)) ≡ ls
  lows = part_is r ls 0 (length ls) refl (omega arith) (omega arith) (λ k h. ap (λ (n : ℕ). get_or r n 0) (let e : 0 + k ≡ k = omega arith in e) ∙ (f k h).0)

  highs : take (length ls) (drop 16 (take (48 + length ls) r)) ≡ hs
  highs = part_is r hs 16 (length ls) v.0 (omega arith) (omega arith) (λ k h. (f k h).1)

  weights : take (length ls) (drop 32 (take (48 + length ls) r)) ≡ ws
  weights = part_is r ws 32 (length ls) v.1 (omega arith) (omega arith) (λ k h. (f k h).2)

  reaches : take (length ls) (drop 48 (take (48 + length ls) r)) ≡ reaches_of ls hs
  reaches = part_is r (reaches_of ls hs) 48 (length ls) (length_reaches ls hs v.0) (omega arith) (omega arith) (λ k h. (f k h).3 ∙ sym (reach_at_place ls hs k h (omega (arith, v.0))))

  pub packed_is : Packed (take (48 + length ls) r)
  packed_is =
      record {
        whole = omega (arith, length-take-le (48 + length ls) r (omega arith));
        parts = rw (size, lows, highs, weights, reaches) (record { few = few; highs = v.0; weights = v.1; alike = length_reaches ls hs v.0; reaches = refl });
      }

  pub asked_is : asked_of (take (48 + length ls) r) ≡ features_of ls hs ws
  unfolding asked_of
  asked_is = rw (size, lows, highs, weights)

  pub laid_out : LaidOut ls hs ws r
  laid_out = record { places = l; packed = packed_is; same = asked_is }
