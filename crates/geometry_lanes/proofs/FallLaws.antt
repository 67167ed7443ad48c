-- Lanes without weights: what coordinates fall by is what they pull, and enough of them are summed.
use Rattle.std.proofs.Common.{◌≡◌, refl, ap, sym, ◌∙◌, Bool, true, false, List, ℕ, ◌+◌, ◌*◌, ◌-◌, ◌≤◌, ◌<◌, arith, le-leb, leb, get_or}
use native.Mathlib.Decide.{dec_le}
use borrow.Author.Tests.{lt-leb}
use Rattle.lists.specs.Basics.{if}
use Rattle.geometry_slices.proofs.RowLaws.{sum_ext, sum_parts}
use Rattle.geometry_slices.specs.Questions.{size_of, sum_to, Unweighted}
use Rattle.geometry_lanes.specs.Lanes.{pull_at, fall_at, summed, summed_in, UnweightedLanes, Falls, Weights}

-- how many coordinates are summed
pub in_4 : (unweighted : Bool) (n : ℕ) → n ≤ 8 → 4 ≡ summed_in unweighted n
in_4 unweighted n l = rw (le-leb n 8 l)

pub in_unweighted : (unweighted : Bool) (n : ℕ) → 8 < n → unweighted ≡ true → 16 ≡ summed_in unweighted n
in_unweighted unweighted n l e = rw (lt-leb n 8 l, e)

pub in_8 : (unweighted : Bool) (n : ℕ) → 8 < n → unweighted ≡ false → n ≤ 16 → 8 ≡ summed_in unweighted n
in_8 unweighted n l e k = rw (lt-leb n 8 l, e, le-leb n 16 k)

pub in_16 : (unweighted : Bool) (n : ℕ) → 8 < n → unweighted ≡ false → 16 < n → 16 ≡ summed_in unweighted n
in_16 unweighted n l e k = rw (lt-leb n 8 l, e, lt-leb n 16 k)

pub in_enough : (unweighted : Bool) (d n : ℕ) → d ≤ 16 → d ≤ summed n → d ≤ summed_in unweighted n
in_enough unweighted d n l = by (leb n 8) unweighted
  where
    by : (x y : Bool) → d ≤ if x 4 (if (leb n 16) 8 16) → d ≤ if x 4 (if y 16 (if x 4 (if (leb n 16) 8 16)))
    by true y k = k
    by false true k = l
    by false false k = k

-- what coordinates fall by, one after the other
module _ (falls : List ℕ) (t : ℕ) where
  later : (at k q m : ℕ) → k ≡ 32 * q → fall_at falls (at + k) t m ≡ fall_at falls at t (q + m)
  later at k q m e = ap (λ (n : ℕ). get_or falls n 0 - t) (let i : at + k + 32 * m ≡ at + 32 * (q + m) = omega arith in i)

  -- n coordinates after the first q, whose rows begin k places on
  pub falls_on : (at k q n x y : ℕ) → x ≡ sum_to q (fall_at falls at t) → y ≡ sum_to n (fall_at falls (at + k) t) → k ≡ 32 * q
      → x + y ≡ sum_to (q + n) (fall_at falls at t)
  falls_on at k q n x y f g e =
      let s = sum_ext n (fall_at falls (at + k) t) (λ (m : ℕ). fall_at falls at t (q + m)) (λ m l. later at k q m e) in
      omega (arith, f, g, s, sum_parts n q (fall_at falls at t))

  -- one coordinate after the first q, at place i
  pub falls_next : (at i q x y : ℕ) → x ≡ sum_to q (fall_at falls at t) → y ≡ get_or falls i 0 - t → i ≡ at + 32 * q
      → x + y ≡ sum_to (q + 1) (fall_at falls at t)
  unfolding sum_to
  falls_next at i q x y f g e =
      let z : i ≡ at + 32 * q + 32 * 0 = omega arith in
      let w : get_or falls i 0 - t ≡ fall_at falls (at + 32 * q) t 0 = ap (λ (n : ℕ). get_or falls n 0 - t) z in
      falls_on at (32 * q) q 1 x y f (omega (arith, g, w)) refl

  pub fall_small : ((x : ℕ) → get_or falls x 0 ≤ 2001) → (i y : ℕ) → y ≡ get_or falls i 0 - t → y ≤ 2001
  fall_small h i y e = omega (arith, h i)

-- a lane's sum without weights
pub falls_pull : (falls weights : List ℕ) (n k i t sum : ℕ) → UnweightedLanes falls weights n → i < n → sum ≡ sum_to k (fall_at falls i t)
    → sum ≡ sum_to k (pull_at falls weights i t)
falls_pull falls weights n k i t sum p l e = e ∙ sym (sum_ext k (pull_at falls weights i t) (fall_at falls i t) (λ m u. p i t m l))

-- the lanes of a question without weights
times_one : (w x t : ℕ) → w ≡ 1 → w * (x - t) ≡ x - t
times_one w x t e = rw e (omega arith)

of_nothing : (w x t : ℕ) → x ≡ 0 → w * (x - t) ≡ x - t
of_nothing w x t e = let z : x - t ≡ 0 = omega arith in rw z (omega arith)

pub unweighted_lanes : (a falls weights : List ℕ) (n : ℕ) → Unweighted a → Falls a falls (size_of a) → Weights a weights n (size_of a)
    → UnweightedLanes falls weights n
unweighted_lanes a falls weights n p f w i t m l = by (dec_le (size_of a) m)
  where
    by : Dec (size_of a ≤ m) → pull_at falls weights i t m ≡ fall_at falls i t m
    by (yes k) = of_nothing (get_or weights (i + 32 * m) 0) (get_or falls (i + 32 * m) 0) t (f.past (i + 32 * m) (omega arith))
    by (no k) =
        let u : m < size_of a = omega arith in
        times_one (get_or weights (i + 32 * m) 0) (get_or falls (i + 32 * m) 0) t (w.each m i u l ∙ (p m u).0)
