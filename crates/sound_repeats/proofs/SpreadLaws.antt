-- Identifiers that differ by their low bits: one more met, and what holds when all are.
use Rattle.std.proofs.Common.{ℕ, ◌+◌, ◌≤◌, ◌<◌, ◌%◌, ◌≡◌, ap, sym, ◌∙◌, ◌≢◌, List, arith, length, get_or, set, get_or-set_same, get_or-set_other}
use Rattle.lists.specs.Tests.{decide}
use Rattle.lists.specs.Distinct.{Distinct, places_distinct}

-- the first n identifiers are marked, and differ
pub record Marked (places n : ℕ) (ids seen : List ℕ) : Type 0 where
  mark : (k : ℕ) → k < n → get_or seen (get_or ids k 0 % places) 0 ≡ 1
  apart : (i k : ℕ) → i < n → k < n → k ≢ i → get_or ids k 0 ≢ get_or ids i 0

pub marked_none : (places : ℕ) (ids seen : List ℕ) → Marked places 0 ids seen
marked_none places ids seen = record { mark = λ k h. absurd (omega arith); apart = λ i k h g n e. omega arith }

module _ (places n : ℕ) (ids seen : List ℕ) where
  -- an identifier whose place is not marked differs from those that are
  fresh : Marked places n ids seen → get_or seen (get_or ids n 0 % places) 0 ≢ 1 → (k : ℕ) → k < n → get_or ids k 0 ≢ get_or ids n 0
  fresh m f k h e = f (ap (λ (x : ℕ). get_or seen (x % places) 0) (sym e) ∙ m.mark k h)

  pub marked_more : get_or ids n 0 % places < length seen → get_or seen (get_or ids n 0 % places) 0 ≢ 1 → Marked places n ids seen
      → Marked places (n + 1) ids (set seen (get_or ids n 0 % places) 1)
  marked_more l f m = record {
    mark = λ k h. decide (get_or ids k 0 % places) (get_or ids n 0 % places)
        (λ e. rw e (get_or-set_same seen (get_or ids n 0 % places) 1 0 l))
        (λ e. get_or-set_other seen (get_or ids n 0 % places) (get_or ids k 0 % places) 1 0 e
        ∙ m.mark k (decide k n (λ d. absurd (e (ap (λ (x : ℕ). get_or ids x 0 % places) d))) (λ d. omega (arith, d))));
    apart = λ i k h g d e. decide i n
        (λ a. fresh m f k (omega (arith, d)) (rw a at e))
        (λ a. decide k n
        (λ b. fresh m f i (omega (arith, a)) (sym (rw b at e)))
        (λ b. m.apart i k (omega (arith, a)) (omega (arith, b)) d e));
  }

  pub marked_all : length ids ≤ n → Marked places n ids seen → Distinct ids
  marked_all l m = places_distinct 0 ids (λ i k h g. m.apart i k (omega arith) (omega arith))
