-- Laws of the rows that are filled one after another.
use Rattle.std.specs.Prelude.{◌≡◌, ℕ, suc, ◌+◌, ◌≤◌, ◌<◌, List, [], ◌∷◌, ◌++◌, length, set, get_or, drop}
use Rattle.std.proofs.Common.{sym, ◌∙◌, ap, add-one, arith, append_assoc, drop-cons, take-suc, length-take-le}
use Rattle.std.proofs.Math.Seq.{set-append_seam}
use Rattle.search_rows.specs.declared.Row.{Row}
use Rattle.search_rows.specs.Held.{rows_of, rows_in}
use Rattle.search_rows.proofs.HeldLaws.{length_rows_of, rows_of_at}
use Rattle.index_answer.specs.Filling.{row_at, rows_lent, up_to, filled}

module _ (hs ls : List ℕ) where
  pub rows_held : (n : ℕ) → n ≤ length hs → n ≤ length ls → length (rows_in hs ls n) ≡ n
  rows_held n h g = length-take-le n (rows_of hs ls) (length_rows_of n hs ls h g)

  rows_next : (i : ℕ) → i < length hs → i < length ls → rows_in hs ls i ++ (row_at hs ls i ∷ []) ≡ rows_in hs ls (suc i)
  rows_next i h g =
      ap (λ (x : Row). rows_in hs ls i ++ (x ∷ [])) (sym (rows_of_at i hs ls (row_at hs ls i) h g))
      ∙ sym (take-suc (rows_of hs ls) i (row_at hs ls i) (let r = length_rows_of (suc i) hs ls (omega arith) (omega arith) in omega arith))

  pub up_to_next : (xs : List Row) (i : ℕ) → i < length hs → i < length ls → i < length xs → set (up_to hs ls xs i) i (row_at hs ls i) ≡ up_to hs ls xs (i + 1)
  up_to_next xs i h g w =
      let x : Row = row_at hs ls i in
      ap (λ (r : List Row). set (rows_in hs ls i ++ r) i x) (drop-cons xs i x w)
      ∙ ap (λ (k : ℕ). set (rows_in hs ls i ++ get_or xs i x ∷ drop (suc i) xs) k x) (sym (rows_held i (omega arith) (omega arith)))
      ∙ set-append_seam (rows_in hs ls i) (get_or xs i x) (drop (suc i) xs) x
      ∙ sym (append_assoc (rows_in hs ls i) (x ∷ []) (drop (suc i) xs))
      ∙ ap (λ (r : List Row). r ++ drop (suc i) xs) (rows_next i h g)
      ∙ ap (up_to hs ls xs) (sym (add-one i))

  -- candidates that have their places are all written
  pub filled_is : (count : ℕ) (old : List Row) → count ≤ length hs → count ≤ length ls → count ≤ length old → filled hs ls count old ≡ rows_in hs ls count ++ drop count old
  filled_is count old h l lent =
      let e : rows_lent hs ls count (length old) ≡ count = omega arith in
      ap (up_to hs ls old) e
