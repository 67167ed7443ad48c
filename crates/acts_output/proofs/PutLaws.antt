-- Lines written one behind the other.
use Rattle.std.proofs.Common.{◌≡◌, refl, sym, ap, ◌∙◌, subst, List, [], ◌∷◌, ◌++◌, ℕ, suc, ◌+◌, ◌*◌, ◌≤◌, ◌<◌, length, get_or, arith, add-one, append_assoc, append-nil, take-suc}
use Rattle.std.proofs.lemmas.List.Edits.{sets-eq}
use Rattle.search_rows.specs.declared.Row.{Row}
use Rattle.search_rows.specs.Rows.{row_of}
use Rattle.search_rows.specs.Held.{rows_of, rows_in}
use Rattle.search_rows.proofs.HeldLaws.{length_rows_of, rows_of_at}
use Rattle.acts_fields.specs.Bytes.{Written, Stored}
use Rattle.acts_output.specs.Output.{result_line}
use Rattle.acts_fields.proofs.StoreLaws.{then, written}
use Rattle.acts_output.specs.Output.{row_lines}
use Rattle.acts_output.specs.Puts.{most_printed, Puts}

-- what is written within l is stored there
pub stored : (l t : List ℕ) (at r : ℕ) (w : List ℕ) → r ≤ length l → Written l t at r w → Stored l t at r w
stored l t at r w h p = let a = p.after in record { bytes = p.bytes ∙ sym (sets-eq w l at (omega arith)); after = a }

-- text behind text
pub written_then : (l s t : List ℕ) (at e r : ℕ) (xs ys : List ℕ) → e ≤ length l → r ≤ length l → length s ≡ length l → Written l s at e xs → Written s t e r ys → Written l t at r (xs ++ ys)
written_then l s t at e r xs ys h k n p q =
    written l t at r (xs ++ ys) k (then l s t at e r xs ys (stored l s at e xs h p) (stored s t e r ys (omega arith) q))

-- ---- THE ROWS OF A QUESTION

rows_last : (n code leaves : ℕ) (xs : List Row) (x : Row) → row_lines n code leaves (xs ++ (x ∷ [])) ≡ row_lines n code leaves xs ++ result_line n code x.id x.distance leaves
unfolding row_lines
rows_last n code leaves [] x = append-nil (result_line n code x.id x.distance leaves)
rows_last n code leaves (y ∷ xs) x =
    ap (λ (t : List ℕ). result_line n code y.id y.distance leaves ++ t) (rows_last n code leaves xs x)
    ∙ sym (append_assoc (result_line n code y.id y.distance leaves) (row_lines n code leaves xs) (result_line n code x.id x.distance leaves))

module _ (n leaves : ℕ) (hs ls out : List ℕ) (at : ℕ) where
  -- the lines of the first i rows are stored in out from at on
  pub record Rowed (out' : List ℕ) (e i : ℕ) : Type 0 where
    pub lines : Stored out out' at e (row_lines n 0 leaves (rows_in hs ls i))
    pub room : e ≤ at + 105 * i
    pub same : length out' ≡ length out

  pub rows_start : Rowed out at 0
  unfolding row_lines
  rows_start = record { lines = record { bytes = refl; after = omega arith }; room = omega arith; same = refl }

  pub rows_turn : (s t : List ℕ) (e r i : ℕ) (x : Row) → i < length hs → i < length ls → e + 105 ≤ length out → Rowed s e i → x ≡ row_of (get_or hs i 0) (get_or ls i 0)
      → Written s t e r (result_line n 0 x.id x.distance leaves) → r ≤ e + 105 → length t ≡ length s → Rowed t r (i + 1)
  rows_turn s t e r i x hh hl fit w same put room len =
      let q = w.same in let y = w.room in
      let fits : i < length (rows_of hs ls) = let z = length_rows_of (suc i) hs ls (omega arith) (omega arith) in omega arith in
      let more : rows_in hs ls (i + 1) ≡ rows_in hs ls i ++ (x ∷ []) =
      ap (λ (m : ℕ). rows_in hs ls m) (add-one i) ∙ take-suc (rows_of hs ls) i x fits ∙ ap (λ (z : Row). rows_in hs ls i ++ (z ∷ [])) (rows_of_at i hs ls x hh hl ∙ sym same) in
      let text : row_lines n 0 leaves (rows_in hs ls (i + 1)) ≡ row_lines n 0 leaves (rows_in hs ls i) ++ result_line n 0 x.id x.distance leaves =
      ap (row_lines n 0 leaves) more ∙ rows_last n 0 leaves (rows_in hs ls i) x in
      record {
        lines = subst (Stored out t at r) (sym text) (then out s t at e r _ _ w.lines (stored s t e r _ (omega arith) put));
        room = omega arith;
        same = len ∙ q;
      }

  pub rows_done : (out' : List ℕ) (e i count : ℕ) → count ≤ 64 → at + most_printed ≤ length out → i ≡ count → Rowed out' e i
      → Puts (λ t. t ≡ row_lines n 0 leaves (rows_in hs ls count)) most_printed out out' at e
  rows_done out' e i count few fit z w =
      let y = w.room in
      record {
        text = row_lines n 0 leaves (rows_in hs ls count);
        says = refl;
        written = written out out' at e _ (omega arith) (subst (λ (m : ℕ). Stored out out' at e (row_lines n 0 leaves (rows_in hs ls m))) z w.lines);
        room = omega arith;
      }
