-- What a line does and prints.
use Rattle.std.proofs.Common.{◌≡◌, refl, sym, ap, ◌∙◌, subst, List, ◌++◌, ℕ, ◌+◌, ◌≤◌, length, Option, Some, None, arith}
use Rattle.pagestore.specs.Store.{new_index}
use Rattle.tree_model.specs.Sound.{Permitted}
use Rattle.index_refusals.specs.Refusals.{First, make_rules}
use Rattle.index_refusals.specs.RefusalLaws.{first_one, none_fails}
use Rattle.index_refusals.specs.Outcomes.{made_with}
use Rattle.acts_text.specs.declared.ActLine.{ActLine}
use Rattle.acts_fields.specs.Bytes.{Written}
use Rattle.acts_text.specs.Lines.{act_of}
use Rattle.acts_text.specs.Names.{names_in}
use Rattle.acts_output.specs.Output.{heading, result_line}
use Rattle.acts_text.proofs.LineLaws.{act_writes}
use Rattle.acts_text.proofs.NameLaws.{names_writes}
use Rattle.acts_output.specs.Puts.{most_printed, Puts}
use Rattle.acts_step.specs.Steps.{index_bytes, asked_by, Acted, Steps, passed, acted, Begins, ends, begins}
use Rattle.acts_output.proofs.PutLaws.{written_then}

-- ---- A LINE OF VALUES

module _ (d : ℕ) (l : List ℕ) (o : Option ActLine) (e : o ≡ act_of d l) where
  pub few_coordinates : (a : ActLine) → o ≡ Some a → a.d ≤ 16
  few_coordinates a h = let w = (act_writes d l a (sym e ∙ h)).1.named in omega (arith, w.0, w.1)

  module _ (b : List ℕ) (n : ℕ) (out out' : List ℕ) (at r : ℕ) where
    pub step_passed : o ≡ None → Written out out' at r (result_line n 13 0 0 0) → r ≤ at + 105 → Puts (Steps d b n l b) most_printed out out' at r
    step_passed h w room = record {
      text = result_line n 13 0 0 0;
      says = passed (sym e ∙ h) refl refl;
      written = w;
      room = omega arith;
    }

    pub step_acted : (c : List ℕ) (a : ActLine) → o ≡ Some a → Puts (Acted (asked_by a) b n c) most_printed out out' at r → Puts (Steps d b n l c) most_printed out out' at r
    step_acted c a h w = record {
      text = w.text;
      says = acted a (sym e ∙ h) w.says;
      written = w.written;
      room = w.room;
    }

-- ---- THE FIRST LINE

-- 64 pages are a permitted number
pub lent : (b : List ℕ) → length b ≡ index_bytes → Permitted (length b)
lent b len = subst Permitted (sym len) (record { whole = refl; low = omega arith; high = omega arith })

-- a 64-page index is made
pub makes : (b c : List ℕ) (d code : ℕ) → length b ≡ index_bytes → 1 ≤ d → d ≤ 16 → First (make_rules (length b) d) code → c ≡ made_with code b d → c ≡ new_index b d
makes b c d code len low high first e =
    let z : code ≡ 0 = first_one (make_rules (length b) d) code 0 first (none_fails (make_rules (length b) d) (lent b len, ((low, high), tt))) in
    e ∙ ap (λ (x : ℕ). made_with x b d) z

pub few_features : (l : List ℕ) (d : ℕ) → names_in l ≡ Some d → (1 ≤ d) × (d ≤ 16)
few_features l d e = let w = names_writes l d e in (w.1, w.2)

module _ (b l out : List ℕ) (o : Option ℕ) (at : ℕ) (e : o ≡ names_in l) where
  pub first_ends : (s t : List ℕ) (x r : ℕ) → o ≡ None → at + most_printed ≤ length out → Written out s at x heading → length s ≡ length out
      → Written s t x r (result_line 1 13 0 0 0) → r ≤ x + 105 → Puts (Begins b l o b) most_printed out t at r
  first_ends s t x r z fit h len w room =
      let y : x ≡ at + 25 = h.after in
      record {
        text = heading ++ result_line 1 13 0 0 0;
        says = ends (sym e ∙ z) z refl refl;
        written = written_then out s t at x r heading (result_line 1 13 0 0 0) (omega arith) (omega arith) len h w;
        room = omega arith;
      }

  pub first_begins : (c s : List ℕ) (x n code : ℕ) → o ≡ Some n → length b ≡ index_bytes → Written out s at x heading
      → First (make_rules (length b) n) code → c ≡ made_with code b n → Puts (Begins b l (Some n) c) most_printed out s at x
  first_begins c s x n code z len h first f =
      let y : x ≡ at + 25 = h.after in
      let w = few_features l n (sym e ∙ z) in
      record {
        text = heading;
        says = begins n (sym e ∙ z) refl (makes b c n code len w.0 w.1 first f) refl;
        written = h;
        room = omega arith;
      }
