-- What check answers (01): a number, and a page.
use Rattle.std.specs.Prelude.{◌≡◌, refl, ◌≢◌, List, [], ◌++◌, ℕ, ◌<◌, length, Result, Ok, Err}
use Rattle.std.proofs.Common.{inl, inr, arith}
use Rattle.pagestore.specs.Store.{view_of}
use Rattle.tree_model.specs.Sound.{Permitted}
use Rattle.sound_faults.specs.Faults.{FailsAt}
use Rattle.sound_faults.proofs.Decided.{sound_none}
use Rattle.sound_faults.specs.declared.Fault.{Fault}
use Rattle.sound_check.specs.Outcome.{Verdict}
use Rattle.index_codes.specs.declared.Refusal.{Refusal}
use Rattle.index_codes.specs.declared.Refusal.TheVariants.{BadLength, Unsound}
use Rattle.index_codes.specs.Codes.{number_of}
use Rattle.index.specs.declared.checking.Flaw.{Flaw}
use Rattle.index.specs.declared.checking.Flaw.TheVariants.{Length, Page}
use Rattle.index.specs.declared.checking.Checked.{Checked}
use Rattle.index_refusals.specs.Refusals.{Rule, First, unsound, bad_length, live_times, check_rules}

-- a flaw as an act is refused for it, and its page
abbrev pub refusal_of : Flaw → Refusal
refusal_of Length = BadLength
refusal_of (Page fault) = Unsound

abbrev pub page_of : Flaw → ℕ
page_of Length = 0
page_of (Page fault) = fault.page

-- an outcome as C is answered
abbrev pub checked_of : Result (Unit {0}) Flaw → Checked
checked_of (Ok done) = record { code = 0; page = 0 }
checked_of (Err flaw) = record { code = number_of (refusal_of flaw); page = page_of flaw }

-- of the bytes b: the first number of check's order that applies; the page is 0 with 0 or 1, and with 2 one at which soundness fails
pub record CheckAnswer (b : List ℕ) (r : Checked) : Type 0 where
  pub first : First (check_rules b) r.code
  pub none : r.code ≢ unsound → r.page ≡ 0
  pub fault : r.code ≡ unsound → FailsAt (view_of b) r.page

pub check_one : (b : List ℕ) → ¬ Permitted (length b) → CheckAnswer b (record { code = bad_length; page = 0 })
check_one b w = record { first = inl (refl, w); none = λ n. refl; fault = λ e. absurd (omega (arith, e)) }

-- the check of an index of a permitted length
abbrev pub checked_by : Result (Unit {0}) Fault → Checked
checked_by (Ok done) = record { code = 0; page = 0 }
checked_by (Err fault) = record { code = unsound; page = fault.page }

pub check_passes : (b : List ℕ) (r : Result (Unit {0}) Fault) → Permitted (length b) → Verdict b r → CheckAnswer b (checked_by r)
check_passes b (Ok done) l s = record { first = inr (l, inr (s l, refl)); none = λ n. refl; fault = λ e. absurd (omega (arith, e)) }
check_passes b (Err fault) l f = record { first = inr (l, inl (refl, λ s. sound_none b s fault.page f)); none = λ n. absurd (n refl); fault = λ e. f }

-- where an identifier is live twice, any act whose rules begin with check's is refused with 2
pub repeated_refused : (b : List ℕ) (rest : List Rule) (i n : ℕ) → Permitted (length b) → 1 < live_times b i → First (check_rules b ++ rest) n → n ≡ unsound
repeated_refused b rest i n l h (inl e) = absurd (e.1 l)
repeated_refused b rest i n l h (inr (p, inl e)) = e.0
repeated_refused b rest i n l h (inr (p, inr (s, e))) = absurd (omega (arith, s.distinct i))

pub check_repeated : (b : List ℕ) (r : Checked) (i : ℕ) → CheckAnswer b r → Permitted (length b) → 1 < live_times b i → r.code ≡ unsound
check_repeated b r i a l h = repeated_refused b [] i r.code l h a.first
