-- check_sound: what the check's answer says of an index of a permitted length.
use Rattle.std.specs.Prelude.{◌≡◌, refl, List, ℕ, length, Result, Ok, Err}
use Rattle.std.proofs.lemmas.Result.{MatchResult-at_err}
use Rattle.pagestore.specs.Store.{view_of}
use Rattle.tree_model.specs.Sound.{Permitted, SoundIndex}
use Rattle.sound_faults.specs.declared.Fault.{Fault}
use Rattle.sound_faults.specs.Faults.{FailsAt}
use Rattle.sound_faults.proofs.Decided.{sound_none}
use Rattle.sound_check.specs.Outcome.{Verdict}

-- Ok for a sound index and for no other; with any fault the page is one at which soundness fails
pub record CheckSound (b : List ℕ) (r : Result (Unit {0}) Fault) : Type 0 where
  pub ok_sound : r ≡ Ok tt → SoundIndex b
  pub sound_ok : SoundIndex b → r ≡ Ok tt
  pub err_fails : (f : Fault) → r ≡ Err f → FailsAt (view_of b) f.page

pub check_sound : (b : List ℕ) (r : Result (Unit {0}) Fault) → Permitted (length b) → Verdict b r → CheckSound b r
check_sound b (Ok u) lent s = record { ok_sound = λ e. s lent; sound_ok = λ h. refl; err_fails = λ f e. absurd (cc) }
check_sound b (Err f) lent q = record {
  ok_sound = λ e. absurd (cc);
  sound_ok = λ h. absurd (sound_none b h f.page q);
  err_fails = λ g e. MatchResult-at_err (λ _. Permitted (length b) → SoundIndex b) (λ x. FailsAt (view_of b) x.page) g e q;
}
