-- The check's rules, and a question's rules, which begin with them.
use Rattle.std.specs.Prelude.{refl, List, ℕ}
use Rattle.tree_model.specs.Sound.{SoundIndex}
use Rattle.index_codes.specs.declared.Refusal.{Refusal}
use Rattle.index_codes.specs.Codes.{number_of}
use Rattle.index_query.specs.Asking.{Question}
use Rattle.index_refusals.specs.Refusals.{First, check_rules, question_rules}
use Rattle.index_refusals.specs.RefusalLaws.{all_hold, later}
use Rattle.index_refusals.proofs.RuleLaws.{first_refuses}

module _ (b : List ℕ) where
  pub checked_sound : First (check_rules b) 0 → SoundIndex b
  checked_sound f = (all_hold (check_rules b) refl f).1.0

  -- a question begins with the check's rules
  pub question_unsound : (e : Refusal) → First (check_rules b) (number_of e) → (w : Question) (m : ℕ) → First (question_rules b w m) (number_of e)
  question_unsound e f w m = first_refuses (check_rules b) (later (later (question_rules b w m))) e f
