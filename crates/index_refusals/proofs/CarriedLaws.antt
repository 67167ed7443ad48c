-- What an act that is not refused has of a question.
use Rattle.std.specs.Prelude.{◌≡◌, refl, true, List, ℕ}
use Rattle.geometry.specs.Stored.{in_range}
use Rattle.pagestore.specs.Store.{view_of}
use Rattle.tree_model.specs.Sound.{SoundIndex}
use Rattle.index_query.specs.Asking.{Question, Light, Suited}
use Rattle.index_refusals.specs.Refusals.{First, question_rules, asked_rules}
use Rattle.index_refusals.specs.RefusalLaws.{Carried, Hold, all_hold}
use Rattle.index_refusals.specs.Trusted.{trusted_question}

pub asked_carried : (d : ℕ) (w : Question) (n : ℕ) → Suited d w → in_range w.point ≡ true → Light w.weights → Hold (asked_rules w n) → Carried d w n
asked_carried d w n e r l h = record { features = e; ranges = r; light = l; some = h.0.0; most = h.0.1; lent = h.1.0; set = h.1.1.0; dates = h.1.1.1.0; order = h.1.1.1.1.0 }

-- and conversely
pub carried_asked : (d : ℕ) (w : Question) (n : ℕ) → Carried d w n → Hold (asked_rules w n)
carried_asked d w n h = ((h.some, h.most), (h.lent, (h.set, (h.dates, (h.order, tt)))))

module _ (b : List ℕ) (w : Question) (n : ℕ) (h : First (question_rules b w n) 0) where
  pub question_sound : SoundIndex b
  question_sound = (all_hold (question_rules b w n) refl h).1.0

  pub question_carried : Carried (view_of b).d w n
  question_carried = let a = all_hold (question_rules b w n) refl h in asked_carried (view_of b).d w n a.1.1.0 a.1.1.1.0 a.1.1.1.1.0 a.1.1.1.1.1

pub trusted_carried : (b : List ℕ) (w : Question) (n : ℕ) → First (trusted_question b w n) 0 → Carried (view_of b).d w n
trusted_carried b w n h = let a = all_hold (trusted_question b w n) refl h in asked_carried (view_of b).d w n (a.1.1.0.0.2, a.1.1.0.1) a.1.1.1.0 a.1.1.1.1.0 a.1.1.1.1.1
