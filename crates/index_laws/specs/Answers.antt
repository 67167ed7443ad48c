-- Demands 2 and 3 for the question as an act: rows, count and exchange, codes included.
use Rattle.std.specs.Prelude.{◌≡◌, true, List, ◌∷◌, map, ℕ}
use Rattle.std.proofs.Common.{sym}
use Rattle.std.proofs.Math.Path.{subst}
use Rattle.std.proofs.Math.Logic.{inl, inr}
use Rattle.geometry.specs.Stored.{in_range}
use Rattle.pagestore.specs.Store.{view_of}
use Rattle.tree_model.specs.Trees.{leaves_of}
use Rattle.tree_model.specs.Sound.{SoundIndex}
use Rattle.search_rows.specs.Rows.{distance}
use Rattle.search_model.specs.Questions.{Exchanged, reading_order, to_read}
use Rattle.search_model.specs.Visit.{leaves_read}
use Rattle.search_model.specs.OneStamp.{due_by_id, OneStamp}
use Rattle.index_query.specs.Asking.{Question, sought, Light, Suited}
use Rattle.index_query.proofs.AskingLaws.{read_ordered, any_stamp_exact, one_stamp_exact, exchange_same}
use Rattle.index_refusals.specs.Refusals.{First, bad_features, bad_coordinate, bad_weight, question_rules, asked_rules}
use Rattle.index_refusals.proofs.CarriedLaws.{question_sound, question_carried}
use Rattle.index_refusals.specs.Outcomes.{found_with}
use Rattle.index_query.specs.Answers.{Answers}
use Rattle.index_query.proofs.AnswerLaws.{search_answers}

-- ---- A QUESTION CARRIED OUT

module _ (b : List ℕ) (w : Question) (n : ℕ) (h : First (question_rules b w n) 0) where
  pub question_answers : Answers b w (found_with 0 b w)
  question_answers = let a = question_carried b w n h in search_answers b (question_sound b w n h) w a.features a.some a.dates

  -- which leaves it reads, and in which order: those of demand 3's set, by (bound, position)
  pub question_reads : leaves_read b (sought w) ≡ reading_order (view_of b) (sought w)
  question_reads = let a = question_carried b w n h in read_ordered b (question_sound b w n h) w a.features a.some

  -- stamps_idle (02, Q-9): whatever the stamps, the rows' distances and the count are those of 01's tie rule, the lower identifier
  pub stamps_idle : (map distance (found_with 0 b w).rows ≡ map distance (due_by_id (view_of b) (sought w)).rows) × ((found_with 0 b w).leaves ≡ (due_by_id (view_of b) (sought w)).leaves)
  stamps_idle = let a = question_carried b w n h in any_stamp_exact b (question_sound b w n h) w a.features a.some

  -- stamps_zero: where all candidates have one stamp, the rows too are those of 01's tie rule
  pub stamps_zero : (s : ℕ) → OneStamp (view_of b) (sought w) s → found_with 0 b w ≡ due_by_id (view_of b) (sought w)
  stamps_zero s one = let a = question_carried b w n h in one_stamp_exact b (question_sound b w n h) w a.features a.some s one

-- ---- EXCHANGE

-- of two sound indexes of the same d
code_kept : (b c : List ℕ) → SoundIndex b → SoundIndex c → (view_of c).d ≡ (view_of b).d → (w : Question) (n m : ℕ) → First (question_rules b w n) m → First (question_rules c w n) m
unfolding view_of
code_kept b c sb sc same w n m (inl e) = absurd (e.1 sb.lent)
code_kept b c sb sc same w n m (inr (l, inl e)) = absurd (e.1 sb)
code_kept b c sb sc same w n m (inr (l, inr (s, rest))) =
    inr (sc.lent, inr (sc, subst (λ (d : ℕ). First ((bad_features, Suited d w) ∷ (bad_coordinate, in_range w.point ≡ true) ∷ (bad_weight, Light w.weights) ∷ asked_rules w n) m) (sym same) rest))

-- two sound indexes of the same d
module _ (b c : List ℕ) (sb : SoundIndex b) (sc : SoundIndex c) (alike : (view_of c).d ≡ (view_of b).d) (w : Question) (n : ℕ) where
  -- the number is the same
  pub exchange_code : (m : ℕ) → First (question_rules b w n) m → First (question_rules c w n) m
  exchange_code m = code_kept b c sb sc alike w n m

  -- The leaves of b's set have the same records in c, any other leaf the same record number, first key and last key: rows and
  -- count are the same, and the rows are the k nearest of the records that c holds.
  pub exchange_answers : First (question_rules b w n) 0 → Exchanged (view_of b).d (to_read (view_of b) (sought w)) (leaves_of (view_of b)) (leaves_of (view_of c))
      → (found_with 0 c w ≡ found_with 0 b w) × Answers c w (found_with 0 b w)
  exchange_answers h x =
      let a = question_carried b w n h in
      let e : found_with 0 c w ≡ found_with 0 b w = exchange_same b sb w a.features a.some c sc alike x in
      (e, rw (sym e) (question_answers c w n (code_kept b c sb sc alike w n 0 h)))
