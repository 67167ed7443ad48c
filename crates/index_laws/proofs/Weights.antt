-- Q-1, channel weights, for the question as an act: weights of ones give what the question without weights gives, and weights of zeros the
-- candidates by the tie rule alone, with every leaf read that holds records. What a question with any weights gives is `Answers`.
use Rattle.std.specs.Prelude.{◌≡◌, true, ℕ, ◌≤◌, ℤ, length, take, replicate}
use Rattle.std.proofs.Common.{◌∙◌, inl, inr}
use Rattle.std.proofs.Math.Path.{ap}
use mathlib.Core.List.{List, ◌∷◌}
use Rattle.std.proofs.lemmas.List.{length-replicate}
use Rattle.lists.specs.Basics.{All}
use Rattle.lists.specs.Sorting.{count, sort}
use Rattle.calendar.specs.Days.{Days}
use Rattle.calendar.specs.Counting.{window_of}
use Rattle.geometry.specs.Features.{Feature}
use Rattle.geometry.specs.Stored.{in_range}
use Rattle.geometry.proofs.WeightLaws.{ones_plain}
use Rattle.pagestore_page.specs.declared.Record.{Record}
use Rattle.pagestore.specs.Store.{view_of, field_at, level}
use Rattle.tree_model.specs.Trees.{leaves_of}
use Rattle.tree_model.specs.Sound.{Permitted, SoundIndex}
use Rattle.search_rows.specs.Rows.{newest_tie}
use Rattle.search_model.specs.Numbers.{max_level}
use Rattle.search_model.specs.Asked.{distance_to}
use Rattle.search_model.specs.Visit.{Answer as Found, found}
use Rattle.search_model.specs.Questions.{rows_of, to_read}
use Rattle.index_query.specs.Asking.{Question, sought, AsMany, Light, Suited}
use Rattle.index_query.proofs.PointLaws.{ones_light}
use Rattle.index_refusals.specs.Refusals.{Rule, First, bad_length, unsound, bad_features, bad_coordinate, bad_weight, question_rules, asked_rules}
use Rattle.index_refusals.specs.Outcomes.{unless_refused, found_with, nothing_found}
use Rattle.index_refusals.specs.Trusted.{Suits, trusted_question}
use Rattle.index.specs.Acts.{question, does}
use Rattle.index_laws.specs.TrustedActs.{trusted_does}
use Rattle.index_laws.specs.Weights.{holds_records}
use Rattle.index_laws.specs.Weights as asked
use Rattle.index_laws.proofs.ZeroWeights as zero

-- ---- ONES

-- rules that differ in the conditions of 3 and 14 alone, which agree
agreeing : (x y z : Rule) (c d e f : Type 0) (rest : List Rule) (m : ℕ) → (c → d) → (d → c) → (e → f) → (f → e)
    → First (x ∷ y ∷ (bad_features, c) ∷ z ∷ (bad_weight, e) ∷ rest) m → First (x ∷ y ∷ (bad_features, d) ∷ z ∷ (bad_weight, f) ∷ rest) m
agreeing x y z c d e f rest m cd dc ef fe (inl h) = inl h
agreeing x y z c d e f rest m cd dc ef fe (inr (a, inl h)) = inr (a, inl h)
agreeing x y z c d e f rest m cd dc ef fe (inr (a, inr (b, inl h))) = inr (a, inr (b, inl (h.0, λ t. h.1 (dc t))))
agreeing x y z c d e f rest m cd dc ef fe (inr (a, inr (b, inr (t, inl h)))) = inr (a, inr (b, inr (cd t, inl h)))
agreeing x y z c d e f rest m cd dc ef fe (inr (a, inr (b, inr (t, inr (r, inl h))))) = inr (a, inr (b, inr (cd t, inr (r, inl (h.0, λ u. h.1 (fe u))))))
agreeing x y z c d e f rest m cd dc ef fe (inr (a, inr (b, inr (t, inr (r, inr (u, h)))))) = inr (a, inr (b, inr (cd t, inr (r, inr (ef u, h)))))

-- a point's question without weights, and with a weight of 1 for each coordinate. Since a table gives one number (`first_one`, `some_number`), what the
-- one returns the other does.
module _ (p : List ℤ) (k stages : ℕ) (days : Days) where
  abbrev unweighted : Question
  unweighted = asked.unweighted p k stages days

  abbrev by_ones : Question
  by_ones = asked.by_ones p k stages days

  -- are one question for the search
  same_found : (m : ℕ) (b : List ℕ) → found_with m b by_ones ≡ found_with m b unweighted
  same_found m b = ap (λ (fs : List Feature). unless_refused m (found b (record { features = fs; k = k; choice = record { stages = stages; window = window_of days } })) nothing_found) (ones_plain p)

  many_ones : (d : ℕ) → length p ≡ d → length {A = ℕ} (replicate (length p) 1) ≡ d
  many_ones d e = length-replicate {A = ℕ} (length p) 1 ∙ e

  module _ (b : List ℕ) (n m : ℕ) where
    pub ones_code : First (question_rules b by_ones n) m → First (question_rules b unweighted n) m
    ones_code f =
        agreeing (bad_length, Permitted (length b)) (unsound, SoundIndex b) (bad_coordinate, in_range p ≡ true) (Suited (view_of b).d by_ones) (Suited (view_of b).d unweighted) (Light by_ones.weights) (Light unweighted.weights) (asked_rules unweighted n) m
        (λ s. (s.0, tt)) (λ s. (s.0, many_ones (view_of b).d s.0)) (λ l. tt) (λ l. ones_light (length p)) f

    trusted_ones_code : First (trusted_question b by_ones n) m → First (trusted_question b unweighted n) m
    trusted_ones_code f =
        agreeing (bad_length, Permitted (length b)) (unsound, field_at level b ≤ max_level) (bad_coordinate, in_range p ≡ true) (Suits b p × AsMany (view_of b).d by_ones.weights) (Suits b p × AsMany (view_of b).d unweighted.weights)
        (Light by_ones.weights) (Light unweighted.weights) (asked_rules unweighted n) m
        (λ s. (s.0, tt)) (λ s. (s.0, many_ones (view_of b).d s.0.2)) (λ l. tt) (λ l. ones_light (length p)) f

  -- weighted_ones: weights of ones give number, rows and count of the question without weights, on any bytes; without the check too
  pub weighted_ones : (b : List ℕ) (n code : ℕ) (f : Found) (c : List ℕ) → does (question by_ones n) b code f c → does (question unweighted n) b code f c
  weighted_ones b n code f c h = (ones_code b n code h.0, h.1 ∙ same_found code b, h.2)

  pub trusted_ones : (b : List ℕ) (n code : ℕ) (f : Found) (c : List ℕ) → trusted_does (question by_ones n) b code f c → trusted_does (question unweighted n) b code f c
  trusted_ones b n code f c h = (trusted_ones_code b n code h.0, h.1 ∙ same_found code b, h.2)

-- ---- ZEROS

-- by weights that are all 0
module _ (p : List ℤ) (ws : List ℕ) (k stages : ℕ) (days : Days) (z : All (λ x. x ≡ 0) ws) where
  abbrev by_zeros : Question
  by_zeros = asked.by_zeros p ws k stages days

  -- every distance is 0
  pub zeros_apart : (r : Record) → distance_to (sought by_zeros) r ≡ 0
  zeros_apart r = zero.zeros_apart p ws k stages days z r

  module _ (b : List ℕ) (n : ℕ) (h : First (question_rules b by_zeros n) 0) where
    -- zeros_read: a leaf is read just if it holds records
    pub zeros_read : All (λ t. to_read (view_of b) (sought by_zeros) t ≡ holds_records t) (leaves_of (view_of b))
    zeros_read = zero.zeros_read p ws k stages days z b n h

    -- so as many are read as hold records, and the rows go by the tie rule alone
    pub zeros_leaves : (found_with 0 b by_zeros).leaves ≡ count holds_records (leaves_of (view_of b))
    zeros_leaves = zero.zeros_leaves p ws k stages days z b n h

    pub zeros_rows : (found_with 0 b by_zeros).rows ≡ take k (sort newest_tie (rows_of (view_of b) (sought by_zeros)))
    zeros_rows = zero.zeros_rows p ws k stages days z b n h
