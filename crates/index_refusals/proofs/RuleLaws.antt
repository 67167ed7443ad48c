-- The first rule that refuses, from the tests of the code.
use Rattle.std.specs.Prelude.{◌≡◌, refl, Bool, true, false, List, [], ◌∷◌, ◌++◌, ℕ, ◌≤◌, ◌<◌, ltb, get_or, ℤ, length, IsTrue, ◌↔◌, EachIndex}
use Rattle.std.proofs.Common.{arith, ltb-true, ltb-false}
use Rattle.lists.specs.Basics.{All}
use Rattle.lists.specs.Judges.{Judges, Decides, pass, fault}
use Rattle.lists.specs.Places.{all_places}
use Rattle.lists.specs.Tabulated.{all_at}
use Rattle.lists.specs.Tests.{by_cases, false_true}
use Rattle.geometry.specs.Stored.{in_range}
use Rattle.pagestore.specs.Store.{view_of, field_at, features, total}
use Rattle.tree_model.specs.Sound.{max_stage}
use Rattle.index_codes.specs.declared.Refusal.{Refusal}
use Rattle.index_codes.specs.Codes.{number_of}
use Rattle.index_codes.specs.CodeLaws.{some_number}
use Rattle.index_refusals.specs.declared.Epoch.{Epoch}
use Rattle.index_refusals.specs.Refusals.{Rule, First, bad_stage}
use Rattle.index_refusals.specs.RefusalLaws.{numbered, all_hold, refused_before, refused_after, later}
use Rattle.index_refusals.specs.Trusted.{trusted_insert, pair_rules}

-- ---- THE HEADER'S FIELDS

pub features_view : (b : List ℕ) → field_at features b ≡ (view_of b).d
unfolding view_of
features_view b = refl

pub total_view : (b : List ℕ) → field_at total b ≡ (view_of b).total
unfolding view_of
total_view b = refl

-- ---- TESTS

pub judge_lt : {P Q : Type 0} (a b : ℕ) → (a < b → P) → (b ≤ a → Q) → Judges P Q (ltb a b)
judge_lt {P} {Q} a b f g =
    by_cases (ltb a b)
    (λ e. rw e (pass (f (ltb-true a b e))))
    (λ e. rw e (fault (g (ltb-false a b e))))

-- of each number of a list
pub judge_each : (xs : List ℕ) (n : ℕ) (r : Bool) → (IsTrue r ↔ EachIndex xs (λ k. get_or xs k 0 ≤ n)) → Decides (All (λ x. x ≤ n) xs) r
judge_each xs n true h = pass (all_places 0 xs (h.0 refl))
judge_each xs n false h = fault (λ a. false_true (h.1 (λ k l. all_at a k 0 l)))

-- ---- RULES THAT OTHERS FOLLOW

module _ (rules rest : List Rule) where
  -- what refuses by the first ones refuses by all
  pub first_refuses : (e : Refusal) → First rules (number_of e) → First (rules ++ rest) (number_of e)
  first_refuses e f = refused_before rules rest (number_of e) (λ z. omega (arith, some_number e)) f

  pub first_passes : numbered rules ≡ true → First rules 0 → (n : ℕ) → First rest n → First (rules ++ rest) n
  first_passes w f n g = refused_after rules rest n (all_hold rules w f) g

-- the rule of the stage by itself
abbrev pub stage_rule : Epoch → List Rule
stage_rule x = (bad_stage, x.stage ≤ max_stage) ∷ []

-- an identifier and its point, whatever rules follow: there is a record
module _ (b : List ℕ) (i : ℕ) (p : List ℤ) (rest : List Rule) (w : numbered rest ≡ true) (f : First (pair_rules b i p ++ rest) 0) where
  pub pair_fits : (length p ≤ 16) × (in_range p ≡ true)
  pair_fits = let h = all_hold (pair_rules b i p ++ rest) w f in (h.1.1.0.1, h.1.1.1.0)

-- the rules of an insert that follow those of the identifier and its point, and those of the epoch
abbrev pub after_pair : List ℕ → Epoch → List ℤ → List Rule
after_pair b x p = later (later (later (later (later (trusted_insert b x p)))))

abbrev pub after_epoch : List ℕ → Epoch → List ℤ → List Rule
after_epoch b x p = later (after_pair b x p)
