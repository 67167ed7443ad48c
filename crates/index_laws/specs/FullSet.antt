-- full_set_law (02, Q-2: "The full set returns what 01 does"), for the question as an act: with all six marks set and no dates, number, rows and count are
-- those of 01's question, which knows no stages, no weights and no dates. The tie rule is Q-9's; where all live stamps are equal it is 01's too (`plain_answer`).
use Rattle.std.specs.Prelude.{◌≡◌, refl, true, List, [], ◌∷◌, ◌++◌, ℕ, ◌≤◌, ℤ, length}
use Rattle.std.proofs.Common.{sym, subst, inl, inr, lit≤}
use Rattle.calendar.specs.Days.{undated}
use Rattle.geometry.specs.Stored.{in_range}
use Rattle.pagestore.specs.Store.{view_of}
use Rattle.tree_model.specs.Sound.{Permitted, SoundIndex}
use Rattle.search_model.specs.Asked.{full_set}
use Rattle.search_model.specs.Visit.{ranking}
use Rattle.search_model.specs.FullSet.{plain_due}
use Rattle.search_model.specs.OneStamp.{id_ranking, OneStampLive}
use Rattle.index_query.specs.Asking.{Question, nearest_of, sought, max_rows}
use Rattle.index_query.proofs.AskingLaws.{full_exact, plain_exact}
use Rattle.index_refusals.specs.Refusals.{Rule, First, question_rules, bad_length, unsound, bad_features, bad_coordinate, bad_k, few_rows, bad_stage_set, day_rules}
use Rattle.index_refusals.specs.RefusalLaws.{Hold, first_one, none_fails}
use Rattle.index_refusals.proofs.CarriedLaws.{question_sound, question_carried}
use Rattle.index_refusals.specs.Outcomes.{found_with}

-- its rules of the number of rows
abbrev pub row_rules : ℕ → ℕ → List Rule
row_rules k n =
    (bad_k, (1 ≤ k) × (k ≤ max_rows))
    ∷ (few_rows, k ≤ n)
    ∷ []

-- 01's table of a question: the k nearest of a point, with n rows lent (sound as 02 has it: with a stored stage above 5 the number is 2)
abbrev pub plain_rules : List ℕ → List ℤ → ℕ → ℕ → List Rule
plain_rules b p k n =
    (bad_length, Permitted (length b))
    ∷ (unsound, SoundIndex b)
    ∷ (bad_features, length p ≡ (view_of b).d)
    ∷ (bad_coordinate, in_range p ≡ true)
    ∷ row_rules k n

-- the rules of the set, of the full one, and of no dates: they hold
abbrev full_rules : List Rule
full_rules = (bad_stage_set, (1 ≤ full_set) × (full_set ≤ full_set)) ∷ day_rules undated

full_hold : Hold full_rules
full_hold = ((lit≤ tt, lit≤ tt), (tt, (tt, tt)))

-- last rules that hold can be left out, and put after others
left_out : (rules rest : List Rule) (m : ℕ) → Hold rest → First (rules ++ rest) m → First rules m
left_out [] rest m h f = first_one rest m 0 f (none_fails rest h)
left_out (x ∷ rules) rest m h (inl e) = inl e
left_out (x ∷ rules) rest m h (inr e) = inr (e.0, left_out rules rest m h e.1)

put_after : (rules rest : List Rule) (m : ℕ) → Hold rest → First rules m → First (rules ++ rest) m
put_after [] rest m h e = subst (First rest) (sym e) (none_fails rest h)
put_after (x ∷ rules) rest m h (inl e) = inl e
put_after (x ∷ rules) rest m h (inr e) = inr (e.0, put_after rules rest m h e.1)

module _ (b : List ℕ) (p : List ℤ) (k n : ℕ) where
  abbrev pub of_all : Question
  of_all = nearest_of p k full_set

  -- 14, 16, 17 and 18 are never given, and each other number where 01 gives it
  pub full_code : (m : ℕ) → First (question_rules b of_all n) m → First (plain_rules b p k n) m
  full_code m (inl e) = inl e
  full_code m (inr (l, inl e)) = inr (l, inl e)
  full_code m (inr (l, inr (s, inl e))) = inr (l, inr (s, inl (e.0, λ d. e.1 (d, tt))))
  full_code m (inr (l, inr (s, inr (d, inl e)))) = inr (l, inr (s, inr (d.0, inl e)))
  full_code m (inr (l, inr (s, inr (d, inr (r, inl e))))) = absurd (e.1 tt)
  full_code m (inr (l, inr (s, inr (d, inr (r, inr f))))) = inr (l, inr (s, inr (d.0, inr (r, left_out (row_rules k n) full_rules m full_hold f.1))))

  pub plain_code : (m : ℕ) → First (plain_rules b p k n) m → First (question_rules b of_all n) m
  plain_code m (inl e) = inl e
  plain_code m (inr (l, inl e)) = inr (l, inl e)
  plain_code m (inr (l, inr (s, inl e))) = inr (l, inr (s, inl (e.0, λ d. e.1 d.0)))
  plain_code m (inr (l, inr (s, inr (d, inl e)))) = inr (l, inr (s, inr ((d, tt), inl e)))
  plain_code m (inr (l, inr (s, inr (d, inr (r, f))))) = inr (l, inr (s, inr ((d, tt), inr (r, inr (tt, put_after (row_rules k n) full_rules m full_hold f)))))

  -- rows and count: the k nearest of all live records, and the number of leaves in the set that goes with them
  pub full_answer : First (plain_rules b p k n) 0 → found_with 0 b of_all ≡ plain_due ranking (view_of b) (sought of_all)
  full_answer h =
      let f = plain_code 0 h in
      let a = question_carried b of_all n f in
      full_exact b (question_sound b of_all n f) of_all a.features a.some refl refl

  -- where all live stamps are equal (02, Q-9), 01's own rows and count
  pub plain_answer : First (plain_rules b p k n) 0 → (s : ℕ) → OneStampLive (view_of b) s → found_with 0 b of_all ≡ plain_due id_ranking (view_of b) (sought of_all)
  plain_answer h s one =
      let f = plain_code 0 h in
      let a = question_carried b of_all n f in
      plain_exact b (question_sound b of_all n f) of_all a.features a.some refl refl s one
