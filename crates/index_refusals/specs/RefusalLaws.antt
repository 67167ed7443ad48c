-- Laws of the refusal table: it gives one number at most (and one at least: NumberLaws), in 01's order without 12 and with 02's numbers in
-- their places, and an act that it does not refuse has every condition.
use Rattle.std.specs.Prelude.{◌≡◌, refl, Bool, true, false, ◌≢◌, List, [], ◌∷◌, ◌++◌, ℕ, ◌≤◌, ◌<◌, leb, ℤ}
use Rattle.std.proofs.Common.{sym, ◌∙◌, subst, inl, inr, arith, leb-true}
use Rattle.lists.specs.Basics.{if}
use Rattle.lists.specs.Counts.{mult, mult_more, absent}
use Rattle.lists.specs.Tests.{false_true}
use Rattle.calendar.specs.Days.{InCalendars, InOrder}
use Rattle.geometry.specs.Stored.{in_range}
use Rattle.pagestore.specs.Store.{view_of}
use Rattle.tree_model.specs.Sound.{RecordOk, SoundIndex}
use Rattle.tree_laws.specs.LookupPromises.{find_ident}
use Rattle.tree_laws.specs.KeyedPromises.{found_all}
use Rattle.search_model.specs.Asked.{full_set}
use Rattle.index_query.specs.Asking.{Question, Light, Suited, max_rows}
use Rattle.index_refusals.specs.declared.Epoch.{Epoch}
use Rattle.index_refusals.specs.Refusals.{Rule, First, numbers, live_times, make_rules, insert_rules, delete_rules, question_rules, check_rules}

pub first_one : (rules : List Rule) (m n : ℕ) → First rules m → First rules n → m ≡ n
first_one [] m n e f = e ∙ sym f
first_one (rule ∷ rules) m n (inl e) (inl f) = e.0 ∙ sym f.0
first_one (rule ∷ rules) m n (inl e) (inr f) = absurd (e.1 f.0)
first_one (rule ∷ rules) m n (inr e) (inl f) = absurd (f.1 e.0)
first_one (rule ∷ rules) m n (inr e) (inr f) = first_one rules m n e.1 f.1

-- ---- THE NUMBERS

-- the order of each act (01, "Order", without 12: Q-7; 14 after a question's 4: Q-1; 15 after an insert's 5, 16 after a question's 11: Q-2;
-- 17 and 18 after 16: Q-4)
pub orders : (bytes d : ℕ) (b : List ℕ) (e : Epoch) (i : ℕ) (p : List ℤ) (w : Question) (n : ℕ)
    → (numbers (make_rules bytes d) ≡ 1 ∷ 3 ∷ [])
    × (numbers (insert_rules b e p) ≡ 1 ∷ 2 ∷ 3 ∷ 4 ∷ 5 ∷ 15 ∷ 6 ∷ 8 ∷ 9 ∷ [])
    × (numbers (delete_rules b i) ≡ 1 ∷ 2 ∷ 5 ∷ 7 ∷ [])
    × (numbers (question_rules b w n) ≡ 1 ∷ 2 ∷ 3 ∷ 4 ∷ 14 ∷ 10 ∷ 11 ∷ 16 ∷ 17 ∷ 18 ∷ [])
    × (numbers (check_rules b) ≡ 1 ∷ 2 ∷ [])
orders bytes d b e i p w n = (refl, refl, refl, refl, refl)

-- a number that no rule has is not given
pub not_given : (rules : List Rule) (m n : ℕ) → 0 < m → mult m (numbers rules) ≡ 0 → First rules n → n ≢ m
not_given [] m n l z f e = omega (arith, f, e)
not_given (rule ∷ rules) m n l z (inl f) e = absent m rule.0 (numbers rules) z (sym e ∙ f.0)
not_given (rule ∷ rules) m n l z (inr f) e = not_given rules m n l (omega (arith, mult_more m rule.0 (numbers rules))) f.1 e

-- all conditions
abbrev pub Hold : List Rule → Type 0
Hold [] = Unit {0}
Hold (rule ∷ rules) = rule.1 × Hold rules

-- no rule has the number of success
abbrev pub numbered : List Rule → Bool
numbered [] = true
numbered (rule ∷ rules) = if (leb 1 rule.0) (numbered rules) false

numbered_parts : (t u : Bool) → if t u false ≡ true → (t ≡ true) × (u ≡ true)
numbered_parts true u e = (refl, e)
numbered_parts false u e = false_true e

pub all_hold : (rules : List Rule) → numbered rules ≡ true → First rules 0 → Hold rules
all_hold [] w h = tt
all_hold (rule ∷ rules) w (inl e) = absurd (omega (arith, leb-true 1 rule.0 (numbered_parts (leb 1 rule.0) (numbered rules) w).0, e.0))
all_hold (rule ∷ rules) w (inr e) = (e.0, all_hold rules (numbered_parts (leb 1 rule.0) (numbered rules) w).1 e.1)

-- and conversely: an act of which every condition holds is not refused
pub none_fails : (rules : List Rule) → Hold rules → First rules 0
none_fails [] h = refl
none_fails (rule ∷ rules) h = inr (h.0, none_fails rules h.1)

-- rules that go on after others: the first of them to refuse decides
pub refused_before : (xs ys : List Rule) (n : ℕ) → n ≢ 0 → First xs n → First (xs ++ ys) n
refused_before [] ys n w e = absurd (w e)
refused_before (rule ∷ xs) ys n w (inl e) = inl e
refused_before (rule ∷ xs) ys n w (inr e) = inr (e.0, refused_before xs ys n w e.1)

pub refused_after : (xs ys : List Rule) (n : ℕ) → Hold xs → First ys n → First (xs ++ ys) n
refused_after [] ys n h e = e
refused_after (rule ∷ xs) ys n h e = inr (h.0, refused_after xs ys n h.1 e)

-- a rule that holds where those before it do, put among others
pub put_in : (xs ys : List Rule) (rule : Rule) (n : ℕ) → (Hold xs → rule.1) → First (xs ++ ys) n → First (xs ++ (rule ∷ ys)) n
put_in [] ys rule n h f = inr (h tt, f)
put_in (x ∷ xs) ys rule n h (inl e) = inl e
put_in (x ∷ xs) ys rule n h (inr e) = inr (e.0, put_in xs ys rule n (λ w. h (e.0, w)) e.1)

-- rules without the first one
abbrev pub later : List Rule → List Rule
later [] = []
later (rule ∷ rules) = rules

-- ---- A DELETE THAT IS NOT REFUSED

-- a live identifier of a sound index is not 0
pub live_some : (b : List ℕ) (i : ℕ) → SoundIndex b → 0 < live_times b i → 1 ≤ i
live_some b i s h = subst (λ (j : ℕ). 1 ≤ j) (find_ident b i s h) (found_all b i s h (RecordOk (view_of b).d) s.ranges).ident

-- so no number refuses its delete
pub delete_passes : (b : List ℕ) (i : ℕ) → SoundIndex b → 0 < live_times b i → First (delete_rules b i) 0
unfolding view_of
delete_passes b i s h = none_fails (delete_rules b i) (s.lent, (s, (live_some b i s h, (h, tt))))

-- ---- A QUESTION THAT IS NOT REFUSED

-- with n rows lent, on an index of d features
pub record Carried (d : ℕ) (w : Question) (n : ℕ) : Type 0 where
  pub features : Suited d w
  pub ranges : in_range w.point ≡ true
  pub light : Light w.weights
  pub some : 1 ≤ w.k
  pub most : w.k ≤ max_rows
  pub lent : w.k ≤ n
  pub set : (1 ≤ w.stages) × (w.stages ≤ full_set)
  pub dates : InCalendars w.days
  pub order : InOrder w.days
