-- On a sound index an act without the check gives the act's number.
use Rattle.std.specs.Prelude.{◌≡◌, refl, ◌≢◌, List, [], ◌∷◌, ℕ, ◌≤◌, ◌<◌, ℤ, length}
use Rattle.std.proofs.Common.{sym, ap, ◌∙◌, inl, inr, arith}
use Rattle.lists.specs.Tests.{decide}
use Rattle.pagestore_page.specs.declared.Record.{Record}
use Rattle.pagestore.specs.Store.{view_of, field_at, level}
use Rattle.tree_model.specs.Trees.{live}
use Rattle.tree_model.specs.Sound.{SoundIndex, max_points}
use Rattle.tree_core.specs.Lookup.{find_in}
use Rattle.tree_laws.specs.LookupPromises.{find_ident, find_none}
use Rattle.search_model.proofs.SoundLaws.{tree_level}
use Rattle.index_query.specs.Asking.{Question}
use Rattle.index_refusals.specs.declared.Epoch.{Epoch}
use Rattle.index_refusals.specs.Refusals.{Rule, First, numbers, live_times, insert_rules, delete_rules, question_rules}
use Rattle.index_refusals.specs.RefusalLaws.{later}
use Rattle.index_refusals.specs.Trusted.{Suits, trusted_insert, trusted_delete, trusted_question}
use Rattle.search_model.specs.Numbers.{max_level}

-- ---- THE NUMBERS: THE ACT'S, IN ITS ORDER

pub insert_numbers : (b : List ℕ) (e : Epoch) (p : List ℤ) → numbers (trusted_insert b e p) ≡ numbers (insert_rules b e p)
insert_numbers b e p = refl

pub delete_numbers : (b : List ℕ) (i : ℕ) → numbers (trusted_delete b i) ≡ numbers (delete_rules b i)
delete_numbers b i = refl

pub question_numbers : (b : List ℕ) (w : Question) (n : ℕ) → numbers (trusted_question b w n) ≡ numbers (question_rules b w n)
question_numbers b w n = refl

-- ---- RULES THAT AGREE

-- the same numbers, and conditions that agree where those before them hold
abbrev Alike : List Rule → List Rule → Type 0
Alike [] [] = Unit {0}
Alike [] (y ∷ ys) = ⊥
Alike (x ∷ xs) [] = ⊥
Alike (x ∷ xs) (y ∷ ys) = (x.0 ≡ y.0) × (x.1 → y.1) × (y.1 → x.1) × (y.1 → Alike xs ys)

alike_self : (xs : List Rule) → Alike xs xs
alike_self [] = tt
alike_self (x ∷ xs) = (refl, λ h. h, λ h. h, λ h. alike_self xs)

first_alike : (xs ys : List Rule) → Alike xs ys → (n : ℕ) → First xs n → First ys n
first_alike [] [] a n f = f
first_alike [] (y ∷ ys) a n f = absurd a
first_alike (x ∷ xs) [] a n f = absurd a
first_alike (x ∷ xs) (y ∷ ys) a n (inl f) = inl (f.0 ∙ a.0, λ c. f.1 (a.2 c))
first_alike (x ∷ xs) (y ∷ ys) a n (inr f) = inr (a.1 f.0, first_alike xs ys (a.3 (a.1 f.0)) n f.1)

-- ---- ON A SOUND INDEX

module _ (b : List ℕ) (s : SoundIndex b) where
  -- rule 2 holds
  pub level_low : field_at level b ≤ max_level
  unfolding view_of
  level_low = tree_level b s

  pub suits : (p : List ℤ) → length p ≡ (view_of b).d → Suits b p
  suits p e = let low : 1 ≤ (view_of b).d = s.d.0 in let high : (view_of b).d ≤ 16 = s.d.1 in (omega arith, omega arith, e)

  not_live_law : (i : ℕ) → 1 ≤ i → (find_in b i).id ≡ 0 → live_times b i ≡ 0
  not_live_law i l e = decide (live_times b i) 0 (λ z. z) (λ w. let z : i ≡ 0 = sym (find_ident b i s (omega (arith, w))) ∙ e in absurd (omega (arith, z)))

  pub not_found : (i : ℕ) → live_times b i ≡ 0 → (find_in b i).id ≡ 0
  not_found i z = ap (λ (r : Record). r.id) (find_none b i s z)

  pub insert_same : (x : Epoch) (p : List ℤ) (n : ℕ) → First (trusted_insert b x p) n → First (insert_rules b x p) n
  insert_same x p n (inl e) = inl e
  insert_same x p n (inr (h, inl e)) = absurd (e.1 level_low)
  insert_same x p n (inr (h, inr f)) =
      inr (
        h,
        inr (
          s,
          first_alike (later (later (trusted_insert b x p))) (later (later (insert_rules b x p)))
              (refl, λ h. h.2, suits p, λ w. (refl, λ h. h, λ h. h, λ w. (refl, λ h. h, λ h. h, λ l. (refl, λ h. h, λ h. h, λ w. (refl, not_live_law x.id l, not_found x.id, λ w. (refl, λ h. few h, λ h. total h, λ w. (refl, λ h. h, λ h. h, λ w. tt))))))) n f.1,
        ),
      )
    where
      few : (view_of b).total < max_points → length (live (view_of b)) < max_points
      few h = omega (arith, s.total)

      total : length (live (view_of b)) < max_points → (view_of b).total < max_points
      total h = omega (arith, s.total)

  pub delete_same : (i n : ℕ) → First (trusted_delete b i) n → First (delete_rules b i) n
  delete_same i n (inl e) = inl e
  delete_same i n (inr (h, inl e)) = absurd (e.1 level_low)
  delete_same i n (inr (h, inr f)) =
      inr (
        h,
        inr (s, first_alike (later (later (trusted_delete b i))) (later (later (delete_rules b i))) (refl, λ h. h, λ h. h, λ l. (refl, λ h. is_live h, λ h. is_found l h, λ w. tt)) n f.1),
      )
    where
      is_live : (find_in b i).id ≢ 0 → 0 < live_times b i
      is_live w = decide (live_times b i) 0 (λ z. absurd (w (not_found i z))) (λ h. omega (arith, h))

      is_found : 1 ≤ i → 0 < live_times b i → (find_in b i).id ≢ 0
      is_found l h e = omega (arith, not_live_law i l e)

  pub question_same : (w : Question) (m n : ℕ) → First (trusted_question b w m) n → First (question_rules b w m) n
  question_same w m n (inl e) = inl e
  question_same w m n (inr (h, inl e)) = absurd (e.1 level_low)
  question_same w m n (inr (h, inr f)) =
      inr (
        h,
        inr (
          s,
          first_alike (later (later (trusted_question b w m))) (later (later (question_rules b w m)))
              (refl, λ h. (h.0.2, h.1), λ h. (suits w.point h.0, h.1), λ h. alike_self (later (later (later (question_rules b w m))))) n f.1,
        ),
      )

-- ---- A QUESTION THAT IS NOT REFUSED
