-- Orders built from parts: by one number, and by what follows where that number is the same.
use Rattle.std.specs.Prelude.{◌≡◌, Bool, true, false, ℕ, ◌≤◌, ◌<◌, ltb}
use Rattle.std.proofs.Common.{sym, ◌∙◌, arith, ltb-true, ltb-false, lt-ltb, le-ltb}
use Rattle.lists.specs.Basics.{if}
use Rattle.lists.specs.Tests.{false_true, three, by_cases}
use Rattle.lists.specs.Sorting.{Order}

-- a first, where its number is the lower one
abbrev pub lower : {A : Type 0} → (A → ℕ) → A → A → Bool
lower f a b = ltb (f a) (f b)

-- a first, where its number is the higher one
abbrev pub higher : {A : Type 0} → (A → ℕ) → A → A → Bool
higher f a b = ltb (f b) (f a)

-- by p, and by r where p does not decide
unfoldable pub lex : {A : Type 0} → (A → A → Bool) → (A → A → Bool) → A → A → Bool
lex p r a b = if (p a b) true (if (p b a) false (r a b))

-- by lower f, and by r where f is the same
abbrev pub by : {A : Type 0} → (A → ℕ) → (A → A → Bool) → A → A → Bool
by f r = lex (lower f) r

-- by higher f, and by r where f is the same
abbrev pub by_higher : {A : Type 0} → (A → ℕ) → (A → A → Bool) → A → A → Bool
by_higher f r = lex (higher f) r

-- a strict order, total but for elements that it does not tell apart
pub record Weak {A : Type 0} (r : A → A → Bool) : Type 0 where
  pub asym : (a b : A) → r a b ≡ true → r b a ≡ false
  pub through : (a b c : A) → r a b ≡ false → r a c ≡ true → r b c ≡ true

-- a weak order that tells all elements apart is a strict total order
pub weak_order : {A : Type 0} {r : A → A → Bool} → Weak r → ((a b : A) → r a b ≡ false → r b a ≡ false → a ≡ b) → Order r
weak_order w s = record { asym = w.asym; through = w.through; same = s }

module _ {A : Type 0} (f : A → ℕ) where
  pub lower_weak : Weak (lower f)
  lower_weak = record {
    asym = λ a b e. let q : f a < f b = ltb-true (f a) (f b) e in le-ltb (f b) (f a) (omega arith);
    through = λ a b c e d. let p : f b ≤ f a = ltb-false (f a) (f b) e in let q : f a < f c = ltb-true (f a) (f c) d in lt-ltb (f b) (f c) (omega arith);
  }

  pub higher_weak : Weak (higher f)
  higher_weak = record {
    asym = λ a b e. let q : f b < f a = ltb-true (f b) (f a) e in le-ltb (f a) (f b) (omega arith);
    through = λ a b c e d. let p : f a ≤ f b = ltb-false (f b) (f a) e in let q : f c < f a = ltb-true (f c) (f a) d in lt-ltb (f c) (f b) (omega arith);
  }

  pub lower_same : (a b : A) → lower f a b ≡ false → lower f b a ≡ false → f a ≡ f b
  lower_same a b e d = let p : f b ≤ f a = ltb-false (f a) (f b) e in let q : f a ≤ f b = ltb-false (f b) (f a) d in omega arith

  pub higher_same : (a b : A) → higher f a b ≡ false → higher f b a ≡ false → f a ≡ f b
  higher_same a b e d = lower_same a b d e

module _ {A : Type 0} (p r : A → A → Bool) where
  pub lex_first : (a b : A) → p a b ≡ true → lex p r a b ≡ true
  unfolding lex
  lex_first a b e = rw e

  pub lex_second : (a b : A) → p a b ≡ false → p b a ≡ false → lex p r a b ≡ r a b
  unfolding lex
  lex_second a b e d = rw (e, d)

  pub lex_last : (a b : A) → p a b ≡ false → p b a ≡ true → lex p r a b ≡ false
  unfolding lex
  lex_last a b e d = rw (e, d)

  pub lex_same : (a b : A) → lex p r a b ≡ false → lex p r b a ≡ false → (p a b ≡ false) × (p b a ≡ false) × (r a b ≡ false) × (r b a ≡ false)
  lex_same a b e d =
      by_cases (p a b) (λ x. false_true (sym e ∙ lex_first a b x))
      (λ x. by_cases (p b a) (λ y. false_true (sym d ∙ lex_first b a y))
      (λ y. (x, y, sym (lex_second a b x y) ∙ e, sym (lex_second b a y x) ∙ d)))

  module _ (u : Weak p) (v : Weak r) where
    lex_asym : (a b : A) → lex p r a b ≡ true → lex p r b a ≡ false
    lex_asym a b e =
        by_cases (p a b) (λ x. lex_last b a (u.asym a b x) x)
        (λ x. by_cases (p b a) (λ y. false_true (sym (lex_last a b x y) ∙ e))
        (λ y. lex_second b a y x ∙ v.asym a b (sym (lex_second a b x y) ∙ e)))

    lex_through : (a b c : A) → lex p r a b ≡ false → lex p r a c ≡ true → lex p r b c ≡ true
    lex_through a b c e d =
        by_cases (p a b) (λ ab. false_true (sym e ∙ lex_first a b ab))
        (λ ab. by_cases (p a c) (λ ac. lex_first b c (u.through a b c ab ac))
        (λ ac. by_cases (p c a) (λ ca. false_true (sym (lex_last a c ac ca) ∙ d))
        (λ ca. by_cases (p b c) (λ bc. lex_first b c bc)
        (λ bc. by_cases (p b a) (λ ba. false_true (sym ca ∙ u.through b c a bc ba))
        (λ ba. by_cases (p c b) (λ cb. false_true (sym ab ∙ u.through c a b ca cb))
        (λ cb. lex_second b c bc cb ∙ v.through a b c (sym (lex_second a b ab ba) ∙ e) (sym (lex_second a c ac ca) ∙ d)))))))

    pub lex_weak : Weak (lex p r)
    lex_weak = record { asym = lex_asym; through = lex_through }

module _ {A : Type 0} (f : A → ℕ) (r : A → A → Bool) where
  pub by_lower : (a b : A) → f a < f b → by f r a b ≡ true
  by_lower a b h = lex_first (lower f) r a b (lt-ltb (f a) (f b) h)

  pub by_equal : (a b : A) → f a ≡ f b → by f r a b ≡ r a b
  by_equal a b h = lex_second (lower f) r a b (le-ltb (f a) (f b) (omega arith)) (le-ltb (f b) (f a) (omega arith))

  pub by_higher_law : (a b : A) → f b < f a → by f r a b ≡ false
  by_higher_law a b h = lex_last (lower f) r a b (le-ltb (f a) (f b) (omega arith)) (lt-ltb (f b) (f a) h)

  pub by_weak : Weak r → Weak (by f r)
  by_weak w = lex_weak (lower f) r (lower_weak f) w

  pub by_higher_weak : Weak r → Weak (by_higher f r)
  by_higher_weak w = lex_weak (higher f) r (higher_weak f) w

  pub by_same : (a b : A) → by f r a b ≡ false → by f r b a ≡ false → (f a ≡ f b) × (r a b ≡ false) × (r b a ≡ false)
  by_same a b e d = let h = lex_same (lower f) r a b e d in (lower_same f a b h.0 h.1, h.2, h.3)

  pub by_higher_same : (a b : A) → by_higher f r a b ≡ false → by_higher f r b a ≡ false → (f a ≡ f b) × (r a b ≡ false) × (r b a ≡ false)
  by_higher_same a b e d = let h = lex_same (higher f) r a b e d in (higher_same f a b h.0 h.1, h.2, h.3)
