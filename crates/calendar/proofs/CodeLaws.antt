-- What the code computes by tests, tables and arithmetic is what the definitions say.
use Rattle.std.proofs.Common.{◌≡◌, refl, sym, ap, ◌∙◌, Bool, true, false, ◌≢◌, ◌⊎◌, inl, inr, List, [], ◌∷◌, ℕ, zero, suc, ◌+◌, ◌*◌, ◌-◌, ◌/◌, ◌%◌, ◌≤◌, ◌<◌, arith, ltb, eqb, get_or, eqb-true, eq-eqb, ne_eqb, lt-ltb, le-ltb, ◌&&◌}
use Rattle.std.proofs.Math.ListN.{get_or-eq_default}
use Rattle.lists.specs.Basics.{if, indicator}
use Rattle.lists.specs.Tests.{decide}
use Rattle.lists.specs.Choices.{bool_cases}
use Rattle.calendar.specs.declared.Date.{Date}
use Rattle.calendar.specs.Dates.{leap, lengths, month_days}
use Rattle.calendar.specs.Counting.{in_calendar, days_of_years, days_of_months, number_of, day_number}
use Rattle.lists.specs.Below.{all_below, all_below_law}
use Rattle.calendar.proofs.OrderLaws.{months_rise, number_most}
use Rattle.calendar.proofs.TestLaws.{calendar_test, number_in}

-- ---- LEAP YEARS

leap_400 : (y : ℕ) → y % 400 ≡ 0 → leap y ≡ true
unfolding leap
leap_400 y h = rw (eq-eqb (y % 400) 0 h)

leap_4 : (y : ℕ) → y % 400 ≢ 0 → y % 100 ≢ 0 → leap y ≡ eqb (y % 4) 0
unfolding leap
leap_4 y g h = rw (ne_eqb (y % 400) 0 g, ne_eqb (y % 100) 0 h)

-- from 2000 to 2099 every fourth year is one
fourth : (k : ℕ) → k < 100 → leap (2000 + k) ≡ eqb (k % 4) 0
fourth k h =
    decide ((2000 + k) % 400) 0
    (λ a. leap_400 (2000 + k) a ∙ sym (eq-eqb (k % 4) 0 (omega arith)))
    (λ a. decide ((2000 + k) % 100) 0
    (λ b. absurd (omega arith))
    (λ b. let e : (2000 + k) % 4 ≡ k % 4 = omega arith in leap_4 (2000 + k) a b ∙ ap (λ (x : ℕ). eqb x 0) e))

no_years : days_of_years 0 ≡ 0
unfolding days_of_years
no_years = refl

year_more : (k : ℕ) (b : Bool) → leap (2000 + k) ≡ b → days_of_years (suc k) ≡ days_of_years k + if b 366 365
unfolding days_of_years
year_more k b e = ap (λ (x : Bool). days_of_years k + if x 366 365) e

pub years_counted : (k : ℕ) → k < 100 → 365 * k + (k + 3) / 4 ≡ days_of_years k
years_counted zero h = sym no_years
years_counted (suc k) h =
    let e = years_counted k (omega arith) in
    let f = fourth k (omega arith) in
    decide (k % 4) 0
    (λ z. let t = year_more k true (f ∙ eq-eqb (k % 4) 0 z) in omega arith)
    (λ z. let t = year_more k false (f ∙ ne_eqb (k % 4) 0 z) in omega arith)

-- ---- MONTHS

module _ (l : Bool) where
  pub february : (m : ℕ) → m ≡ 2 → month_days l m ≡ if l 29 28
  unfolding month_days
  february m e = rw e

  pub month_of_30 : (m : ℕ) → (m ≡ 4) ⊎ (m ≡ 6) ⊎ (m ≡ 9) ⊎ (m ≡ 11) → month_days l m ≡ 30
  unfolding month_days
  month_of_30 m (inl e) = rw e
  month_of_30 m (inr (inl e)) = rw e
  month_of_30 m (inr (inr (inl e))) = rw e
  month_of_30 m (inr (inr (inr e))) = rw e

  pub month_of_31 : (m : ℕ) → (m ≡ 1) ⊎ (m ≡ 3) ⊎ (m ≡ 5) ⊎ (m ≡ 7) ⊎ (m ≡ 8) ⊎ (m ≡ 10) ⊎ (m ≡ 12) → month_days l m ≡ 31
  unfolding month_days
  month_of_31 m (inl e) = rw e
  month_of_31 m (inr (inl e)) = rw e
  month_of_31 m (inr (inr (inl e))) = rw e
  month_of_31 m (inr (inr (inr (inl e)))) = rw e
  month_of_31 m (inr (inr (inr (inr (inl e))))) = rw e
  month_of_31 m (inr (inr (inr (inr (inr (inl e)))))) = rw e
  month_of_31 m (inr (inr (inr (inr (inr (inr e)))))) = rw e

  pub no_month : (m : ℕ) → m < 1 ⊎ 12 < m → month_days l m ≡ 0
  unfolding month_days
  no_month zero h = refl
  no_month (suc m) (inl h) = absurd (omega arith)
  no_month (suc m) (inr h) = get_or-eq_default (lengths l) 0 {n = suc m} (omega arith)

-- the days before each month of a year that is no leap year
abbrev days_before : List ℕ
days_before = 0 ∷ 0 ∷ 31 ∷ 59 ∷ 90 ∷ 120 ∷ 151 ∷ 181 ∷ 212 ∷ 243 ∷ 273 ∷ 304 ∷ 334 ∷ []

abbrev counted : Bool → ℕ → Bool
counted l m = eqb (get_or days_before m 0 + indicator (l && ltb 2 m)) (days_of_months l m)

all_counted : (l : Bool) → all_below 13 (counted l) ≡ true
unfolding all_below days_of_months month_days
all_counted true = refl
all_counted false = refl

months_counted : (l : Bool) (m : ℕ) → m ≤ 12 → get_or days_before m 0 + indicator (l && ltb 2 m) ≡ days_of_months l m
months_counted l m h = eqb-true _ (days_of_months l m) (all_below_law 13 (counted l) (all_counted l) m (omega arith))

all_months : days_of_months false 12 ≤ 334
unfolding days_of_months month_days
all_months = omega arith

-- up to February, and after it in a leap year and in another
module _ (l : Bool) (m : ℕ) (h : m ≤ 12) where
  pub months_early : m ≤ 2 → days_of_months l m ≡ get_or days_before m 0
  months_early e = bool_cases (λ b. days_of_months b m ≡ get_or days_before m 0) l (λ f. omega (arith, rw (le-ltb 2 m e) at (months_counted true m h))) (λ f. omega (arith, months_counted false m h))

  pub months_long : 2 < m → l ≡ true → days_of_months l m ≡ get_or days_before m 0 + 1
  months_long e f = rw f (omega (arith, rw (lt-ltb 2 m e) at (months_counted true m h)))

  pub months_short : l ≡ false → days_of_months l m ≡ get_or days_before m 0
  months_short f = rw f (omega (arith, months_counted false m h))

  pub months_most : get_or days_before m 0 ≤ 334
  months_most = omega (arith, months_counted false m h, months_rise false m 12 h, all_months)

-- ---- DATES

pub number_none : (d : Date) → in_calendar d ≡ false → day_number d ≡ 0
unfolding day_number
number_none d e = rw e

pub number_some : (d : Date) → in_calendar d ≡ true → day_number d ≡ days_of_years (d.year - 2000) + days_of_months (leap d.year) d.month + (d.day - 1)
unfolding day_number number_of
number_some d e = rw e

pub number_upper : (d : Date) → in_calendar d ≡ true → day_number d ≤ 36524
number_upper d e = let h = calendar_test d e in omega (arith, number_most d h, number_in d h)
