-- The next date exists and has the next number; so the number of the nth date after 1 January 2000 is n.
use Rattle.std.proofs.Common.{◌≡◌, refl, ap, ◌∙◌, Bool, true, false, ℕ, zero, suc, ◌+◌, ◌-◌, ◌≤◌, ◌<◌, add-one, arith, ltb, ltb-true, ltb-false}
use Rattle.lists.specs.Basics.{if}
use Rattle.lists.specs.Choices.{if_cases}
use Rattle.calendar.specs.declared.Date.{Date}
use Rattle.calendar.specs.Dates.{date_of, leap, month_days, days_in, Exists, next, date_at}
use Rattle.calendar.specs.Counting.{days_of_years, days_of_months, number_of}
use Rattle.lists.specs.Below.{all_below, all_below_law}

-- a date that exists, from 2000 on
abbrev pub From2000 : Date → Type 0
From2000 d = Exists d × (2000 ≤ d.year)

pub months_more : (l : Bool) (m : ℕ) → days_of_months l (m + 1) ≡ days_of_months l m + month_days l m
unfolding days_of_months
months_more l m = rw (add-one m)

-- twelve months make a year
pub months_year : (l : Bool) → days_of_months l 13 ≡ if l 366 365
unfolding days_of_months month_days
months_year true = refl
months_year false = refl

pub months_none : (l : Bool) → days_of_months l 1 ≡ 0
unfolding days_of_months month_days
months_none l = refl

pub years_more : (y : ℕ) → 2000 ≤ y → days_of_years (y + 1 - 2000) ≡ days_of_years (y - 2000) + if (leap y) 366 365
unfolding days_of_years
years_more y h =
    let e : y + 1 - 2000 ≡ suc (y - 2000) = omega arith in
    let f : 2000 + (y - 2000) ≡ y = omega arith in
    ap days_of_years e ∙ ap (λ (x : ℕ). days_of_years (y - 2000) + if (leap x) 366 365) f

-- each month has a first day
abbrev begins : Bool → ℕ → Bool
begins l m = ltb 0 (month_days l (suc m))

all_begin : (l : Bool) → all_below 12 (begins l) ≡ true
unfolding all_below month_days
all_begin true = refl
all_begin false = refl

pub month_begins : (l : Bool) (m : ℕ) → 1 ≤ m → m ≤ 12 → 1 ≤ month_days l m
month_begins l zero h g = absurd (omega arith)
month_begins l (suc m) h g = ltb-true 0 (month_days l (suc m)) (all_below_law 12 (begins l) (all_begin l) m (omega arith))

-- ---- THE NEXT DATE

module _ (d : Date) (h : From2000 d) where
  -- the next date exists
  pub next_exists : From2000 (next d)
  unfolding next
  next_exists =
      if_cases From2000 (ltb d.day (days_in d)) _ _
      (λ e. let t : d.day < days_in d = ltb-true _ _ e in
      (record { january = h.0.january; december = h.0.december; first = omega arith; last = omega arith }, h.1))
      (λ e. if_cases From2000 (ltb d.month 12) _ _
      (λ f. let t : d.month < 12 = ltb-true _ _ f in
      (record { january = omega arith; december = omega arith; first = omega arith; last = month_begins (leap d.year) (d.month + 1) (omega arith) (omega arith) }, h.1))
      (λ f. (record { january = omega arith; december = omega arith; first = omega arith; last = month_begins (leap (d.year + 1)) 1 (omega arith) (omega arith) }, omega arith)))

  -- and has the next number
  pub next_number : number_of (next d) ≡ number_of d + 1
  unfolding next number_of
  next_number =
      if_cases (λ x. number_of x ≡ number_of d + 1) (ltb d.day (days_in d)) _ _
      (λ e. let f = h.0.first in omega arith)
      (λ e. let t : days_in d ≤ d.day = ltb-false _ _ e in
      let s : d.day ≡ days_in d = omega arith in
      if_cases (λ x. number_of x ≡ number_of d + 1) (ltb d.month 12) _ _
      (λ f. omega (arith, months_more (leap d.year) d.month))
      (λ f. let u : 12 ≤ d.month = ltb-false _ _ f in
      let m : d.month ≡ 12 = omega arith in
      let v : days_of_months (leap d.year) (d.month + 1) ≡ if (leap d.year) 366 365 =
      ap (λ (x : ℕ). days_of_months (leap d.year) (x + 1)) m ∙ months_year (leap d.year) in
      omega (arith, months_more (leap d.year) d.month, years_more d.year h.1, months_none (leap (d.year + 1)))))

-- ---- THE NTH DATE

-- every date that is counted exists
pub at_exists : (n : ℕ) → From2000 (date_at n)
unfolding date_at
at_exists zero = (record { january = omega arith; december = omega arith; first = omega arith; last = month_begins (leap 2000) 1 (omega arith) (omega arith) }, omega arith)
at_exists (suc n) = next_exists (date_at n) (at_exists n)

-- 1 January 2000 has the number 0
pub number_first : number_of (date_of 2000 1 1) ≡ 0
unfolding number_of days_of_years days_of_months month_days
number_first = refl

-- 31 December 2099 has the number 36,524
pub number_last : number_of (date_of 2099 12 31) ≡ 36524
unfolding number_of days_of_years days_of_months month_days leap
number_last = refl

pub number_at : (n : ℕ) → number_of (date_at n) ≡ n
unfolding date_at
number_at zero = number_first
number_at (suc n) = next_number (date_at n) (at_exists n) ∙ rw (number_at n, add-one n)
