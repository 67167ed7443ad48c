-- Dates of the Gregorian calendar: which exist, the next one, their order, and their numbers counted from 1 January 2000.
use Rattle.std.specs.Prelude.{◌≡◌, Bool, true, false, List, [], ◌∷◌, ◌⊎◌, ℕ, zero, suc, ◌+◌, ◌%◌, ◌≤◌, ◌<◌, ltb, eqb, get_or}
use Rattle.lists.specs.Basics.{if}
use Rattle.calendar.specs.declared.Date.{Date}

abbrev pub date_of : ℕ → ℕ → ℕ → Date
date_of y m d = record { year = y; month = m; day = d }

-- ---- YEARS AND MONTHS

-- the first and the last year that a question's dates may have
abbrev pub first_year : ℕ
first_year = 2000

abbrev pub last_year : ℕ
last_year = 2099

-- a leap year: one divisible by 4; of those divisible by 100 only the ones divisible by 400
unfoldable pub leap : ℕ → Bool
leap y = if (eqb (y % 400) 0) true (if (eqb (y % 100) 0) false (eqb (y % 4) 0))

-- the days of January (1) to December (12), of a leap year or another; any other month has none
abbrev pub lengths : Bool → List ℕ
lengths l = 0 ∷ 31 ∷ if l 29 28 ∷ 31 ∷ 30 ∷ 31 ∷ 30 ∷ 31 ∷ 31 ∷ 30 ∷ 31 ∷ 30 ∷ 31 ∷ []

unfoldable pub month_days : Bool → ℕ → ℕ
month_days l m = get_or (lengths l) m 0

-- the days of a date's month
abbrev pub days_in : Date → ℕ
days_in d = month_days (leap d.year) d.month

-- ---- DATES

-- the date exists
pub record Exists (d : Date) : Type 0 where
  pub january : 1 ≤ d.month
  pub december : d.month ≤ 12
  pub first : 1 ≤ d.day
  pub last : d.day ≤ days_in d

-- and lies in 1 January 2000 to 31 December 2099 (02, Q-4)
pub record InCalendar (d : Date) : Type 0 where
  pub real : Exists d
  pub from : first_year ≤ d.year
  pub to : d.year ≤ last_year

-- the next date: the next day of the month, else the first of the next month, else 1 January of the next year
unfoldable pub next : Date → Date
next d =
    if (ltb d.day (days_in d)) (date_of d.year d.month (d.day + 1))
    (if (ltb d.month 12) (date_of d.year (d.month + 1) 1)
    (date_of (d.year + 1) 1 1))

-- a comes before b
abbrev pub Before : Date → Date → Type 0
Before a b = (a.year < b.year) ⊎ ((a.year ≡ b.year) × ((a.month < b.month) ⊎ ((a.month ≡ b.month) × (a.day < b.day))))

-- a comes before b or is b
abbrev pub UpTo : Date → Date → Type 0
UpTo a b = (a ≡ b) ⊎ Before a b

-- ---- NUMBERS

-- the date with number n: 1 January 2000 has 0, and each next date the next number
unfoldable pub date_at : ℕ → Date
date_at zero = date_of first_year 1 1
date_at (suc n) = next (date_at n)
