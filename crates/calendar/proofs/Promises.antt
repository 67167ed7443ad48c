-- What is promised of dates, their numbers and the window of two dates (Q-4).
use Rattle.std.proofs.Common.{◌≡◌, refl, sym, ap, subst, ◌∙◌, true, ◌≢◌, inl, inr, ◌↔◌, ℕ, ◌+◌, ◌≤◌, ◌<◌, arith, ltb, lit≤, lit<, ltb-true, ltb-false, lt-ltb, le-ltb}
use Rattle.lists.specs.Tests.{by_cases, false_true}
use Rattle.calendar.specs.declared.Date.{Date}
use Rattle.calendar.specs.declared.Dates.{Dates}
use Rattle.calendar.specs.Dates.{date_of, leap, month_days, Exists, InCalendar, next, Before, UpTo, date_at}
use Rattle.calendar.specs.Days.{noon, DayOf, InDays, Days, undated, dated, Passes, InCalendars}
use Rattle.calendar.specs.Counting.{in_calendar, before, number_of, day_number, window_of, in_window}
use Rattle.calendar.proofs.CountLaws.{From2000, next_exists, next_number, at_exists, number_at, number_first, number_last}
use Rattle.calendar.proofs.OrderLaws.{compared, number_rises, number_order, number_same, upto_number, at_number, number_most}
use Rattle.calendar.proofs.TestLaws.{calendar_test, test_calendar, test_before, before_test, number_in}
use Rattle.calendar.proofs.WindowLaws.{has_day, window_to, window_from}

abbrev pub first_date : Date
first_date = date_of 2000 1 1

abbrev pub last_date : Date
last_date = date_of 2099 12 31

abbrev pub all_dates : Dates
all_dates = record { first = first_date; last = last_date }

since : (d : Date) → InCalendar d → From2000 d
since d h = (h.real, h.from)

first_in : InCalendar first_date
unfolding month_days
first_in = record { real = record { january = lit≤ tt; december = lit≤ tt; first = lit≤ tt; last = lit≤ tt }; from = lit≤ tt; to = lit≤ tt }

last_in : InCalendar last_date
unfolding month_days
last_in = record { real = record { january = lit≤ tt; december = lit≤ tt; first = lit≤ tt; last = lit≤ tt }; from = lit≤ tt; to = lit≤ tt }

upto_year : (a b : Date) → UpTo a b → a.year ≤ b.year
upto_year a b (inl e) = let y : a.year ≡ b.year = ap (λ (d : Date). d.year) e in omega arith
upto_year a b (inr (inl y)) = omega arith
upto_year a b (inr (inr (y, m))) = omega arith

not_both : (a b : Date) → UpTo a b → Before b a → ⊥
not_both a b (inl e) t = never a (subst (λ (d : Date). Before d a) (sym e) t)
  where
    never : (d : Date) → Before d d → ⊥
    never d (inl y) = omega arith
    never d (inr (y, inl m)) = omega arith
    never d (inr (y, inr (m, k))) = omega arith
not_both a b (inr (inl y)) (inl z) = omega arith
not_both a b (inr (inl y)) (inr (z, t)) = omega arith
not_both a b (inr (inr (y, s))) (inl z) = omega arith
not_both a b (inr (inr (y, inl m))) (inr (z, inl n)) = omega arith
not_both a b (inr (inr (y, inl m))) (inr (z, inr (n, d))) = omega arith
not_both a b (inr (inr (y, inr (m, d)))) (inr (z, inl n)) = omega arith
not_both a b (inr (inr (y, inr (m, d)))) (inr (z, inr (n, e))) = omega arith

-- a date from 2000 on with a number up to 36,524 is in the calendar
low_in : (d : Date) → From2000 d → number_of d ≤ 36524 → InCalendar d
low_in d h l =
    let y = upto_year d last_date (upto_number d last_date h (since last_date last_in) (omega (arith, number_last))) in
    record { real = h.0; from = h.1; to = y }

-- ---- TESTS

-- `in_calendar` and `comes_before` decide what their names say
pub calendar_decided : (d : Date) → InCalendar d ↔ (in_calendar d ≡ true)
calendar_decided d = (test_calendar d, calendar_test d)

pub order_decided : (a b : Date) → Before a b ↔ (before a b ≡ true)
order_decided a b = (test_before a b, before_test a b)

-- the last date of a window is not before the first just if the first is before it or the same
pub in_order : (first last : Date) → UpTo first last ↔ ¬ (Before last first)
in_order first last = (not_both first last, λ n. compared first last (λ t. inr t) (λ e. inl e) (λ t. absurd (n t)))

-- ---- NUMBERS

-- next_day: 1 January 2000 has the number 0, 31 December 2099 the number 36,524, and the date after one in the calendar the next number
pub first_day : day_number first_date ≡ 0
first_day = number_in first_date first_in ∙ number_first

pub last_day : day_number last_date ≡ 36524
last_day = number_in last_date last_in ∙ number_last

pub next_day : (d : Date) → InCalendar d → d ≢ last_date → InCalendar (next d) × (day_number (next d) ≡ day_number d + 1)
next_day d h n =
    let s = next_number d (since d h) in
    let m = number_most d h in
    let o : number_of d ≢ 36524 = λ e. n (number_same d last_date (since d h) (since last_date last_in) (e ∙ sym number_last)) in
    let i : InCalendar (next d) = low_in (next d) (next_exists d (since d h)) (omega arith) in
    (i, omega (arith, number_in d h, number_in (next d) i))

-- the next date is the earliest that exists after a date
pub next_earliest : (d : Date) → InCalendar d → Before d (next d) × ((e : Date) → Exists e → Before d e → UpTo (next d) e)
next_earliest d h =
    let f = since d h in
    let g = next_exists d f in
    let s = next_number d f in (
      number_order d (next d) f g (omega arith),
      λ e x b.
          let y = upto_year d e (inr b) in
          let k : From2000 e = (x, omega (arith, h.from)) in
          let r = number_rises d e f k b in
          upto_number (next d) e g k (omega arith),
    )

-- a date in the calendar is the one that is counted with its number
pub day_counted : (d : Date) → InCalendar d → date_at (day_number d) ≡ d
day_counted d h = ap date_at (number_in d h) ∙ at_number d (since d h)

-- and the numbers up to 36,524 are counted with the dates of the calendar
pub counted_day : (n : ℕ) → n ≤ 36524 → InCalendar (date_at n) × (day_number (date_at n) ≡ n)
counted_day n l =
    let e = number_at n in
    let i : InCalendar (date_at n) = low_in (date_at n) (at_exists n) (omega arith) in
    (i, number_in (date_at n) i ∙ e)

-- numbers are in the order of dates
pub date_order : (a b : Date) → InCalendar a → InCalendar b → Before a b ↔ (day_number a < day_number b)
date_order a b f g = (
  λ t. let r = number_rises a b (since a f) (since b g) t in omega (arith, number_in a f, number_in b g),
  λ t. number_order a b (since a f) (since b g) (omega (arith, number_in a f, number_in b g)),
)

-- ---- RECORDING DAYS

-- a stamp lies in one recording day, or in none if it is below 43,200
pub one_day : (s : ℕ) (d e : Date) → DayOf s d → DayOf s e → d ≡ e
one_day s d e f g =
    let n : f.number ≡ g.number = omega (arith, f.begins, f.ends, g.begins, g.ends) in
    sym f.date ∙ ap date_at n ∙ g.date

pub some_day : (s : ℕ) → 43200 ≤ s → (d : Date) × DayOf s d
some_day s h = (_, has_day s h)

pub no_day : (s : ℕ) (d : Date) → s < 43200 → DayOf s d → ⊥
no_day s d h g = omega (arith, g.begins)

-- window_days: a stamp lies in the window of a question just if it passes: the date of its recording day is from the first to the last, or no
-- dates are given
pub window_days : (ds : Days) → InCalendars ds → (s : ℕ) → Passes ds s ↔ (in_window (window_of ds) s ≡ true)
unfolding in_window
window_days undated c s = (λ p. refl, λ e. tt)
window_days (dated dates) c s = (
  λ w. let g = window_from dates c.0 c.1 s w in rw (le-ltb s (noon (day_number dates.first)) g.0) (lt-ltb s (noon (day_number dates.last + 1)) g.1),
  λ h. by_cases (ltb s (noon (day_number dates.first))) (λ e. false_true (rw e at h))
      (λ e. window_to dates c.0 c.1 s (ltb-false _ _ e) (ltb-true _ _ (rw e at h))),
)

-- no dates reach a stamp before noon of 1 January 2000 or from noon of 1 January 2100 on
pub days_reach : (dates : Dates) → InCalendars (dated dates) → (s : ℕ) → InDays dates s → (43200 ≤ s) × (s < 3155803200)
days_reach dates c s d =
    let w = window_from dates c.0 c.1 s d in
    (omega (arith, w.0), omega (arith, w.1, number_in dates.last c.1, number_most dates.last c.1))

-- and all dates of the calendar reach the others
pub widest : (s : ℕ) → InDays all_dates s ↔ ((43200 ≤ s) × (s < 3155803200))
widest s = (
  λ d. let w = window_from all_dates first_in last_in s d in (omega (arith, w.0, first_day), omega (arith, w.1, number_in last_date last_in, number_last)),
  λ h. window_to all_dates first_in last_in s (omega (arith, h.0, first_day)) (omega (arith, h.1, number_in last_date last_in, number_last)),
)

-- ---- EXAMPLES

-- 29 February 2000 is a date, 29 February 2001 is none, and 29 February 2100 is outside
pub leap_day : InCalendar (date_of 2000 2 29)
unfolding in_calendar month_days leap
leap_day = calendar_test (date_of 2000 2 29) refl

pub no_leap_day : InCalendar (date_of 2001 2 29) → ⊥
unfolding in_calendar month_days leap
no_leap_day h = false_true (test_calendar (date_of 2001 2 29) h)

pub leap_day_outside : InCalendar (date_of 2100 2 29) → ⊥
leap_day_outside h = omega (arith, h.to)

-- ten in the evening of 1 January 2000, and noon less a second of the day after, belong to 1 January; that noon to 2 January
pub evening : DayOf 79200 first_date
unfolding date_at
evening = record { number = 0; begins = lit≤ tt; ends = lit< tt; date = refl }

pub next_morning : DayOf 129599 first_date
unfolding date_at
next_morning = record { number = 0; begins = lit≤ tt; ends = lit< tt; date = refl }

pub next_noon : DayOf 129600 (date_of 2000 1 2)
unfolding date_at next month_days leap
next_noon = record { number = 1; begins = lit≤ tt; ends = lit< tt; date = refl }
