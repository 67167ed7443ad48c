-- The tests of a date, of the order of two dates and of the number agree with the definitions.
use Rattle.std.proofs.Common.{◌≡◌, true, inl, inr, ◌≤◌, arith, ltb, ltb-true, ltb-false, lt-ltb, le-ltb}
use Rattle.lists.specs.Tests.{by_cases, false_true}
use Rattle.calendar.specs.declared.Date.{Date}
use Rattle.calendar.specs.Dates.{days_in, InCalendar, Before}
use Rattle.calendar.specs.Counting.{in_calendar, before, number_of, day_number}

pub calendar_test : (d : Date) → in_calendar d ≡ true → InCalendar d
unfolding in_calendar
calendar_test d h =
    by_cases (ltb d.year 2000) (λ e. false_true (rw e at h))
    (λ e1. by_cases (ltb 2099 d.year) (λ e. false_true (rw (e1, e) at h))
    (λ e2. by_cases (ltb d.month 1) (λ e. false_true (rw (e1, e2, e) at h))
    (λ e3. by_cases (ltb 12 d.month) (λ e. false_true (rw (e1, e2, e3, e) at h))
    (λ e4. by_cases (ltb d.day 1) (λ e. false_true (rw (e1, e2, e3, e4, e) at h))
    (λ e5. by_cases (ltb (days_in d) d.day) (λ e. false_true (rw (e1, e2, e3, e4, e5, e) at h))
    (λ e6. record { real = record { january = ltb-false _ _ e3; december = ltb-false _ _ e4; first = ltb-false _ _ e5; last = ltb-false _ _ e6 }; from = ltb-false _ _ e1; to = ltb-false _ _ e2 }))))))

pub test_calendar : (d : Date) → InCalendar d → in_calendar d ≡ true
unfolding in_calendar
test_calendar d h =
    rw (le-ltb d.year 2000 h.from, le-ltb 2099 d.year h.to, le-ltb d.month 1 h.real.january, le-ltb 12 d.month h.real.december, le-ltb d.day 1 h.real.first, le-ltb (days_in d) d.day h.real.last)

-- the number that the code gives of a date in the calendar
pub number_in : (d : Date) → InCalendar d → day_number d ≡ number_of d
unfolding day_number
number_in d h = rw (test_calendar d h)

-- ---- THE ORDER OF TWO DATES

module _ (a b : Date) where
  pub test_before : Before a b → before a b ≡ true
  unfolding before
  test_before (inl y) = rw (lt-ltb a.year b.year y)
  test_before (inr (y, inl m)) =
      rw (le-ltb a.year b.year (omega arith), le-ltb b.year a.year (omega arith), lt-ltb a.month b.month m)
  test_before (inr (y, inr (m, d))) =
      rw (le-ltb a.year b.year (omega arith), le-ltb b.year a.year (omega arith), le-ltb a.month b.month (omega arith), le-ltb b.month a.month (omega arith), lt-ltb a.day b.day d)

  pub before_test : before a b ≡ true → Before a b
  unfolding before
  before_test h =
      by_cases (ltb a.year b.year) (λ e. inl (ltb-true _ _ e))
      (λ e1. by_cases (ltb b.year a.year) (λ e. false_true (rw (e1, e) at h))
      (λ e2. let p : b.year ≤ a.year = ltb-false _ _ e1 in let q : a.year ≤ b.year = ltb-false _ _ e2 in
      inr (
        omega arith,
        by_cases (ltb a.month b.month) (λ e. inl (ltb-true _ _ e))
            (λ e3. by_cases (ltb b.month a.month) (λ e. false_true (rw (e1, e2, e3, e) at h))
            (λ e4. let r : b.month ≤ a.month = ltb-false _ _ e3 in let s : a.month ≤ b.month = ltb-false _ _ e4 in
            inr (omega arith, ltb-true _ _ (rw (e1, e2, e3, e4) at h)))),
      )))
