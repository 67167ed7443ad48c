-- A stamp lies in a question's window just if the date of its recording day is from the first to the last, or no dates are given.
use Rattle.std.proofs.Common.{◌≡◌, refl, sym, ap, ◌∙◌, subst, ℕ, ◌+◌, ◌-◌, ◌/◌, ◌≤◌, ◌<◌, arith}
use Rattle.calendar.specs.declared.Dates.{Dates}
use Rattle.calendar.specs.Dates.{InCalendar, date_at}
use Rattle.calendar.specs.Days.{noon, DayOf, InDays}
use Rattle.calendar.specs.Counting.{number_of, day_number}
use Rattle.calendar.proofs.CountLaws.{From2000, at_exists, number_at}
use Rattle.calendar.proofs.TestLaws.{number_in}
use Rattle.calendar.proofs.OrderLaws.{number_upto, upto_number}

-- ---- RECORDING DAYS

-- a stamp from noon of 1 January 2000 on lies in a day
pub has_day : (s : ℕ) → 43200 ≤ s → DayOf s (date_at ((s - 43200) / 86400))
has_day s h = record { number = (s - 43200) / 86400; begins = omega arith; ends = omega arith; date = refl }

-- ---- THE WINDOW

module _ (dates : Dates) (f : InCalendar dates.first) (l : InCalendar dates.last) (s : ℕ) where
  pub window_to : noon (day_number dates.first) ≤ s → s < noon (day_number dates.last + 1) → InDays dates s
  window_to p q =
      let n : ℕ = (s - 43200) / 86400 in
      let a : number_of dates.first ≤ number_of (date_at n) = omega (arith, number_at n, number_in dates.first f) in
      let b : number_of (date_at n) ≤ number_of dates.last = omega (arith, number_at n, number_in dates.last l) in
      record {
        date = date_at n;
        day = has_day s (omega arith);
        after = upto_number dates.first (date_at n) (f.real, f.from) (at_exists n) a;
        before = upto_number (date_at n) dates.last (at_exists n) (l.real, l.from) b;
      }

  pub window_from : InDays dates s → (noon (day_number dates.first) ≤ s) × (s < noon (day_number dates.last + 1))
  window_from w =
      let n = w.day.number in
      let at : From2000 w.date = subst From2000 w.day.date (at_exists n) in
      let e : number_of w.date ≡ n = ap number_of (sym w.day.date) ∙ number_at n in
      let a : number_of dates.first ≤ number_of w.date = number_upto dates.first w.date (f.real, f.from) at w.after in
      let b : number_of w.date ≤ number_of dates.last = number_upto w.date dates.last at (l.real, l.from) w.before in
      (omega (arith, number_in dates.first f, w.day.begins), omega (arith, number_in dates.last l, w.day.ends))
