-- The calendar as executable functions, which the code computes; proofs/Promises.antt shows that they agree with Dates and Days.
use Rattle.std.specs.Prelude.{Option, None, Some, Bool, true, false, ℕ, zero, suc, ◌+◌, ◌-◌, ltb}
use Rattle.lists.specs.Basics.{if}
use Rattle.calendar.specs.declared.Date.{Date}
use Rattle.calendar.specs.declared.Window.{Window}
use Rattle.calendar.specs.Dates.{first_year, last_year, leap, month_days, days_in}
use Rattle.calendar.specs.Days.{noon, Days, undated, dated}

-- the test of `InCalendar`
unfoldable pub in_calendar : Date → Bool
in_calendar d =
    if (ltb d.year first_year) false
    (if (ltb last_year d.year) false
    (if (ltb d.month 1) false
    (if (ltb 12 d.month) false
    (if (ltb d.day 1) false
    (if (ltb (days_in d) d.day) false true)))))

-- the test of `Before`
unfoldable pub before : Date → Date → Bool
before a b =
    if (ltb a.year b.year) true
    (if (ltb b.year a.year) false
    (if (ltb a.month b.month) true
    (if (ltb b.month a.month) false
    (ltb a.day b.day))))

-- the days of k years from 2000 on
unfoldable pub days_of_years : ℕ → ℕ
days_of_years zero = 0
days_of_years (suc k) = days_of_years k + if (leap (first_year + k)) 366 365

-- the days of the months before month m
unfoldable pub days_of_months : Bool → ℕ → ℕ
days_of_months l zero = 0
days_of_months l (suc m) = days_of_months l m + month_days l m

-- the number of a date from 2000 on: the days of the years before, of the months before, and the days before it in its month
unfoldable pub number_of : Date → ℕ
number_of d = days_of_years (d.year - first_year) + days_of_months (leap d.year) d.month + (d.day - 1)

-- the last number: 31 December 2099
abbrev pub last_number : ℕ
last_number = 36524

-- the number of a date in the calendar; any other date has none, and 0 stands for it
unfoldable pub day_number : Date → ℕ
day_number d = if (in_calendar d) (number_of d) 0

-- ---- THE WINDOW OF A QUESTION

-- the stamps of the days asked for: without dates no window, else from the first day's noon up to, not including, the noon after the last
abbrev pub window_of : Days → Option Window
window_of undated = None
window_of (dated dates) = Some (record { from = noon (day_number dates.first); until = noon (day_number dates.last + 1) })

-- whether a stamp lies in a window, as every one does where there is none; of the window of days in the calendar that is `Passes` (`window_days`)
unfoldable pub in_window : Option Window → ℕ → Bool
in_window None stamp = true
in_window (Some w) stamp = if (ltb stamp w.from) false (ltb stamp w.until)
