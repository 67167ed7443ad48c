-- Recording days (02, Q-4): from noon up to, not including, the next noon, with the date on which they began; and those that a question asks for.
use Rattle.std.specs.Prelude.{Option, None, Some, ◌≡◌, Bool, true, false, ℕ, ◌+◌, ◌*◌, ◌≤◌, ◌<◌}
use Rattle.calendar.specs.declared.Date.{Date}
use Rattle.calendar.specs.declared.Dates.{Dates}
use Rattle.calendar.specs.Dates.{InCalendar, Before, UpTo, date_at}

-- the seconds from midnight to noon, and of a day
abbrev pub to_noon : ℕ
to_noon = 43200

abbrev pub day_length : ℕ
day_length = 86400

-- the stamp, in seconds since 1 January 2000 00:00, at which day n begins: noon of the date with number n
abbrev pub noon : ℕ → ℕ
noon n = to_noon + day_length * n

-- the stamp lies in the recording day of this date
pub record DayOf (stamp : ℕ) (d : Date) : Type 0 where
  pub number : ℕ
  pub begins : noon number ≤ stamp
  pub ends : stamp < noon (number + 1)
  pub date : date_at number ≡ d

-- the stamp lies in the recording day of a date from first to last
pub record InDays (dates : Dates) (stamp : ℕ) : Type 0 where
  pub date : Date
  pub day : DayOf stamp date
  pub after : UpTo dates.first date
  pub before : UpTo date dates.last

-- ---- THOSE OF A QUESTION

-- the recording days that a question asks for, if it names any
-- Kept: a type of its own, since the theorems on questions (`window_days`, `days_reach`, `question_answers`) are stated over it
pub data Days : Type 0 where
  undated : Days
  dated : Dates → Days

-- whether it does is a flag
abbrev pub days_if : Bool → Dates → Days
days_if false dates = undated
days_if true dates = dated dates

-- or an option
abbrev pub days_of : Option Dates → Days
days_of None = undated
days_of (Some dates) = dated dates

-- the stamp passes: without dates every one does
abbrev pub Passes : Days → ℕ → Type 0
Passes undated stamp = Unit {0}
Passes (dated dates) stamp = InDays dates stamp

-- both dates are in the calendar, where they are given
abbrev pub InCalendars : Days → Type 0
InCalendars undated = Unit {0}
InCalendars (dated dates) = InCalendar dates.first × InCalendar dates.last

-- the last is not before the first
abbrev pub InOrder : Days → Type 0
InOrder undated = Unit {0}
InOrder (dated dates) = ¬ (Before dates.last dates.first)
