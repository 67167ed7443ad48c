-- The rows lent (01, "A question") once they are filled from candidates that two arrays hold: rows past those returned keep their contents.
use Rattle.std.specs.Prelude.{ℕ, min, List, ◌++◌, length, get_or, drop}
use Rattle.search_rows.specs.declared.Row.{Row}
use Rattle.search_rows.specs.Rows.{row_of}
use Rattle.search_rows.specs.Held.{rows_in}

-- the row of candidate i
abbrev pub row_at : List ℕ → List ℕ → ℕ → Row
row_at highs lows i = row_of (get_or highs i 0) (get_or lows i 0)

-- how many rows are written: the candidates, at most as many as the arrays hold and as there are places for them
abbrev pub rows_lent : List ℕ → List ℕ → ℕ → ℕ → ℕ
rows_lent highs lows count lent = min (min count (min (length highs) (length lows))) lent

-- the rows once the first n candidates are written
abbrev pub up_to : List ℕ → List ℕ → List Row → ℕ → List Row
up_to highs lows old n = rows_in highs lows n ++ drop n old

abbrev pub filled : List ℕ → List ℕ → ℕ → List Row → List Row
filled highs lows count old = up_to highs lows old (rows_lent highs lows count (length old))
