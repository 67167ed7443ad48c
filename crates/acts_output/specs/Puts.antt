-- What a line of input may print, and a text that is written.
use Rattle.std.specs.Prelude.{List, ℕ, ◌+◌, ◌*◌, ◌≤◌}
use Rattle.acts_fields.specs.Bytes.{Written}

-- the rows lent to a question
abbrev pub rows_lent : ℕ
rows_lent = 64

-- the most bytes that a line of input prints: a line of output has at most 105
abbrev pub most_printed : ℕ
most_printed = rows_lent * 105

-- a text of which P holds is written in out from index at on, up to index r, and leaves out'; it has at most m bytes
pub record Puts (P : List ℕ → Type 0) (m : ℕ) (out out' : List ℕ) (at r : ℕ) : Type 0 where
  pub text : List ℕ
  pub says : P text
  pub written : Written out out' at r text
  pub room : r ≤ at + m
