-- How input is cut into lines: a line ends at a newline or the end of input; after a last newline there is no further line.
use Rattle.std.specs.Prelude.{ℕ, suc, ◌+◌, ◌-◌, min, ◌≡◌, List, [], ◌∷◌, ◌++◌, ltb, eqb, length, take, drop}
use Rattle.lists.specs.Basics.{if}
use Rattle.acts_fields.specs.Bytes.{newline, until, Written}
use Rattle.acts_text.specs.Lines.{limit}
use Rattle.acts_text.specs.declared.Fed.{Fed}

-- the byte b before the first of some lines
unfoldable pub before : ℕ → List (List ℕ) → List (List ℕ)
before b [] = (b ∷ []) ∷ []
before b (l ∷ ls) = (b ∷ l) ∷ ls

-- the lines of an input, without their newlines
unfoldable pub lines_of : List ℕ → List (List ℕ)
lines_of [] = []
lines_of (b ∷ s) = if (eqb b newline) ([] ∷ lines_of s) (before b (lines_of s))

-- what is kept of a line: enough to tell that it is over the limit
abbrev pub kept : List ℕ → List ℕ
kept l = take (suc limit) l

-- the lines that end within a chunk, as kept, where l is kept of the current line
unfoldable pub ended : List ℕ → List ℕ → List (List ℕ)
ended l [] = []
ended l (b ∷ s) = if (eqb b newline) (l ∷ ended [] s) (ended (kept (l ++ (b ∷ []))) s)

-- what is kept of the current line after a chunk
unfoldable pub current : List ℕ → List ℕ → List ℕ
current l [] = l
current l (b ∷ s) = if (eqb b newline) (current [] s) (current (kept (l ++ (b ∷ []))) s)

-- the line that the end of input ends: none behind a last newline
unfoldable pub last_line : List ℕ → List (List ℕ)
last_line [] = []
last_line (b ∷ l) = (b ∷ l) ∷ []

-- the bytes of a chunk from index at up to a newline
abbrev pub piece : List ℕ → ℕ → List ℕ
piece chunk at = take (until newline (drop at chunk)) (drop at chunk)

-- the chunk's bytes from index at go into the current line, of which n are held: as many as are kept of it, behind them;
-- the line has ended if a newline stands there, and the chunk goes on behind it
pub record Feeds (held held' : List ℕ) (n : ℕ) (chunk : List ℕ) (at : ℕ) (r : Fed) : Type 0 where
  pub bytes : Written held held' n r.held (take (suc limit - n) (piece chunk at))
  pub whole : r.ended ≡ ltb (at + until newline (drop at chunk)) (length chunk)
  pub next : r.at ≡ min (at + until newline (drop at chunk) + 1) (length chunk)
