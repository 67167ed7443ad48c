-- The program's output: a line of names, then lines of five numbers.
use Rattle.std.specs.Prelude.{ℕ, List, [], ◌∷◌, ◌++◌}
use Rattle.search_rows.specs.declared.Row.{Row}
use Rattle.acts_fields.specs.Bytes.{space, newline}
use Rattle.acts_fields.specs.Decimal.{text}

-- `line code id dist leaves`
abbrev pub heading : List ℕ
heading = 108 ∷ 105 ∷ 110 ∷ 101 ∷ 32 ∷ 99 ∷ 111 ∷ 100 ∷ 101 ∷ 32 ∷ 105 ∷ 100 ∷ 32 ∷ 100 ∷ 105 ∷ 115 ∷ 116 ∷ 32 ∷ 108 ∷ 101 ∷ 97 ∷ 118 ∷ 101 ∷ 115 ∷ 10 ∷ []

-- a number in decimal and the byte behind it
unfoldable pub field : ℕ → ℕ → List ℕ
field n b = text n ++ (b ∷ [])

-- a line of output: line number, code, identifier, squared distance, leaves read
unfoldable pub result_line : ℕ → ℕ → ℕ → ℕ → ℕ → List ℕ
result_line line code id dist leaves = field line space ++ (field code space ++ (field id space ++ (field dist space ++ field leaves newline)))

-- one line per row. n: the line's number.
unfoldable pub row_lines : ℕ → ℕ → ℕ → List Row → List ℕ
row_lines n code leaves [] = []
row_lines n code leaves (x ∷ xs) = result_line n code x.id x.distance leaves ++ row_lines n code leaves xs
