-- What the acts program prints for an act (01, "The acts program").
use Rattle.std.specs.Prelude.{List, [], ◌∷◌, ℕ}
use Rattle.search_rows.specs.declared.Row.{Row}
use Rattle.search_model.specs.Visit.{Answer as Found}
use Rattle.index.specs.Acts.{Act, insert, delete, question, check}
use Rattle.acts_output.specs.Output.{result_line, row_lines}

-- a question's rows; with no rows, or refused, one line with identifier and distance 0
abbrev pub answer_lines : ℕ → ℕ → ℕ → List Row → List ℕ
answer_lines n code leaves [] = result_line n code 0 0 leaves
answer_lines n code leaves (x ∷ xs) = row_lines n code leaves (x ∷ xs)

-- an act's lines: an insert or delete prints its identifier and two zeros. No line of values asks for a check.
abbrev pub printed : ℕ → Act → ℕ → Found → List ℕ
printed n (insert e p) code f = result_line n code e.id 0 0
printed n (delete i) code f = result_line n code i 0 0
printed n (question w m) code f = answer_lines n code f.leaves f.rows
printed n check code f = []
