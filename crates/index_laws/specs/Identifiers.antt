-- How often an identifier is live after acts: once if the last insert or delete of it that was carried out is an insert, else not at all.
use Rattle.std.specs.Prelude.{ℕ, eqb}
use mathlib.Core.List.{List, [], ◌∷◌}
use Rattle.lists.specs.Basics.{if}
use Rattle.index_refusals.specs.Outcomes.{unless_refused}
use Rattle.index.specs.Acts.{Act, insert, delete, question, check, Done}

-- how often an identifier is live after an act that is carried out, having been live n times
abbrev pub times_by : ℕ → Act → ℕ → ℕ
times_by i (insert x p) n = if (eqb i x.id) 1 n
times_by i (delete j) n = if (eqb i j) 0 n
times_by i (question w m) n = n
times_by i check n = n

-- and after acts: a refused one changes nothing
unfoldable pub times_after : ℕ → List Done → ℕ → ℕ
times_after i [] n = n
times_after i (o ∷ os) n = times_after i os (unless_refused o.code (times_by i o.act n) n)
