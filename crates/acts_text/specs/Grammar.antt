-- Which lines of values are readable (01, "The acts program"): those that are the decimal writings of values in their ranges, joined by
-- one space.
-- `LineLaws.act_reads` and `act_writes` show that the reader goes by exactly this; `NameLaws` shows the same of the line of names.
use Rattle.std.specs.Prelude.{ℕ, ◌-◌, ◌≤◌, ◌≡◌, List, [], ◌∷◌, ◌++◌, map, pos, length, take, drop, replicate}
use Rattle.lists.specs.Basics.{All}
use Rattle.acts_fields.specs.Bytes.{space}
use Rattle.acts_fields.specs.Decimal.{text, signed_text}
use Rattle.acts_fields.specs.Fields.{Coordinate}
use Rattle.acts_text.specs.Acts.{number_of}
use Rattle.acts_text.specs.Lines.{max_features}
use Rattle.acts_text.specs.declared.ActLine.{ActLine}

-- fields with one space between
unfoldable pub joined : List (List ℕ) → List ℕ
joined [] = []
joined (f ∷ []) = f
joined (f ∷ g ∷ fs) = f ++ (space ∷ joined (g ∷ fs))

-- the line that says a: its values in decimal
abbrev pub line_text : ActLine → List ℕ
line_text a = joined (text (number_of a.act) ∷ text a.id ∷ text a.k ∷ text a.stage ∷ text a.stamp ∷ map signed_text (take a.d a.coords))

-- every value is in its range, where d coordinates are named; slots past them are 0
pub record Ranged (d : ℕ) (a : ActLine) : Type 0 where
  pub ids : a.id ≤ 4294967295
  pub ks : a.k ≤ 4294967295
  pub stages : a.stage ≤ 4294967295
  pub stamps : a.stamp ≤ 4294967295
  pub named : (a.d ≡ d) × (d ≤ max_features)
  pub coordinate : All Coordinate (take d a.coords)
  pub slots : (length a.coords ≡ max_features) × (drop d a.coords ≡ replicate (max_features - d) (pos 0))
