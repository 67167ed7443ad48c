-- The line of names: `act id k stage stamp c0 ..` up to the last coordinate.
-- `NameLaws` shows that a line is read as d exactly if it is `names d` and d is 1 to 16.
use Rattle.std.specs.Prelude.{ℕ, zero, suc, ◌+◌, ◌-◌, ◌/◌, ◌%◌, Bool, true, false, List, [], ◌∷◌, ◌++◌, leb, eqb, length, Option, Some, None}
use Rattle.lists.specs.Basics.{if}
use Rattle.acts_fields.specs.Bytes.{space}
use Rattle.acts_fields.specs.Decimal.{text}

-- `act id k stage stamp`, and for each of d coordinates a space, `c` and its number
unfoldable pub names : ℕ → List ℕ
names zero = 97 ∷ 99 ∷ 116 ∷ 32 ∷ 105 ∷ 100 ∷ 32 ∷ 107 ∷ 32 ∷ 115 ∷ 116 ∷ 97 ∷ 103 ∷ 101 ∷ 32 ∷ 115 ∷ 116 ∷ 97 ∷ 109 ∷ 112 ∷ []
names (suc d) = names d ++ (space ∷ 99 ∷ text d)

-- `names 16`, written out; `names d` is how it begins
abbrev pub all_names : List ℕ
all_names = 97 ∷ 99 ∷ 116 ∷ 32 ∷ 105 ∷ 100 ∷ 32 ∷ 107 ∷ 32 ∷ 115 ∷ 116 ∷ 97 ∷ 103 ∷ 101 ∷ 32 ∷ 115 ∷ 116 ∷ 97 ∷ 109 ∷ 112 ∷ 32 ∷ 99 ∷ 48 ∷ 32 ∷ 99 ∷ 49 ∷ 32 ∷ 99 ∷ 50 ∷ 32 ∷ 99 ∷ 51 ∷ 32 ∷ 99 ∷ 52 ∷ 32 ∷ 99 ∷ 53 ∷ 32 ∷ 99 ∷ 54 ∷ 32 ∷ 99 ∷ 55 ∷ 32 ∷ 99 ∷ 56 ∷ 32 ∷ 99 ∷ 57 ∷ 32 ∷ 99 ∷ 49 ∷ 48 ∷ 32 ∷ 99 ∷ 49 ∷ 49 ∷ 32 ∷ 99 ∷ 49 ∷ 50 ∷ 32 ∷ 99 ∷ 49 ∷ 51 ∷ 32 ∷ 99 ∷ 49 ∷ 52 ∷ 32 ∷ 99 ∷ 49 ∷ 53 ∷ []

-- l is how t begins
unfoldable pub is_prefix : List ℕ → List ℕ → Bool
is_prefix [] t = true
is_prefix (a ∷ l) [] = false
is_prefix (a ∷ l) (b ∷ t) = if (eqb a b) (is_prefix l t) false

-- the bytes of `act id k stage stamp`
abbrev pub lead : ℕ
lead = 20

-- the bytes of a line of ten names
abbrev pub ten : ℕ
ten = lead + 30

-- how many coordinates a line of names of n bytes has, if one has n bytes: behind `act id k stage stamp`, ` c0` to ` c9` have 3 bytes,
-- ` c10` and up 4
unfoldable pub features_in : ℕ → Option ℕ
features_in n = if (leb n lead) None (if (leb n ten) (if (eqb ((n - lead) % 3) 0) (Some ((n - lead) / 3)) None) (if (eqb ((n - ten) % 4) 0) (Some (10 + (n - ten) / 4)) None))

-- the d of a line of names
unfoldable pub names_in : List ℕ → Option ℕ
names_in l = if (is_prefix l all_names) (features_in (length l)) None
