-- A line of values: `act id k stage stamp`, then the coordinates, one space between.
-- How a line is read; `Grammar` says which lines are readable.
use Rattle.std.specs.Prelude.{◌≡◌, ℕ, zero, suc, ◌+◌, ◌-◌, List, [], ◌∷◌, ◌++◌, ltb, eqb, ℤ, pos, length, get_or, drop, take, replicate, Option, Some, None, option_and_then, option_map}
use Rattle.lists.specs.Basics.{if}
use Rattle.acts_fields.specs.Bytes.{space, until}
use Rattle.acts_fields.specs.Fields.{natural, signed}
use Rattle.acts_text.specs.Acts.{numbered}
use Rattle.acts_text.specs.declared.Act.{Act}
use Rattle.acts_text.specs.declared.ActLine.{ActLine}

-- the most bytes of a readable line
abbrev pub limit : ℕ
limit = 256

-- the most coordinates
abbrev pub max_features : ℕ
max_features = 16

-- the columns before the coordinates: act, id, k, stage, stamp
abbrev pub leading : ℕ
leading = 5

-- the length of a field behind which n more fields come: up to the first space, and of the last field all that is left
unfoldable pub field_length : ℕ → List ℕ → ℕ
field_length n l = if (eqb n 0) (length l) (until space l)

-- f is the field that l begins with, and r what is behind it, where n more fields come
pub record Cut (n : ℕ) (l f r : List ℕ) : Type 0 where
  pub first : f ≡ take (field_length n l) l
  pub rest : r ≡ drop (suc (field_length n l)) l

-- the n fields of a line
unfoldable pub fields : ℕ → List ℕ → List (List ℕ)
fields zero l = []
fields (suc n) l = take (field_length n l) l ∷ fields n (drop (suc (field_length n l)) l)

-- a number of 32 bits, as leading columns hold
abbrev pub number : List ℕ → Option ℕ
number f = natural 4294967295 f

-- the coordinates that fields say, if each is readable
unfoldable pub coordinates : List (List ℕ) → Option (List ℤ)
coordinates [] = Some []
coordinates (f ∷ fs) = option_and_then (λ z. option_map (λ zs. z ∷ zs) (coordinates fs)) (signed f)

-- coordinates in their slots: zeros behind them
abbrev pub padded : List ℤ → List ℤ
padded zs = zs ++ replicate (max_features - length zs) (pos 0)

-- what values say, d of them coordinates, if each is there
unfoldable pub line_of : ℕ → Option Act → Option ℕ → Option ℕ → Option ℕ → Option ℕ → Option (List ℤ) → Option ActLine
line_of d None i k s t zs = None
line_of d (Some a) None k s t zs = None
line_of d (Some a) (Some i) None s t zs = None
line_of d (Some a) (Some i) (Some k) None t zs = None
line_of d (Some a) (Some i) (Some k) (Some s) None zs = None
line_of d (Some a) (Some i) (Some k) (Some s) (Some t) None = None
line_of d (Some a) (Some i) (Some k) (Some s) (Some t) (Some zs) = Some (record { act = a; id = i; k = k; stage = s; stamp = t; d = d; coords = padded zs })

-- what fields say, column by column
abbrev pub said : ℕ → List (List ℕ) → Option ActLine
said d fs =
    line_of d (option_and_then numbered (number (get_or fs 0 []))) (number (get_or fs 1 [])) (number (get_or fs 2 []))
    (number (get_or fs 3 [])) (number (get_or fs 4 [])) (coordinates (drop leading fs))

-- what a line says, where d coordinates are named
unfoldable pub act_of : ℕ → List ℕ → Option ActLine
act_of d l = if (ltb limit (length l)) None (if (ltb max_features d) None (said d (fields (leading + d) l)))
