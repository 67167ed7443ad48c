-- The acts and their numbers (01, "The acts program").
use Rattle.std.specs.Prelude.{◌≡◌, ◌≢◌, ℕ, eqb, Option, Some, None, Result, MatchResult}
use Rattle.lists.specs.Basics.{if}
use Rattle.acts_text.specs.declared.Act.{Act}
use Rattle.acts_text.specs.declared.Act.TheVariants.{Insert, Delete, Ask}
use Rattle.acts_text.specs.declared.UnknownAct.{UnknownAct}

-- act 1 inserts, 2 deletes, 3 asks a question
abbrev pub number_of : Act → ℕ
number_of Insert = 1
number_of Delete = 2
number_of Ask = 3

-- the act that has a number, if one has
unfoldable pub numbered : ℕ → Option Act
numbered n = if (eqb n 1) (Some Insert) (if (eqb n 2) (Some Delete) (if (eqb n 3) (Some Ask) None))

-- what comes of reading a number as an act
abbrev pub Decodes : ℕ → Result Act UnknownAct → Type 0
Decodes n r = MatchResult r (λ a. number_of a ≡ n) (λ e. (n ≢ 1) × (n ≢ 2) × (n ≢ 3))
