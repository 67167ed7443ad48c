-- Repeated identifiers: those that stand at two places or more, and the lowest page that holds one.
use Rattle.std.specs.Prelude.{ℕ, min, ◌≤◌, ◌<◌, Bool, ◌≡◌, ◌≢◌, List, [], ◌∷◌, eqb, ltb, length, get_or}
use Rattle.lists.specs.Basics.{if}
use Rattle.lists.specs.Counts.{mult}

-- x stands at two places or more
abbrev pub repeated : List ℕ → ℕ → Bool
repeated ids x = ltb 1 (mult x ids)

-- the lower of two pages, 0 being no page
abbrev pub lower_page : ℕ → ℕ → ℕ
lower_page p q = if (eqb p 0) q (if (eqb q 0) p (min p q))

-- the lowest of the pages ps whose identifier in xs is repeated among ids; 0 if there is none
unfoldable pub lowest_of : List ℕ → List ℕ → List ℕ → ℕ
lowest_of ids [] ps = 0
lowest_of ids (x ∷ xs) [] = 0
lowest_of ids (x ∷ xs) (p ∷ ps) = lower_page (if (repeated ids x) p 0) (lowest_of ids xs ps)

-- the lowest page that holds a repeated identifier, the identifier at each place being on the page at that place; 0 if there is none
unfoldable pub lowest_repeat : List ℕ → List ℕ → ℕ
unfolding lowest_of
lowest_repeat ids pages = lowest_of ids ids pages

-- ---- what the lowest page is, said of places

-- the identifier at i stands at another place too
pub record Repeated (ids : List ℕ) (i : ℕ) : Type 0 where
  pub here : i < length ids
  pub other : ℕ
  pub there : other < length ids
  pub apart : other ≢ i
  pub same : get_or ids other 0 ≡ get_or ids i 0

-- page r holds a repeated identifier
pub record Holds (ids pages : List ℕ) (r : ℕ) : Type 0 where
  pub at : ℕ
  pub twice : Repeated ids at
  pub page : get_or pages at 0 ≡ r

-- where p is a page, r is one too and not above it
abbrev pub Under : ℕ → ℕ → Type 0
Under r p = 0 < p → (0 < r) × (r ≤ p)

-- r is the lowest page that holds a repeated identifier, or 0
pub record Lowest (ids pages : List ℕ) (r : ℕ) : Type 0 where
  pub least : (i : ℕ) → Repeated ids i → Under r (get_or pages i 0)
  pub held : 0 < r → Holds ids pages r
