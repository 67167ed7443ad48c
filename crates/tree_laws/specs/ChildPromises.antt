-- The last of some entries whose first key is not above a key, else the first of all (01).
use Rattle.std.specs.Prelude.{◌≡◌, ◌⊎◌, List, ℕ, suc, ◌≤◌, ◌<◌, length, get_or, drop}
use Rattle.lists.specs.Basics.{All}
use Rattle.geometry.specs.Keys.{key_number}
use Rattle.pagestore_page.specs.declared.Entry.{Entry}
use Rattle.pagestore_page.specs.Layout.{no_entry}

-- an entry's first key, as a number
abbrev pub first_rank : Entry → ℕ
first_rank e = key_number e.first

-- of the entries es the one at index n is the last whose first key is not above k, or the first of all where there is none
pub record LastNotAbove (k : ℕ) (es : List Entry) (n : ℕ) : Type 0 where
  pub within : n < length es
  pub reached : (n ≡ 0) ⊎ (first_rank (get_or es n no_entry) ≤ k)
  pub behind : All (λ e. k < first_rank e) (drop (suc n) es)
