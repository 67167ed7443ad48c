-- The identifiers of the followed leaves, each with the page that holds it, and what the visit of the followed pages gives.
use Rattle.std.specs.Prelude.{◌≡◌, List, [], ◌++◌, map, ℕ, zero, suc, ◌+◌, ◌*◌, ◌≤◌, ◌<◌, eqb, length, get_or, take, Result, MatchResult}
use Rattle.lists.specs.Basics.{if}
use Rattle.pagestore.specs.Store.{records_of, View}
use Rattle.sound_faults.specs.declared.Fault.{Fault}
use Rattle.sound_faults.specs.Faults.{FailsAt}
use Rattle.sound_keys.specs.declared.Ends.{Ends}
use Rattle.sound_pages.specs.Pages.{PagesFine}
use Rattle.pagestore_page.specs.Layout.{max_items}

abbrev pub ident_on : ℕ × ℕ → ℕ
ident_on x = x.0

abbrev pub holder_of : ℕ × ℕ → ℕ
holder_of x = x.1

-- those of page p
unfoldable pub pairs_on : View → ℕ → List (ℕ × ℕ)
pairs_on v p = map (λ r. (r.id, p)) (records_of (v.page p))

-- those of page p, if it is marked in m
unfoldable pub pairs_if : View → List ℕ → ℕ → List (ℕ × ℕ)
pairs_if v m p = if (eqb (get_or m p 0) 0) [] (pairs_on v p)

-- those of the marked pages below k, the lowest page first
unfoldable pub pairs_to : View → List ℕ → ℕ → List (ℕ × ℕ)
pairs_to v m zero = []
pairs_to v m (suc k) = pairs_to v m k ++ pairs_if v m k

-- is have been put behind the first n of ids, and hs behind the first n of holders: there are r now
pub record Joined (is hs : List ℕ) (n : ℕ) (ids holders : List ℕ) (r : ℕ) (ids' holders' : List ℕ) : Type 0 where
  pub count : r ≡ n + length is
  pub idents : take r ids' ≡ take n ids ++ is
  pub pages : take r holders' ≡ take n holders ++ hs

-- the first n of ids and of holders are the pairs xs
pub record Collected (xs : List (ℕ × ℕ)) (n : ℕ) (ids holders : List ℕ) : Type 0 where
  pub count : n ≡ length xs
  pub idents : take n ids ≡ map ident_on xs
  pub pages : take n holders ≡ map holder_of xs

-- the marked pages below p have n of them, which are collected where there is room
pub record Gathered (v : View) (m : List ℕ) (p n : ℕ) (ids holders : List ℕ) : Type 0 where
  pub few : n ≤ max_items * p
  pub count : n ≡ length (pairs_to v m p)
  pub held : n ≤ length ids → Collected (pairs_to v m p) n ids holders

-- the answer of the visit: where each followed page is fine by itself, their ends are kept and their records counted
abbrev pub Visited : View → List ℕ → List Ends → List ℕ → List ℕ → Result ℕ Fault → Type 0
Visited v m ends ids holders r =
    MatchResult r (λ n. PagesFine v ends v.count × Gathered v m v.count n ids holders) (λ f. (0 < f.page) × FailsAt v f.page)
