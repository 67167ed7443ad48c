-- Identifiers in a chained hash table: those with the same low 14 bits are in one bucket, and each bucket is a chain from its last identifier to its first.
-- A link is one more than a place, or 0 for none.
use Rattle.std.specs.Prelude.{ℕ, zero, suc, ◌≤◌, ◌<◌, ◌%◌, ◌≡◌, List, eqb, length, get_or}
use Rattle.lists.specs.Basics.{if}
use Rattle.sound_chains.specs.Repeats.{lower_page}

-- there are 16,384 buckets, and at most 65,535 identifiers
abbrev pub buckets : ℕ
buckets = 16384

abbrev pub max_idents : ℕ
max_idents = 65535

abbrev pub bucket_of : ℕ → ℕ
bucket_of x = x % buckets

-- the link to the last place below m that is in bucket g
unfoldable pub latest : List ℕ → ℕ → ℕ → ℕ
latest ids g zero = zero
latest ids g (suc m) = if (eqb (bucket_of (get_or ids m 0)) g) (suc m) (latest ids g m)

-- the first n identifiers are chained: head leads to the last of each bucket, next from each to the one before
pub record Heads (n : ℕ) (ids head : List ℕ) : Type 0 where
  pub last : (g : ℕ) → g < buckets → get_or head g 0 ≡ latest ids g n

pub record Chained (n : ℕ) (ids next : List ℕ) : Type 0 where
  pub link : (i : ℕ) → i < n → get_or next i 0 ≡ latest ids (bucket_of (get_or ids i 0)) i

-- the lent arrays are long enough
pub record Room (ids head next : List ℕ) : Type 0 where
  pub few : length ids ≤ max_idents
  pub heads : length head ≡ buckets
  pub links : length ids ≤ length next

pub record Blank (a : List ℕ) : Type 0 where
  pub zeros : (i : ℕ) → get_or a i 0 ≡ 0

-- the lowest page so far, after the identifier at i has met the one that k links to
unfoldable pub met_of : List ℕ → List ℕ → ℕ → ℕ → ℕ → ℕ
met_of ids pages i zero best = best
met_of ids pages i (suc o) best =
    if (eqb (get_or ids o 0) (get_or ids i 0)) (lower_page best (lower_page (get_or pages i 0) (get_or pages o 0))) best
