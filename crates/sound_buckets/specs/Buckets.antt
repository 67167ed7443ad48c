-- How the buckets are gone through: few identifiers are compared with those of their bucket; of more, each bucket is walked, and a last-seen table says, for the
-- high 18 bits of each identifier, where they were met last. An entry of the table is a link, 0 where there is none.
use Rattle.std.specs.Prelude.{ℕ, suc, ◌≤◌, ◌<◌, ◌/◌, ◌≡◌, ◌≢◌, List, length, get_or}
use Rattle.sound_chains.specs.Repeats.{Holds, Under}
use Rattle.sound_chains.specs.Chains.{buckets, bucket_of}

-- the high bits, by which an identifier has its place in the last-seen table
abbrev pub slots : ℕ
slots = 262144

abbrev pub slot_of : ℕ → ℕ
slot_of x = x / buckets

-- best is the lowest page as far as the places in D go
pub record Sofar (D : ℕ → Type 0) (ids pages : List ℕ) (best : ℕ) : Type 0 where
  pub pairs : (i k : ℕ) → D i → D k → i < length ids → k < length ids → k ≢ i → get_or ids k 0 ≡ get_or ids i 0 → Under best (get_or pages i 0)
  pub held : 0 < best → Holds ids pages best

-- the buckets below g are walked
pub record Stage (ids pages : List ℕ) (g : ℕ) (seen : List ℕ) (best : ℕ) : Type 0 where
  pub last_seen : (h k : ℕ) → get_or seen h 0 ≡ suc k → (k < length ids) × (bucket_of (get_or ids k 0) < g)
  pub sofar : Sofar (λ k. bucket_of (get_or ids k 0) < g) ids pages best

-- r links to a place below m that holds x, or is 0 where there is none; above m it says nothing
pub record Probed (ids : List ℕ) (m x r : ℕ) : Type 0 where
  pub found : (k : ℕ) → r ≡ suc k → r ≤ m → get_or ids k 0 ≡ x
  pub none : r ≡ 0 → (k : ℕ) → k < m → get_or ids k 0 ≢ x
