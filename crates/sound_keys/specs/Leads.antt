-- The leads of coordinates, of which the greatest tells a record's pyramid and height.
use Rattle.std.specs.Prelude.{◌≡◌, List, ℕ, zero, suc, ◌+◌, ◌-◌, ◌*◌, ◌≤◌, ◌<◌, max, nat_abs, length, get_or}
use Rattle.geometry.specs.Stored.{coord_of}
use Rattle.pagestore_page.specs.declared.Leaf.{Leaf}
use Rattle.pagestore_page.specs.Layout.{no_record}

-- the magnitude of coordinate m of cs, followed by how far m is below 15: of two of one magnitude the first leads
unfoldable pub lead_of : ℕ → List ℕ → ℕ
lead_of m cs = nat_abs (coord_of (get_or cs m 0)) * 16 + (15 - m)

-- the greatest lead of the first m coordinates
unfoldable pub lead_to : ℕ → List ℕ → ℕ
lead_to zero cs = 0
lead_to (suc m) cs = max (lead_to m cs) (lead_of m cs)

-- tops holds that of each of the first n records of a leaf
pub record Leads (x : Leaf) (m n : ℕ) (tops : List ℕ) : Type 0 where
  pub size : n ≤ length tops
  pub top : (i : ℕ) → i < n → get_or tops i 0 ≡ lead_to m (get_or x.records i no_record).coords
