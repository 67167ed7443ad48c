-- What an insert and a delete without the check return, and what they leave of the index.
use Rattle.std.specs.Prelude.{◌≡◌, List, ℕ, ℤ}
use Rattle.index_refusals.specs.declared.Epoch.{Epoch}
use Rattle.index_refusals.specs.Refusals.{First}
use Rattle.index_refusals.specs.Outcomes.{inserted_with, deleted_with}
use Rattle.index_refusals.specs.Trusted.{trusted_insert, trusted_delete}

-- of the epoch e with point p, and of identifier i, on index b: the number r, and the index c afterwards
abbrev pub TrustedInserted : List ℕ → Epoch → List ℤ → ℕ → List ℕ → Type 0
TrustedInserted b e p r c = (First (trusted_insert b e p) r) × (c ≡ inserted_with r b e p)

abbrev pub TrustedDeleted : List ℕ → ℕ → ℕ → List ℕ → Type 0
TrustedDeleted b i r c = (First (trusted_delete b i) r) × (c ≡ deleted_with r b i)
