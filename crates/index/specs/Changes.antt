-- What make, insert and delete (01) return, and what they leave of the index: where a number refuses them, every byte stays as it was.
use Rattle.std.specs.Prelude.{◌≡◌, List, ℕ, ℤ, length}
use Rattle.index_refusals.specs.declared.Epoch.{Epoch}
use Rattle.index_refusals.specs.Refusals.{First, make_rules, insert_rules, delete_rules}
use Rattle.index_refusals.specs.Outcomes.{made_with, inserted_with, deleted_with}

-- b: the bytes lent. d: features. e: an epoch. i: an identifier. p: a point. r: the number returned. c: the bytes afterwards.

abbrev pub Made : List ℕ → ℕ → ℕ → List ℕ → Type 0
Made b d r c = (First (make_rules (length b) d) r) × (c ≡ made_with r b d)

abbrev pub Inserted : List ℕ → Epoch → List ℤ → ℕ → List ℕ → Type 0
Inserted b e p r c = (First (insert_rules b e p) r) × (c ≡ inserted_with r b e p)

abbrev pub Deleted : List ℕ → ℕ → ℕ → List ℕ → Type 0
Deleted b i r c = (First (delete_rules b i) r) × (c ≡ deleted_with r b i)
