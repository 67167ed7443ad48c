-- What the contracts of single steps cite, beside the definitions of insertion and deletion.
use Rattle.std.specs.Prelude.{◌≡◌, List, [], ◌∷◌, ℕ}
use Rattle.pagestore_page.specs.declared.Entry.{Entry}
use Rattle.tree_core.specs.Insertion.{Rewritten}
use Rattle.tree_core.specs.Deletion.{Deleted}
use Rattle.tree_core.specs.declared.Left.{Left}
use Rattle.tree_core.specs.declared.Grown.{Grown}
use Rattle.tree_core.specs.declared.Grown.TheVariants.{One, Two}

-- the entries of what pages have become
abbrev pub grown_list : Grown → List Entry
grown_list (One e) = e ∷ []
grown_list (Two e f) = e ∷ f ∷ []

-- the bytes b and the entries g are those of o
pub record RewriteDone (o : Rewritten) (b : List ℕ) (g : Grown) : Type 0 where
  pub bytes : b ≡ o.bytes
  pub entries : grown_list g ≡ o.entries

-- the bytes b and, of the page, x are those of o
pub record LeftDone (o : Deleted) (b : List ℕ) (x : Left) : Type 0 where
  pub bytes : b ≡ o.bytes
  pub entry : x.entry ≡ o.entry
  pub count : x.count ≡ o.count

abbrev pub deleted_of : List ℕ → Left → Deleted
deleted_of b x = record { bytes = b; entry = x.entry; count = x.count }
