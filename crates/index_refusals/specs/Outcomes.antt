-- What an act returns and what it leaves of the index: where a number refuses it, every byte stays as it was.
use Rattle.std.specs.Prelude.{List, [], ℕ, zero, suc, ℤ}
use Rattle.pagestore.specs.Store.{new_index}
use Rattle.tree_core.specs.Insertion.{insert_into}
use Rattle.tree_core.specs.Deletion.{delete_from}
use Rattle.tree_core.specs.Lookup.{find_in}
use Rattle.search_model.specs.Visit.{Answer as Found, found}
use Rattle.index_query.specs.Asking.{Question, sought}
use Rattle.index_refusals.specs.declared.Epoch.{Epoch}
use Rattle.index_refusals.specs.Refusals.{record_of}

-- what success gives, or what there was if the number refuses
abbrev pub unless_refused : {A : Type 0} → ℕ → A → A → A
unless_refused zero new old = new
unless_refused (suc n) new old = old

-- n: the number returned. The rest as in the table's rules.

abbrev pub made_with : ℕ → List ℕ → ℕ → List ℕ
made_with n b d = unless_refused n (new_index b d) b

abbrev pub inserted_with : ℕ → List ℕ → Epoch → List ℤ → List ℕ
inserted_with n b e p = unless_refused n (insert_into b (record_of e p)) b

abbrev pub deleted_with : ℕ → List ℕ → ℕ → List ℕ
deleted_with n b i = unless_refused n (delete_from b (find_in b i)) b

-- a question's rows and count are the search's (01); refused, it returns 0 rows, 0 leaves
abbrev pub nothing_found : Found
nothing_found = record { rows = []; leaves = 0 }

abbrev pub found_with : ℕ → List ℕ → Question → Found
found_with n b w = unless_refused n (found b (sought w)) nothing_found
