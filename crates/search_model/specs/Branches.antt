-- Branches of the tree of an index, as the search meets them from the root on. Nothing is assumed of the bytes.
-- q: what is asked.
use Rattle.std.specs.Prelude.{Bool, List, [], ◌∷◌, map, ℕ, zero, suc, min, ◌+◌, eqb}
use Rattle.lists.specs.Basics.{if}
use Rattle.lists.specs.Orders.{by, by_higher, lower}
use Rattle.lists.specs.Sorting.{filter}
use Rattle.pagestore_page.specs.declared.Record.{Record}
use Rattle.pagestore_page.specs.declared.Entry.{Entry}
use Rattle.pagestore.specs.Store.{root, level, in_range, leaf_at, inner_at, records_in, entries_in, field_at}
use Rattle.tree_core.specs.Lookup.{leaf_count}
use Rattle.search_rows.specs.declared.Row.{Row}
use Rattle.search_model.specs.Asked.{Asked, distance_to, candidate, span_bound}

-- a page that the search may go to, with its level; the bound of its span, and the position of the first leaf under it
pub record Branch : Type 0 where
  pub bound : ℕ
  pub place : ℕ
  pub level : ℕ
  pub page : ℕ

abbrev pub branch_bound : Branch → ℕ
branch_bound x = x.bound

abbrev pub branch_place : Branch → ℕ
branch_place x = x.place

abbrev pub branch_level : Branch → ℕ
branch_level x = x.level

abbrev pub branch_page : Branch → ℕ
branch_page x = x.page

-- Branches of equal bound are taken by position (01). A page comes before the first page under it, whose position is the same.
abbrev pub higher_first : Branch → Branch → Bool
higher_first = by_higher branch_level (lower branch_page)

abbrev pub tied : Branch → Branch → Bool
tied = by branch_place higher_first

abbrev pub before : Branch → Branch → Bool
before = by branch_bound tied

abbrev pub is_leaf : Branch → Bool
is_leaf x = eqb x.level 0

-- a number that is no page's is read as 0: no page either, and it holds nothing
unfoldable pub page_in : List ℕ → ℕ → ℕ
page_in b p = if (in_range b p) p 0

-- the greatest position that a key holds: a sound index has at most 8,191 leaves. On other bytes a position above it is read as this one.
abbrev pub last_place : ℕ
last_place = 8191

-- the branch of an entry whose child has level l, its first leaf at position p
abbrev pub branch_of : List ℕ → Asked → ℕ → ℕ → Entry → Branch
branch_of b q l p e = record { bound = span_bound q e.first e.last; place = min p last_place; level = l; page = page_in b e.child }

-- the branches of entries, one after the other
unfoldable pub branches : List ℕ → Asked → ℕ → ℕ → List Entry → List Branch
unfolding span_bound page_in leaf_count
branches b q l p [] = []
branches b q l p (e ∷ es) = branch_of b q l p e ∷ branches b q l (p + leaf_count l b e.child) es

-- the branches that page g of a level gives when it is opened, its first leaf at position p
unfoldable pub opened : List ℕ → Asked → ℕ → ℕ → ℕ → List Branch
unfolding branches
opened b q zero p g = []
opened b q (suc l) p g = branches b q l p (entries_in (inner_at b g))

abbrev pub kids : List ℕ → Asked → Branch → List Branch
kids b q x = opened b q x.level x.place x.page

-- the root needs no bound
abbrev pub root_branch : List ℕ → Branch
root_branch b = record { bound = 0; place = 0; level = field_at level b; page = page_in b (field_at root b) }

-- the row (01, 02) of a record in the leaf at position p
unfoldable pub row_of : Asked → ℕ → Record → Row
unfolding distance_to
row_of q p r = record { distance = distance_to q r; id = r.id; stamp = r.stamp; position = p }

-- the rows of records of that leaf: those of the candidates among them
unfoldable pub rows_among : Asked → ℕ → List Record → List Row
unfolding row_of filter
rows_among q p rs = map (row_of q p) (filter (candidate q) rs)

-- the rows of the leaf of a branch
abbrev pub rows_at : List ℕ → Asked → Branch → List Row
rows_at b q x = rows_among q x.place (records_in (leaf_at b x.page))
