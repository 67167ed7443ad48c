-- Laws of the model: records and pages of a leaf's items, the page of a tree, levels and fills of the page that holds items, and that the tree which a view
-- holds at a page is the only one.
use Rattle.std.specs.Prelude.{◌≡◌, refl, List, [], ◌∷◌, map, ℕ, zero, suc, length}
use Rattle.std.proofs.Common.{sym, ap, ◌∙◌}
use Rattle.lists.specs.Basics.{All, none, also, concat_map}
use Rattle.pagestore_page.specs.declared.Record.{Record}
use Rattle.pagestore.specs.Store.{Page, level_of, fill_of, records_of, entries_of, View}
use Rattle.tree_model.specs.Trees.{Item, records, pages, entry_of, node, Rep, tree_at}

-- a record holds itself, and no page
pub concat_map_records : (rs : List Record) → concat_map (records 0) rs ≡ rs
unfolding concat_map records
concat_map_records [] = refl
concat_map_records (r ∷ rs) = ap (λ (z : List Record). r ∷ z) (concat_map_records rs)

pub no_pages_law : (rs : List Record) → concat_map (pages 0) rs ≡ []
unfolding concat_map pages
no_pages_law [] = refl
no_pages_law (r ∷ rs) = no_pages_law rs

-- the tree at page p has page p
pub tree_page : (l : ℕ) (v : View) (p : ℕ) → (tree_at l v p).0 ≡ p
unfolding tree_at
tree_page zero v p = refl
tree_page (suc l) v p = refl

pub level_node : (d l : ℕ) (ts : List (Item l)) → level_of (node d l ts) ≡ l
unfolding node
level_node d zero ts = refl
level_node d (suc l) ts = refl

pub fill_node : (d l : ℕ) (ts : List (Item l)) → fill_of (node d l ts) ≡ length ts
unfolding node
fill_node d zero ts = refl
fill_node d (suc l) ts = refl

kids_are : (l : ℕ) (v : View) → ((t : Item (suc l)) → Rep (suc l) v t → t ≡ tree_at l v t.0) → {ts : List (Item (suc l))} → All (Rep (suc l) v) ts
    → ts ≡ map (λ e. tree_at l v e.child) (map (entry_of v.d l) ts)
unfolding entry_of
kids_are l v f none = refl
kids_are l v f (also {x = t} h r) = λ i. f t h i ∷ kids_are l v f r i

-- a view holds at most one tree of a level at a page
pub rep_is : (l : ℕ) (v : View) (t : Item (suc l)) → Rep (suc l) v t → t ≡ tree_at l v t.0
unfolding Rep tree_at node
rep_is zero v t r = λ i. (t.0, ap records_of (sym r.0) i)
rep_is (suc l) v t r = λ i. (t.0, (kids_are l v (rep_is l v) r.1 ∙ ap (λ (x : Page). map (λ e. tree_at l v e.child) (entries_of x)) (sym r.0)) i)

-- and of one level only
pub rep_level : (l : ℕ) (v : View) (t : Item (suc l)) → Rep (suc l) v t → level_of (v.page t.0) ≡ l
unfolding Rep
rep_level l v t r = ap level_of r.0 ∙ level_node v.d l t.1
