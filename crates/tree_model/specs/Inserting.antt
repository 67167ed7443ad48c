-- Insertion into a tree (01, "The tree"). Nothing here speaks of bytes; a page is its number with its items.
use Rattle.std.specs.Prelude.{Bool, false, List, [], ◌∷◌, ◌++◌, map, ℕ, zero, suc, ◌+◌, leb, ltb, eqb, length, take, drop, get_or}
use Rattle.lists.specs.Basics.{if, indicator}
use Rattle.lists.specs.Sorting.{insert_by}
use Rattle.geometry.specs.Keys.{key_number}
use Rattle.pagestore_page.specs.declared.Record.{Record}
use Rattle.pagestore_page.specs.declared.Entry.{Entry}
use Rattle.tree_model.specs.Trees.{Item, rank_of, entry_of}
use Rattle.pagestore_page.specs.Layout.{max_items}

-- a tree with its level
abbrev pub Shape : Type 0
Shape = (l : ℕ) × Item (suc l)

-- in the place of a tree where there is none
abbrev pub no_tree : (l : ℕ) → Item (suc l)
no_tree l = (0, [])

-- THE CHILD TO FOLLOW

-- how many entries, from the front on, have a first key that is not above k
unfoldable pub not_above : ℕ → List Entry → ℕ
not_above k [] = 0
not_above k (e ∷ es) = if (leb (key_number e.first) k) (suc (not_above k es)) 0

-- the place of the last child whose first key is not above k, else of the first child
unfoldable pub choose : ℕ → List Entry → ℕ
choose k [] = 0
choose k (e ∷ es) = not_above k es

-- among the children ts
unfoldable pub chosen : ℕ → (l : ℕ) → ℕ → List (Item (suc l)) → ℕ
chosen d l k ts = choose k (map (entry_of d l) ts)

-- ITEMS

-- a record's key is below the key of rank k
abbrev pub rank_below : ℕ → ℕ → Record → Bool
rank_below d k r = ltb (rank_of d r) k

-- one record comes before another in the order of keys
abbrev pub key_before : ℕ → Record → Record → Bool
key_before d x y = ltb (rank_of d x) (rank_of d y)

-- the record r put into records in key order
abbrev pub insert_record : ℕ → Record → List Record → List Record
insert_record d r rs = insert_by (key_before d) r rs

-- the items ys in the place of the item at i
abbrev pub replaced : {A : Type 0} → ℕ → List A → List A → List A
replaced i ys xs = take i xs ++ (ys ++ drop (suc i) xs)

-- INSERTION

-- items cut into pages, and the pages then free
pub record Cut (A : Type 0) : Type 0 where
  pub trees : List (ℕ × List A)
  pub free : List ℕ

-- the items xs at page p: a page that would hold 17 keeps the first 9; the last 8 go to a new page on the right, the first of the free pages fs
unfoldable pub cut : {A : Type 0} → ℕ → List ℕ → List A → Cut A
cut p fs xs =
    if (leb (length xs) max_items)
    (record { trees = (p, xs) ∷ []; free = fs })
    (record { trees = (p, take 9 xs) ∷ (get_or fs 0 0, drop 9 xs) ∷ []; free = drop 1 fs })

-- the record r inserted into the tree t: into the leaf, or below the child that is chosen, in whose place then stands what it has become
unfoldable pub insert_tree : ℕ → (l : ℕ) → Record → List ℕ → Item (suc l) → Cut (Item l)
insert_tree d zero r fs t = cut t.0 fs (insert_record d r t.1)
insert_tree d (suc l) r fs t =
    let i = chosen d l (rank_of d r) t.1 in
    let c = insert_tree d l r fs (get_or t.1 i (no_tree l)) in
    cut t.0 c.free (replaced i c.trees t.1)

-- the tree of the pages ts of level l: the one page, or a new root n above a split one
unfoldable pub rooted : (l : ℕ) → ℕ → List (Item (suc l)) → Shape
rooted l n [] = (l, no_tree l)
rooted l n (a ∷ []) = (l, a)
rooted l n (a ∷ c ∷ ts) = (suc l, (n, a ∷ c ∷ []))

-- the tree after an insertion; lower levels go first, and a new root takes its page last
unfoldable pub inserted_tree : ℕ → Record → List ℕ → Shape → Shape
inserted_tree d r fs s = let u = insert_tree d s.0 r fs s.1 in rooted s.0 (get_or u.free 0 0) u.trees

-- the full pages in an unbroken run upward from the leaf that an insertion of rank k comes to
unfoldable pub run_of : ℕ → (l : ℕ) → ℕ → Item (suc l) → ℕ
run_of d zero k t = indicator (leb max_items (length t.1))
run_of d (suc l) k t =
    let n = run_of d l k (get_or t.1 (chosen d l k t.1) (no_tree l)) in
    n + indicator (if (eqb n (suc l)) (leb max_items (length t.1)) false)
