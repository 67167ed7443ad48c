-- Deletion from a tree (01, "The tree"). Nothing here speaks of bytes. What 01 calls evening out is rebalancing here, joining is merging.
use Rattle.std.specs.Prelude.{Bool, not, List, [], ◌∷◌, ◌++◌, ℕ, zero, suc, ◌+◌, ◌-◌, ltb, eqb, length, take, drop, get_or, set}
use Rattle.lists.specs.Basics.{if}
use Rattle.pagestore_page.specs.declared.Record.{Record}
use Rattle.tree_model.specs.Trees.{min_items, Item, rank_of}
use Rattle.tree_model.specs.Inserting.{Shape, no_tree, chosen, Cut}

-- ITEMS

-- a record of another identifier
abbrev pub other_ident : ℕ → Record → Bool
other_ident i r = not (eqb r.id i)

-- the records without the one of identifier i
unfoldable pub delete_record : ℕ → List Record → List Record
delete_record i [] = []
delete_record i (r ∷ rs) = if (eqb r.id i) rs (r ∷ delete_record i rs)

-- Of neighbours with n and m items, one of which may have fewer than 8, how many the left one is to hold: a partner with 9 or more gives its
-- nearest item; otherwise the two merge, and the left one holds all.
unfoldable pub left_count : ℕ → ℕ → ℕ
left_count n m =
    if (ltb n min_items)
    (if (ltb min_items m) (n + 1) (n + m))
    (if (ltb m min_items) (if (ltb min_items n) (n - 1) (n + m)) n)

-- their items so: one list if they merge, else two
unfoldable pub rebalanced_items : {A : Type 0} → List A → List A → List (List A)
rebalanced_items xs ys =
    let k = left_count (length xs) (length ys) in
    if (eqb k (length xs + length ys)) ((xs ++ ys) ∷ []) (take k (xs ++ ys) ∷ drop k (xs ++ ys) ∷ [])

-- the left one of child i and its partner, of n children: the partner is the next page, or the one before for the last child
unfoldable pub left_of : ℕ → ℕ → ℕ
left_of i n = if (ltb (suc i) n) i (i - 1)

-- PAGES

-- the lists in the pages p and q; those that have merged are in the left page p, and the right page q is freed
unfoldable pub place_pair : {A : Type 0} → ℕ → ℕ → List ℕ → List (List A) → Cut A
place_pair p q fs [] = record { trees = []; free = p ∷ q ∷ fs }
place_pair p q fs (us ∷ []) = record { trees = (p, us) ∷ []; free = q ∷ fs }
place_pair p q fs (us ∷ vs ∷ ws) = record { trees = (p, us) ∷ (q, vs) ∷ []; free = fs }

-- of the children ts, the one at j and the next
abbrev pub rebalanced_pair : (l : ℕ) → List ℕ → ℕ → List (Item (suc l)) → Cut (Item l)
rebalanced_pair l fs j ts = let a = get_or ts j (no_tree l) in let b = get_or ts (suc j) (no_tree l) in place_pair a.0 b.0 fs (rebalanced_items a.1 b.1)

-- DELETION

-- what is left of a page, and the pages then free
pub record Rest (A : Type 0) : Type 0 where
  pub tree : ℕ × List A
  pub free : List ℕ

-- the record r deleted from the tree t: from the leaf, or below the child that is chosen, which is then rebalanced with its partner
unfoldable pub delete_tree : ℕ → (l : ℕ) → Record → List ℕ → Item (suc l) → Rest (Item l)
delete_tree d zero r fs t = record { tree = (t.0, delete_record r.id t.1); free = fs }
delete_tree d (suc l) r fs t =
    let i = chosen d l (rank_of d r) t.1 in
    let u = delete_tree d l r fs (get_or t.1 i (no_tree l)) in
    let ts = set t.1 i u.tree in
    let j = left_of i (length t.1) in
    let c = rebalanced_pair l u.free j ts in
    record { tree = (t.0, take j ts ++ (c.trees ++ drop (suc (suc j)) ts)); free = c.free }

-- the tree of a root x of level l: an inner root with one child gives way to it
unfoldable pub collapsed : (l : ℕ) → Item (suc l) → Shape
collapsed zero x = (0, x)
collapsed (suc l) x = if (eqb (length x.1) 1) (l, get_or x.1 0 (no_tree l)) (suc l, x)

-- the tree after a deletion
unfoldable pub deleted_tree : ℕ → Record → Shape → Shape
deleted_tree d r s = collapsed s.0 (delete_tree d s.0 r [] s.1).tree
