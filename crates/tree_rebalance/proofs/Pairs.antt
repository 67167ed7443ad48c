-- The items of two neighbours laid out one behind the other, and written again. Assumes nothing.
use Rattle.std.proofs.Common.{◌≡◌, ◌≢◌, refl, sym, zero, suc, ap, ◌∙◌, List, ◌++◌, ℕ, ◌+◌, arith, length, take, drop}
use Rattle.std.proofs.lemmas.List.{take_all, take-append-le, length-append}
use Rattle.std.proofs.Math.Seq.{take-append-add}
use Rattle.pagestore_page.specs.declared.Entry.{Entry}
use Rattle.pagestore.specs.Store.{free_page, leaf_at, inner_at, records_in, entries_in, set_leaf}
use Rattle.tree_model.specs.Deleting.{left_count, rebalanced_items}
use Rattle.tree_core.specs.Held.{Held}
use Rattle.tree_core.specs.Entries.{leaf_entry, inner_entry}
use Rattle.tree_core.specs.Insertion.{write_inner}
use Rattle.tree_core.specs.Deletion.{put_rebalanced, rebalanced_pages}
use Rattle.tree_core.specs.CodeTerms.{RewriteDone}
use Rattle.tree_core.specs.declared.Grown.{Grown}
use Rattle.tree_core.specs.declared.Grown.TheVariants.{One, Two}
use Rattle.tree_core.proofs.HeldLaws.{held_most}
use Rattle.tree_core.proofs.DeletionLaws.{merged_items, redistributed_items, put_merged, put_redistributed}

module _ {A : Type 0} where
  laid : {n m : ℕ} {s t xs ys : List A} (rest : List A) → Held n s xs → Held m t ys → take (n + m) (take n s ++ (t ++ rest)) ≡ xs ++ ys
  laid {n} {m} {s} {t} {xs} {ys} rest h k =
      rw (h.items, h.count) (take-append-add xs (t ++ rest) m ∙ ap (λ (l : List A). xs ++ l) (take-append-le m t rest (held_most k) ∙ k.items))

  pub both_held : {n m : ℕ} {s t xs ys : List A} (rest : List A) → Held n s xs → Held m t ys → Held (length (xs ++ ys)) (take n s ++ (t ++ rest)) (xs ++ ys)
  both_held {n} {m} {xs} {ys} rest h k =
      let e : n + m ≡ length (xs ++ ys) = omega (arith, h.count, k.count, length-append xs ys) in
      record { count = refl; items = rw (← e) (laid rest h k) }

  module _ (write : List ℕ → ℕ → List A → List ℕ) (entry : ℕ → List A → Entry) (b : List ℕ) (p q : ℕ) {n m k : ℕ} {s t xs ys : List A} (rest : List A)
      (h : Held n s xs) (g : Held m t ys) (k= : k ≡ left_count n m) where
    pub merged : {b1 y : List ℕ} {e : Entry} → k ≡ n + m → b1 ≡ write b p (take (n + m) (take n s ++ (t ++ rest))) → y ≡ free_page b1 q → e ≡ entry p (take (n + m) (take n s ++ (t ++ rest)))
        → RewriteDone (put_rebalanced write entry b p q (rebalanced_items xs ys)) y (One e)
    merged f b1= y= e= =
        let whole : xs ++ ys ≡ take k (xs ++ ys) = sym (take_all k (xs ++ ys) (omega (arith, f, h.count, g.count, length-append xs ys))) in
        rw (← merged_items xs ys n m k h.count g.count k= f (laid rest h g ∙ whole)) (put_merged write entry b p q b1= y= e=)

    pub redistributed : {lo hi : List A} {b1 y : List ℕ} {e f : Entry} → k ≢ n + m → lo ≡ take k (take (n + m) (take n s ++ (t ++ rest))) → hi ≡ drop k (take (n + m) (take n s ++ (t ++ rest)))
        → b1 ≡ write b p lo → y ≡ write b1 q hi → e ≡ entry p lo → f ≡ entry q hi → RewriteDone (put_rebalanced write entry b p q (rebalanced_items xs ys)) y (Two e f)
    redistributed d lo= hi= b1= y= e= f= =
        rw (← redistributed_items xs ys n m k h.count g.count k= d (lo= ∙ ap (λ (l : List A). take k l) (laid rest h g)) (hi= ∙ ap (λ (l : List A). drop k l) (laid rest h g)))
        (put_redistributed write entry b p q b1= y= e= f=)

-- the pages of a level

pub leaf_pair : (d l : ℕ) (b : List ℕ) (p q : ℕ) {y : List ℕ} {g : Grown} → l ≡ 0
    → RewriteDone (put_rebalanced set_leaf (leaf_entry d) b p q (rebalanced_items (records_in (leaf_at b p)) (records_in (leaf_at b q)))) y g → RewriteDone (rebalanced_pages d l b p q) y g
unfolding rebalanced_pages
leaf_pair d l b p q e h = rw e h

pub inner_pair : (d l : ℕ) (b : List ℕ) (p q : ℕ) {y : List ℕ} {g : Grown} → l ≢ 0
    → RewriteDone (put_rebalanced (write_inner l) inner_entry b p q (rebalanced_items (entries_in (inner_at b p)) (entries_in (inner_at b q)))) y g → RewriteDone (rebalanced_pages d l b p q) y g
unfolding rebalanced_pages
inner_pair d zero b p q z h = absurd (z refl)
inner_pair d (suc l) b p q z h = h
