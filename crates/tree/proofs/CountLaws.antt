-- The items of a page's 16 slots, and the steps of counting leaves.
use Rattle.std.proofs.Common.{◌≡◌, refl, sym, ap, ◌∙◌, List, [], ◌∷◌, ℕ, zero, suc, ◌+◌, ◌*◌, ◌-◌, ◌^◌, ◌≤◌, ◌<◌, min, arith, le_refl, mul-le-mul, suc-mul, add-one, length, take, drop, get_or, length-take, drop_of_length-le, drop-cons, get_or-take}
use Rattle.std.proofs.Math.Nat.{pow-succ', pow-le-pow_right}
use Rattle.lists.specs.Sorting.{sum}
use Rattle.pagestore_page.specs.declared.Entry.{Entry}
use Rattle.pagestore_page.specs.declared.Inner.{Inner}
use Rattle.pagestore.specs.Store.{count_at, inner_at, entries_in}
use Rattle.pagestore.specs.Store.PageLaws.{inner_counts, entries_slots}
use Rattle.tree_core.specs.Lookup.{leaf_count}

-- the items of 16 slots, from place i on
module _ {A : Type 0} (n : ℕ) (xs : List A) (slots : length xs ≡ 16) where
  pub items_length : length (take n xs) ≡ min n 16
  items_length = omega (arith, length-take n xs)

  pub items_next : (i : ℕ) (d : A) → i < min n 16 → drop i (take n xs) ≡ get_or xs i d ∷ drop (i + 1) (take n xs)
  items_next i d h =
      let l = items_length in
      let e : get_or (take n xs) i d ≡ get_or xs i d = get_or-take n xs i d (omega arith) in
      rw (add-one i, drop-cons (take n xs) i d (omega arith), e)

  pub items_end : (i : ℕ) → min n 16 ≤ i → drop i (take n xs) ≡ []
  items_end i h = drop_of_length-le (take n xs) {i = i} (omega (arith, items_length))

-- the number of items of an inner page, from its count byte
pub inner_number : (b : List ℕ) (p n r : ℕ) → n ≡ count_at b p → r ≡ min n 16 → r ≡ min (inner_at b p).count 16
inner_number b p n r e f = omega (arith, inner_counts b p)

pub swapped : (r n : ℕ) → r ≡ min 16 n → r ≡ min n 16
swapped r n e = omega arith

-- ---- COUNTING

ones : (b : List ℕ) (es : List Entry) → sum (λ e. leaf_count 0 b e.child) es ≡ length es
unfolding sum leaf_count
ones b [] = refl
ones b (e ∷ es) = let h = ones b es in omega arith

sum_most : (m : ℕ) (f : Entry → ℕ) → ((e : Entry) → f e ≤ m) → (es : List Entry) → sum f es ≤ length es * m
unfolding sum
sum_most m f h [] = omega arith
sum_most m f h (e ∷ es) = let r = sum_most m f h es in let g = h e in omega (arith, suc-mul (length es) m)

pub count_most : (l : ℕ) (b : List ℕ) (p : ℕ) → leaf_count l b p ≤ 16 ^ l
unfolding leaf_count
count_most zero b p = omega arith
count_most (suc l) b p =
    let es = entries_in (inner_at b p) in
    let s : sum (λ e. leaf_count l b e.child) es ≤ length es * 16 ^ l = sum_most (16 ^ l) (λ e. leaf_count l b e.child) (λ e. count_most l b e.child) es in
    let n : length es ≤ 16 = omega (arith, items_length (inner_at b p).count (inner_at b p).entries (entries_slots b p)) in
    let m : length es * 16 ^ l ≤ 16 * 16 ^ l = mul-le-mul n (le_refl (16 ^ l)) in
    omega (arith, pow-succ' 16 l)

-- up to level 4
pub count_fits : (l : ℕ) (b : List ℕ) (p : ℕ) → l ≤ 4 → leaf_count l b p ≤ 65536
count_fits l b p h = let w : 16 ^ l ≤ 16 ^ 4 = pow-le-pow_right (omega arith) h in omega (arith, count_most l b p)

-- what is left to count from entry i on
unfoldable pub count_from : ℕ → List ℕ → List Entry → ℕ → ℕ
unfolding sum leaf_count
count_from l b es i = sum (λ e. leaf_count l b e.child) (drop i es)

module _ (b : List ℕ) (level page : ℕ) where
  pub count_leaf : level ≡ 0 → (1 ≡ leaf_count level b page) × (1 ≤ 16 ^ level)
  unfolding leaf_count
  count_leaf e = rw e (refl, omega arith)

  pub count_low : (n r : ℕ) → level ≡ 1 → n ≡ count_at b page → r ≡ min n 16 → (r ≡ leaf_count level b page) × (r ≤ 16 ^ level)
  unfolding leaf_count
  count_low n r e f g =
      let o = ones b (entries_in (inner_at b page)) in
      let l = items_length (inner_at b page).count (inner_at b page).entries (entries_slots b page) in
      let k = inner_counts b page in
      rw e (omega arith, omega arith)

  module _ (inner : Inner) (is : inner ≡ inner_at b page) (n : ℕ) (number : n ≡ min inner.count 16) where
    pub inner_slots : length inner.entries ≡ 16
    inner_slots = ap (λ (x : Inner). length x.entries) is ∙ entries_slots b page

    pub count_start : (level ≡ 0 → ⊥) → count_from (level - 1) b (entries_in inner) 0 ≡ leaf_count level b page
    unfolding count_from leaf_count
    count_start z = let e : level ≡ suc (level - 1) = omega (arith, z) in rw (is) (ap (λ (l : ℕ). leaf_count l b page) (sym e))

    pub count_next : (l i s t r : ℕ) (d : Entry) → i < n → r ≡ leaf_count l b (get_or inner.entries i d).child → s + count_from l b (entries_in inner) i ≡ t → (s + r) + count_from l b (entries_in inner) (i + 1) ≡ t
    unfolding count_from sum
    count_next l i s t r d h e f =
        let g = rw (items_next inner.count inner.entries inner_slots i d (omega arith)) at f in omega arith

    pub count_end : (l i : ℕ) → n ≤ i → count_from l b (entries_in inner) i ≡ 0
    unfolding count_from sum
    count_end l i h = rw (items_end inner.count inner.entries inner_slots i (omega arith))
