-- What the functions of this crate return and leave, step by step. Assumes nothing.
use Rattle.std.proofs.Common.{◌≡◌, sym, ap, ◌∙◌, true, false, List, [], ◌++◌, ℕ, ◌+◌, ◌-◌, ◌*◌, ◌≤◌, arith, length, get_or, take, drop, replicate, length-take, length-drop, take_all}
use borrow.Rule.Slice.PartMut.{put_mid, post_of, Post-is}
use Rattle.lists.specs.Basics.{tabulate}
use Rattle.lists.specs.Tabulated.{tabulate_take}
use Rattle.pagestore_page.specs.declared.Leaf.{Leaf}
use Rattle.pagestore_page.specs.declared.Entry.{Entry}
use Rattle.pagestore_page.specs.declared.Inner.{Inner}
use Rattle.pagestore_page.specs.Layout.{leaf_of, no_entry, records_in}
use Rattle.pagestore.specs.Store.{pages_in, in_range, stretch, set_stretch, set_leaf, set_field, size, features, root, fresh, clear_header, set_fields, new_index}
use Rattle.pagestore.specs.Store.RangeLaws.{range_whole}
use Rattle.pagestore.specs.Store.StretchLaws.{stretch_in, set_in, set_out, clear_long}

-- ---- what the readers return

-- an inner page of which each part was read by itself
pub inner_whole : (x : Inner) (v n : ℕ) (es : List Entry) → length x.entries ≡ 16 → v ≡ x.level → n ≡ x.count → es ≡ tabulate 16 (λ k. get_or x.entries k no_entry)
    → ◌≡◌ {A = Inner} (record { level = v; count = n; entries = es }) x
inner_whole x v n es l p q e =
    let f : es ≡ x.entries = e ∙ tabulate_take x.entries no_entry 16 (omega arith) ∙ take_all 16 x.entries (omega arith) in
    λ i. record { level = p i; count = q i; entries = f i }

-- ---- a page's own stretch of the index

-- the part that is handed over
pub part_is : (b : List ℕ) (p : ℕ) → in_range b p ≡ true → take (p * 1024 + 1024 - p * 1024) (drop (p * 1024) b) ≡ stretch b p
part_is b p h = let k : p * 1024 + 1024 - p * 1024 ≡ 1024 = omega arith in rw k (sym (stretch_in b p h))

pub part_whole : (b : List ℕ) (p : ℕ) → in_range b p ≡ true → length (take (p * 1024 + 1024 - p * 1024) (drop (p * 1024) b)) ≡ 1024
part_whole b p h = let g : p * 1024 + 1024 ≤ length b = range_whole b p h in simp (length-take, length-drop) (omega arith)

-- and the index when the part is back
pub part_set : (b : List ℕ) (p : ℕ) (xs ys : List ℕ) → in_range b p ≡ true → ys ≡ xs → put_mid (p * 1024) (p * 1024 + 1024 - p * 1024) b ys ≡ set_stretch b p xs
part_set b p xs ys h e = rw (e, Post-is (p * 1024) (p * 1024 + 1024) b (omega arith)) (sym (set_in b p xs h))

pub part_none : (b : List ℕ) (p : ℕ) (xs : List ℕ) → in_range b p ≡ false → b ≡ set_stretch b p xs
part_none b p xs h = sym (set_out b p xs h)

-- what is written at page q is written at page p, where q is p
pub same_place : (b : List ℕ) (p q : ℕ) (xs : List ℕ) → q ≡ p → set_stretch b q xs ≡ set_stretch b p xs
same_place b p q xs e = ap (λ (n : ℕ). set_stretch b n xs) e

-- ---- a new index

zeros : (n : ℕ) (b ys : List ℕ) → n ≤ length b → ys ≡ replicate (length (take n b)) 0 → ys ≡ replicate n 0
zeros n b ys h e = let k : length (take n b) ≡ n = omega (arith, length-take n b) in rw k at e

pub clear_step : (b ys : List ℕ) → 1024 ≤ length b → ys ≡ replicate (length (take 1024 b)) 0 → ys ++ post_of 0 1024 b ≡ clear_header b
clear_step b ys h e = ap (λ (x : List ℕ). ys ++ x) (Post-is 0 1024 b (omega arith)) ∙ rw (zeros 1024 b ys h e) (sym (clear_long b h))

pub make_step : (b c₀ c₁ c₂ c₃ c₄ c : List ℕ) (n d : ℕ) (m : Leaf) → n ≡ pages_in b → c₀ ≡ clear_header b → c₁ ≡ set_field size c₀ n → c₂ ≡ set_field features c₁ d
    → c₃ ≡ set_field root c₂ 1 → c₄ ≡ set_field fresh c₃ 2 → m ≡ leaf_of [] → c ≡ set_leaf c₄ 1 (records_in m) → c ≡ new_index b d
unfolding new_index set_fields leaf_of
make_step b c₀ c₁ c₂ c₃ c₄ c n d m e a p q r s l z = z ∙ rw (l, s, r, q, p, a, e)
