-- Pages of an index by their bytes, and the items of followed pages by their counts.
use Rattle.std.specs.Prelude.{◌≡◌, refl, true, false, List, ℕ, zero, suc, ◌+◌, ◌-◌, ◌*◌, ◌≤◌, ◌<◌, length, get_or, take, drop}
use Rattle.std.proofs.Common.{sym, ap, ◌∙◌, subst, arith, length-take, length-drop}
use Rattle.lists.specs.Basics.{indicator}
use Rattle.lists.specs.Members.{At}
use Rattle.pagestore_page.specs.declared.Leaf.{Leaf}
use Rattle.pagestore_page.specs.declared.Inner.{Inner}
use Rattle.pagestore_page.specs.Layout.{no_entry}
use Rattle.pagestore.specs.Store.{Page, leaf, inner, level_of, fill_of, records_of, entries_of, page_at, level_at, count_at, leaf_at, inner_at, records_in, entries_in, in_range, view_of}
use Rattle.pagestore.specs.Store.PageLaws.{leaf_page, inner_page, page_fill, page_level, leaf_counts, inner_counts, entries_slots}
use Rattle.pagestore.specs.Store.RangeLaws.{range_low, range_high, range_is, range_whole}
use Rattle.sound_faults.specs.Faults.{IsPage, Reached}
use Rattle.sound_faults.proofs.Assembled.{fill_most}
use Rattle.sound_faults.specs.Stored.{Counted, view_stored}
use Rattle.sound_faults.specs.Prefixes.{take_spot}

module _ (b : List ℕ) (p : ℕ) where
  pub leaf_fill : (x : Leaf) → x ≡ leaf_at b p → x.count ≡ fill_of (page_at b p)
  leaf_fill x e = ap (λ (y : Leaf). y.count) e ∙ leaf_counts b p ∙ sym (page_fill b p)

  pub inner_fill : (x : Inner) → x ≡ inner_at b p → x.count ≡ fill_of (page_at b p)
  inner_fill x e = ap (λ (y : Inner). y.count) e ∙ inner_counts b p ∙ sym (page_fill b p)

  pub leaf_is : (x : Leaf) → x ≡ leaf_at b p → level_at b p ≡ 0 → page_at b p ≡ leaf x.count (records_in x)
  leaf_is x e h = leaf_page b p h ∙ ap (λ (y : Leaf). leaf y.count (records_in y)) (sym e)

  inner_at_law : (l : ℕ) → level_at b p ≡ l → ¬ (l ≡ 0) → page_at b p ≡ inner (l - 1) (inner_at b p).count (entries_in (inner_at b p))
  inner_at_law zero h n = absurd (n refl)
  inner_at_law (suc l) h n = inner_page b p l h ∙ ap (λ (k : ℕ). inner k (inner_at b p).count (entries_in (inner_at b p))) (omega arith)

  pub inner_is : (x : Inner) → x ≡ inner_at b p → ¬ (level_at b p ≡ 0) → page_at b p ≡ inner (level_at b p - 1) x.count (entries_in x)
  inner_is x e n = inner_at_law (level_at b p) refl n ∙ ap (λ (y : Inner). inner (level_at b p - 1) y.count (entries_in y)) (sym e)

-- ---- the view's fields by those of the bytes

pub page_of_law : (b : List ℕ) (p : ℕ) → in_range b p ≡ true → IsPage (view_of b) p
unfolding view_of
page_of_law b p h = (range_low b p h, range_high b p h)

pub page_out : (b : List ℕ) (p : ℕ) → in_range b p ≡ false → ¬ IsPage (view_of b) p
unfolding view_of
page_out b p h r = let z : ◌≡◌ {A = ℕ} 0 1 = ap indicator (sym h ∙ range_is b p r.0 r.1) in omega arith

pub view_level : (b : List ℕ) (p : ℕ) → level_of ((view_of b).page p) ≡ level_at b p
unfolding view_of
view_level b p = page_level b p

pub view_fill : (b : List ℕ) (p : ℕ) → fill_of ((view_of b).page p) ≡ count_at b p
unfolding view_of
view_fill b p = page_fill b p

-- ---- the bytes of a page

pub part_length : (b : List ℕ) (p : ℕ) → in_range b p ≡ true → length (take (p * 1024 + 1024 - p * 1024) (drop (p * 1024) b)) ≡ 1024
part_length b p h =
    omega (arith, length-take (p * 1024 + 1024 - p * 1024) (drop (p * 1024) b), length-drop (p * 1024) b, range_whole b p h)

-- ---- followed pages

pub inner_count : (b : List ℕ) (p : ℕ) → (inner_at b p).count ≡ fill_of ((view_of b).page p)
unfolding view_of
inner_count b p = inner_fill b p (inner_at b p) refl

pub inner_few : (b : List ℕ) (p : ℕ) → Reached (view_of b) p → (inner_at b p).count ≤ 16
inner_few b p r = omega (arith, inner_count b p, fill_most r)

pub leaf_few : (b : List ℕ) (p : ℕ) (x : Leaf) → Reached (view_of b) p → x ≡ leaf_at b p → x.count ≤ 16
unfolding view_of
leaf_few b p x r e = omega (arith, leaf_fill b p x e, fill_most r)

-- an inner page has no records
pub inner_points : (b : List ℕ) (p : ℕ) → ¬ (level_at b p ≡ 0) → length (records_of (page_at b p)) ≡ 0
inner_points b p n = ap (λ (y : Page). length (records_of y)) (inner_is b p (inner_at b p) refl n)

-- the entry that an inner page's slot holds
pub slot_entry : (b : List ℕ) (p i : ℕ) → Reached (view_of b) p → ¬ (level_at b p ≡ 0) → i < (inner_at b p).count
    → At (entries_of ((view_of b).page p)) i (get_or (inner_at b p).entries i no_entry)
unfolding view_of
slot_entry b p i r n h =
    let x : Inner = inner_at b p in
    subst (λ (y : Page). At (entries_of y) i (get_or x.entries i no_entry)) (sym (inner_is b p x refl n))
    (take_spot no_entry x.entries i x.count h (omega (arith, inner_fill b p x refl, fill_most r, entries_slots b p)))

-- their number
inner_size : (x : Page) → Counted x → fill_of x ≤ 16 → length (entries_of x) ≤ fill_of x
inner_size (Page.leaf n rs) c f = omega arith
inner_size (Page.inner l n es) c f = omega (arith, c f)

-- a followed page has at most as many entries as its count says
pub entries_most : (b : List ℕ) (p : ℕ) → Reached (view_of b) p → length (entries_of ((view_of b).page p)) ≤ fill_of ((view_of b).page p)
entries_most b p r = inner_size ((view_of b).page p) ((view_stored b).items p) (fill_most r)

pub few_entries : (b : List ℕ) (p : ℕ) → Reached (view_of b) p → length (entries_of ((view_of b).page p)) ≤ 16
few_entries b p r = omega (arith, entries_most b p r, fill_most r)
