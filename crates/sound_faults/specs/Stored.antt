-- What holds of the view of any bytes: a page whose count is at most 16 has that many items, and the freed pages are pages.
use Rattle.std.specs.Prelude.{◌≡◌, refl, true, List, ℕ, zero, suc, ◌≤◌, length}
use Rattle.std.proofs.Common.{sym, subst, arith, length-take}
use Rattle.lists.specs.Counts.{mult_of_all}
use Rattle.pagestore.specs.Store.{Page, leaf, inner, View, view_of, page_at, level_at, leaf_at, inner_at, in_range}
use Rattle.pagestore.specs.Store.PageLaws.{leaf_page, inner_page, records_slots, entries_slots}
use Rattle.pagestore.specs.Store.RangeLaws.{range_low, range_high}
use Rattle.pagestore.specs.Store.FreeLaws.{freed_range}
use Rattle.sound_faults.specs.Faults.{IsPage, Freed}
use Rattle.pagestore_page.specs.Layout.{max_items}

abbrev pub Counted : Page → Type 0
Counted (leaf n rs) = n ≤ max_items → length rs ≡ n
Counted (inner l n es) = n ≤ max_items → length es ≡ n

pub record Stored (v : View) : Type 0 where
  pub items : (p : ℕ) → Counted (v.page p)
  pub freed : (p : ℕ) → Freed v p → IsPage v p

counted : (b : List ℕ) (p l : ℕ) → level_at b p ≡ l → Counted (page_at b p)
counted b p zero h =
    subst Counted (sym (leaf_page b p h)) (λ (n : (leaf_at b p).count ≤ 16). omega (arith, length-take (leaf_at b p).count (leaf_at b p).records, records_slots b p))
counted b p (suc l) h =
    subst Counted (sym (inner_page b p l h)) (λ (n : (inner_at b p).count ≤ 16). omega (arith, length-take (inner_at b p).count (inner_at b p).entries, entries_slots b p))

pub view_stored : (b : List ℕ) → Stored (view_of b)
unfolding view_of
view_stored b =
    record {
      items = λ p. counted b p (level_at b p) refl;
      freed = λ p h. let r : in_range b p ≡ true = mult_of_all (freed_range b) p h in (range_low b p r, range_high b p r);
    }
