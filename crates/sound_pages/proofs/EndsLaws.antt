-- The first and the last key of a page by the numbers that are kept of them. Assumes nothing.
use Rattle.std.proofs.Common.{◌≡◌, refl, sym, ap, ◌∙◌, List, [], ◌∷◌, ℕ, ◌≤◌, ◌<◌, arith, length}
use Rattle.lists.specs.Basics.{All, none, also, concat_map}
use Rattle.lists.specs.Ascending.{head_or, last_or}
use Rattle.lists.specs.AscendingLaws.{head_no, last_no}
use Rattle.lists.specs.Members.{At, all_spot, spot_below}
use Rattle.lists.specs.Tests.{decide}
use Rattle.geometry.specs.declared.Key.{Key}
use Rattle.geometry.specs.Keys.{key_number}
use Rattle.geometry.proofs.KeyLaws.{KeyFits}
use Rattle.pagestore_page.specs.Fits
use Rattle.pagestore_page.specs.Fits.{EntryFits}
use Rattle.pagestore_page.specs.declared.Entry.{Entry}
use Rattle.pagestore_page.specs.Layout.{no_entry}
use Rattle.pagestore.specs.Store.{Page, fill_of, records_of, entries_of, view_of}
use Rattle.pagestore.specs.Store.PageLaws.{PageFits, leaf_fits, inner_fits, page_fits}
use Rattle.tree_model.specs.Trees.{first_key, last_key}
use Rattle.tree_model.specs.Trees
use Rattle.tree_model.specs.Sound.{RecordOk}
use Rattle.sound_faults.specs.Faults.{ends, first_key_in, last_key_in, ranks_in, NodeFill, EntryAt, EntryFault}
use Rattle.sound_faults.specs.Linked.{PageFine}
use Rattle.sound_faults.specs.Shapes.{first_rank_law, last_rank}
use Rattle.sound_faults.proofs.Assembled.{fill_most}
use Rattle.sound_keys.specs.declared.Ends.{Ends}
use Rattle.sound_pages.specs.Pages.{EndsKept}
use Rattle.sound_keys.proofs.KeyLaws.{key_same, key_fits}
use Rattle.sound_faults.proofs.ViewLaws.{view_fill}

-- ---- NUMBERS OF THE ENDS

first_number : (es : List Entry) → 0 < length es → head_no (concat_map ends es) ≡ key_number (head_or no_entry es).first
unfolding concat_map head_or
first_number [] h = absurd (omega arith)
first_number (e ∷ es) h = refl

last_number_law : (x : ℕ) (e : Entry) (es : List Entry) → x ≡ key_number e.last → last_or x (concat_map ends es) ≡ key_number (last_or e es).last
unfolding concat_map last_or
last_number_law x e [] h = h
last_number_law x e (f ∷ es) h = last_number_law (key_number f.last) f es refl

last_ends : (es : List Entry) → 0 < length es → last_no (concat_map ends es) ≡ key_number (last_or no_entry es).last
unfolding concat_map last_or
last_ends [] h = absurd (omega arith)
last_ends (e ∷ es) h = last_number_law (key_number e.last) e es refl

module _ (d : ℕ) where
  pub page_first : {x : Page} → PageFits x → 0 < fill_of x → head_no (ranks_in d x) ≡ key_number (first_key_in d x)
  page_first (leaf_fits {rs = rs} n a) h = sym (first_rank_law d rs h)
  page_first (inner_fits {es = es} v n a) h = first_number es h

  pub page_last : {x : Page} → PageFits x → 0 < fill_of x → last_no (ranks_in d x) ≡ key_number (last_key_in d x)
  page_last (leaf_fits {rs = rs} n a) h = sym (last_rank d rs h)
  page_last (inner_fits {es = es} v n a) h = last_ends es h

-- ---- THEY FIT

narrow : {k : Key} → Fits.KeyFits k → KeyFits k
narrow f = (omega (arith, f.height), omega (arith, f.id))

head_all : {A : Type 0} {P : A → Type 0} (d : A) {xs : List A} → 0 < length xs → All P xs → P (head_or d xs)
unfolding head_or
head_all d h none = absurd (omega arith)
head_all d h (also p a) = p

last_from : {A : Type 0} {P : A → Type 0} (d : A) {xs : List A} → P d → All P xs → P (last_or d xs)
unfolding last_or
last_from d q none = q
last_from d q (also {x = x} p a) = last_from x p a

last_all : {A : Type 0} {P : A → Type 0} (d : A) {xs : List A} → 0 < length xs → All P xs → P (last_or d xs)
unfolding last_or
last_all d h none = absurd (omega arith)
last_all d h (also {x = x} p a) = last_from x p a

module _ (d : ℕ) where
  pub first_fits : {x : Page} → PageFits x → 0 < fill_of x → All (RecordOk d) (records_of x) → KeyFits (first_key_in d x)
  unfolding first_key
  first_fits (leaf_fits {rs = rs} n a) h o = key_fits d (head_or Trees.no_record rs) (head_all Trees.no_record h a) (head_all Trees.no_record h o)
  first_fits (inner_fits {es = es} v n a) h o = narrow (head_all no_entry h a).first

  pub last_fits : {x : Page} → PageFits x → 0 < fill_of x → All (RecordOk d) (records_of x) → KeyFits (last_key_in d x)
  unfolding last_key
  last_fits (leaf_fits {rs = rs} n a) h o = key_fits d (last_or Trees.no_record rs) (last_all Trees.no_record h a) (last_all Trees.no_record h o)
  last_fits (inner_fits {es = es} v n a) h o = narrow (last_all no_entry h a).last

entry_fits : {x : Page} {i : ℕ} {e : Entry} → PageFits x → At (entries_of x) i e → EntryFits e
entry_fits (leaf_fits n a) s = absurd (omega (arith, spot_below s))
entry_fits (inner_fits v n a) s = all_spot a s

-- ---- AN ENTRY AND WHAT IS KEPT OF ITS CHILD

module _ (b : List ℕ) (kept : Ends) (p i : ℕ) (e : Entry) (a : EntryAt (view_of b) p i e) (fill : NodeFill ((view_of b).page e.child))
    (fine : PageFine (view_of b) e.child)
    (low : kept.first ≡ head_no (ranks_in (view_of b).d ((view_of b).page e.child)))
    (high : kept.last ≡ last_no (ranks_in (view_of b).d ((view_of b).page e.child))) where
  fits : (q : ℕ) → fill_of ((view_of b).page q) ≤ 16 → PageFits ((view_of b).page q)
  unfolding view_of
  fits q h = page_fits b q (omega (arith, view_fill b q))

  child_fits : PageFits ((view_of b).page e.child)
  child_fits = fits e.child fill.1

  own_fits : EntryFits e
  own_fits = entry_fits (fits p (fill_most a.reached)) a.at

  some : 0 < fill_of ((view_of b).page e.child)
  some = omega (arith, fill.0)

  first_is : kept.first ≡ key_number (first_key_in (view_of b).d ((view_of b).page e.child))
  first_is = low ∙ page_first (view_of b).d child_fits some

  last_is : kept.last ≡ key_number (last_key_in (view_of b).d ((view_of b).page e.child))
  last_is = high ∙ page_last (view_of b).d child_fits some

  pub first_right : EndsKept e kept → e.first ≡ first_key_in (view_of b).d ((view_of b).page e.child)
  first_right k =
      key_same e.first (first_key_in (view_of b).d ((view_of b).page e.child)) (narrow own_fits.first)
      (first_fits (view_of b).d child_fits some fine.records) (k.first ∙ first_is)

  pub last_right : EndsKept e kept → e.last ≡ last_key_in (view_of b).d ((view_of b).page e.child)
  last_right k =
      key_same e.last (last_key_in (view_of b).d ((view_of b).page e.child)) (narrow own_fits.last)
      (last_fits (view_of b).d child_fits some fine.records) (k.last ∙ last_is)

  pub ends_fault : ¬ EndsKept e kept → EntryFault (view_of b) p
  ends_fault n =
      decide (key_number e.first) kept.first
      (λ x. decide (key_number e.last) kept.last
      (λ y. absurd (n (record { first = x; last = y })))
      (λ y. EntryFault.last a (λ z. y (ap key_number z ∙ sym last_is))))
      (λ x. EntryFault.first a (λ z. x (ap key_number z ∙ sym first_is)))
