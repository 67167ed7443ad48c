-- page-laws: what is written is read back, and nothing else changes; what is read fits. Assumes nothing.
use Rattle.std.specs.Prelude.{◌≡◌, refl, true, false, ◌≢◌, List, [], ℕ, zero, suc, ◌+◌, ◌*◌, ◌^◌, ◌≤◌, ◌<◌, leb, length, take, drop, get_or}
use Rattle.std.proofs.Common.{sym, ap, ◌∙◌, arith, length-take, le-leb}
use Rattle.std.proofs.Math.Nat.{one-le-pow}
use Rattle.std.proofs.lemmas.Bool.{eqb-false}
use Rattle.lists.specs.Basics.{All}
use Rattle.lists.specs.Tabulated.{all_take}
use Rattle.lists.specs.Tests.{by_cases}
use Rattle.pagestore_bytes.specs.Bytes.{byte_at, le_bytes, put}
use Rattle.pagestore_bytes.specs.ByteLaws.{le_fits, length_le, le_ext, le_at_law, length_put, put_other, put_there}
use Rattle.pagestore_page.specs.Layout.{leaf_of, inner_of, link_of, leaf_bytes, inner_bytes, freed_bytes, records_in, entries_in}
use Rattle.pagestore_page.specs.LayoutLaws.{length_leaf, length_inner, length_freed, leaf_level, leaf_count_law, leaf_round, inner_level, inner_count, inner_round, link_round, leaf_fits_law, inner_fits_law, leaf_slots, inner_slots}
use Rattle.pagestore_page.specs.Fits.{RecordFits, EntryFits}
use Rattle.pagestore_page.specs.declared.Record.{Record}
use Rattle.pagestore_page.specs.declared.Leaf.{Leaf}
use Rattle.pagestore_page.specs.declared.Entry.{Entry}
use Rattle.pagestore_page.specs.declared.Inner.{Inner}
use Rattle.pagestore.specs.Store.{in_range, stretch, set_stretch, leaf_at, inner_at, level_at, count_at, link_at, level_of, fill_of, set_leaf, set_inner, set_link, Page, leaf, inner, page_by, page_at, set_page, Field, offset, width, Apart, field_at, set_field, number_at, set_number}
use Rattle.pagestore.specs.Store.RangeLaws.{range_same}
use Rattle.pagestore.specs.Store.StretchLaws.{stretch_in, stretch_out, stretch_byte, set_out, agree, length_stretch, stretch_same, stretch_other, field_stretch, field_room}

-- ---- WRITES OF PAGES, AS ONE

pub set_leaf_is : (b : List ℕ) (p n : ℕ) (rs : List Record) → set_leaf b p rs ≡ set_page b p (leaf n rs)
unfolding set_page
set_leaf_is b p n rs = refl

-- ---- LENGTHS ARE KEPT

pub length_set_page : (b : List ℕ) (p : ℕ) (x : Page) → length (set_page b p x) ≡ length b
unfolding set_page set_leaf set_inner
length_set_page b p (leaf n rs) = length_stretch b p (leaf_bytes rs) (length_leaf rs)
length_set_page b p (inner l n es) = length_stretch b p (inner_bytes (suc l) es) (length_inner (suc l) es)

pub length_set_link : (b : List ℕ) (p n : ℕ) → length (set_link b p n) ≡ length b
unfolding set_link
length_set_link b p n = length_stretch b p (freed_bytes n) (length_freed n)

pub length_set_field : (f : Field) (b : List ℕ) (v : ℕ) → length (set_field f b v) ≡ length b
unfolding set_number
length_set_field f b v =
    by_cases (leb 1024 (length b))
    (λ h. rw h (length_put b (offset f) (le_bytes (width f) v)))
    (λ h. rw h)

-- ---- WHAT IS WRITTEN IS READ BACK

-- a page whose count is that of its items, and whose values fit
pub data PageFits : Page → Type 0 where
  leaf_fits : {rs : List Record} → length rs ≤ 16 → All RecordFits rs → PageFits (leaf (length rs) rs)
  inner_fits : {l : ℕ} {es : List Entry} → suc l < 256 → length es ≤ 16 → All EntryFits es → PageFits (inner l (length es) es)

leaf_read : (s : List ℕ) (rs : List Record) (n : Inner) → s ≡ leaf_bytes rs → length rs ≤ 16 → All RecordFits rs → page_by (byte_at s 0) (leaf_of s) n ≡ leaf (length rs) rs
unfolding page_by
leaf_read s rs n e h a = rw (e, leaf_level rs, leaf_count_law rs h, leaf_round rs h a)

inner_read : (s : List ℕ) (l : ℕ) (es : List Entry) (m : Leaf) → s ≡ inner_bytes (suc l) es → suc l < 256 → length es ≤ 16 → All EntryFits es
    → page_by (byte_at s 0) m (inner_of s) ≡ inner l (length es) es
unfolding page_by
inner_read s l es m e k h a = rw (e, inner_level (suc l) es k, inner_count (suc l) es h, inner_round (suc l) es h a)

pub page_same : (b : List ℕ) (p : ℕ) (x : Page) → in_range b p ≡ true → PageFits x → page_at (set_page b p x) p ≡ x
unfolding page_at level_at leaf_at inner_at set_page set_leaf set_inner
page_same b p x h (leaf_fits {rs = rs} m a) =
    leaf_read (stretch (set_stretch b p (leaf_bytes rs)) p) rs _ (stretch_same b p (leaf_bytes rs) (length_leaf rs) h) m a
page_same b p x h (inner_fits {l = l} {es = es} k m a) =
    inner_read (stretch (set_stretch b p (inner_bytes (suc l) es)) p) l es _ (stretch_same b p (inner_bytes (suc l) es) (length_inner (suc l) es) h) k m a

pub link_same : (b : List ℕ) (p n : ℕ) → in_range b p ≡ true → n < 2 ^ 32 → link_at (set_link b p n) p ≡ n
unfolding link_at set_link
link_same b p n h g = rw (stretch_same b p (freed_bytes n) (length_freed n) h) (link_round n g)

pub field_same : (f : Field) (b : List ℕ) (v : ℕ) → 1024 ≤ length b → v < 256 ^ width f → field_at f (set_field f b v) ≡ v
unfolding number_at set_number
field_same f b v h g =
    let r = field_room f in
    let i : offset f + length (le_bytes (width f) v) ≤ length b = omega (arith, length_le (width f) v, r.1, r.2) in
    rw (le-leb 1024 (length b) h, length_put b (offset f) (le_bytes (width f) v), le-leb 1024 (length b) h)
    (le_at_law (width f) v (put b (offset f) (le_bytes (width f) v)) (offset f) (drop (offset f + length (le_bytes (width f) v)) b) g
    (put_there b (offset f) (le_bytes (width f) v) i))

-- ---- NOTHING ELSE CHANGES

-- page q is as before: its own stretch, and so each view of it
pub record SamePage (b c : List ℕ) (q : ℕ) : Type 0 where
  pub bytes : stretch c q ≡ stretch b q
  pub page : page_at c q ≡ page_at b q
  pub leaf : leaf_at c q ≡ leaf_at b q
  pub inner : inner_at c q ≡ inner_at b q
  pub level : level_at c q ≡ level_at b q
  pub count : count_at c q ≡ count_at b q
  pub link : link_at c q ≡ link_at b q

pub same_page : (b c : List ℕ) (q : ℕ) → stretch c q ≡ stretch b q → SamePage b c q
unfolding page_at leaf_at inner_at level_at count_at link_at
same_page b c q e =
    record { bytes = e; page = rw e; leaf = rw e; inner = rw e; level = rw e; count = rw e; link = rw e }

pub same_refl : (b : List ℕ) (q : ℕ) → SamePage b b q
same_refl b q = same_page b b q refl

pub same_trans : {a b c : List ℕ} {q : ℕ} → SamePage a b q → SamePage b c q → SamePage a c q
same_trans f g =
    record {
      bytes = g.bytes ∙ f.bytes;
      page = g.page ∙ f.page;
      leaf = g.leaf ∙ f.leaf;
      inner = g.inner ∙ f.inner;
      level = g.level ∙ f.level;
      count = g.count ∙ f.count;
      link = g.link ∙ f.link;
    }

-- indexes of one length whose bytes agree at page q, or at the header
pub bytes_page : (b c : List ℕ) (q : ℕ) → length c ≡ length b → ((i : ℕ) → i < 1024 → get_or c (q * 1024 + i) 0 ≡ get_or b (q * 1024 + i) 0) → SamePage b c q
bytes_page b c q e h = same_page b c q (agree b c q e (λ z i k. h i k))

pub bytes_field : (f : Field) (b c : List ℕ) → length c ≡ length b → ((i : ℕ) → i < 1024 → get_or c i 0 ≡ get_or b i 0) → field_at f c ≡ field_at f b
unfolding number_at
bytes_field f b c e h =
    let r = field_room f in
    rw (e, le_ext (width f) c b (offset f) (λ i g k. h i (omega (arith, r.1, r.2))))

-- and conversely: of a page in range that is as before each byte is
pub page_bytes : {b c : List ℕ} {q : ℕ} → length c ≡ length b → in_range b q ≡ true → SamePage b c q → (i : ℕ) → i < 1024 → get_or c (q * 1024 + i) 0 ≡ get_or b (q * 1024 + i) 0
page_bytes {b} {c} {q} e h s i k =
    sym (stretch_byte c q i (range_same b c q e ∙ h) k) ∙ ap (λ (xs : List ℕ). get_or xs i 0) s.bytes ∙ stretch_byte b q i h k

-- a write of a page changes that page alone
pub page_other : (b : List ℕ) (p : ℕ) (x : Page) (q : ℕ) → q ≢ p → SamePage b (set_page b p x) q
unfolding set_page set_leaf set_inner
page_other b p (leaf n rs) q ne = same_page b _ q (stretch_other b p (leaf_bytes rs) (length_leaf rs) q ne)
page_other b p (inner l n es) q ne = same_page b _ q (stretch_other b p (inner_bytes (suc l) es) (length_inner (suc l) es) q ne)

pub field_page : (f : Field) (b : List ℕ) (p : ℕ) (x : Page) → field_at f (set_page b p x) ≡ field_at f b
unfolding set_page set_leaf set_inner
field_page f b p (leaf n rs) = field_stretch b p (leaf_bytes rs) (length_leaf rs) f
field_page f b p (inner l n es) = field_stretch b p (inner_bytes (suc l) es) (length_inner (suc l) es) f

pub link_other : (b : List ℕ) (p n q : ℕ) → q ≢ p → SamePage b (set_link b p n) q
unfolding set_link
link_other b p n q ne = same_page b _ q (stretch_other b p (freed_bytes n) (length_freed n) q ne)

pub field_link : (f : Field) (b : List ℕ) (p n : ℕ) → field_at f (set_link b p n) ≡ field_at f b
unfolding set_link
field_link f b p n = field_stretch b p (freed_bytes n) (length_freed n) f

-- a write out of range changes nothing
pub page_out : (b : List ℕ) (p : ℕ) (x : Page) → in_range b p ≡ false → set_page b p x ≡ b
unfolding set_page set_leaf set_inner
page_out b p (leaf n rs) h = set_out b p (leaf_bytes rs) h
page_out b p (inner l n es) h = set_out b p (inner_bytes (suc l) es) h

-- a field that is set changes that field alone
pub field_other : (f g : Field) (b : List ℕ) (v : ℕ) → Apart f g → field_at g (set_field f b v) ≡ field_at g b
unfolding number_at set_number
field_other f g b v a =
    let r = field_room f in
    let t = field_room g in
    let ne : offset f ≢ offset g = eqb-false (offset f) (offset g) a in
    by_cases (leb 1024 (length b))
    (λ h. rw (h, length_put b (offset f) (le_bytes (width f) v), h)
    (le_ext (width g) (put b (offset f) (le_bytes (width f) v)) b (offset g)
    (λ i k l. put_other b (offset f) (le_bytes (width f) v) i
    (λ m o. omega (arith, length_le (width f) v, r.0, r.1, t.0, t.1, ne)))))
    (λ h. rw (h, h))

pub page_field : (f : Field) (b : List ℕ) (v : ℕ) (q : ℕ) → SamePage b (set_field f b v) q
unfolding set_number
page_field f b v q =
    let r = field_room f in
    let vs : List ℕ = le_bytes (width f) v in
    let n : length vs ≡ width f = length_le (width f) v in
    by_cases (leb 1024 (length b))
    (λ h. rw h (same_page b _ q (agree b (put b (offset f) vs) q (length_put b (offset f) vs)
    (λ z i k. put_other b (offset f) vs (q * 1024 + i) (λ m o. omega (arith, r.1, r.2))))))
    (λ h. rw h (same_page b b q refl))

-- ---- THE VIEWS OF A PAGE GO TOGETHER

-- page p is a leaf with count n and records rs
pub record IsLeaf (b : List ℕ) (p n : ℕ) (rs : List Record) : Type 0 where
  pub level : level_at b p ≡ 0
  pub count : (leaf_at b p).count ≡ n
  pub records : records_in (leaf_at b p) ≡ rs

-- page p is an inner page over pages of level l, with count n and entries es
pub record IsInner (b : List ℕ) (p l n : ℕ) (es : List Entry) : Type 0 where
  pub level : level_at b p ≡ suc l
  pub count : (inner_at b p).count ≡ n
  pub entries : entries_in (inner_at b p) ≡ es

by_leaf : (v : ℕ) (m : Leaf) (k : Inner) (n : ℕ) (rs : List Record) → page_by v m k ≡ leaf n rs → (v ≡ 0) × (m.count ≡ n) × (records_in m ≡ rs)
unfolding page_by
by_leaf zero m k n rs e = (refl, cc, cc)
by_leaf (suc v) m k n rs e = absurd (let z : ◌≡◌ {A = ℕ} 0 1 = cc in omega arith)

by_inner : (v : ℕ) (m : Leaf) (k : Inner) (l n : ℕ) (es : List Entry) → page_by v m k ≡ inner l n es → (v ≡ suc l) × (k.count ≡ n) × (entries_in k ≡ es)
unfolding page_by
by_inner zero m k l n es e = absurd (let z : ◌≡◌ {A = ℕ} 0 1 = cc in omega arith)
by_inner (suc v) m k l n es e = (cc, cc, cc)

pub leaf_view : (b : List ℕ) (p n : ℕ) (rs : List Record) → page_at b p ≡ leaf n rs → IsLeaf b p n rs
unfolding page_at
leaf_view b p n rs e =
    let r = by_leaf (level_at b p) (leaf_at b p) (inner_at b p) n rs e in record { level = r.0; count = r.1; records = r.2 }

pub inner_view : (b : List ℕ) (p l n : ℕ) (es : List Entry) → page_at b p ≡ inner l n es → IsInner b p l n es
unfolding page_at
inner_view b p l n es e =
    let r = by_inner (level_at b p) (leaf_at b p) (inner_at b p) l n es e in record { level = r.0; count = r.1; entries = r.2 }

pub leaf_page : (b : List ℕ) (p : ℕ) → level_at b p ≡ 0 → page_at b p ≡ leaf (leaf_at b p).count (records_in (leaf_at b p))
unfolding page_at page_by
leaf_page b p e = rw e

pub inner_page : (b : List ℕ) (p l : ℕ) → level_at b p ≡ suc l → page_at b p ≡ inner l (inner_at b p).count (entries_in (inner_at b p))
unfolding page_at page_by
inner_page b p l e = rw e

pub leaf_counts : (b : List ℕ) (p : ℕ) → (leaf_at b p).count ≡ count_at b p
unfolding leaf_at count_at leaf_of
leaf_counts b p = refl

pub inner_counts : (b : List ℕ) (p : ℕ) → (inner_at b p).count ≡ count_at b p
unfolding inner_at count_at inner_of
inner_counts b p = refl

pub inner_levels : (b : List ℕ) (p : ℕ) → (inner_at b p).level ≡ level_at b p
unfolding inner_at level_at inner_of
inner_levels b p = refl

-- the page that is handed over as a part of the index
pub leaf_part : (b : List ℕ) (p n : ℕ) → n ≡ 1024 → in_range b p ≡ true → leaf_of (take n (drop (p * 1024) b)) ≡ leaf_at b p
unfolding leaf_at
leaf_part b p n e h = rw (e, stretch_in b p h)

by_level : (v : ℕ) (m : Leaf) (k : Inner) → level_of (page_by v m k) ≡ v
unfolding page_by
by_level zero m k = refl
by_level (suc v) m k = refl

by_fill : (v c : ℕ) (m : Leaf) (k : Inner) → m.count ≡ c → k.count ≡ c → fill_of (page_by v m k) ≡ c
unfolding page_by
by_fill zero c m k e f = e
by_fill (suc v) c m k e f = f

pub page_level : (b : List ℕ) (p : ℕ) → level_of (page_at b p) ≡ level_at b p
unfolding page_at
page_level b p = by_level (level_at b p) (leaf_at b p) (inner_at b p)

pub page_fill : (b : List ℕ) (p : ℕ) → fill_of (page_at b p) ≡ count_at b p
unfolding page_at
page_fill b p = by_fill (level_at b p) (count_at b p) (leaf_at b p) (inner_at b p) (leaf_counts b p) (inner_counts b p)

-- out of range: an empty leaf
pub page_none : (b : List ℕ) (p : ℕ) → in_range b p ≡ false → page_at b p ≡ leaf 0 []
unfolding page_at page_by level_at leaf_at inner_at leaf_of
page_none b p h = rw (stretch_out b p h)

-- ---- WHAT IS READ FITS, WHATEVER THE BYTES

pub records_fit : (b : List ℕ) (p : ℕ) → All RecordFits (records_in (leaf_at b p))
unfolding leaf_at
records_fit b p = all_take (leaf_at b p).count (leaf_fits_law (stretch b p))

pub entries_fit : (b : List ℕ) (p : ℕ) → All EntryFits (entries_in (inner_at b p))
unfolding inner_at
entries_fit b p = all_take (inner_at b p).count (inner_fits_law (stretch b p))

pub records_slots : (b : List ℕ) (p : ℕ) → length (leaf_at b p).records ≡ 16
unfolding leaf_at
records_slots b p = leaf_slots (stretch b p)

pub entries_slots : (b : List ℕ) (p : ℕ) → length (inner_at b p).entries ≡ 16
unfolding inner_at
entries_slots b p = inner_slots (stretch b p)

pub level_fits : (b : List ℕ) (p : ℕ) → level_at b p < 256
unfolding level_at
level_fits b p = omega arith

pub count_fits : (b : List ℕ) (p : ℕ) → count_at b p < 256
unfolding count_at
count_fits b p = omega arith

pub link_fits : (b : List ℕ) (p : ℕ) → link_at b p < 2 ^ 32
unfolding link_at link_of
link_fits b p = le_fits 4 (stretch b p) 4

pub field_fits : (f : Field) (b : List ℕ) → field_at f b < 256 ^ width f
unfolding number_at
field_fits f b =
    by_cases (leb 1024 (length b)) (λ h. rw h (le_fits (width f) b (offset f))) (λ h. rw h (one-le-pow (width f) 256 (omega arith)))

-- what is read, with at most 16 items, can be written back
leaf_again : (n : ℕ) (rs : List Record) → n ≤ 16 → length rs ≡ 16 → All RecordFits (take n rs) → PageFits (leaf n (take n rs))
leaf_again n rs h s a =
    let e : length (take n rs) ≡ n = omega (arith, length-take n rs) in
    rw e at (leaf_fits {rs = take n rs} (omega arith) a)

inner_again : (l n : ℕ) (es : List Entry) → suc l < 256 → n ≤ 16 → length es ≡ 16 → All EntryFits (take n es) → PageFits (inner l n (take n es))
inner_again l n es v h s a =
    let e : length (take n es) ≡ n = omega (arith, length-take n es) in
    rw e at (inner_fits {l = l} {es = take n es} v (omega arith) a)

by_fits : (v c : ℕ) (m : Leaf) (k : Inner) → v < 256 → c ≤ 16 → m.count ≡ c → k.count ≡ c → length m.records ≡ 16 → length k.entries ≡ 16
    → All RecordFits (records_in m) → All EntryFits (entries_in k) → PageFits (page_by v m k)
unfolding page_by
by_fits zero c m k v h e f s t a g = leaf_again m.count m.records (omega arith) s a
by_fits (suc l) c m k v h e f s t a g = inner_again l k.count k.entries v (omega arith) t g

pub page_fits : (b : List ℕ) (p : ℕ) → count_at b p ≤ 16 → PageFits (page_at b p)
unfolding page_at
page_fits b p h =
    by_fits (level_at b p) (count_at b p) (leaf_at b p) (inner_at b p) (level_fits b p) h (leaf_counts b p) (inner_counts b p)
    (records_slots b p) (entries_slots b p) (records_fit b p) (entries_fit b p)
