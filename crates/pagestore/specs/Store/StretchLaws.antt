-- How pages and fields lie in the bytes of an index; for the laws beside this file and the proofs of this crate's functions. Assumes nothing.
use Rattle.std.specs.Prelude.{◌≡◌, refl, true, false, ◌≢◌, List, [], ◌++◌, ℕ, ◌+◌, ◌-◌, ◌*◌, ◌%◌, ◌≤◌, ◌<◌, leb, length, get_or, take, drop, replicate}
use Rattle.std.proofs.Common.{sym, ap, ◌∙◌, arith, length-append, length-take, length-drop, take_at, drop_at, length-take-le, get_or-take, get_or-drop, get_or-append-add, ext_get_or, leb-true, leb-false, le-leb}
use Rattle.std.proofs.Math.ListN.{get_or-append}
use Rattle.std.proofs.lemmas.Bool.{lt-leb}
use Rattle.lists.specs.Tests.{by_cases}
use Rattle.pagestore_bytes.specs.Bytes.{byte_at, le_at, le_bytes, put}
use Rattle.pagestore_bytes.specs.ByteLaws.{le_ext}
use Rattle.pagestore_page.specs.Layout.{leaf_of, inner_of, link_of, leaf_bytes, inner_bytes, freed_bytes}
use Rattle.pagestore_page.specs.declared.Record.{Record}
use Rattle.pagestore_page.specs.declared.Entry.{Entry}
use Rattle.pagestore.specs.Store.{in_range, stretch, set_stretch, leaf_at, inner_at, level_at, count_at, link_at, set_leaf, set_inner, set_link, Field, offset, width, field_at, number_at, set_number, clear_header, size, features, root, level, total, freed, fresh}
use Rattle.pagestore.specs.Store.RangeLaws.{range_low, range_same, range_whole}

pub stretch_in : (b : List ℕ) (p : ℕ) → in_range b p ≡ true → stretch b p ≡ take 1024 (drop (p * 1024) b)
unfolding stretch
stretch_in b p h = rw h

pub stretch_out : (b : List ℕ) (p : ℕ) → in_range b p ≡ false → stretch b p ≡ []
unfolding stretch
stretch_out b p h = rw h

-- a stretch is a whole page, or nothing
pub stretch_short : (b : List ℕ) (p : ℕ) → length (stretch b p) < 1024 → stretch b p ≡ []
stretch_short b p h =
    by_cases (in_range b p)
    (λ t. absurd (let g : p * 1024 + 1024 ≤ length b = range_whole b p t in
    let n : length (stretch b p) ≡ 1024 = rw (stretch_in b p t) (simp (length-take, length-drop) (omega arith)) in omega arith))
    (λ t. stretch_out b p t)

pub stretch_whole : (b : List ℕ) (p : ℕ) → 1024 ≤ length (stretch b p) → length (stretch b p) ≡ 1024
stretch_whole b p h =
    by_cases (in_range b p)
    (λ t. let g : p * 1024 + 1024 ≤ length b = range_whole b p t in rw (stretch_in b p t) (simp (length-take, length-drop) (omega arith)))
    (λ t. absurd (let n : length (stretch b p) ≡ 0 = rw (stretch_out b p t) in omega arith))

pub set_in : (b : List ℕ) (p : ℕ) (xs : List ℕ) → in_range b p ≡ true → set_stretch b p xs ≡ take (p * 1024) b ++ (xs ++ drop (p * 1024 + 1024) b)
unfolding set_stretch
set_in b p xs h = rw h

pub set_out : (b : List ℕ) (p : ℕ) (xs : List ℕ) → in_range b p ≡ false → set_stretch b p xs ≡ b
unfolding set_stretch
set_out b p xs h = rw h

-- the fields of the header lie in its first 1,024 bytes, four bytes apart
pub field_room : (f : Field) → (offset f % 4 ≡ 0) × (width f ≤ 4) × (offset f ≤ 1020)
field_room size = (refl, omega arith, omega arith)
field_room features = (refl, omega arith, omega arith)
field_room root = (refl, omega arith, omega arith)
field_room level = (refl, omega arith, omega arith)
field_room total = (refl, omega arith, omega arith)
field_room freed = (refl, omega arith, omega arith)
field_room fresh = (refl, omega arith, omega arith)

-- byte i of a page lies i bytes after the page's beginning
part_byte : (b : List ℕ) (p i : ℕ) → i < 1024 → get_or (take 1024 (drop (p * 1024) b)) i 0 ≡ get_or b (p * 1024 + i) 0
part_byte b p i k = get_or-take 1024 (drop (p * 1024) b) i 0 k ∙ get_or-drop (p * 1024) b i 0

pub stretch_byte : (b : List ℕ) (p i : ℕ) → in_range b p ≡ true → i < 1024 → get_or (stretch b p) i 0 ≡ get_or b (p * 1024 + i) 0
stretch_byte b p i h k = ap (λ (xs : List ℕ). get_or xs i 0) (stretch_in b p h) ∙ part_byte b p i k

-- two indexes of one length whose bytes agree at a page have the same page
pub agree : (b c : List ℕ) (q : ℕ) → length c ≡ length b → (0 < q → (i : ℕ) → i < 1024 → get_or c (q * 1024 + i) 0 ≡ get_or b (q * 1024 + i) 0) → stretch c q ≡ stretch b q
agree b c q e h =
    let r : in_range c q ≡ in_range b q = range_same b c q e in
    by_cases (in_range b q)
    (λ t. stretch_in c q (r ∙ t)
    ∙ ext_get_or 0 (take 1024 (drop (q * 1024) c)) (take 1024 (drop (q * 1024) b))
    (length-take 1024 (drop (q * 1024) c) ∙ rw (length-drop (q * 1024) c, e, ← length-drop (q * 1024) b) (sym (length-take 1024 (drop (q * 1024) b))))
    (λ i g. let k : i < 1024 = omega (arith, length-take 1024 (drop (q * 1024) c)) in
    part_byte c q i k ∙ h (range_low b q t) i k ∙ sym (part_byte b q i k))
    ∙ sym (stretch_in b q t))
    (λ t. stretch_out c q (r ∙ t) ∙ sym (stretch_out b q t))

module _ (b : List ℕ) (p : ℕ) (xs : List ℕ) (n : length xs ≡ 1024) where
  length_in : in_range b p ≡ true → length (take (p * 1024) b ++ (xs ++ drop (p * 1024 + 1024) b)) ≡ length b
  length_in h = let g : p * 1024 + 1024 ≤ length b = range_whole b p h in simp (length-append, length-take, length-drop) (omega arith)

  pub length_stretch : length (set_stretch b p xs) ≡ length b
  length_stretch =
      by_cases (in_range b p) (λ h. ap length (set_in b p xs h) ∙ length_in h) (λ h. ap length (set_out b p xs h))

  pub stretch_same : in_range b p ≡ true → stretch (set_stretch b p xs) p ≡ xs
  stretch_same h =
      let g : p * 1024 + 1024 ≤ length b = range_whole b p h in
      stretch_in (set_stretch b p xs) p (range_same b (set_stretch b p xs) p length_stretch ∙ h)
      ∙ rw (set_in b p xs h, drop_at (take (p * 1024) b) (xs ++ drop (p * 1024 + 1024) b) (p * 1024) (length-take-le (p * 1024) b (omega arith)))
      (take_at xs (drop (p * 1024 + 1024) b) 1024 n)

  -- a byte that lies before the page, or after it
  byte_before : in_range b p ≡ true → (m : ℕ) → m < p * 1024 → get_or (set_stretch b p xs) m 0 ≡ get_or b m 0
  byte_before h m g =
      let k : p * 1024 + 1024 ≤ length b = range_whole b p h in
      rw (set_in b p xs h)
      (get_or-append (take (p * 1024) b) (xs ++ drop (p * 1024 + 1024) b) 0 m (omega (arith, length-take (p * 1024) b)) ∙ get_or-take (p * 1024) b m 0 g)

  byte_after : in_range b p ≡ true → (m : ℕ) → p * 1024 + 1024 ≤ m → get_or (set_stretch b p xs) m 0 ≡ get_or b m 0
  byte_after h m g =
      let k : p * 1024 + 1024 ≤ length b = range_whole b p h in
      let l : List ℕ = take (p * 1024) b in
      let r : List ℕ = drop (p * 1024 + 1024) b in
      let i : ℕ = m - (p * 1024 + 1024) in
      let a : m ≡ length l + (length xs + i) = omega (arith, length-take (p * 1024) b) in
      rw (set_in b p xs h)
      (ap (λ (j : ℕ). get_or (l ++ (xs ++ r)) j 0) a ∙ get_or-append-add l (xs ++ r) (length xs + i) 0 ∙ get_or-append-add xs r i 0
      ∙ get_or-drop (p * 1024 + 1024) b i 0 ∙ ap (λ (j : ℕ). get_or b j 0) (omega arith))

  pub stretch_other : (q : ℕ) → q ≢ p → stretch (set_stretch b p xs) q ≡ stretch b q
  stretch_other q ne =
      by_cases (in_range b p)
      (λ h. agree b (set_stretch b p xs) q length_stretch
      (λ z i k. by_cases (leb q p)
      (λ t. let l : q ≤ p = leb-true q p t in byte_before h (q * 1024 + i) (omega (arith, ne)))
      (λ t. let l : p < q = leb-false q p t in byte_after h (q * 1024 + i) (omega arith))))
      (λ h. ap (λ (c : List ℕ). stretch c q) (set_out b p xs h))

  -- the header is before every page
  byte_header : (m : ℕ) → m < 1024 → get_or (set_stretch b p xs) m 0 ≡ get_or b m 0
  byte_header m g =
      by_cases (in_range b p)
      (λ h. let l : 0 < p = range_low b p h in byte_before h m (omega arith))
      (λ h. ap (λ (c : List ℕ). get_or c m 0) (set_out b p xs h))

  pub field_stretch : (f : Field) → field_at f (set_stretch b p xs) ≡ field_at f b
  unfolding number_at
  field_stretch f =
      let r = field_room f in
      rw (length_stretch, le_ext (width f) (set_stretch b p xs) b (offset f) (λ i g h. byte_header i (omega (arith, r.1, r.2))))

-- ---- the views and the writes, in stretches

pub leaf_opens : (b : List ℕ) (p : ℕ) → leaf_at b p ≡ leaf_of (stretch b p)
unfolding leaf_at
leaf_opens b p = refl

pub inner_opens : (b : List ℕ) (p : ℕ) → inner_at b p ≡ inner_of (stretch b p)
unfolding inner_at
inner_opens b p = refl

pub level_opens : (b : List ℕ) (p : ℕ) → level_at b p ≡ byte_at (stretch b p) 0
unfolding level_at
level_opens b p = refl

pub count_opens : (b : List ℕ) (p : ℕ) → count_at b p ≡ byte_at (stretch b p) 1
unfolding count_at
count_opens b p = refl

pub link_opens : (b : List ℕ) (p : ℕ) → link_at b p ≡ link_of (stretch b p)
unfolding link_at
link_opens b p = refl

pub set_leaf_opens : (b : List ℕ) (p : ℕ) (rs : List Record) → set_leaf b p rs ≡ set_stretch b p (leaf_bytes rs)
unfolding set_leaf
set_leaf_opens b p rs = refl

pub set_inner_opens : (b : List ℕ) (p v : ℕ) (es : List Entry) → set_inner b p v es ≡ set_stretch b p (inner_bytes v es)
unfolding set_inner
set_inner_opens b p v es = refl

pub set_link_opens : (b : List ℕ) (p n : ℕ) → set_link b p n ≡ set_stretch b p (freed_bytes n)
unfolding set_link
set_link_opens b p n = refl

-- ---- the fields of the header, in bytes

pub number_long : (w at : ℕ) (b : List ℕ) → 1024 ≤ length b → number_at w at b ≡ le_at w b at
unfolding number_at
number_long w at b h = rw (le-leb 1024 (length b) h)

pub number_short : (w at : ℕ) (b : List ℕ) → length b < 1024 → number_at w at b ≡ 0
unfolding number_at
number_short w at b h = rw (lt-leb 1024 (length b) h)

pub set_number_long : (w at : ℕ) (b : List ℕ) (v : ℕ) → 1024 ≤ length b → set_number w at b v ≡ put b at (le_bytes w v)
unfolding set_number
set_number_long w at b v h = rw (le-leb 1024 (length b) h)

pub set_number_short : (w at : ℕ) (b : List ℕ) (v : ℕ) → length b < 1024 → set_number w at b v ≡ b
unfolding set_number
set_number_short w at b v h = rw (lt-leb 1024 (length b) h)

pub clear_long : (b : List ℕ) → 1024 ≤ length b → clear_header b ≡ replicate 1024 0 ++ drop 1024 b
unfolding clear_header
clear_long b h = rw (le-leb 1024 (length b) h)

pub clear_short : (b : List ℕ) → length b < 1024 → clear_header b ≡ b
unfolding clear_header
clear_short b h = rw (lt-leb 1024 (length b) h)
