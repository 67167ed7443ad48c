-- Laws of the bytes of one page: what is written has 1,024 bytes and is read back, and what is read fits. Assumes nothing.
use Rattle.std.specs.Prelude.{◌≡◌, refl, List, [], ◌∷◌, ◌++◌, ℕ, zero, suc, ◌+◌, ◌-◌, ◌*◌, ◌%◌, ◌^◌, ◌≤◌, ◌<◌, get_or, take, drop, replicate}
use Rattle.std.proofs.Common.{sym, ap, ◌∙◌, append_assoc, ⊎_elim, eq-or-lt_of_le, le_of_suc-le-suc, not-suc-le-zero, arith, length-append, length-take, drop-drop, take_all}
use Rattle.std.proofs.Math.ListN.{length}
use Rattle.std.proofs.lemmas.List.{length-replicate}
use Rattle.lists.specs.Basics.{tabulate, concat_map, length_tabulate, All, also}
use Rattle.lists.specs.Tabulated.{tabulate_ext, tabulate_take, take_tabulate, length_concat_map, concat_map_at, all_at, all_tabulate}
use Rattle.geometry.specs.declared.Key.{Key}
use Rattle.pagestore_page.specs.declared.Record.{Record}
use Rattle.pagestore_page.specs.declared.Entry.{Entry}
use Rattle.pagestore_bytes.specs.Bytes.{byte_at, le_at, le_bytes, put}
use Rattle.pagestore_bytes.specs.ByteLaws.{le_one, le_fits, length_le, le_at_law, byte_at_law, next_at, length_put, put_other, le_put, le_other}
use Rattle.pagestore_page.specs.Layout.{no_record, no_entry, key_at, key_bytes, entry_at, entry_bytes, stages_from, columns, coord_room, coord_at, ident_at, stage_at, stamp_at, record_at, leaf_of, put_coords, put_label, put_record, put_records, blank_leaf, inner_of, link_of, leaf_bytes, entries_bytes, inner_bytes, freed_bytes}
use Rattle.pagestore_page.specs.Fits.{RecordFits, KeyFits, EntryFits}

-- ---- lengths

pub length_key : (k : Key) → length (key_bytes k) ≡ 8
unfolding key_bytes le_bytes
length_key k = refl

pub length_entry : (e : Entry) → length (entry_bytes e) ≡ 20
unfolding entry_bytes le_bytes key_bytes
length_entry e = refl

length_coords : (m : ℕ) (s : List ℕ) (i : ℕ) (cs : List ℕ) → length (put_coords m s i cs) ≡ length s
unfolding put_coords
length_coords zero s i cs = refl
length_coords (suc m) s i cs = length_put (put_coords m s i cs) (coord_at m i) (le_bytes 2 (get_or cs m 0 % coord_room)) ∙ length_coords m s i cs

length_label : (s : List ℕ) (i : ℕ) (r : Record) → length (put_label s i r) ≡ length s
unfolding put_label
length_label s i r =
    let t : List ℕ = put s (ident_at i) (le_bytes 4 r.id) in
    length_put (put t (stage_at i) (r.stage ∷ [])) (stamp_at i) (le_bytes 4 r.stamp) ∙ length_put t (stage_at i) (r.stage ∷ [])
    ∙ length_put s (ident_at i) (le_bytes 4 r.id)

length_record : (s : List ℕ) (i : ℕ) (r : Record) → length (put_record s i r) ≡ length s
unfolding put_record
length_record s i r = length_coords 16 (put_label s i r) i r.coords ∙ length_label s i r

length_records : (s : List ℕ) (i : ℕ) (rs : List Record) → length (put_records s i rs) ≡ length s
unfolding put_records
length_records s i [] = refl
length_records s i (r ∷ rs) = length_records (put_record s i r) (i + 1) rs ∙ length_record s i r

length_entries : (v : ℕ) (es : List Entry) → length es ≤ 16 → length (entries_bytes v es) ≡ 1024
unfolding entries_bytes
length_entries v es h =
    let n : length (concat_map entry_bytes es) ≡ 20 * length es = length_concat_map entry_bytes 20 length_entry es in
    simp (length-append, length-replicate) (omega arith)

most_16 : {A : Type 0} (xs : List A) → length (take 16 xs) ≤ 16
most_16 xs = omega (arith, length-take 16 xs)

length_blank : (n : ℕ) → length (blank_leaf n) ≡ 1024
unfolding blank_leaf
length_blank n = length_put (replicate 1024 0) 0 (0 ∷ n ∷ 0 ∷ 0 ∷ []) ∙ length-replicate {A = ℕ} 1024 0

pub length_leaf : (rs : List Record) → length (leaf_bytes rs) ≡ 1024
unfolding leaf_bytes
length_leaf rs = length_records (blank_leaf (length (take 16 rs))) 0 (take 16 rs) ∙ length_blank (length (take 16 rs))

pub length_inner : (v : ℕ) (es : List Entry) → length (inner_bytes v es) ≡ 1024
unfolding inner_bytes
length_inner v es = length_entries v (take 16 es) (most_16 es)

pub length_freed : (n : ℕ) → length (freed_bytes n) ≡ 1024
unfolding freed_bytes le_bytes
length_freed n = refl

-- ---- keys and entries: what is written is read back, wherever it begins

key_round : (k : Key) → KeyFits k → (s : List ℕ) (at : ℕ) (t : List ℕ) → drop at s ≡ key_bytes k ++ t → key_at s at ≡ k
unfolding key_at key_bytes
key_round k v s at t e =
    let i : List ℕ = le_bytes 4 k.id in
    let h : List ℕ = le_bytes 2 k.height.0 in
    let p : List ℕ = k.pyramid.0 ∷ 0 ∷ [] in
    let e' : drop at s ≡ i ++ (h ++ (p ++ t)) = e ∙ append_assoc i (h ++ p) t ∙ ap (λ (u : List ℕ). i ++ u) (append_assoc h p t) in
    let f : drop (at + 4) s ≡ h ++ (p ++ t) = next_at s at i (h ++ (p ++ t)) 4 (length_le 4 k.id) e' in
    let n : at + 4 + 2 ≡ at + 6 = omega arith in
    let g : drop (at + 6) s ≡ p ++ t = rw n at (next_at s (at + 4) h (p ++ t) 2 (length_le 2 k.height.0) f) in
    rw (byte_at_law k.pyramid.0 s (at + 6) (0 ∷ t) v.pyramid g, le_at_law 2 k.height.0 s (at + 4) (p ++ t) v.height f, le_at_law 4 k.id s at (h ++ (p ++ t)) v.id e')

entry_round : (x : Entry) → EntryFits x → (s : List ℕ) (at : ℕ) (t : List ℕ) → drop at s ≡ entry_bytes x ++ t → entry_at s at ≡ x
unfolding entry_at entry_bytes
entry_round x v s at t e =
    let a : List ℕ = le_bytes 4 x.child in
    let b : List ℕ = key_bytes x.first in
    let c : List ℕ = key_bytes x.last in
    let e' : drop at s ≡ a ++ (b ++ (c ++ t)) = e ∙ append_assoc a (b ++ c) t ∙ ap (λ (u : List ℕ). a ++ u) (append_assoc b c t) in
    let f : drop (at + 4) s ≡ b ++ (c ++ t) = next_at s at a (b ++ (c ++ t)) 4 (length_le 4 x.child) e' in
    let n : at + 4 + 8 ≡ at + 12 = omega arith in
    let g : drop (at + 12) s ≡ c ++ t = rw n at (next_at s (at + 4) b (c ++ t) 8 (length_key x.first) f) in
    rw (le_at_law 4 x.child s at (b ++ (c ++ t)) v.child e', key_round x.first v.first s (at + 4) (c ++ t) f, key_round x.last v.last s (at + 12) t g)

-- ---- the records of a leaf: one that is stored is read back, and nothing else changes

-- a number that lies beside the coordinates of record i
coords_other : (m : ℕ) (s : List ℕ) (i : ℕ) (cs : List ℕ) (n at : ℕ) → ((k : ℕ) → k < m → at < coord_at k i + 2 → coord_at k i < at + n → ⊥)
    → le_at n (put_coords m s i cs) at ≡ le_at n s at
unfolding put_coords
coords_other zero s i cs n at h = refl
coords_other (suc m) s i cs n at h =
    le_other n (put_coords m s i cs) (coord_at m i) (le_bytes 2 (get_or cs m 0 % coord_room)) at
    (λ a b. h m (omega arith) (omega (arith, length_le 2 (get_or cs m 0 % coord_room))) b)
    ∙ coords_other m s i cs n at (λ k l. h k (omega arith))

coord_back : (n : ℕ) (s : List ℕ) (i m : ℕ) (cs : List ℕ) → length s ≡ 1024 → i < 16 → n ≤ 16 → m < n → le_at 2 (put_coords n s i cs) (coord_at m i) ≡ get_or cs m 0 % coord_room
unfolding put_coords
coord_back zero s i m cs e g h k = absurd (not-suc-le-zero k)
coord_back (suc n) s i m cs e g h k =
    let v : ℕ = get_or cs n 0 % coord_room in
    ⊎_elim (λ (q : m ≡ n). rw q (le_put 2 v (put_coords n s i cs) (coord_at n i) (omega arith) (omega (arith, length_coords n s i cs))))
    (λ (l : m < n). le_other 2 (put_coords n s i cs) (coord_at n i) (le_bytes 2 v) (coord_at m i) (λ a b. omega (arith, length_le 2 v))
    ∙ coord_back n s i m cs e g (omega arith) l)
    (eq-or-lt_of_le (le_of_suc-le-suc k))

-- a byte by itself
byte_put : (v : ℕ) (l : List ℕ) (at : ℕ) → v < 256 → at + 1 ≤ length l → le_at 1 (put l at (v ∷ [])) at ≡ v
unfolding le_bytes
byte_put v l at h g =
    let e : v % 256 ≡ v = omega arith in
    ap (λ (x : ℕ). le_at 1 (put l at (x ∷ [])) at) (sym e) ∙ le_put 1 v l at (omega arith) g

-- identifier, stage and stamp: each is read back, and a number that lies beside them is as before
module _ (s : List ℕ) (i : ℕ) (r : Record) where
  abbrev with_id : List ℕ
  with_id = put s (ident_at i) (le_bytes 4 r.id)

  abbrev with_stage : List ℕ
  with_stage = put with_id (stage_at i) (r.stage ∷ [])

  label_other : (n at : ℕ) → (at < ident_at i + 4 → ident_at i < at + n → ⊥) → (at < stage_at i + 1 → stage_at i < at + n → ⊥) → (at < stamp_at i + 4 → stamp_at i < at + n → ⊥)
      → le_at n (put_label s i r) at ≡ le_at n s at
  unfolding put_label
  label_other n at h k l =
      le_other n with_stage (stamp_at i) (le_bytes 4 r.stamp) at (λ a b. l (omega (arith, length_le 4 r.stamp)) b)
      ∙ le_other n with_id (stage_at i) (r.stage ∷ []) at (λ a b. k (omega arith) b)
      ∙ le_other n s (ident_at i) (le_bytes 4 r.id) at (λ a b. h (omega (arith, length_le 4 r.id)) b)

  label_back : length s ≡ 1024 → i < 16 → RecordFits r
      → (le_at 4 (put_label s i r) (ident_at i) ≡ r.id) × (le_at 1 (put_label s i r) (stage_at i) ≡ r.stage) × (le_at 4 (put_label s i r) (stamp_at i) ≡ r.stamp)
  unfolding put_label
  label_back e h v =
      let f : length with_id ≡ 1024 = length_put s (ident_at i) (le_bytes 4 r.id) ∙ e in
      let g : length with_stage ≡ 1024 = length_put with_id (stage_at i) (r.stage ∷ []) ∙ f in (
        le_other 4 with_stage (stamp_at i) (le_bytes 4 r.stamp) (ident_at i) (λ a b. omega arith)
            ∙ le_other 4 with_id (stage_at i) (r.stage ∷ []) (ident_at i) (λ a b. omega arith) ∙ le_put 4 r.id s (ident_at i) v.id (omega arith),
        le_other 1 with_stage (stamp_at i) (le_bytes 4 r.stamp) (stage_at i) (λ a b. omega arith)
            ∙ byte_put r.stage with_id (stage_at i) v.stage (omega arith),
        le_put 4 r.stamp with_stage (stamp_at i) v.stamp (omega arith),
      )

record_back : (s : List ℕ) (i : ℕ) (r : Record) → length s ≡ 1024 → i < 16 → RecordFits r → record_at (put_record s i r) i ≡ r
unfolding record_at put_record
record_back s i r e h v =
    let t : List ℕ = put_label s i r in
    let u : List ℕ = put_coords 16 t i r.coords in
    let f : length t ≡ 1024 = length_label s i r ∙ e in
    let b = label_back s i r e h v in
    let n : le_at 4 u (ident_at i) ≡ r.id = coords_other 16 t i r.coords 4 (ident_at i) (λ k a b c. omega arith) ∙ b.0 in
    let g : byte_at u (stage_at i) ≡ r.stage = sym (le_one u (stage_at i)) ∙ coords_other 16 t i r.coords 1 (stage_at i) (λ k a b c. omega arith) ∙ b.1 in
    let m : le_at 4 u (stamp_at i) ≡ r.stamp = coords_other 16 t i r.coords 4 (stamp_at i) (λ k a b c. omega arith) ∙ b.2 in
    let one : (m : ℕ) → m < 16 → le_at 2 u (coord_at m i) % coord_room ≡ get_or r.coords m 0 =
    λ m k. let c : get_or r.coords m 0 < 2 ^ 11 = all_at v.coords m 0 (rw v.slots k) in omega (arith, coord_back 16 t i m r.coords f h (omega arith) k) in
    let all : tabulate 16 (λ m. le_at 2 u (coord_at m i) % coord_room) ≡ r.coords =
    tabulate_ext 16 (λ m. le_at 2 u (coord_at m i) % coord_room) (λ m. get_or r.coords m 0) one
    ∙ tabulate_take r.coords 0 16 (omega (arith, v.slots)) ∙ take_all 16 r.coords (omega (arith, v.slots)) in
    λ j. record { id = n j; stage = g j; stamp = m j; coords = all j }

record_other : (s : List ℕ) (i : ℕ) (r : Record) (j : ℕ) → i < 16 → j < i → record_at (put_record s i r) j ≡ record_at s j
unfolding record_at put_record
record_other s i r j h l =
    let t : List ℕ = put_label s i r in
    let u : List ℕ = put_coords 16 t i r.coords in
    let n : le_at 4 u (ident_at j) ≡ le_at 4 s (ident_at j) =
    coords_other 16 t i r.coords 4 (ident_at j) (λ k a b c. omega arith)
    ∙ label_other s i r 4 (ident_at j) (λ a b. omega arith) (λ a b. omega arith) (λ a b. omega arith) in
    let g : byte_at u (stage_at j) ≡ byte_at s (stage_at j) =
    sym (le_one u (stage_at j)) ∙ coords_other 16 t i r.coords 1 (stage_at j) (λ k a b c. omega arith)
    ∙ label_other s i r 1 (stage_at j) (λ a b. omega arith) (λ a b. omega arith) (λ a b. omega arith) ∙ le_one s (stage_at j) in
    let q : le_at 4 u (stamp_at j) ≡ le_at 4 s (stamp_at j) =
    coords_other 16 t i r.coords 4 (stamp_at j) (λ k a b c. omega arith)
    ∙ label_other s i r 4 (stamp_at j) (λ a b. omega arith) (λ a b. omega arith) (λ a b. omega arith) in
    let one : (m : ℕ) → m < 16 → le_at 2 u (coord_at m j) % coord_room ≡ le_at 2 s (coord_at m j) % coord_room =
    λ m k. ap (λ (x : ℕ). x % coord_room)
    (coords_other 16 t i r.coords 2 (coord_at m j) (λ q a b c. omega arith)
    ∙ label_other s i r 2 (coord_at m j) (λ a b. omega arith) (λ a b. omega arith) (λ a b. omega arith)) in
    let all = tabulate_ext 16 (λ m. le_at 2 u (coord_at m j) % coord_room) (λ m. le_at 2 s (coord_at m j) % coord_room) one in
    λ k. record { id = n k; stage = g k; stamp = q k; coords = all k }

records_other : (s : List ℕ) (i : ℕ) (rs : List Record) (j : ℕ) → i + length rs ≤ 16 → j < i → record_at (put_records s i rs) j ≡ record_at s j
unfolding put_records
records_other s i [] j h l = refl
records_other s i (r ∷ rs) j h l =
    records_other (put_record s i r) (i + 1) rs j (omega arith) (omega arith) ∙ record_other s i r j (omega arith) l

records_back : (s : List ℕ) (i : ℕ) (rs : List Record) (k : ℕ) → length s ≡ 1024 → i + length rs ≤ 16 → All RecordFits rs → k < length rs
    → record_at (put_records s i rs) (i + k) ≡ get_or rs k no_record
unfolding put_records
records_back s i [] k e h g l = absurd (not-suc-le-zero l)
records_back s i (r ∷ rs) zero e h (also v g) l =
    let z : i + 0 ≡ i = omega arith in
    rw z (records_other (put_record s i r) (i + 1) rs i (omega arith) (omega arith) ∙ record_back s i r e (omega arith) v)
records_back s i (r ∷ rs) (suc k) e h (also v g) l =
    let z : i + suc k ≡ i + 1 + k = omega arith in
    rw z (records_back (put_record s i r) (i + 1) rs k (length_record s i r ∙ e) (omega arith) g (le_of_suc-le-suc l))

-- the bytes before the columns, and those before the stages
coords_head : (m : ℕ) (s : List ℕ) (i : ℕ) (cs : List ℕ) (j : ℕ) → j < columns → get_or (put_coords m s i cs) j 0 ≡ get_or s j 0
unfolding put_coords
coords_head zero s i cs j h = refl
coords_head (suc m) s i cs j h =
    put_other (put_coords m s i cs) (coord_at m i) (le_bytes 2 (get_or cs m 0 % coord_room)) j (λ a b. omega arith) ∙ coords_head m s i cs j h

label_head : (s : List ℕ) (i : ℕ) (r : Record) (j : ℕ) → j < stages_from → get_or (put_label s i r) j 0 ≡ get_or s j 0
unfolding put_label
label_head s i r j h =
    put_other (with_stage s i r) (stamp_at i) (le_bytes 4 r.stamp) j (λ a b. omega arith)
    ∙ put_other (with_id s i r) (stage_at i) (r.stage ∷ []) j (λ a b. omega arith) ∙ put_other s (ident_at i) (le_bytes 4 r.id) j (λ a b. omega arith)

records_head : (s : List ℕ) (i : ℕ) (rs : List Record) (j : ℕ) → j < stages_from → get_or (put_records s i rs) j 0 ≡ get_or s j 0
unfolding put_records put_record
records_head s i [] j h = refl
records_head s i (r ∷ rs) j h =
    records_head (put_coords 16 (put_label s i r) i r.coords) (i + 1) rs j h
    ∙ coords_head 16 (put_label s i r) i r.coords j (omega arith) ∙ label_head s i r j h

-- ---- the entries of an inner page

entries_round : (v : ℕ) (es : List Entry) → length es ≤ 16 → All EntryFits es → take (length es) (tabulate 16 (λ j. entry_at (entries_bytes v es) (4 + 20 * j))) ≡ es
unfolding entries_bytes
entries_round v es h g =
    let z : List ℕ = replicate (1020 - 20 * length es) 0 in
    let s : List ℕ = (v ∷ length es ∷ 0 ∷ 0 ∷ []) ++ (concat_map entry_bytes es ++ z) in
    let one : (i : ℕ) → i < length es → entry_at s (4 + 20 * i) ≡ get_or es i no_entry =
    λ i p. entry_round (get_or es i no_entry) (all_at g i no_entry p) s (4 + 20 * i) (concat_map entry_bytes (drop (suc i) es) ++ z)
    (sym (drop-drop (20 * i) 4 s) ∙ concat_map_at entry_bytes 20 length_entry i es z no_entry p) in
    take_tabulate (length es) 16 (λ j. entry_at s (4 + 20 * j)) h
    ∙ tabulate_ext (length es) (λ j. entry_at s (4 + 20 * j)) (λ i. get_or es i no_entry) one ∙ tabulate_take es no_entry (length es) (omega arith) ∙ take_all (length es) es (omega arith)

-- ---- leaf, inner and freed pages

pub leaf_level : (rs : List Record) → byte_at (leaf_bytes rs) 0 ≡ 0
unfolding leaf_bytes blank_leaf put
leaf_level rs = rw (records_head (blank_leaf (length (take 16 rs))) 0 (take 16 rs) 0 (omega arith))

pub leaf_count_law : (rs : List Record) → length rs ≤ 16 → (leaf_of (leaf_bytes rs)).count ≡ length rs
unfolding leaf_of leaf_bytes blank_leaf put
leaf_count_law rs h = rw (take_all 16 rs h, records_head (blank_leaf (length rs)) 0 rs 1 (omega arith)) (omega arith)

pub leaf_round : (rs : List Record) → length rs ≤ 16 → All RecordFits rs → take (length rs) (leaf_of (leaf_bytes rs)).records ≡ rs
unfolding leaf_of leaf_bytes
leaf_round rs h g =
    let s : List ℕ = put_records (blank_leaf (length rs)) 0 rs in
    rw (take_all 16 rs h)
    (take_tabulate (length rs) 16 (record_at s) h
    ∙ tabulate_ext (length rs) (record_at s) (λ i. get_or rs i no_record)
    (λ i k. let z : i ≡ 0 + i = omega arith in ap (record_at s) z ∙ records_back (blank_leaf (length rs)) 0 rs i (length_blank (length rs)) (omega arith) g k)
    ∙ tabulate_take rs no_record (length rs) (omega arith) ∙ take_all (length rs) rs (omega arith))

pub inner_level : (v : ℕ) (es : List Entry) → v < 256 → byte_at (inner_bytes v es) 0 ≡ v
unfolding inner_bytes entries_bytes
inner_level v es h = omega arith

pub inner_count : (v : ℕ) (es : List Entry) → length es ≤ 16 → (inner_of (inner_bytes v es)).count ≡ length es
unfolding inner_of inner_bytes entries_bytes
inner_count v es h = rw (take_all 16 es h) (omega arith)

pub inner_round : (v : ℕ) (es : List Entry) → length es ≤ 16 → All EntryFits es → take (length es) (inner_of (inner_bytes v es)).entries ≡ es
unfolding inner_of inner_bytes
inner_round v es h g = rw (take_all 16 es h) (entries_round v es h g)

pub link_round : (n : ℕ) → n < 2 ^ 32 → link_of (freed_bytes n) ≡ n
unfolding link_of freed_bytes
link_round n h = le_at_law 4 n _ 4 (replicate 1016 0) h refl

-- ---- what is read fits

key_fits : (s : List ℕ) (at : ℕ) → KeyFits (key_at s at)
unfolding key_at
key_fits s at = record { pyramid = omega arith; height = le_fits 2 s (at + 4); id = le_fits 4 s at }

entry_fits : (s : List ℕ) (at : ℕ) → EntryFits (entry_at s at)
unfolding entry_at
entry_fits s at = record { child = le_fits 4 s at; first = key_fits s (at + 4); last = key_fits s (at + 12) }

record_fits : (s : List ℕ) (i : ℕ) → RecordFits (record_at s i)
unfolding record_at
record_fits s i =
    record {
      id = le_fits 4 s (ident_at i);
      stage = omega arith;
      stamp = le_fits 4 s (stamp_at i);
      slots = length_tabulate 16 (λ m. le_at 2 s (coord_at m i) % coord_room);
      coords = all_tabulate 16 (λ m. le_at 2 s (coord_at m i) % coord_room) (λ m. omega arith);
    }

pub leaf_fits_law : (s : List ℕ) → All RecordFits (leaf_of s).records
unfolding leaf_of
leaf_fits_law s = all_tabulate 16 (record_at s) (record_fits s)

pub leaf_slots : (s : List ℕ) → length (leaf_of s).records ≡ 16
unfolding leaf_of
leaf_slots s = length_tabulate 16 (record_at s)

pub inner_fits_law : (s : List ℕ) → All EntryFits (inner_of s).entries
unfolding inner_of
inner_fits_law s = all_tabulate 16 (λ i. entry_at s (4 + 20 * i)) (λ i. entry_fits s (4 + 20 * i))

pub inner_slots : (s : List ℕ) → length (inner_of s).entries ≡ 16
unfolding inner_of
inner_slots s = length_tabulate 16 (λ i. entry_at s (4 + 20 * i))
