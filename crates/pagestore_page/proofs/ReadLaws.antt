-- What the readers of one page return. Assumes nothing.
use Rattle.std.proofs.Common.{◌≡◌, sym, ap, ◌∙◌, List, [], ℕ, ◌+◌, ◌*◌, ◌%◌, ◌<◌, arith, length, get_or, take_all}
use Rattle.lists.specs.Basics.{tabulate}
use Rattle.lists.specs.Tabulated.{get_d_tabulate, tabulate_take, all_at}
use Rattle.geometry.specs.declared.Key.{Key}
use Rattle.pagestore_page.specs.declared.Record.{Record}
use Rattle.pagestore_page.specs.declared.Leaf.{Leaf}
use Rattle.pagestore_page.specs.declared.Entry.{Entry}
use Rattle.pagestore_bytes.specs.Bytes.{byte_at, le_at}
use Rattle.pagestore_page.specs.Layout.{key_at, entry_at, coord_room, coord_at, ident_at, stage_at, stamp_at, record_at, leaf_of, inner_of, no_record, no_entry}
use Rattle.pagestore_page.specs.LayoutLaws.{leaf_fits_law, leaf_slots}

pub key_is : (s : List ℕ) (at p h n : ℕ) → p ≡ byte_at s (at + 6) → h ≡ le_at 2 s (at + 4) → n ≡ le_at 4 s at
    → ◌≡◌ {A = Key} (record { pyramid = record { 0 = p }; height = record { 0 = h }; id = n }) (key_at s at)
unfolding key_at
key_is s at p h n a b c = rw (a, b, c)

pub entry_is : (s : List ℕ) (at n : ℕ) (f l : Key) → n ≡ le_at 4 s at → f ≡ key_at s (at + 4) → l ≡ key_at s (at + 12)
    → ◌≡◌ {A = Entry} (record { child = n; first = f; last = l }) (entry_at s at)
unfolding entry_at
entry_is s at n f l a b c = rw (a, b, c)

-- one item of a page
record_read : (s : List ℕ) (i : ℕ) → i < 16 → record_at s i ≡ get_or (leaf_of s).records i no_record
unfolding leaf_of
record_read s i h = sym (get_d_tabulate 16 (record_at s) i no_record h)

pub ident_read : (s : List ℕ) (i : ℕ) → i < 16 → le_at 4 s (ident_at i) ≡ (get_or (leaf_of s).records i no_record).id
unfolding record_at
ident_read s i h = ap (λ (r : Record). r.id) (record_read s i h)

pub stage_read : (s : List ℕ) (i at : ℕ) → i < 16 → at ≡ stage_at i → byte_at s at ≡ (get_or (leaf_of s).records i no_record).stage
unfolding record_at
stage_read s i at h e = ap (λ (k : ℕ). byte_at s k) e ∙ ap (λ (r : Record). r.stage) (record_read s i h)

pub stamp_read : (s : List ℕ) (i : ℕ) → i < 16 → le_at 4 s (stamp_at i) ≡ (get_or (leaf_of s).records i no_record).stamp
unfolding record_at
stamp_read s i h = ap (λ (r : Record). r.stamp) (record_read s i h)

pub coord_read : (s : List ℕ) (m i : ℕ) → m < 16 → i < 16 → le_at 2 s (coord_at m i) % coord_room ≡ get_or (get_or (leaf_of s).records i no_record).coords m 0
unfolding record_at
coord_read s m i h k =
    sym (get_d_tabulate 16 (λ j. le_at 2 s (coord_at j i) % coord_room) m 0 h) ∙ ap (λ (r : Record). get_or r.coords m 0) (record_read s i k)

pub entry_read : (s : List ℕ) (i : ℕ) → i < 16 → entry_at s (4 + 20 * i) ≡ get_or (inner_of s).entries i no_entry
unfolding inner_of
entry_read s i h = sym (get_d_tabulate 16 (λ k. entry_at s (4 + 20 * k)) i no_entry h)

-- and of a page without bytes: all its items are the same
pub record_none : (i : ℕ) → i < 16 → record_at [] 0 ≡ get_or (leaf_of []).records i no_record
unfolding record_at le_at tabulate
record_none i h = record_read [] i h

pub ident_none : (i : ℕ) → i < 16 → 0 ≡ (get_or (leaf_of []).records i no_record).id
unfolding le_at
ident_none i h = ident_read [] i h

pub entry_none : (i : ℕ) → i < 16 → entry_at [] 0 ≡ get_or (inner_of []).entries i no_entry
unfolding entry_at key_at le_at
entry_none i h = entry_read [] i h

-- a record, or a page, of which each part was read by itself
pub record_whole : (s : List ℕ) (i n g t : ℕ) (cs : List ℕ) → i < 16 → n ≡ (get_or (leaf_of s).records i no_record).id
    → g ≡ (get_or (leaf_of s).records i no_record).stage → t ≡ (get_or (leaf_of s).records i no_record).stamp
    → cs ≡ tabulate 16 (λ k. get_or (get_or (leaf_of s).records i no_record).coords k 0)
    → ◌≡◌ {A = Record} (record { id = n; stage = g; stamp = t; coords = cs }) (get_or (leaf_of s).records i no_record)
record_whole s i n g t cs h p o r q =
    let x : Record = get_or (leaf_of s).records i no_record in
    let l : length x.coords ≡ 16 = (all_at (leaf_fits_law s) i no_record (rw (leaf_slots s) h)).slots in
    let f : cs ≡ x.coords = q ∙ tabulate_take x.coords 0 16 (omega arith) ∙ take_all 16 x.coords (omega arith) in
    λ j. record { id = p j; stage = o j; stamp = r j; coords = f j }

pub leaf_whole : (s : List ℕ) (n : ℕ) (rs : List Record) → n ≡ (leaf_of s).count → rs ≡ tabulate 16 (λ k. get_or (leaf_of s).records k no_record)
    → ◌≡◌ {A = Leaf} (record { count = n; records = rs }) (leaf_of s)
leaf_whole s n rs p q =
    let l : length (leaf_of s).records ≡ 16 = leaf_slots s in
    let f : rs ≡ (leaf_of s).records = q ∙ tabulate_take (leaf_of s).records no_record 16 (omega arith) ∙ take_all 16 (leaf_of s).records (omega arith) in
    λ j. record { count = p j; records = f j }
