-- What the writers of one page leave: one store behind another. Assumes nothing.
use Rattle.std.proofs.Common.{◌≡◌, refl, sym, ap, ◌∙◌, List, [], ◌∷◌, ◌++◌, append_assoc, append-nil, ℕ, ◌+◌, ◌-◌, ◌*◌, ◌%◌, ◌≤◌, ◌<◌, min, add-one, arith, leb, length, get_or, take, drop, replicate, length-append, length-take, length-drop, drop_of_length-le, take-take, take_all, drop-cons, get_or-take, leb-true, leb-false}
use borrow.Rule.Slice.PartMut.{put_mid}
use Rattle.lists.specs.Basics.{tabulate, concat_map, length_tabulate}
use Rattle.lists.specs.Tabulated.{tabulate_take, length_concat_map}
use Rattle.lists.specs.Tests.{by_cases}
use Rattle.geometry.specs.declared.Key.{Key}
use Rattle.pagestore_page.specs.declared.Record.{Record}
use Rattle.pagestore_page.specs.declared.Leaf.{Leaf}
use Rattle.pagestore_page.specs.declared.Entry.{Entry}
use Rattle.pagestore_page.specs.declared.Inner.{Inner}
use Rattle.pagestore_bytes.specs.Bytes.{le_bytes, put}
use Rattle.pagestore_bytes.specs.ByteLaws.{length_le, length_put, put_next, put_front}
use Rattle.pagestore_page.specs.Layout.{key_bytes, entry_bytes, coord_room, coord_at, ident_at, stage_at, stamp_at, put_coords, put_label, put_record, put_records, blank_leaf, leaf_bytes, entries_bytes, inner_bytes, freed_bytes, no_record, no_entry, records_in, entries_in}
use Rattle.pagestore_page.specs.LayoutLaws.{length_key, length_entry}

behind : (l s t : List ℕ) (at : ℕ) (xs : List ℕ) (j : ℕ) (ys : List ℕ) → s ≡ put l at xs → t ≡ put s j ys → j ≡ at + length xs → t ≡ put l at (xs ++ ys)
behind l s t at xs j ys p q e = q ∙ rw p (put_next l at xs j ys e)

-- at + n, behind n bytes
past : (at n : ℕ) (xs : List ℕ) → length xs ≡ n → at + n ≡ at + length xs
past at n xs e = ap (λ (i : ℕ). at + i) (sym e)

pub key_put : (l r s t u : List ℕ) (at : ℕ) (k : Key) → r ≡ put l at (le_bytes 4 k.id) → s ≡ put r (at + 4) (le_bytes 2 k.height.0)
    → t ≡ put s (at + 6) (k.pyramid.0 ∷ []) → u ≡ put t (at + 7) (0 ∷ []) → u ≡ put l at (key_bytes k)
unfolding key_bytes le_bytes
key_put l r s t u at k o p q g =
    let a : List ℕ = le_bytes 4 k.id in
    let b : List ℕ = le_bytes 2 k.height.0 in
    let c : List ℕ = k.pyramid.0 ∷ [] in
    behind l t u at ((a ++ b) ++ c) (at + 7) (0 ∷ [])
    (behind l s t at (a ++ b) (at + 6) c (behind l r s at a (at + 4) b o p refl) q refl) g refl

pub entry_put : (l s t u : List ℕ) (at : ℕ) (e : Entry) → s ≡ put l at (le_bytes 4 e.child) → t ≡ put s (at + 4) (key_bytes e.first)
    → u ≡ put t (at + 12) (key_bytes e.last) → u ≡ put l at (entry_bytes e)
unfolding entry_bytes
entry_put l s t u at e p q r =
    let a : List ℕ = le_bytes 4 e.child in
    let b : List ℕ = key_bytes e.first in
    let c : List ℕ = key_bytes e.last in
    let n : length (a ++ b) ≡ 12 = length-append a b ∙ omega (arith, length_le 4 e.child, length_key e.first) in
    behind l t u at (a ++ b) (at + 12) c (behind l s t at a (at + 4) b p q (past at 4 a (length_le 4 e.child))) r (past at 12 (a ++ b) n)
    ∙ ap (put l at) (append_assoc a b c)

pub coords_next : (l s t : List ℕ) (i m : ℕ) (cs : List ℕ) → s ≡ put_coords m l i cs → t ≡ put s (coord_at m i) (le_bytes 2 (get_or cs m 0 % coord_room)) → t ≡ put_coords (m + 1) l i cs
unfolding put_coords
coords_next l s t i m cs p q = q ∙ rw (p, add-one)

pub label_put : (l s t u : List ℕ) (i : ℕ) (r : Record) → s ≡ put l (ident_at i) (le_bytes 4 r.id) → t ≡ put s (stage_at i) (r.stage ∷ [])
    → u ≡ put t (stamp_at i) (le_bytes 4 r.stamp) → u ≡ put_label l i r
unfolding put_label
label_put l s t u i r p q o = o ∙ rw (q, p)

pub record_put : (l s t : List ℕ) (i : ℕ) (r : Record) → s ≡ put_label l i r → t ≡ put_coords 16 s i r.coords → t ≡ put_record l i r
unfolding put_record
record_put l s t i r p q = q ∙ rw p

-- the bytes vs at the front of a page, and zeros up to its end
page_put : (s t vs : List ℕ) (n : ℕ) → length s ≡ 1024 → n ≤ 1024 → take n s ≡ vs
    → t ≡ replicate (length (take (length s - n) (drop n s))) 0 → put_mid n (length s - n) s t ≡ vs ++ replicate (1024 - n) 0
page_put s t vs n hs hn a q =
    let k : length (take (length s - n) (drop n s)) ≡ 1024 - n = simp (length-take, length-drop) (omega arith) in
    let z : t ≡ replicate (1024 - n) 0 = q ∙ ap (λ (m : ℕ). replicate m 0) k in
    let e : drop (length s - n) (drop n s) ≡ [] = drop_of_length-le (drop n s) {i = length s - n} (omega (arith, length-drop n s)) in
    rw (a, z, e) (ap (λ (r : List ℕ). vs ++ r) (append-nil (replicate (1024 - n) 0)))

-- an inner page: the head, the entries, and zeros
pub entries_put : (p l s t : List ℕ) (i v n : ℕ) (f : ℕ → Entry) → length p ≡ 1024 → n ≤ 16 → i ≡ n → l ≡ put p 0 (v ∷ n ∷ 0 ∷ 0 ∷ []) → s ≡ put l 4 (concat_map entry_bytes (tabulate i f))
    → t ≡ replicate (length (take (length s - (4 + 20 * n)) (drop (4 + 20 * n) s))) 0
    → put_mid (4 + 20 * n) (length s - (4 + 20 * n)) s t ≡ entries_bytes v (tabulate n f)
unfolding entries_bytes
entries_put p l s t i v n f hp hn q o r z =
    let h : List ℕ = v ∷ n ∷ 0 ∷ 0 ∷ [] in
    let hs : length s ≡ 1024 = ap length r ∙ length_put l 4 (concat_map entry_bytes (tabulate i f)) ∙ ap length o ∙ length_put p 0 h ∙ hp in
    let w : length (concat_map entry_bytes (tabulate n f)) ≡ 20 * n = length_concat_map entry_bytes 20 length_entry (tabulate n f) ∙ ap (λ (m : ℕ). 20 * m) (length_tabulate n f) in
    let b : length (h ++ concat_map entry_bytes (tabulate n f)) ≡ 4 + 20 * n = length-append h (concat_map entry_bytes (tabulate n f)) ∙ ap (λ (m : ℕ). 4 + m) w in
    let d : s ≡ put p 0 (h ++ concat_map entry_bytes (tabulate n f)) = behind p l s 0 h 4 (concat_map entry_bytes (tabulate n f)) o (rw q at r) refl in
    let a : take (4 + 20 * n) s ≡ h ++ concat_map entry_bytes (tabulate n f) = rw d (put_front p (h ++ concat_map entry_bytes (tabulate n f)) (4 + 20 * n) b (omega arith)) in
    let m : 1024 - (4 + 20 * n) ≡ 1020 - 20 * n = omega arith in
    page_put s t (h ++ concat_map entry_bytes (tabulate n f)) (4 + 20 * n) hs (omega arith) a z
    ∙ rw (length_tabulate n f, m) refl

-- of a count c, the items that there are
capped : {A : Type 0} (xs : List A) (c n : ℕ) → length xs ≡ 16 → n ≡ min 16 c → take n xs ≡ take 16 (take c xs)
capped xs c n s e =
    by_cases (leb 16 c)
    (λ t. let g : 16 ≤ c = leb-true 16 c t in let f : n ≡ 16 = omega arith in rw f (sym (take-take 16 c xs g)))
    (λ t. let g : c < 16 = leb-false 16 c t in let f : n ≡ c = omega arith in
    rw f (sym (take_all 16 (take c xs) (omega (arith, length-take c xs)))))

pub inner_put : (s : List ℕ) (m : Inner) (n : ℕ) → length m.entries ≡ 16 → n ≡ min 16 m.count
    → s ≡ entries_bytes m.level (tabulate n (λ i. get_or m.entries i no_entry)) → s ≡ inner_bytes m.level (entries_in m)
unfolding inner_bytes
inner_put s m n h e p =
    p ∙ ap (entries_bytes m.level) (tabulate_take m.entries no_entry n (omega arith) ∙ capped m.entries m.count n h e)

-- a leaf: its records stored one by one; what is still to be stored of the first n takes the page to the whole
pub records_next : (s t z : List ℕ) (i n : ℕ) (xs : List Record) → i < n → n ≤ length xs → t ≡ put_record s i (get_or xs i no_record)
    → put_records s i (drop i (take n xs)) ≡ z → put_records t (i + 1) (drop (i + 1) (take n xs)) ≡ z
unfolding put_records
records_next s t z i n xs h l q e =
    let c : drop i (take n xs) ≡ get_or xs i no_record ∷ drop (i + 1) (take n xs) =
    drop-cons (take n xs) i no_record (omega (arith, length-take n xs)) ∙ rw (add-one, get_or-take n xs i no_record h) in
    rw q (rw c at e)

pub leaf_put : (p c h s : List ℕ) (i n : ℕ) (m : Leaf) → length p ≡ 1024 → length m.records ≡ 16 → n ≡ min 16 m.count
    → c ≡ replicate (length p) 0 → h ≡ put c 0 (0 ∷ n ∷ 0 ∷ 0 ∷ []) → i ≡ n
    → put_records s i (drop i (take n m.records)) ≡ put_records h 0 (take n m.records) → s ≡ leaf_bytes (records_in m)
unfolding leaf_bytes blank_leaf put_records
leaf_put p c h s i n m l k e a b f g =
    let xs : List Record = take n m.records in
    let len : length xs ≡ n = omega (arith, length-take n m.records) in
    let z : drop i xs ≡ [] = drop_of_length-le xs {i = i} (omega arith) in
    let w : h ≡ blank_leaf n = rw (b, a, l) in
    let o : s ≡ put_records h 0 xs = rw z at g in
    o ∙ rw w (ap (λ (j : ℕ). put_records (blank_leaf j) 0 xs) (sym len)) ∙ ap (λ (ys : List Record). put_records (blank_leaf (length ys)) 0 ys) (capped m.records m.count n k e)

-- ---- a freed page

pub freed_put : (p s t u : List ℕ) (n : ℕ) → length p ≡ 1024 → s ≡ put p 0 (le_bytes 4 0) → t ≡ put s 4 (le_bytes 4 n)
    → u ≡ replicate (length (take (length t - 8) (drop 8 t))) 0 → put_mid 8 (length t - 8) t u ≡ freed_bytes n
unfolding freed_bytes le_bytes
freed_put p s t u n h e f g =
    let vs : List ℕ = le_bytes 4 0 ++ le_bytes 4 n in
    let l : length t ≡ 1024 = ap length f ∙ length_put s 4 (le_bytes 4 n) ∙ ap length e ∙ length_put p 0 (le_bytes 4 0) ∙ h in
    let d : t ≡ put p 0 (le_bytes 4 0 ++ le_bytes 4 n) = behind p s t 0 (le_bytes 4 0) 4 (le_bytes 4 n) e f refl in
    page_put t u vs 8 l (omega arith) (rw d (put_front p vs 8 refl (omega arith))) g
