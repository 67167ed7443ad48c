-- Laws of the trees that a view holds: their pages and records by the pages that hold them, first and last keys, the order of keys.
use Rattle.std.specs.Prelude.{◌≡◌, eqb}
use Rattle.std.proofs.Math.Path.{refl, sym, ap, subst}
use Rattle.std.proofs.Common.{◌∙◌, eq-eqb}
use mathlib.Core.List.{List, [], ◌∷◌, ◌++◌, map, append-nil}
use Prim.Native.Nat.{ℕ, zero, suc, ◌+◌, ◌≤◌, ◌<◌}
use native.Mathlib.Omega.{arith}
use Rattle.std.proofs.Math.ListN.{length, length-append, length-map}
use Rattle.lists.specs.Basics.{All, none, also, concat_map, indicator}
use Rattle.lists.specs.Ascending.{head_or, last_or, Ascending, one, more, head_append, last_append, last_any, last_map, asc_left, asc_right}
use Rattle.lists.specs.AscendingLaws.{head_no, last_no, asc_append, asc_cross, asc_ends}
use Rattle.lists.specs.Counts.{mult, mult_append}
use Rattle.lists.specs.Sorting.{sum}
use Rattle.lists.specs.ConcatMapLaws.{sum_append, map_append}
use Rattle.geometry.specs.Keys.{key_number}
use Rattle.pagestore_page.specs.declared.Record.{Record}
use Rattle.pagestore_page.specs.declared.Entry.{Entry}
use Rattle.pagestore_page.specs.Layout.{no_entry}
use Rattle.pagestore.specs.Store.{Page, records_of, entries_of, View}
use Rattle.tree_model.specs.Trees.{Item, records, pages, key_of, rank_of, ident_of, no_record, first_key, last_key, entry_of, node, Rep, tree_of}
use Rattle.tree_model.specs.Sound.{Filled}
use Rattle.sound_faults.specs.Faults.{first_key_in, last_key_in, ends, ranks_in}
use Rattle.tree_model.specs.TreeLaws.{no_pages_law, concat_map_records, tree_page}

abbrev pub child_of : Entry → ℕ
child_of e = e.child

-- the pages named in page p, and the identifiers in it
abbrev pub kids : View → ℕ → List ℕ
kids v p = map child_of (entries_of (v.page p))

abbrev pub idents : View → ℕ → List ℕ
idents v p = map ident_of (records_of (v.page p))

kids_node : (d l : ℕ) (ts : List (Item (suc l))) → map child_of (map (entry_of d l) ts) ≡ map (λ t. t.0) ts
unfolding entry_of
kids_node d l [] = refl
kids_node d l (t ∷ ts) = ap (λ (z : List ℕ). t.0 ∷ z) (kids_node d l ts)

-- ---- PAGES: the root of a tree, and those named in its pages

module _ (v : View) (c : ℕ) where
  abbrev named : ℕ → ℕ
  named p = mult c (kids v p)

  named_kids : (l : ℕ) → ((t : Item (suc l)) → Rep (suc l) v t → mult c (pages (suc l) t) ≡ indicator (eqb c t.0) + sum named (pages (suc l) t))
      → (ts : List (Item (suc l))) → All (Rep (suc l) v) ts → mult c (concat_map (pages (suc l)) ts) ≡ mult c (map (λ t. t.0) ts) + sum named (concat_map (pages (suc l)) ts)
  unfolding mult sum concat_map
  named_kids l f [] none = refl
  named_kids l f (t ∷ ts) (also h a) =
      omega (arith, named_kids l f ts a, f t h, mult_append c (pages (suc l) t) (concat_map (pages (suc l)) ts), sum_append named (pages (suc l) t) (concat_map (pages (suc l)) ts))

  pub pages_named : (l : ℕ) (t : Item (suc l)) → Rep (suc l) v t → mult c (pages (suc l) t) ≡ indicator (eqb c t.0) + sum (λ p. mult c (kids v p)) (pages (suc l) t)
  unfolding pages mult sum Rep node
  pages_named zero t r =
      let k : kids v t.0 ≡ [] = ap (λ (x : Page). map child_of (entries_of x)) r.0 in
      let z : mult c (kids v t.0) ≡ 0 = ap (mult c) k in
      rw (no_pages_law t.1) (omega arith)
  pages_named (suc l) t r =
      let k : kids v t.0 ≡ map (λ u. u.0) t.1 = ap (λ (x : Page). map child_of (entries_of x)) r.0 ∙ kids_node v.d l t.1 in
      let m : mult c (kids v t.0) ≡ mult c (map (λ u. u.0) t.1) = ap (mult c) k in
      let ih = named_kids l (pages_named l) t.1 r.1 in
      omega arith

-- the same of the whole tree
pub root_is : (v : View) → (tree_of v).0 ≡ v.root
unfolding tree_of
root_is v = tree_page v.level v v.root

module _ (v : View) (r : Rep (suc v.level) v (tree_of v)) where
  abbrev ps : List ℕ
  ps = pages (suc v.level) (tree_of v)

  pub named_once : (c : ℕ) → mult c ps ≡ indicator (eqb c v.root) + sum (λ p. mult c (kids v p)) ps
  named_once c = pages_named v c v.level (tree_of v) r ∙ ap (λ (z : ℕ). indicator (eqb c z) + sum (λ p. mult c (kids v p)) ps) (root_is v)

pub indicator_same : (a : ℕ) → indicator (eqb a a) ≡ 1
indicator_same a = ap indicator (eq-eqb a a refl)

-- ---- RECORDS: what a tree's records weigh is what those of its pages do

module _ (g : List Record → ℕ) (zip : g [] ≡ 0) (both : (xs ys : List Record) → g (xs ++ ys) ≡ g xs + g ys) (v : View) where
  abbrev held : ℕ → ℕ
  held p = g (records_of (v.page p))

  held_kids : (l : ℕ) → ((t : Item (suc l)) → Rep (suc l) v t → g (records (suc l) t) ≡ sum held (pages (suc l) t))
      → (ts : List (Item (suc l))) → All (Rep (suc l) v) ts → g (concat_map (records (suc l)) ts) ≡ sum held (concat_map (pages (suc l)) ts)
  unfolding sum concat_map
  held_kids l f [] none = zip
  held_kids l f (t ∷ ts) (also h a) =
      omega (arith, held_kids l f ts a, f t h, both (records (suc l) t) (concat_map (records (suc l)) ts), sum_append held (pages (suc l) t) (concat_map (pages (suc l)) ts))

  pub records_held : (l : ℕ) (t : Item (suc l)) → Rep (suc l) v t → g (records (suc l) t) ≡ sum (λ p. g (records_of (v.page p))) (pages (suc l) t)
  unfolding records pages sum Rep node
  records_held zero t r =
      let k : g (records_of (v.page t.0)) ≡ g t.1 = ap (λ (x : Page). g (records_of x)) r.0 in
      let e : g (concat_map (records 0) t.1) ≡ g t.1 = ap g (concat_map_records t.1) in
      rw (no_pages_law t.1) (omega arith)
  records_held (suc l) t r =
      let k : g (records_of (v.page t.0)) ≡ 0 = ap (λ (x : Page). g (records_of x)) r.0 ∙ zip in
      let ih = held_kids l (records_held l) t.1 r.1 in
      omega arith

-- ---- FIRST AND LAST KEYS

module _ (d : ℕ) where
  -- the keys of records, and of an item's, as numbers
  abbrev pub ranks : List Record → List ℕ
  ranks rs = map (rank_of d) rs

  abbrev pub item_ranks : (l : ℕ) → Item l → List ℕ
  item_ranks l t = ranks (records l t)

  pub first_rank_law : (rs : List Record) → 0 < length rs → key_number (first_key d rs) ≡ head_no (ranks rs)
  unfolding first_key rank_of head_or
  first_rank_law [] h = absurd (omega arith)
  first_rank_law (r ∷ rs) h = refl

  pub last_rank : (rs : List Record) → 0 < length rs → key_number (last_key d rs) ≡ last_no (ranks rs)
  unfolding last_key rank_of
  last_rank rs h =
      sym (last_map (λ r. key_number (key_of d r)) no_record rs)
      ∙ last_any (key_number (key_of d no_record)) 0 (map (λ r. key_number (key_of d r)) rs) (omega (arith, length-map rs (λ r. key_number (key_of d r))))

  pub two_records : (l : ℕ) (t : Item (suc l)) → Filled (suc l) t → 2 ≤ length (records (suc l) t)
  unfolding Filled records concat_map
  two_records zero t f = omega (arith, ap length (concat_map_records t.1), f.0)
  two_records (suc l) t f = many t.1 f.0 f.2 (two_records l)
    where
      many : (ts : List (Item (suc l))) → 8 ≤ length ts → All (Filled (suc l)) ts → ((u : Item (suc l)) → Filled (suc l) u → 2 ≤ length (records (suc l) u))
          → 2 ≤ length (concat_map (records (suc l)) ts)
      many [] n a f = absurd (omega arith)
      many (u ∷ us) n (also h a) f = omega (arith, f u h, length-append (records (suc l) u) (concat_map (records (suc l)) us))

  -- the first and the last key that a page holds are those of the records below it
  first_kids : (l : ℕ) (ts : List (Item (suc l))) → 0 < length ts → All (Filled (suc l)) ts → (head_or no_entry (map (entry_of d l) ts)).first ≡ first_key d (concat_map (records (suc l)) ts)
  unfolding entry_of concat_map head_or first_key
  first_kids l [] n a = absurd (omega arith)
  first_kids l (t ∷ ts) n (also h a) =
      ap (key_of d) (sym (head_append no_record (records (suc l) t) (concat_map (records (suc l)) ts) (omega (arith, two_records l t h))))

  last_kids : (l : ℕ) (e : Entry) (r : Record) (ts : List (Item (suc l))) → e.last ≡ key_of d r → All (Filled (suc l)) ts
      → (last_or e (map (entry_of d l) ts)).last ≡ key_of d (last_or r (concat_map (records (suc l)) ts))
  unfolding entry_of concat_map last_or last_key
  last_kids l e r [] k a = k
  last_kids l e r (t ∷ ts) k (also h a) =
      last_kids l (entry_of d l t) (last_or no_record (records (suc l) t)) ts refl a
      ∙ ap (key_of d)
      (ap (λ (z : Record). last_or z (concat_map (records (suc l)) ts)) (last_any no_record r (records (suc l) t) (omega (arith, two_records l t h)))
      ∙ sym (last_append r (records (suc l) t) (concat_map (records (suc l)) ts)))

  pub first_node : (l : ℕ) (ts : List (Item l)) → 0 < length ts → All (Filled l) ts → first_key_in d (node d l ts) ≡ first_key d (concat_map (records l) ts)
  unfolding node
  first_node zero ts n a = ap (first_key d) (sym (concat_map_records ts))
  first_node (suc l) ts n a = first_kids l ts n a

  pub last_node : (l : ℕ) (ts : List (Item l)) → 0 < length ts → All (Filled l) ts → last_key_in d (node d l ts) ≡ last_key d (concat_map (records l) ts)
  unfolding node last_key concat_map last_or entry_of
  last_node zero ts n a = ap (last_key d) (sym (concat_map_records ts))
  last_node (suc l) [] n a = absurd (omega arith)
  last_node (suc l) (t ∷ ts) n (also h a) =
      last_kids l (entry_of d l t) (last_or no_record (records (suc l) t)) ts refl a
      ∙ ap (key_of d) (sym (last_append no_record (records (suc l) t) (concat_map (records (suc l)) ts)))

  -- ---- ORDER: of the keys in a page, and of the records below it

  ranks_append : (l : ℕ) (t : Item l) (ts : List (Item l)) → ranks (concat_map (records l) (t ∷ ts)) ≡ item_ranks l t ++ ranks (concat_map (records l) ts)
  unfolding concat_map
  ranks_append l t ts = map_append (rank_of d) (records l t) (concat_map (records l) ts)

  length_ranks : (rs : List Record) → length (ranks rs) ≡ length rs
  length_ranks rs = length-map rs (rank_of d)

  -- the two numbers of a filled child's entry
  entry_first : (l : ℕ) (t : Item (suc l)) → Filled (suc l) t → key_number (entry_of d l t).first ≡ head_no (item_ranks (suc l) t)
  unfolding entry_of
  entry_first l t f = first_rank_law (records (suc l) t) (omega (arith, two_records l t f))

  entry_last : (l : ℕ) (t : Item (suc l)) → Filled (suc l) t → key_number (entry_of d l t).last ≡ last_no (item_ranks (suc l) t)
  unfolding entry_of
  entry_last l t f = last_rank (records (suc l) t) (omega (arith, two_records l t f))

  -- the first number of several children's is the first child's
  first_of_kids : (l : ℕ) (t : Item (suc l)) (ts : List (Item (suc l))) → Filled (suc l) t → head_no (ranks (concat_map (records (suc l)) (t ∷ ts))) ≡ head_no (item_ranks (suc l) t)
  first_of_kids l t ts f =
      ap head_no (ranks_append (suc l) t ts)
      ∙ head_append 0 (item_ranks (suc l) t) (ranks (concat_map (records (suc l)) ts)) (omega (arith, two_records l t f, length_ranks (records (suc l) t)))

  some_kids : (l : ℕ) (t : Item (suc l)) (ts : List (Item (suc l))) → Filled (suc l) t → 0 < length (ranks (concat_map (records (suc l)) (t ∷ ts)))
  some_kids l t ts f =
      omega (arith, two_records l t f, length_ranks (records (suc l) t), ap length (ranks_append (suc l) t ts), length-append (item_ranks (suc l) t) (ranks (concat_map (records (suc l)) ts)))

  asc_kids : (l : ℕ) (ts : List (Item (suc l))) → All (Filled (suc l)) ts → Ascending (ranks (concat_map (records (suc l)) ts)) → Ascending (concat_map ends (map (entry_of d l) ts))
  unfolding concat_map
  asc_kids l [] a h = Ascending.none
  asc_kids l (t ∷ []) (also f a) h =
      let g : Ascending (item_ranks (suc l) t) = asc_left (item_ranks (suc l) t) [] (subst Ascending (ranks_append (suc l) t []) h) in
      let n : 2 ≤ length (item_ranks (suc l) t) = omega (arith, two_records l t f, length_ranks (records (suc l) t)) in
      let w : key_number (entry_of d l t).first < key_number (entry_of d l t).last = omega (arith, asc_ends (item_ranks (suc l) t) n g, entry_first l t f, entry_last l t f) in
      more w one
  asc_kids l (t ∷ u ∷ ts) (also f (also k a)) h =
      let rest : List ℕ = ranks (concat_map (records (suc l)) (u ∷ ts)) in
      let s : Ascending (item_ranks (suc l) t ++ rest) = subst Ascending (ranks_append (suc l) t (u ∷ ts)) h in
      let g : Ascending (item_ranks (suc l) t) = asc_left (item_ranks (suc l) t) rest s in
      let r : Ascending rest = asc_right (item_ranks (suc l) t) rest s in
      let n : 2 ≤ length (item_ranks (suc l) t) = omega (arith, two_records l t f, length_ranks (records (suc l) t)) in
      let c : last_no (item_ranks (suc l) t) < head_no rest = asc_cross (item_ranks (suc l) t) rest (omega arith) (some_kids l u ts k) s in
      let w : key_number (entry_of d l t).first < key_number (entry_of d l t).last = omega (arith, asc_ends (item_ranks (suc l) t) n g, entry_first l t f, entry_last l t f) in
      let x : key_number (entry_of d l t).last < key_number (entry_of d l u).first = omega (arith, c, first_of_kids l u ts k, entry_last l t f, entry_first l u k) in
      more w (more x (asc_kids l (u ∷ ts) (also k a) r))

  -- where the records ascend, so do the keys in the page
  pub asc_node : (l : ℕ) (ts : List (Item l)) → All (Filled l) ts → Ascending (ranks (concat_map (records l) ts)) → Ascending (ranks_in d (node d l ts))
  unfolding node
  asc_node zero ts a h = subst (λ (z : List Record). Ascending (ranks z)) (concat_map_records ts) h
  asc_node (suc l) ts a h = asc_kids l ts a h

  -- where the keys in the page and the records of each child ascend, so do all records
  pub kids_asc : (l : ℕ) (ts : List (Item (suc l))) → All (Filled (suc l)) ts → All (λ t. Ascending (item_ranks (suc l) t)) ts
      → Ascending (concat_map ends (map (entry_of d l) ts)) → Ascending (ranks (concat_map (records (suc l)) ts))
  unfolding concat_map
  kids_asc l [] a s h = Ascending.none
  kids_asc l (t ∷ []) (also f a) (also s o) h = subst Ascending (sym (ranks_append (suc l) t [] ∙ append-nil (item_ranks (suc l) t))) s
  kids_asc l (t ∷ u ∷ ts) (also f (also k a)) (also s o) (more m (more c h)) =
      let rest : List ℕ = ranks (concat_map (records (suc l)) (u ∷ ts)) in
      subst Ascending (sym (ranks_append (suc l) t (u ∷ ts)))
      (asc_append (item_ranks (suc l) t) rest s (kids_asc l (u ∷ ts) (also k a) o h)
      (λ x y. omega (arith, c, first_of_kids l u ts k, entry_last l t f, entry_first l u k)))
