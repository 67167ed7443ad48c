-- The tree that the pages of an index hold, for a number of features that is fixed; what a step keeps of an index; what can be written.
use Rattle.std.specs.Prelude.{◌≡◌, refl, true, List, [], ◌∷◌, ◌++◌, map, ℕ, zero, suc, ◌+◌, ◌^◌, ◌≤◌, ◌<◌, length}
use Rattle.std.proofs.Common.{◌∙◌, arith}
use Rattle.std.proofs.lemmas.List.{length-map}
use Rattle.lists.specs.Basics.{All, none, also, concat_map, all_append}
use Rattle.lists.specs.Counts.{mult, mult_append, mult_more, mult_self}
use Rattle.lists.specs.Parts.{head_of, last_of}
use Rattle.lists.specs.Tests.{by_cases}
use Rattle.pagestore_page.specs.declared.Record.{Record}
use Rattle.pagestore_page.specs.Fits.{RecordFits, EntryFits}
use Rattle.pagestore.specs.Store.{Page, page_at, set_page, Field, freed, fresh, Apart, field_at, link_at, in_range, pages_in, rest_at, free_at, take_page, free_page}
use Rattle.pagestore.specs.Store.RangeLaws.{range_high, range_fits, range_whole, range_same, pages_same}
use Rattle.pagestore.specs.Store.PageLaws.{PageFits, leaf_fits, inner_fits, length_set_page, field_page, field_other, field_same}
use Rattle.pagestore.specs.Store.FreeLaws.{rest_page, freed_part}
use Rattle.pagestore.specs.Store.TakeLaws.{length_take_page, field_take, rest_take, length_free_page, field_free, rest_free}
use Rattle.tree_model.specs.Trees.{Item, records, pages, no_record, first_key, last_key, entry_of, node}
use Rattle.tree_laws.specs.Shapes.{Ok, records_some}
use Rattle.tree_laws.specs.KeysFit.{key_fits}

-- the pages of b hold the item
unfoldable pub Held : ℕ → (l : ℕ) → List ℕ → Item l → Type 0
Held d zero b r = Unit {0}
Held d (suc l) b t = (page_at b t.0 ≡ node d l t.1) × All (Held d l b) t.1

-- THE FRAME LEMMA: an item is held where its pages are as they were

pub held_all : (d l : ℕ) (b c : List ℕ) → ((x : Item l) → ((q : ℕ) → 0 < mult q (pages l x) → page_at c q ≡ page_at b q) → Held d l b x → Held d l c x)
    → {ts : List (Item l)} → ((q : ℕ) → 0 < mult q (concat_map (pages l) ts) → page_at c q ≡ page_at b q) → All (Held d l b) ts → All (Held d l c) ts
unfolding concat_map
held_all d l b c f a none = none
held_all d l b c f a (also {x = x} {xs = xs} h t) =
    also (f x (λ q g. a q (omega (arith, mult_append q (pages l x) (concat_map (pages l) xs)))) h)
    (held_all d l b c f (λ q g. a q (omega (arith, mult_append q (pages l x) (concat_map (pages l) xs)))) t)

pub held_frame : (d l : ℕ) (b c : List ℕ) (x : Item l) → ((q : ℕ) → 0 < mult q (pages l x) → page_at c q ≡ page_at b q) → Held d l b x → Held d l c x
unfolding Held pages
held_frame d zero b c x a r = tt
held_frame d (suc l) b c t a r = (
  a t.0 (omega (arith, mult_self t.0 (concat_map (pages l) t.1))) ∙ r.0,
  held_all d l b c (held_frame d l b c) (λ q g. a q (omega (arith, mult_more q t.0 (concat_map (pages l) t.1)))) r.1,
)

pub held_list : (d l : ℕ) (b c : List ℕ) {ts : List (Item l)} → ((q : ℕ) → 0 < mult q (concat_map (pages l) ts) → page_at c q ≡ page_at b q) → All (Held d l b) ts → All (Held d l c) ts
held_list d l b c a h = held_all d l b c (held_frame d l b c) a h

pub held_zero : (d : ℕ) (b : List ℕ) (xs : List Record) → All (Held d 0 b) xs
unfolding Held
held_zero d b [] = none
held_zero d b (x ∷ xs) = also tt (held_zero d b xs)

-- WHAT A STEP KEEPS

-- the chain of freed pages ends, and the never used pages begin within the index
pub record Well (b : List ℕ) : Type 0 where
  pub rest : rest_at b ≡ 0
  pub low : 1 ≤ field_at fresh b
  pub high : field_at fresh b ≤ pages_in b

-- the length, and the header but for the free pages
pub record Kept (b c : List ℕ) : Type 0 where
  pub size : length c ≡ length b
  pub field : (f : Field) → Apart freed f → Apart fresh f → field_at f c ≡ field_at f b
  pub well : Well c

pub kept_range : {b c : List ℕ} → Kept b c → (q : ℕ) → in_range c q ≡ in_range b q
kept_range {b} {c} k q = range_same b c q k.size

pub kept_trans : {a b c : List ℕ} → Kept a b → Kept b c → Kept a c
kept_trans f g = record { size = g.size ∙ f.size; field = λ x u v. g.field x u v ∙ f.field x u v; well = g.well }

pub kept_page : (b : List ℕ) (p : ℕ) (x : Page) → Well b → mult p (free_at b) ≡ 0 → Kept b (set_page b p x)
kept_page b p x w m =
    let e = field_page fresh b p x in
    let n = pages_same b (set_page b p x) (length_set_page b p x) in
    record {
      size = length_set_page b p x;
      field = λ f u v. field_page f b p x;
      well = record { rest = rest_page b p x (omega (arith, freed_part b p)) ∙ w.rest; low = omega (arith, w.low); high = omega (arith, w.high) };
    }

fresh_take : (b : List ℕ) → Well b → (1 ≤ field_at fresh (take_page b)) × (field_at fresh (take_page b) ≤ pages_in b)
unfolding take_page
fresh_take b w =
    by_cases (in_range b (field_at freed b))
    (λ e. rw (e, field_other freed fresh b (link_at b (field_at freed b)) refl) (w.low, w.high))
    (λ e. by_cases (in_range b (field_at fresh b))
    (λ g. rw (e, g, field_same fresh b (field_at fresh b + 1) (omega (arith, range_whole b (field_at fresh b) g)) (omega (arith, range_fits b (field_at fresh b) g)))
    (omega arith, omega (arith, range_high b (field_at fresh b) g)))
    (λ g. rw (e, g) (w.low, w.high)))

pub kept_take : (b : List ℕ) → Well b → Kept b (take_page b)
kept_take b w =
    let f = fresh_take b w in
    let n = pages_same b (take_page b) (length_take_page b) in
    record {
      size = length_take_page b;
      field = λ f u v. field_take f b u v;
      well = record { rest = rest_take b w.rest; low = f.0; high = omega (arith, f.1) };
    }

pub kept_free : (b : List ℕ) (p : ℕ) → Well b → in_range b p ≡ true → mult p (free_at b) ≡ 0 → Kept b (free_page b p)
kept_free b p w h m =
    let e = field_free fresh b p refl in
    let n = pages_same b (free_page b p) (length_free_page b p) in
    record {
      size = length_free_page b p;
      field = λ f u v. field_free f b p u;
      well = record { rest = rest_free b p w.rest h (omega (arith, freed_part b p)); low = omega (arith, w.low); high = omega (arith, w.high) };
    }

-- WHAT CAN BE WRITTEN

pub records_fit : (l : ℕ) (x : Item l) → Ok l x → All RecordFits (records l x)
unfolding records Ok concat_map
records_fit zero r o = also o none
records_fit (suc l) t o = go (records_fit l) o.2
  where
    go : ((x : Item l) → Ok l x → All RecordFits (records l x)) → {ts : List (Item l)} → All (Ok l) ts → All RecordFits (concat_map (records l) ts)
    go f none = none
    go f (also h t) = all_append (f _ h) (go f t)

entry_fits : (d l : ℕ) (t : Item (suc l)) → t.0 < 2 ^ 32 → Ok (suc l) t → EntryFits (entry_of d l t)
unfolding entry_of first_key last_key
entry_fits d l t h o =
    let n = records_some (suc l) t o in
    let f = records_fit (suc l) t o in
    record { child = h; first = key_fits d _ (head_of no_record n f); last = key_fits d _ (last_of no_record n f) }

entries_fit : (d l : ℕ) {ts : List (Item (suc l))} → ((q : ℕ) → 0 < mult q (concat_map (pages (suc l)) ts) → q < 2 ^ 32) → All (Ok (suc l)) ts → All EntryFits (map (entry_of d l) ts)
unfolding pages concat_map
entries_fit d l a none = none
entries_fit d l a (also {x = t} {xs = ts} h o) =
    also (entry_fits d l t (a t.0 (omega (arith, mult_self t.0 (concat_map (pages l) t.1 ++ concat_map (pages (suc l)) ts)))) h)
    (entries_fit d l (λ q g. a q (omega (arith, mult_append q (pages (suc l) t) (concat_map (pages (suc l)) ts)))) o)

pub node_fits : (d l : ℕ) (ts : List (Item l)) → l < 256 → length ts ≤ 16 → ((q : ℕ) → 0 < mult q (concat_map (pages l) ts) → q < 2 ^ 32) → All (Ok l) ts → PageFits (node d l ts)
unfolding node Ok
node_fits d zero ts v h a o = leaf_fits h o
node_fits d (suc l) ts v h a o =
    let n : length (map (entry_of d l) ts) ≡ length ts = length-map ts (entry_of d l) in
    rw n at (inner_fits {l = l} {es = map (entry_of d l) ts} v (omega arith) (entries_fit d l a o))
