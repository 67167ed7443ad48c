-- The steps of opening an inner page.
use Rattle.std.proofs.Common.{◌≡◌, refl, sym, ap, ◌∙◌, List, [], ◌∷◌, ℕ, ◌+◌, ◌*◌, ◌^◌, ◌≤◌, ◌<◌, min, arith, mul-le-mul, suc-mul, add-one, length, drop, get_or}
use native.Mathlib.Nat.{pow-le-pow_right}
use Rattle.lists.specs.Sorting.{insert_all}
use Rattle.geometry.specs.declared.Key.{Key}
use Rattle.geometry.specs.declared.Pair.{Pair}
use Rattle.geometry.specs.Features.{weighted}
use Rattle.geometry.specs.Slices.{bound_of}
use Rattle.geometry_slices.specs.Questions.{asked_of}
use Rattle.geometry.specs.Stored.{point_of}
use Rattle.geometry.proofs.StoredLaws.{length_point}
use Rattle.geometry.proofs.WeightLaws.{weighted_length, weighted_asks}
use Rattle.geometry.proofs.BoundLaws.{bound_small}
use Rattle.pagestore_page.specs.declared.Entry.{Entry}
use Rattle.pagestore_page.specs.declared.Inner.{Inner}
use Rattle.pagestore.specs.Store.{inner_at, entries_in}
use Rattle.tree_core.specs.Lookup.{leaf_count}
use Rattle.search_heap.specs.Heap.{Heap, held, Pushed}
use Rattle.search_model.specs.declared.Choice.{Choice}
use Rattle.search_model.specs.Asked.{span_bound, asking}
use Rattle.search_model.specs.Branches.{Branch, last_place, before, page_in, branch_of, branches}
use Rattle.search_frontier.specs.Keys.{key_of, branch_in, most_bound, frontier}
use Rattle.search_model.specs.Asked.{low_ends, weights_in, Seekable}
use Rattle.search_frontier.specs.Opening.{SpanBound, EntryKey, Opens, Opened}
use Rattle.search_model.proofs.RecordLaws.{in_range_law}
use Rattle.tree.proofs.CountLaws.{items_length, items_next, items_end, inner_slots}
use Rattle.search_frontier.proofs.KeyLaws.{page_small}
use Rattle.search_frontier.proofs.KeyLaws.{key_back, branches_ins}

-- a bound is not above the greatest
pub span_small : (asked : List ℕ) (i h i' h' : ℕ) → Seekable asked → bound_of (asked_of asked) i h i' h' ≤ most_bound
span_small asked i h i' h' a =
    let ws = weights_in asked in let p = point_of (low_ends asked) in
    let long : length (weighted ws p) ≡ length (low_ends asked) = weighted_length ws p (a.point.number ∙ sym (length_point (low_ends asked))) ∙ length_point (low_ends asked) in
    rw a.is
    (omega (arith, bound_small 1000 (weighted ws p) i h i' h' (weighted_asks 1000 ws p a.point.light (in_range_law a.point.ranges)), long, a.point.most))

pub span_is : (asked : List ℕ) (c : ℕ) (f l : Key) (a b : Pair) (r : ℕ) → Seekable asked → (a.pyramid.0 ≡ f.pyramid.0) × (a.height.0 ≡ f.height.0) → (b.pyramid.0 ≡ l.pyramid.0) × (b.height.0 ≡ l.height.0)
    → r ≡ bound_of (asked_of asked) a.pyramid.0 a.height.0 b.pyramid.0 b.height.0 → SpanBound asked (record { child = c; first = f; last = l }) r
unfolding span_bound
span_is asked c f l a b r s x y e =
    record { is = λ k choice. rw (x.0, x.1, y.0, y.1) at e; small = rw e (span_small asked a.pyramid.0 a.height.0 b.pyramid.0 b.height.0 s) }

-- the key of an entry's branch, from its parts
pub entry_key_is : (index asked : List ℕ) (l at : ℕ) (e : Entry) (b p g r : ℕ) → SpanBound asked e b → g ≡ page_in index e.child → p ≡ min at last_place
    → r ≡ key_of (record { bound = b; place = p; level = l; page = g }) → EntryKey index asked l at e r
entry_key_is index asked l at e b p g r s x y h = λ k choice. h ∙ (λ i. key_of (record { bound = s.is k choice i; place = y i; level = l; page = x i }))

-- entry i of an inner page is next, its first leaf at position `at`; `here` branches are in the heap, of which n were there before
pub record Opening (slots₀ : List ℕ) (n : ℕ) (index asked : List ℕ) (level place page : ℕ) (inner : Inner) (count : ℕ) (slots : List ℕ) (here at i : ℕ) : Type 0 where
  pub few : i ≤ count
  pub is : inner ≡ inner_at index page
  pub number : count ≡ min inner.count 16
  pub low : level ≤ 3
  pub first : place ≤ last_place
  pub places : at ≤ place + i * 16 ^ level
  pub lengths : length slots ≡ length slots₀
  pub room : n + count ≤ length slots
  pub more : here ≡ n + i
  pub heap : Heap here slots
  pub same : (k : ℕ) (choice : Choice)
      → insert_all before (branches index (asking asked k choice) level at (drop i (entries_in inner))) (frontier here slots) ≡ insert_all before (branches index (asking asked k choice) level place (entries_in inner)) (frontier n slots₀)

pub opening_start : (slots : List ℕ) (n : ℕ) (index asked : List ℕ) (level place page : ℕ) (inner : Inner) (count : ℕ) → Opens slots n index asked level place page
    → inner ≡ inner_at index page → count ≡ min inner.count 16 → Opening slots n index asked level place page inner count slots n place 0
opening_start slots n index asked level place page inner count o is number =
    let l : length (entries_in inner) ≡ min inner.count 16 = items_length inner.count inner.entries (inner_slots index level page inner is count number) in
    let m : length (entries_in (inner_at index page)) ≡ length (entries_in inner) = ap (λ (x : Inner). length (entries_in x)) (sym is) in
    record {
      few = omega arith;
      is = is;
      number = number;
      low = o.low;
      first = o.first;
      places = omega arith;
      lengths = refl;
      room = let r = o.room in omega arith;
      more = omega arith;
      heap = o.heap;
      same = λ k choice. refl;
    }

module _ (slots₀ : List ℕ) (n : ℕ) (index asked : List ℕ) (level place page : ℕ) (inner : Inner) (count : ℕ) (slots : List ℕ) (here at i : ℕ)
    (o : Opening slots₀ n index asked level place page inner count slots here at i) where
  -- positions stay small
  pub opening_places : i < count → at + 16 ^ level ≤ 73728
  opening_places h =
      let c = o.number in
      let t : i + 1 ≤ 16 = omega arith in
      let w : 16 ^ level ≤ 16 ^ 3 = pow-le-pow_right (omega arith) o.low in
      let m : (i + 1) * 16 ^ level ≤ 16 * 16 ^ 3 = mul-le-mul t w in
      let s : (i + 1) * 16 ^ level ≡ i * 16 ^ level + 16 ^ level = rw (add-one i) (suc-mul i (16 ^ level)) in
      let p = o.places in let f = o.first in omega arith

  pub opening_room : i < count → here < length slots
  opening_room h = let r = o.room in let m = o.more in omega arith

  pub opening_next : (d : Entry) (key c r : ℕ) (slots' : List ℕ) → i < count → ((k : ℕ) (choice : Choice) → key ≡ key_of (branch_of index (asking asked k choice) level at (get_or inner.entries i d))) → Pushed here key slots r slots'
      → length slots' ≡ length slots → c ≡ leaf_count level index (get_or inner.entries i d).child → c ≤ 16 ^ level
      → Opening slots₀ n index asked level place page inner count slots' r (at + c) (i + 1)
  unfolding branches insert_all
  opening_next d key c r slots' h e p l f g =
      let z = p.room (opening_room h) in
      let low = o.low in
      let s : (i + 1) * 16 ^ level ≡ i * 16 ^ level + 16 ^ level = rw (add-one i) (suc-mul i (16 ^ level)) in
      let t = items_next inner.count inner.entries (inner_slots index level page inner o.is count o.number) i d (let c = o.number in omega arith) in
      record {
        few = omega arith;
        is = o.is;
        number = o.number;
        low = o.low;
        first = o.first;
        places = let q = o.places in omega arith;
        lengths = l ∙ o.lengths;
        room = let r = o.room in omega arith;
        more = let m = o.more in let y = z.0 in omega arith;
        heap = p.heap;
        same = λ k choice.
            let x : Branch = branch_of index (asking asked k choice) level at (get_or inner.entries i d) in
            let back : branch_in key ≡ x = ap branch_in (e k choice) ∙ key_back x (omega arith) (omega arith) (page_small index (get_or inner.entries i d).child) in
            let w : frontier r slots' ≡ insert_all before (x ∷ []) (frontier here slots) = rw (z.0, z.1, branches_ins key (held here slots), back) in
            rw (w, f) (rw t at (o.same k choice));
      }

  pub opening_end : count ≤ i → (k : ℕ) (choice : Choice) → Opened slots₀ n index (asking asked k choice) level place page here slots
  unfolding branches insert_all
  opening_end h k choice =
      let b = inner_slots index level page inner o.is count o.number in
      let l : length (entries_in inner) ≡ min inner.count 16 = items_length inner.count inner.entries b in
      let m : length (entries_in (inner_at index page)) ≡ length (entries_in inner) = ap (λ (x : Inner). length (entries_in x)) (sym o.is) in
      let t = items_end inner.count inner.entries b i (let c = o.number in omega arith) in
      record {
        number = let w = o.more in let c = o.number in let f = o.few in omega arith;
        heap = o.heap;
        branches = rw (← o.is) (rw t at (o.same k choice));
      }
