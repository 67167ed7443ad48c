-- The turns of the visit.
use Rattle.std.proofs.Common.{◌≡◌, refl, sym, ap, ◌∙◌, Bool, true, false, ◌≢◌, List, [], ◌∷◌, map, ℕ, suc, ◌+◌, ◌*◌, ◌-◌, ◌≤◌, ◌<◌, min, arith, zero-add, length, take, set, length-set, length-take, ltb, eq-eqb, ne_eqb}
use lib.ListN.{length-map}
use Rattle.lists.specs.ConcatMapLaws.{all_every}
use Rattle.lists.specs.Sorting.{filter, insert_by, sort, insert_all, offer_all}
use Rattle.lists.specs.Sorting as sorting
use Rattle.lists.specs.SortingLaws.{filter_all, length_sort}
use Rattle.pagestore_page.specs.declared.Entry.{Entry}
use Rattle.pagestore.specs.Store.{level, root, pages_in, count_at, inner_at, entries_in, leaf_at, records_in, field_at}
use Rattle.pagestore.specs.Store.PageLaws.{inner_counts, entries_slots}
use Rattle.pagestore.specs.Store.RangeLaws.{pages_few}
use Rattle.tree_core.specs.Lookup.{leaf_count}
use Rattle.search_heap.specs.Heap.{Heap, held, Popped}
use Rattle.search_heap.proofs.HeapLaws.{held_top}
use Rattle.search_theory.specs.Nearest.{Outcome, exceeds, offered}
use Rattle.search_theory.specs.Frontier.{seek}
use Rattle.search_theory.proofs.FrontierLaws.{seek_end, seek_stop, seek_read, seek_open, seek_full}
use Rattle.search_rows.specs.declared.Row.{Row}
use Rattle.search_rows.specs.Rows.{row_order}
use Rattle.search_rows.specs.Held.{rows_in, behind_all, Held}
use Rattle.search_rows.proofs.HeldLaws.{behind_exceeds}
use Rattle.search_model.specs.declared.Choice.{Choice}
use Rattle.search_model.specs.Asked.{Seekable, Asked, asking}
use Rattle.search_model.specs.Branches.{Branch, branch_bound, before, is_leaf, branches, opened, kids, root_branch, rows_among, rows_at, page_in}
use Rattle.search_frontier.specs.Keys.{key_of, bound_in, place_in, level_in, number_in, branch_in, frontier}
use Rattle.search_model.specs.Visit.{ranking, Answer, answer_of, room, visited}
use Rattle.search_frontier.specs.Opening.{Opens, Opened}
use Rattle.search_leaves.specs.Offering.{OfferedAll}
use Rattle.search.specs.Steps.{Visits, Visited, Turns, first_slot, Goes, Ends, spent, empty, far, full}
use Rattle.tree.proofs.CountLaws.{items_length}
use Rattle.search_frontier.proofs.KeyLaws.{page_small, key_back}
use Rattle.search_model.proofs.RoomLaws.{room_some, room_most}

-- the search from a frontier and rows on, n steps at most
abbrev seek_on : List ℕ → Asked → ℕ → List Branch → List Row → Outcome Row Branch
seek_on index q n f s = seek ranking branch_bound (rows_at index q) before is_leaf (kids index q) q.k (room index) n f s

-- an outcome where m leaves have been read before
abbrev after : ℕ → Outcome Row Branch → Answer
after m o = record { rows = o.rows; leaves = m + length o.read }

-- n branches are in the heap, `rows` rows are held, `leaves` leaves have been read; `steps` steps are left
pub record Visiting (index asked : List ℕ) (k : ℕ) (choice : Choice) (slots₀ highs₀ lows₀ slots highs lows : List ℕ) (n rows leaves steps : ℕ) : Type 0 where
  pub seekable : Seekable asked
  pub one : 1 ≤ k
  pub size : length slots ≡ room index
  pub lengths : length slots ≡ length slots₀
  pub lengths_highs : length highs ≡ length highs₀
  pub lengths_lows : length lows ≡ length lows₀
  pub heap : Heap n slots
  pub holds : Held highs lows rows k
  pub few : leaves + steps ≤ 32768
  pub answer : after leaves (seek_on index (asking asked k choice) steps (frontier n slots) (rows_in highs lows rows)) ≡ answer_of (visited index (asking asked k choice))

-- ---- THE START

pub entries_number : (b : List ℕ) (p n r : ℕ) → n ≡ count_at b p → r ≡ min n 16 → (r ≡ length (entries_in (inner_at b p))) × (r ≤ 16)
entries_number b p n r e f = let l = items_length (inner_at b p).count (inner_at b p).entries (entries_slots b p) in let c = inner_counts b p in (omega arith, omega arith)

one_heap : (slots : List ℕ) (x : ℕ) → 1 ≤ length slots → Heap 1 (set slots 0 x)
one_heap slots x h = record { fits = omega (arith, length-set slots 0 x); ordered = λ p j c. absurd (omega (arith, c.low, c.within)) }

one_held : (slots : List ℕ) (x : ℕ) → 1 ≤ length slots → held 1 (set slots 0 x) ≡ x ∷ []
unfolding sort insert_by
one_held [] x h = absurd (omega arith)
one_held (y ∷ ys) x h = refl

pub visiting_start : (index asked near whole : List ℕ) (k : ℕ) (choice : Choice) (slots highs lows : List ℕ) (key m : ℕ) → Visits index asked near whole k slots highs lows → key ≡ key_of (root_branch index) → m ≡ pages_in index
    → Visiting index asked k choice (set slots 0 key) highs lows (set slots 0 key) highs lows 1 0 0 (2 * m)
unfolding visited
visiting_start index asked near whole k choice slots highs lows key m v e g =
    let q = asking asked k choice in
    let s : 1 ≤ length slots = omega (arith, v.room, room_some index) in
    let o : held 1 (set slots 0 key) ≡ key ∷ [] = one_held slots key s in
    let l : length (set slots 0 key) ≡ length slots = length-set slots 0 key in
    let b : branch_in key ≡ root_branch index = ap branch_in e ∙ key_back (root_branch index) (omega arith) v.low (page_small index (field_at root index)) in
    record {
      seekable = v.seekable;
      one = v.one;
      size = l ∙ v.room;
      lengths = refl;
      lengths_highs = refl;
      lengths_lows = refl;
      heap = one_heap slots key s;
      holds = record { few = omega arith; room = v.room_highs; room_lows = v.room_lows; sorted = sorting.end };
      few = omega (arith, pages_few index);
      answer = rw (o, b, g) (λ i. record { rows = (visited index q).rows; leaves = zero-add (length (visited index q).read) i });
    }

-- ---- THE TURNS

length_held : (n : ℕ) (slots : List ℕ) → Heap n slots → length (frontier n slots) ≡ n
length_held n slots h = length-map (held n slots) branch_in ∙ length_sort ltb (take n slots) ∙ (let f = h.fits in let t = length-take n slots in omega arith)

length_branches : (b : List ℕ) (q : Asked) (l p : ℕ) (es : List Entry) → length (branches b q l p es) ≡ length es
unfolding branches
length_branches b q l p [] = refl
length_branches b q l p (e ∷ es) = ap suc (length_branches b q l (p + leaf_count l b e.child) es)

-- no further leaf is read
ended : (index : List ℕ) (q : Asked) (highs lows : List ℕ) (rows leaves : ℕ) (o : Outcome Row Branch) → o ≡ record { rows = rows_in highs lows rows; read = [] } → Held highs lows rows q.k
    → after leaves o ≡ answer_of (visited index q) → Visited index q highs lows (record { rows = rows; leaves = leaves })
ended index q highs lows rows leaves o e h a =
    let z : leaves + 0 ≡ leaves = omega arith in
    record { held = h; answer = (λ i. record { rows = rows_in highs lows rows; leaves = sym z i }) ∙ sym (ap (after leaves) e) ∙ a }

module _ (index asked : List ℕ) (k : ℕ) (choice : Choice) (slots₀ highs₀ lows₀ slots highs lows : List ℕ) (n rows leaves steps : ℕ)
    (v : Visiting index asked k choice slots₀ highs₀ lows₀ slots highs lows n rows leaves steps) where
  abbrev q : Asked
  q = asking asked k choice

  abbrev here : List Row
  here = rows_in highs lows rows

  -- the frontier has a first branch
  module _ (key : ℕ) (rest : List ℕ) (is : held n slots ≡ key ∷ rest) (more : 0 < steps) where
    abbrev others : List Branch
    others = map branch_in rest

    taken : after leaves (seek_on index q (suc (steps - 1)) (branch_in key ∷ others) here) ≡ answer_of (visited index q)
    taken =
        let s : steps ≡ suc (steps - 1) = omega arith in
        rw (← s) (rw is at v.answer)

    visiting_stop : exceeds ranking k (bound_in key) here ≡ true → Visited index q highs lows (record { rows = rows; leaves = leaves })
    unfolding branch_in
    visiting_stop x =
        ended index q highs lows rows leaves (seek_on index q (suc (steps - 1)) (branch_in key ∷ others) here)
        (seek_stop ranking branch_bound (rows_at index q) before is_leaf (kids index q) q.k (room index) (steps - 1) (branch_in key) others here x) v.holds taken

    others_length : length others ≡ n - 1
    others_length = let a = length-map rest branch_in in let b = ap length is in let c = length_held n slots v.heap in let e = length-map (held n slots) branch_in in omega arith

    module _ (goes : exceeds ranking k (bound_in key) here ≡ false) where
      module _ (inner : level_in key ≢ 0) where
        abbrev entries : List Entry
        entries = entries_in (inner_at index (number_in key))

        kids_are : kids index q (branch_in key) ≡ branches index q (level_in key - 1) (place_in key) entries
        unfolding branch_in opened
        kids_are =
            let l : level_in key ≡ suc (level_in key - 1) = omega (arith, inner) in
            ap (λ (l : ℕ). opened index q l (place_in key) (number_in key)) l

        not_leaf : is_leaf (branch_in key) ≡ false
        unfolding branch_in
        not_leaf = ne_eqb (level_in key) 0 inner

        kids_room : length (kids index q (branch_in key)) + length others ≡ length entries + (n - 1)
        kids_room = let a = ap length kids_are in let b = length_branches index q (level_in key - 1) (place_in key) entries in let c = others_length in omega arith

        -- there is no room for the branches of an inner page
        visiting_full : length slots < length entries + (n - 1) → Visited index q highs lows (record { rows = rows; leaves = leaves })
        unfolding branch_in
        visiting_full h =
            ended index q highs lows rows leaves (seek_on index q (suc (steps - 1)) (branch_in key ∷ others) here)
            (seek_full ranking branch_bound (rows_at index q) before is_leaf (kids index q) q.k (room index) (steps - 1) (branch_in key) others here goes not_leaf
            (let r = kids_room in let w = v.size in omega arith)) v.holds taken

  stop_test : (r : Bool) → behind_all highs rows k (bound_in (first_slot slots)) ≡ r → exceeds ranking k (bound_in (first_slot slots)) here ≡ r
  stop_test r e = sym (behind_exceeds (λ x. true) highs lows rows k (bound_in (first_slot slots)) v.one v.holds.few v.holds.room v.holds.room_lows) ∙ e

  pub visiting_ends : Ends index slots n highs rows k steps → Visited index q highs lows (record { rows = rows; leaves = leaves })
  unfolding seek sort
  visiting_ends (spent z) = ended index q highs lows rows leaves (seek_on index q steps (frontier n slots) here) (rw z) v.holds v.answer
  visiting_ends (empty z) =
      ended index q highs lows rows leaves (seek_on index q steps (frontier n slots) here)
      (rw z (seek_end ranking branch_bound (rows_at index q) before is_leaf (kids index q) q.k (room index) steps here)) v.holds v.answer
  visiting_ends (far more some s) = let t = held_top n slots v.heap some in visiting_stop (first_slot slots) t.rest t.is more (stop_test true s)
  visiting_ends (full more some s inner h) = let t = held_top n slots v.heap some in visiting_full (first_slot slots) t.rest t.is more (stop_test false s) inner h

  pub visiting_turns : Turns slots n highs rows k
  visiting_turns =
      record { fits = v.heap.fits; size = omega (arith, v.size, room_most index); one = v.one; few = v.holds.few; room = v.holds.room }

  -- the first branch is taken
  module _ (g : Goes index slots n highs rows k steps) (key : ℕ) (slots' : List ℕ) (p : Popped n slots key slots') (kept : length slots' ≡ length slots) where
    near : exceeds ranking k (bound_in key) here ≡ false
    near = rw p.top (stop_test false g.near)

    -- a leaf is read
    pub visiting_leaf : (highs' lows' : List ℕ) (level place page r : ℕ) → level ≡ level_in key → place ≡ place_in key → page ≡ number_in key → level ≡ 0
        → OfferedAll highs lows rows k (rows_among q place (records_in (leaf_at index page))) r highs' lows'
        → length highs' ≡ length highs → length lows' ≡ length lows
        → Visiting index asked k choice slots₀ highs₀ lows₀ slots' highs' lows' (n - 1) r (leaves + 1) (steps - 1)
    unfolding branch_in
    visiting_leaf highs' lows' l place page r sl sp sg z offers lh ll =
        let x : Branch = branch_in key in
        let rest : List Branch = frontier (n - 1) slots' in
        let o = rw (sp, sg) at offers in
        let t : is_leaf x ≡ true = eq-eqb (level_in key) 0 (sym sl ∙ z) in
        let e = seek_read ranking branch_bound (rows_at index q) before is_leaf (kids index q) q.k (room index) (steps - 1) x rest here near t in
        let a : filter (λ y. true) (rows_at index q x) ≡ rows_at index q x = filter_all (λ y. true) (rows_at index q x) (all_every (λ y. refl) (rows_at index q x)) in
        let w : offered ranking branch_bound (rows_at index q) q.k x here ≡ rows_in highs' lows' r = ap (λ (ys : List Row). offer_all row_order k ys here) a ∙ sym o.rows in
        let out = seek_on index q (steps - 1) rest (rows_in highs' lows' r) in
        let c : leaves + length (x ∷ out.read) ≡ leaves + 1 + length out.read = omega arith in
        record {
          seekable = v.seekable;
          one = v.one;
          size = kept ∙ v.size;
          lengths = kept ∙ v.lengths;
          lengths_highs = lh ∙ v.lengths_highs;
          lengths_lows = ll ∙ v.lengths_lows;
          heap = p.heap;
          holds = o.held;
          few = let f = v.few in let m = g.left in omega arith;
          answer = (λ i. record { rows = out.rows; leaves = sym c i }) ∙ sym (ap (after leaves) (rw w at e)) ∙ taken key (held (n - 1) slots') p.least g.left;
        }

    module _ (level place page : ℕ) (sl : level ≡ level_in key) (sp : place ≡ place_in key) (sg : page ≡ number_in key) (inner : level ≢ 0) where
      inner_key : level_in key ≢ 0
      inner_key e = inner (sl ∙ e)

      open_room : length (entries_in (inner_at index page)) + (n - 1) ≤ length slots'
      open_room = rw (sg, p.top, kept) (g.room (rw p.top at inner_key))

      -- an inner page can be opened
      pub visiting_opens : Opens slots' (n - 1) index asked (level - 1) place page
      visiting_opens =
          let f = sl in
          record { seekable = v.seekable; low = omega arith; first = omega (arith, sp); heap = p.heap; room = omega (arith, open_room) }

      -- an inner page has been opened
      pub visiting_open : (slots'' : List ℕ) (r : ℕ) → Opened slots' (n - 1) index q (level - 1) place page r slots'' → length slots'' ≡ length slots'
          → Visiting index asked k choice slots₀ highs₀ lows₀ slots'' highs lows r rows leaves (steps - 1)
      unfolding branch_in
      visiting_open slots'' r o l =
          let rest : List Branch = frontier (n - 1) slots' in
          let w : kids index q (branch_in key) ≡ branches index q (level - 1) place (entries_in (inner_at index page)) =
          kids_are key (held (n - 1) slots') p.least g.left near inner_key
          ∙ (λ i. branches index q (sym sl i - 1) (sym sp i) (entries_in (inner_at index (sym sg i)))) in
          let fits : length (kids index q (branch_in key)) + length rest ≤ room index =
          rw (← v.size, ← kept) (let a = kids_room key (held (n - 1) slots') p.least g.left near inner_key in let b = rw sg at open_room in omega arith) in
          let e = seek_open ranking branch_bound (rows_at index q) before is_leaf (kids index q) q.k (room index) (steps - 1) (branch_in key) rest here near (not_leaf key (held (n - 1) slots') p.least g.left near inner_key) fits in
          record {
            seekable = v.seekable;
            one = v.one;
            size = l ∙ kept ∙ v.size;
            lengths = l ∙ kept ∙ v.lengths;
            lengths_highs = v.lengths_highs;
            lengths_lows = v.lengths_lows;
            heap = o.heap;
            holds = v.holds;
            few = let f = v.few in omega arith;
            answer = ap (λ (f : List Branch). after leaves (seek_on index q (steps - 1) f here)) (o.branches ∙ ap (λ (ys : List Branch). insert_all before ys rest) (sym w)) ∙ sym (ap (after leaves) e)
                ∙ taken key (held (n - 1) slots') p.least g.left;
          }

-- ---- WHAT THE CALLS RETURN

pub root_is : (index : List ℕ) (l g p key : ℕ) → l ≡ field_at level index → p ≡ field_at root index → g ≡ page_in index p → key ≡ key_of (record { bound = 0; place = 0; level = l; page = g }) → key ≡ key_of (root_branch index)
root_is index l g p key a b c e =
    let h : g ≡ page_in index (field_at root index) = c ∙ ap (page_in index) b in
    e ∙ (λ i. key_of (record { bound = 0; place = 0; level = a i; page = h i }))
