-- free-laws: the free pages after one has been taken, and after one has been freed. Assumes nothing.
use Rattle.std.specs.Prelude.{◌≡◌, true, false, ◌≢◌, eqb, length, get_or, drop}
use Rattle.std.proofs.Math.Path.{refl, sym}
use Rattle.std.proofs.Common.{ap, ◌∙◌, add-one, eqb-true}
use mathlib.Core.List.{List, [], ◌∷◌, ◌++◌}
use Prim.Native.Nat.{ℕ, zero, suc, ◌+◌, ◌-◌, ◌≤◌, ◌<◌}
use native.Mathlib.Omega.{arith}
use Rattle.std.proofs.lemmas.Bool.{eqb-false}
use Rattle.lists.specs.Basics.{also, range_from, all_map}
use Rattle.lists.specs.Counts.{mult, mult_self, mult_not, pigeons, mult_none}
use Rattle.lists.specs.Tests.{by_cases}
use Rattle.pagestore.specs.Store.{pages_in, in_range, link_at, Field, Apart, field_at, set_field, freed, fresh, chain, chain_end, freed_at, rest_at, fresh_at, free_at, page_taken, take_page, set_link, free_page}
use Rattle.pagestore.specs.Store.RangeLaws.{range_high, range_past, range_fits, range_whole, range_same, pages_same}
use Rattle.pagestore.specs.Store.PageLaws.{SamePage, same_refl, same_trans, page_field, field_same, field_other, field_fits, field_link, link_same, link_other, link_fits, length_set_field, length_set_link}
use Rattle.pagestore.specs.Store.ChainLaws.{chain_out, end_out, chain_most, Same, chain_enough, chain_frame, chain_some, end_some}
use Rattle.pagestore.specs.Store.FreeLaws.{freed_range, freed_once, fresh_same, other_page}

-- ---- TAKING A PAGE

up_some : (a n : ℕ) → 0 < n → range_from a n ≡ a ∷ range_from (a + 1) (n - 1)
unfolding range_from
up_some a zero h = absurd (omega arith)
up_some a (suc n) h = let e : suc n - 1 ≡ n = omega arith in rw (e, add-one a)

some_pages : (b : List ℕ) (p : ℕ) → in_range b p ≡ true → 0 < pages_in b
some_pages b p h = omega (arith, range_high b p h)

room : (b : List ℕ) (p : ℕ) → in_range b p ≡ true → 1024 ≤ length b
room b p h = omega (arith, range_whole b p h)

-- the page taken is the first of the free pages, or 0 if there is none
pub taken_first : (b : List ℕ) → page_taken b ≡ get_or (free_at b) 0 0
unfolding page_taken free_at freed_at fresh_at
taken_first b =
    let p : ℕ = field_at freed b in
    let q : ℕ = field_at fresh b in
    by_cases (in_range b (field_at freed b))
    (λ h. rw (h, chain_some (pages_in b) b p (some_pages b p h) h))
    (λ h. rw (h, chain_out (pages_in b) b p h)
    (by_cases (in_range b (field_at fresh b))
    (λ g. rw (g, up_some q (pages_in b - q) (omega (arith, range_high b q g))))
    (λ g. rw g)))

pub length_take_page : (b : List ℕ) → length (take_page b) ≡ length b
unfolding take_page
length_take_page b =
    by_cases (in_range b (field_at freed b)) (λ h. rw h (length_set_field freed b _))
    (λ h. rw h (by_cases (in_range b (field_at fresh b)) (λ g. rw g (length_set_field fresh b _)) (λ g. rw g)))

pub page_take : (b : List ℕ) (q : ℕ) → SamePage b (take_page b) q
unfolding take_page
page_take b q =
    by_cases (in_range b (field_at freed b)) (λ h. rw h (page_field freed b _ q))
    (λ h. rw h (by_cases (in_range b (field_at fresh b)) (λ g. rw g (page_field fresh b _ q)) (λ g. rw g (same_refl b q))))

pub field_take : (f : Field) (b : List ℕ) → Apart freed f → Apart fresh f → field_at f (take_page b) ≡ field_at f b
unfolding take_page
field_take f b u v =
    by_cases (in_range b (field_at freed b)) (λ h. rw h (field_other freed f b _ u))
    (λ h. rw h (by_cases (in_range b (field_at fresh b)) (λ g. rw g (field_other fresh f b _ v)) (λ g. rw g)))

-- a freed page is taken
module _ (b : List ℕ) (e : rest_at b ≡ 0) (h : in_range b (field_at freed b) ≡ true) where
  next : ℕ
  next = link_at b (field_at freed b)

  popped : List ℕ
  popped = set_field freed b (link_at b (field_at freed b))

  pop_head : field_at freed (set_field freed b (link_at b (field_at freed b))) ≡ link_at b (field_at freed b)
  pop_head = field_same freed b (link_at b (field_at freed b)) (room b (field_at freed b) h) (link_fits b (field_at freed b))

  pop_end : chain_end (pages_in b - 1) b (link_at b (field_at freed b)) ≡ 0
  unfolding rest_at
  pop_end = sym (end_some (pages_in b) b (field_at freed b) (some_pages b (field_at freed b) h) h) ∙ e

  pop_same : Same b (pages_in b) (pages_in b - 1) (link_at b (field_at freed b))
  pop_same =
      chain_enough (pages_in b - 1) b (link_at b (field_at freed b)) (pages_in b) pop_end
      (omega (arith, chain_most (pages_in b - 1) b (link_at b (field_at freed b))))

  pop_frame : (chain (pages_in b) popped next ≡ chain (pages_in b) b next) × (chain_end (pages_in b) popped next ≡ chain_end (pages_in b) b next)
  unfolding popped next
  pop_frame =
      chain_frame b (set_field freed b (link_at b (field_at freed b))) (length_set_field freed b (link_at b (field_at freed b))) (pages_in b) (link_at b (field_at freed b))
      (λ q g. (page_field freed b (link_at b (field_at freed b)) q).link)

  pop_freed : freed_at popped ≡ drop 1 (freed_at b)
  unfolding popped next freed_at
  pop_freed =
      rw (pages_same b (set_field freed b (link_at b (field_at freed b))) (length_set_field freed b (link_at b (field_at freed b))), pop_head)
      (pop_frame.0 ∙ pop_same.pages ∙ sym (ap (drop 1) (chain_some (pages_in b) b (field_at freed b) (some_pages b (field_at freed b) h) h)))

  pop_rest : rest_at popped ≡ 0
  unfolding popped next rest_at
  pop_rest =
      rw (pages_same b (set_field freed b (link_at b (field_at freed b))) (length_set_field freed b (link_at b (field_at freed b))), pop_head)
      (pop_frame.1 ∙ pop_same.end ∙ pop_end)

  pop_fresh : fresh_at popped ≡ fresh_at b
  unfolding popped
  pop_fresh = let v : ℕ = link_at b (field_at freed b) in fresh_same b (set_field freed b v) (length_set_field freed b v) (field_other freed fresh b v refl)

  pop_some : (ys : List ℕ) → drop 1 (freed_at b) ++ ys ≡ drop 1 (freed_at b ++ ys)
  unfolding freed_at
  pop_some ys = rw (chain_some (pages_in b) b (field_at freed b) (some_pages b (field_at freed b) h) h)

  pop_free : free_at popped ≡ drop 1 (free_at b)
  unfolding free_at
  pop_free = rw (pop_freed, pop_fresh) (pop_some (fresh_at b))

-- no page is freed
none_freed : (b : List ℕ) → in_range b (field_at freed b) ≡ false → freed_at b ≡ []
unfolding freed_at
none_freed b h = chain_out (pages_in b) b (field_at freed b) h

-- no page is free
no_free : (b : List ℕ) → in_range b (field_at freed b) ≡ false → in_range b (field_at fresh b) ≡ false → free_at b ≡ []
unfolding free_at freed_at fresh_at
no_free b h g = rw (chain_out (pages_in b) b (field_at freed b) h, g)

-- a page never used is taken
module _ (b : List ℕ) (h : in_range b (field_at freed b) ≡ false) (g : in_range b (field_at fresh b) ≡ true) where
  opened : List ℕ
  opened = set_field fresh b (field_at fresh b + 1)

  open_length : length opened ≡ length b
  unfolding opened
  open_length = length_set_field fresh b (field_at fresh b + 1)

  open_head : field_at freed opened ≡ field_at freed b
  unfolding opened
  open_head = field_other fresh freed b (field_at fresh b + 1) refl

  open_next : field_at fresh opened ≡ field_at fresh b + 1
  unfolding opened
  open_next = field_same fresh b (field_at fresh b + 1) (room b (field_at fresh b) g) (omega (arith, range_fits b (field_at fresh b) g))

  open_none : in_range opened (field_at freed opened) ≡ false
  open_none = rw open_head (range_same b opened (field_at freed b) open_length ∙ h)

  open_rest : rest_at opened ≡ rest_at b
  unfolding rest_at
  open_rest = end_out (pages_in opened) opened (field_at freed opened) open_none ∙ open_head ∙ sym (end_out (pages_in b) b (field_at freed b) h)

  open_fresh : fresh_at opened ≡ drop 1 (fresh_at b)
  unfolding fresh_at range_from
  open_fresh =
      let a : ℕ = field_at fresh b in
      let n : ℕ = pages_in b in
      let l : field_at fresh b < pages_in b = range_high b (field_at fresh b) g in
      let u : range_from (field_at fresh b) (pages_in b - field_at fresh b) ≡ a ∷ range_from (a + 1) (n - a - 1) = up_some a (n - a) (omega arith) in
      let m : n - a - 1 ≡ n - (a + 1) = omega arith in
      rw (open_next, range_same b opened (field_at fresh b + 1) open_length, pages_same b opened open_length, g, u, m)
      (by_cases (in_range b (field_at fresh b + 1)) (λ t. rw t)
      (λ t. let z : n - (a + 1) ≡ 0 = range_past b (a + 1) (omega arith) t in rw (t, z)))

  open_free : free_at opened ≡ drop 1 (free_at b)
  unfolding free_at freed_at
  open_free =
      rw (chain_out (pages_in opened) opened (field_at freed opened) open_none, chain_out (pages_in b) b (field_at freed b) h) open_fresh

-- the free pages after a page has been taken: all but the first
pub free_take : (b : List ℕ) → rest_at b ≡ 0 → free_at (take_page b) ≡ drop 1 (free_at b)
unfolding take_page popped opened
free_take b e =
    by_cases (in_range b (field_at freed b)) (λ h. rw h (pop_free b e h))
    (λ h. rw h (by_cases (in_range b (field_at fresh b)) (λ g. rw g (open_free b h g)) (λ g. rw (g, no_free b h g))))

pub rest_take : (b : List ℕ) → rest_at b ≡ 0 → rest_at (take_page b) ≡ 0
unfolding take_page popped opened
rest_take b e =
    by_cases (in_range b (field_at freed b)) (λ h. rw h (pop_rest b e h))
    (λ h. rw h (by_cases (in_range b (field_at fresh b)) (λ g. rw g (open_rest b h g ∙ e)) (λ g. rw g e)))

-- the page taken is not a freed one any more
pop_gone : (b : List ℕ) → rest_at b ≡ 0 → in_range b (field_at freed b) ≡ true → mult (field_at freed b) (drop 1 (freed_at b)) ≡ 0
unfolding freed_at
pop_gone b e h =
    let p : ℕ = field_at freed b in
    let r : List ℕ = chain (pages_in b - 1) b (link_at b (field_at freed b)) in
    let s : chain (pages_in b) b (field_at freed b) ≡ p ∷ r = chain_some (pages_in b) b p (some_pages b p h) h in
    let o : mult p (chain (pages_in b) b (field_at freed b)) ≤ 1 = freed_once b e p in
    rw s (omega (arith, mult_self p r, ap (mult p) s))

pub taken_gone : (b : List ℕ) → rest_at b ≡ 0 → mult (page_taken b) (freed_at (take_page b)) ≡ 0
unfolding page_taken take_page popped opened
taken_gone b e =
    by_cases (in_range b (field_at freed b)) (λ h. rw (h, pop_freed b e h) (pop_gone b e h))
    (λ h. rw h (by_cases (in_range b (field_at fresh b)) (λ g. rw (g, none_freed (set_field fresh b (field_at fresh b + 1)) (open_none b h g)) (mult_none (field_at fresh b))) (λ g. rw (g, none_freed b h) (mult_none 0))))

-- ---- FREEING A PAGE

pub length_free_page : (b : List ℕ) (p : ℕ) → length (free_page b p) ≡ length b
unfolding free_page
length_free_page b p =
    by_cases (in_range b p) (λ h. rw h (length_set_field freed (set_link b p (field_at freed b)) p ∙ length_set_link b p (field_at freed b))) (λ h. rw h)

pub page_free : (b : List ℕ) (p q : ℕ) → q ≢ p → SamePage b (free_page b p) q
unfolding free_page
page_free b p q ne =
    by_cases (in_range b p)
    (λ h. rw h (same_trans (link_other b p (field_at freed b) q ne) (page_field freed (set_link b p (field_at freed b)) p q)))
    (λ h. rw h (same_refl b q))

pub field_free : (f : Field) (b : List ℕ) (p : ℕ) → Apart freed f → field_at f (free_page b p) ≡ field_at f b
unfolding free_page
field_free f b p a =
    by_cases (in_range b p)
    (λ h. rw h (field_other freed f (set_link b p (field_at freed b)) p a ∙ field_link f b p (field_at freed b)))
    (λ h. rw h)

-- a page that is freed comes first
module _ (b : List ℕ) (p : ℕ) (e : rest_at b ≡ 0) (h : in_range b p ≡ true) (m : mult p (freed_at b) ≡ 0) where
  pushed : List ℕ
  pushed = set_field freed (set_link b p (field_at freed b)) p

  push_length : length pushed ≡ length b
  unfolding pushed
  push_length = length_set_field freed (set_link b p (field_at freed b)) p ∙ length_set_link b p (field_at freed b)

  push_range : in_range pushed p ≡ true
  push_range = range_same b pushed p push_length ∙ h

  push_head : field_at freed pushed ≡ p
  unfolding pushed
  push_head =
      field_same freed (set_link b p (field_at freed b)) p (rw (length_set_link b p (field_at freed b)) (room b p h)) (omega (arith, range_fits b p h))

  push_link : link_at pushed p ≡ field_at freed b
  unfolding pushed
  push_link = (page_field freed (set_link b p (field_at freed b)) p p).link ∙ link_same b p (field_at freed b) h (field_fits freed b)

  push_other : (q : ℕ) → q ≢ p → link_at pushed q ≡ link_at b q
  unfolding pushed
  push_other q ne = (page_field freed (set_link b p (field_at freed b)) p q).link ∙ (link_other b p (field_at freed b) q ne).link

  -- p and the freed pages are distinct pages
  push_few : suc (length (freed_at b)) ≤ pages_in b
  push_few =
      pigeons (pages_in b)
      (also (range_high b p h) (all_map (λ q (r : in_range b q ≡ true). range_high b q r) (freed_range b)))
      (λ q. by_cases (eqb q p)
      (λ g. let same : q ≡ p = eqb-true q p g in rw same (omega (arith, mult_self p (freed_at b))))
      (λ g. omega (arith, mult_not q p (freed_at b) (eqb-false q p g), freed_once b e q)))

  push_same : Same b (pages_in b - 1) (pages_in b) (field_at freed b)
  unfolding rest_at freed_at
  push_same = chain_enough (pages_in b) b (field_at freed b) (pages_in b - 1) e (omega (arith, push_few))

  push_frame : (chain (pages_in b - 1) pushed (field_at freed b) ≡ chain (pages_in b - 1) b (field_at freed b)) × (chain_end (pages_in b - 1) pushed (field_at freed b) ≡ chain_end (pages_in b - 1) b (field_at freed b))
  unfolding freed_at
  push_frame =
      chain_frame b pushed push_length (pages_in b - 1) (field_at freed b)
      (λ q g. push_other q (other_page p q (chain (pages_in b) b (field_at freed b)) m (rw push_same.pages at g)))

  push_freed : freed_at pushed ≡ p ∷ freed_at b
  unfolding freed_at
  push_freed =
      rw (push_head, pages_same b pushed push_length, chain_some (pages_in b) pushed p (some_pages b p h) push_range, push_link)
      (ap (λ (l : List ℕ). p ∷ l) (push_frame.0 ∙ push_same.pages))

  push_rest : rest_at pushed ≡ 0
  unfolding rest_at
  push_rest =
      rw (push_head, pages_same b pushed push_length, end_some (pages_in b) pushed p (some_pages b p h) push_range, push_link)
      (push_frame.1 ∙ push_same.end ∙ e)

  push_field : field_at fresh pushed ≡ field_at fresh b
  unfolding pushed
  push_field = field_other freed fresh (set_link b p (field_at freed b)) p refl ∙ field_link fresh b p (field_at freed b)

  push_fresh : fresh_at pushed ≡ fresh_at b
  push_fresh = fresh_same b pushed push_length push_field

  -- the free pages after a page has been freed: it comes first
  pub free_free : free_at (free_page b p) ≡ p ∷ free_at b
  unfolding free_page free_at pushed
  free_free = rw (h, push_freed, push_fresh)

  pub rest_free : rest_at (free_page b p) ≡ 0
  unfolding free_page pushed
  rest_free = rw h push_rest
