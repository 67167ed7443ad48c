-- free-laws: the free pages, in the order in which they will be taken; writes elsewhere leave them. Assumes nothing.
use Rattle.std.specs.Prelude.{◌≡◌, true, ◌≢◌, List, ℕ, zero, suc, ◌+◌, ◌-◌, ◌≤◌, ◌<◌, length}
use Rattle.std.proofs.Common.{sym, ap, arith}
use Rattle.lists.specs.Basics.{All, none, also, range_from, all_append}
use Rattle.lists.specs.Counts.{mult, mult_append}
use Rattle.lists.specs.Tests.{by_cases}
use Rattle.pagestore.specs.Store.{pages_in, in_range, link_at, Page, set_page, Field, Apart, field_at, set_field, freed, fresh, chain, chain_end, freed_at, rest_at, fresh_at, free_at}
use Rattle.pagestore.specs.Store.RangeLaws.{range_low, range_high, range_is, range_same, pages_same}
use Rattle.pagestore.specs.Store.PageLaws.{page_other, page_field, field_page, field_other, length_set_page, length_set_field}
use Rattle.pagestore.specs.Store.ChainLaws.{chain_range, chain_once, chain_frame}

-- ---- THE FREE PAGES ARE PAGES, AND EACH FREED ONE IS THERE ONCE

pub freed_range : (b : List ℕ) → All (λ q. in_range b q ≡ true) (freed_at b)
unfolding freed_at
freed_range b = chain_range (pages_in b) b (field_at freed b)

up_range : (b : List ℕ) (a n : ℕ) → 0 < a → a + n ≤ pages_in b → All (λ q. in_range b q ≡ true) (range_from a n)
unfolding range_from
up_range b a zero l h = none
up_range b a (suc n) l h = also (range_is b a l (omega arith)) (up_range b (suc a) n (omega arith) (omega arith))

pub fresh_range : (b : List ℕ) → All (λ q. in_range b q ≡ true) (fresh_at b)
unfolding fresh_at
fresh_range b =
    let a : ℕ = field_at fresh b in
    by_cases (in_range b (field_at fresh b))
    (λ h. rw h (up_range b a (pages_in b - a) (range_low b a h) (omega (arith, range_high b a h))))
    (λ h. rw h none)

pub free_range : (b : List ℕ) → All (λ q. in_range b q ≡ true) (free_at b)
unfolding free_at
free_range b = all_append (freed_range b) (fresh_range b)

pub freed_once : (b : List ℕ) → rest_at b ≡ 0 → (q : ℕ) → mult q (freed_at b) ≤ 1
unfolding rest_at freed_at
freed_once b e q = chain_once (pages_in b) b (field_at freed b) e q

pub freed_part : (b : List ℕ) (q : ℕ) → mult q (freed_at b) ≤ mult q (free_at b)
unfolding free_at
freed_part b q = omega (arith, mult_append q (freed_at b) (fresh_at b))

-- ---- WRITES ELSEWHERE

-- the pages never used go by the length and by the header's field
pub fresh_same : (b c : List ℕ) → length c ≡ length b → field_at fresh c ≡ field_at fresh b → fresh_at c ≡ fresh_at b
unfolding fresh_at
fresh_same b c e g = rw (g, range_same b c (field_at fresh b) e, pages_same b c e)

-- what leaves the two fields and the links of the freed pages leaves the free pages
module _ (b c : List ℕ) (len : length c ≡ length b) (f : field_at freed c ≡ field_at freed b)
    (k : (q : ℕ) → 0 < mult q (freed_at b) → link_at c q ≡ link_at b q) where
  frame : (chain (pages_in b) c (field_at freed b) ≡ chain (pages_in b) b (field_at freed b)) × (chain_end (pages_in b) c (field_at freed b) ≡ chain_end (pages_in b) b (field_at freed b))
  unfolding freed_at
  frame = chain_frame b c len (pages_in b) (field_at freed b) k

  freed_frame : freed_at c ≡ freed_at b
  unfolding freed_at
  freed_frame = rw (pages_same b c len, f) frame.0

  rest_frame : rest_at c ≡ rest_at b
  unfolding rest_at
  rest_frame = rw (pages_same b c len, f) frame.1

  free_frame : field_at fresh c ≡ field_at fresh b → free_at c ≡ free_at b
  unfolding free_at
  free_frame g = rw (freed_frame, fresh_same b c len g)

-- not the page that is nowhere in the list
pub other_page : (p q : ℕ) (xs : List ℕ) → mult p xs ≡ 0 → 0 < mult q xs → q ≢ p
other_page p q xs h g e = let z : mult p xs ≡ mult q xs = ap (λ (x : ℕ). mult x xs) (sym e) in omega arith

-- a page that isn't freed may be written
pub rest_page : (b : List ℕ) (p : ℕ) (x : Page) → mult p (freed_at b) ≡ 0 → rest_at (set_page b p x) ≡ rest_at b
rest_page b p x h =
    rest_frame b (set_page b p x) (length_set_page b p x) (field_page freed b p x) (λ q g. (page_other b p x q (other_page p q (freed_at b) h g)).link)

pub free_page_law : (b : List ℕ) (p : ℕ) (x : Page) → mult p (freed_at b) ≡ 0 → free_at (set_page b p x) ≡ free_at b
free_page_law b p x h =
    free_frame b (set_page b p x) (length_set_page b p x) (field_page freed b p x) (λ q g. (page_other b p x q (other_page p q (freed_at b) h g)).link)
    (field_page fresh b p x)

-- and a field other than the two of the free pages
pub rest_field : (f : Field) (b : List ℕ) (v : ℕ) → Apart f freed → rest_at (set_field f b v) ≡ rest_at b
rest_field f b v a = rest_frame b (set_field f b v) (length_set_field f b v) (field_other f freed b v a) (λ q g. (page_field f b v q).link)

pub free_field : (f : Field) (b : List ℕ) (v : ℕ) → Apart f freed → Apart f fresh → free_at (set_field f b v) ≡ free_at b
free_field f b v a g =
    free_frame b (set_field f b v) (length_set_field f b v) (field_other f freed b v a) (λ q h. (page_field f b v q).link) (field_other f fresh b v g)
