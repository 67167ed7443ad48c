-- Keys are in the order of their branches.
use Rattle.std.proofs.Common.{◌≡◌, refl, sym, ap, ◌∙◌, true, false, List, [], ◌∷◌, map, ℕ, ◌+◌, ◌*◌, ◌-◌, ◌/◌, ◌%◌, ◌≤◌, ◌<◌, arith, ltb, lt-ltb, le-ltb}
use Rattle.lists.specs.Tests.{three, by_cases}
use Rattle.lists.specs.Sorting.{insert_by}
use Rattle.lists.specs.Orders.{lower, higher, by_lower, by_equal, by_higher_law, lex_first, lex_second, lex_last}
use Rattle.search_model.specs.Numbers.{max_level}
use Rattle.search_model.specs.Branches.{Branch, last_place, branch_bound, branch_place, branch_level, branch_page, higher_first, tied, before, page_in}
use Rattle.search_frontier.specs.Keys.{levels, places, key_of, bound_in, place_in, level_in, number_in, branch_in}
use Rattle.pagestore.specs.Store.{in_range, max_pages}
use Rattle.pagestore.specs.Store.RangeLaws.{range_fits}

-- ---- PAGES IN RANGE

pub page_inside : (b : List ℕ) (p : ℕ) → in_range b p ≡ true → (p ≡ page_in b p) × (p < max_pages)
unfolding page_in
page_inside b p h = (rw h, range_fits b p h)

pub page_outside : (b : List ℕ) (p : ℕ) → in_range b p ≡ false → (0 ≡ page_in b p) × (0 < max_pages)
unfolding page_in
page_outside b p h = (rw h, omega arith)

pub page_small : (b : List ℕ) (p : ℕ) → page_in b p < max_pages
unfolding page_in
page_small b p = by_cases (in_range b p) (λ e. rw e (range_fits b p e)) (λ e. rw e (omega arith))

-- ---- KEYS

-- the number of a branch in the frontier's heap
module _ (x : Branch) (place : x.place ≤ last_place) (level : x.level ≤ max_level) (page : x.page < max_pages) where
  upper : key_of x / max_pages ≡ (x.bound * places + x.place) * levels + (max_level - x.level)
  upper = omega arith

  middle : key_of x / max_pages / levels ≡ x.bound * places + x.place
  middle = let u = upper in omega arith

  pub key_level : key_of x / max_pages % levels ≡ max_level - x.level
  key_level = let u = upper in omega arith

  pub key_place : place_in (key_of x) ≡ x.place
  key_place = let m = middle in omega arith

  pub key_levels : level_in (key_of x) ≡ x.level
  key_levels = let l = key_level in omega arith

  pub key_back : branch_in (key_of x) ≡ x
  unfolding branch_in
  key_back =
      let b : bound_in (key_of x) ≡ x.bound = let m = middle in omega arith in
      let g : number_in (key_of x) ≡ x.page = omega arith in
      let p = key_place in
      let l = key_levels in
      λ i. record { bound = b i; place = p i; level = l i; page = g i }

-- a number from its digits
abbrev parts : ℕ → ℕ → ℕ → ℕ → ℕ
parts b p l g = ((b * places + p) * levels + l) * max_pages + g

key_parts : (a : ℕ) → a ≡ parts (bound_in a) (place_in a) (a / max_pages % levels) (number_in a)
key_parts a =
    let u : a ≡ a / max_pages * max_pages + a % max_pages = omega arith in
    let v : a / max_pages ≡ a / max_pages / levels * levels + a / max_pages % levels = omega arith in
    let w : a / max_pages / levels ≡ a / max_pages / levels / places * places + a / max_pages / levels % places = omega arith in
    omega arith

pub key_order : (a b : ℕ) → ltb a b ≡ before (branch_in a) (branch_in b)
unfolding branch_in
key_order a b =
    let x = branch_in a in
    let y = branch_in b in
    let ea = key_parts a in
    let eb = key_parts b in
    let la : a / max_pages % levels < levels = omega arith in
    let lb : b / max_pages % levels < levels = omega arith in
    let pa : place_in a < places = omega arith in
    let pb : place_in b < places = omega arith in
    let na : number_in a < max_pages = omega arith in
    let nb : number_in b < max_pages = omega arith in
    three (bound_in a) (bound_in b)
    (λ h. lt-ltb a b (omega arith) ∙ sym (by_lower branch_bound tied x y h))
    (λ h. three (place_in a) (place_in b)
    (λ g. lt-ltb a b (omega arith) ∙ sym (by_equal branch_bound tied x y h ∙ by_lower branch_place higher_first x y g))
    (λ g. three (a / max_pages % levels) (b / max_pages % levels)
    (λ e. lt-ltb a b (omega arith) ∙ sym (by_equal branch_bound tied x y h ∙ by_equal branch_place higher_first x y g ∙ lex_first (higher branch_level) (lower branch_page) x y (lt-ltb (level_in b) (level_in a) (omega arith))))
    (λ e. three (number_in a) (number_in b)
    (λ f. lt-ltb a b (omega arith) ∙ sym (by_equal branch_bound tied x y h ∙ by_equal branch_place higher_first x y g
    ∙ lex_second (higher branch_level) (lower branch_page) x y (le-ltb (level_in b) (level_in a) (omega arith)) (le-ltb (level_in a) (level_in b) (omega arith)) ∙ lt-ltb (number_in a) (number_in b) f))
    (λ f. le-ltb a b (omega arith) ∙ sym (by_equal branch_bound tied x y h ∙ by_equal branch_place higher_first x y g
    ∙ lex_second (higher branch_level) (lower branch_page) x y (le-ltb (level_in b) (level_in a) (omega arith)) (le-ltb (level_in a) (level_in b) (omega arith)) ∙ le-ltb (number_in a) (number_in b) (omega arith)))
    (λ f. le-ltb a b (omega arith) ∙ sym (by_equal branch_bound tied x y h ∙ by_equal branch_place higher_first x y g
    ∙ lex_second (higher branch_level) (lower branch_page) x y (le-ltb (level_in b) (level_in a) (omega arith)) (le-ltb (level_in a) (level_in b) (omega arith)) ∙ le-ltb (number_in a) (number_in b) (omega arith))))
    (λ e. le-ltb a b (omega arith) ∙ sym (by_equal branch_bound tied x y h ∙ by_equal branch_place higher_first x y g
    ∙ lex_last (higher branch_level) (lower branch_page) x y (le-ltb (level_in b) (level_in a) (omega arith)) (lt-ltb (level_in a) (level_in b) (omega arith)))))
    (λ g. le-ltb a b (omega arith) ∙ sym (by_equal branch_bound tied x y h ∙ by_higher_law branch_place higher_first x y g)))
    (λ h. le-ltb a b (omega arith) ∙ sym (by_higher_law branch_bound tied x y h))

-- a key put in is its branch put in
pub branches_ins : (x : ℕ) (s : List ℕ) → map branch_in (insert_by ltb x s) ≡ insert_by before (branch_in x) (map branch_in s)
unfolding insert_by
branches_ins x [] = refl
branches_ins x (y ∷ ys) =
    let e = key_order y x in
    by_cases (ltb y x)
    (λ t. let u : before (branch_in y) (branch_in x) ≡ true = sym e ∙ t in rw (t, u) (ap (λ (l : List Branch). branch_in y ∷ l) (branches_ins x ys)))
    (λ t. let u : before (branch_in y) (branch_in x) ≡ false = sym e ∙ t in rw (t, u))
