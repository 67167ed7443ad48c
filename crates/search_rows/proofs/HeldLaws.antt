-- Laws of rows in two arrays: comparing words, putting a row in from the last on, what an offer leaves, and the stop test.
use Rattle.std.proofs.Common.{◌≡◌, refl, sym, ap, ◌∙◌, ◌≢◌, Bool, true, false, not, List, [], ◌∷◌, ◌++◌, map, append-nil, ℕ, zero, suc, ◌+◌, ◌*◌, ◌-◌, ◌/◌, ◌%◌, ◌≤◌, ◌<◌, arith, add-one, length, take, drop, get_or, set, length-take, length-set, drop_of_length-le, length-take-le, get_or-take, take_all, take_at, take-suc, take-take, drop-set-lt, ltb, eqb, lt-ltb, le-ltb, le-leb, ltb-true, ltb-false, ne_eqb}
use lib.Seq.{take-append-le, take-set-le}
use borrow.Author.Tests.{lt-leb, not-true, not-false}
use Rattle.lists.specs.Basics.{if, indicator}
use Rattle.lists.specs.Tests.{three, false_true, by_cases}
use Rattle.lists.specs.Sorting.{insert_by, offer}
use Rattle.lists.specs.Sorting as sorting
use Rattle.lists.specs.SortingLaws.{length_ins, sorted_ins}
use Rattle.lists.specs.PlaceLaws.{ins_snoc, ins_last, sliding, slide_turn, slide_end, sorted_take}
use Rattle.lists.specs.Orders.{lower, by_lower, by_equal, by_higher_law}
use Rattle.search_theory.specs.Nearest.{kth}
use Rattle.search_theory.specs.Nearest as nearest
use Rattle.search_rows.specs.declared.Row.{Row}
use Rattle.search_rows.specs.Rows.{distance, id, position, row_order, id_order, tie_order, age, high_of, low_of, distance_in, row_of, by_distance, FitsWords}
use Rattle.search_rows.specs.Held.{rows_of, rows_in, behind_all, GivesWay, Held, Offered}
use Rattle.search_rows.proofs.RowLaws.{row_order_law, later, as_late, earlier}

-- ---- comparing

-- words of 64 bits
module _ (h l high low : ℕ) where
  abbrev a : Row
  a = row_of h l

  abbrev b : Row
  b = row_of high low

  tie_of : distance a ≡ distance b → row_order a b ≡ tie_order a b
  tie_of e = by_equal distance tie_order a b e

  -- the upper words decide by distance, or else by stamp
  pub nearer : l < 18446744073709551616 → low < 18446744073709551616 → h < high → true ≡ row_order a b
  nearer f g e = three (h / 268435456) (high / 268435456)
      (λ n. sym (by_lower distance tie_order a b n))
      (λ n. sym (tie_of n ∙ later a b (omega arith)))
      (λ n. absurd (omega arith))

  pub farther : l < 18446744073709551616 → low < 18446744073709551616 → high < h → false ≡ row_order a b
  farther f g e = three (h / 268435456) (high / 268435456)
      (λ n. absurd (omega arith))
      (λ n. sym (tie_of n ∙ earlier a b (omega arith)))
      (λ n. sym (by_higher_law distance tie_order a b n))

  -- where they are the same, the lower words are in the order of the tie rule
  pub as_near : l < 18446744073709551616 → low < 18446744073709551616 → h ≡ high → ltb l low ≡ row_order a b
  as_near f g e =
      let d : distance a ≡ distance b = ap (λ (x : ℕ). x / 268435456) e in
      sym (tie_of d
      ∙ three (l / 268435456 / 4294967296) (low / 268435456 / 4294967296)
      (λ n. later a b (omega arith) ∙ sym (lt-ltb l low (omega arith)))
      (λ n. as_late a b (omega arith) ∙ ids n)
      (λ n. earlier a b (omega arith) ∙ sym (le-ltb l low (omega arith))))
    where
      ids : l / 268435456 / 4294967296 ≡ low / 268435456 / 4294967296 → id_order a b ≡ ltb l low
      ids n = three (id a) (id b)
          (λ m. by_lower id (lower position) a b m ∙ sym (lt-ltb l low (omega arith)))
          (λ m. by_equal id (lower position) a b m ∙ three l low
          (λ k. lt-ltb (l % 268435456) (low % 268435456) (omega arith) ∙ sym (lt-ltb l low k))
          (λ k. le-ltb (l % 268435456) (low % 268435456) (omega arith) ∙ sym (le-ltb l low (omega arith)))
          (λ k. le-ltb (l % 268435456) (low % 268435456) (omega arith) ∙ sym (le-ltb l low (omega arith))))
          (λ m. by_higher_law id (lower position) a b m ∙ sym (le-ltb l low (omega arith)))

-- ---- rows of two arrays

pub length_rows_of : (n : ℕ) (hs ls : List ℕ) → n ≤ length hs → n ≤ length ls → n ≤ length (rows_of hs ls)
unfolding rows_of
length_rows_of zero hs ls h g = omega arith
length_rows_of (suc n) [] ls h g = absurd (omega arith)
length_rows_of (suc n) (u ∷ hs) [] h g = absurd (omega arith)
length_rows_of (suc n) (u ∷ hs) (v ∷ ls) h g = let q = length_rows_of n hs ls (omega arith) (omega arith) in omega arith

pub rows_of_at : (i : ℕ) (hs ls : List ℕ) (x : Row) → i < length hs → i < length ls → get_or (rows_of hs ls) i x ≡ row_of (get_or hs i 0) (get_or ls i 0)
unfolding rows_of
rows_of_at i [] ls x h g = absurd (omega arith)
rows_of_at i (u ∷ hs) [] x h g = absurd (omega arith)
rows_of_at zero (u ∷ hs) (v ∷ ls) x h g = refl
rows_of_at (suc i) (u ∷ hs) (v ∷ ls) x h g = rows_of_at i hs ls x (omega arith) (omega arith)

rows_of_set : (i h l : ℕ) (hs ls : List ℕ) → rows_of (set hs i h) (set ls i l) ≡ set (rows_of hs ls) i (row_of h l)
unfolding rows_of
rows_of_set i h l [] ls = refl
rows_of_set zero h l (u ∷ hs) [] = refl
rows_of_set (suc i) h l (u ∷ hs) [] = refl
rows_of_set zero h l (u ∷ hs) (v ∷ ls) = refl
rows_of_set (suc i) h l (u ∷ hs) (v ∷ ls) = ap (λ (xs : List Row). row_of u v ∷ xs) (rows_of_set i h l hs ls)

-- there is none before index 0
pub way_none : (hs ls : List ℕ) (i : ℕ) (x : Row) → i ≡ 0 → GivesWay hs ls i x false
way_none hs ls i x e = record { gives = λ t. false_true t; stays = λ _ z. absurd (omega arith) }

pub way_some : (hs ls : List ℕ) (i : ℕ) (x : Row) (b : Bool) → i ≢ 0 → b ≡ row_order (row_of (get_or hs (i - 1) 0) (get_or ls (i - 1) 0)) x → GivesWay hs ls i x (not b)
way_some hs ls i x b z e = record { gives = λ t. (omega (arith, z), sym e ∙ not-true b t); stays = λ t _. sym e ∙ not-false b t }

-- the first m of n rows, with room for j
pub held_part : (hs ls : List ℕ) (n k m j : ℕ) → Held hs ls n k → m ≤ n → m ≤ j → j ≤ k → Held hs ls m j
held_part hs ls n k m j h a b c = let f = h.room in let g = h.room_lows in record {
  few = b;
  room = omega arith;
  room_lows = omega arith;
  sorted = rw (← take-take m n (rows_of hs ls) a) (sorted_take row_order m (rows_in hs ls n) h.sorted);
}

-- ---- a row put in, from the last on

-- row x goes behind the first i: the last of them is before it, or there is none
abbrev pub GoesLast : List ℕ → List ℕ → ℕ → Row → Type 0
GoesLast hs ls i x = 0 < i → row_order (row_of (get_or hs (i - 1) 0) (get_or ls (i - 1) 0)) x ≡ true

goes_last : (hs ls : List ℕ) (i : ℕ) (x : Row) → Held hs ls i i → GoesLast hs ls i x → insert_by row_order x (rows_in hs ls i) ≡ rows_in hs ls i ++ (x ∷ [])
unfolding insert_by
goes_last hs ls zero x h = λ e. refl
goes_last hs ls (suc j) x h =
    let q : suc j - 1 ≡ j = omega arith in
    let a = h.room in let b = h.room_lows in
    let f : get_or (rows_in hs ls (suc j)) j x ≡ row_of (get_or hs j 0) (get_or ls j 0) =
    get_or-take (suc j) (rows_of hs ls) j x (omega arith) ∙ rows_of_at j hs ls x (omega arith) (omega arith) in
    rw q (λ e. ins_last row_order row_order_law x x j (rows_in hs ls (suc j)) h.sorted (length-take-le (suc j) (rows_of hs ls) (length_rows_of (suc j) hs ls a b))
    (ap (λ (y : Row). row_order y x) f ∙ e (omega arith)))

-- where there is room for one more, an offer is an insertion
offer_room : (hs ls : List ℕ) (n k : ℕ) (x : Row) → n < k → insert_by row_order x (rows_in hs ls n) ≡ offer row_order k x (rows_in hs ls n)
unfolding offer
offer_room hs ls n k x h =
    let a = length_ins row_order x (rows_in hs ls n) in let b = length-take n (rows_of hs ls) in
    sym (take_all k (insert_by row_order x (rows_in hs ls n)) (omega arith))

-- row x, to be put in among the n rows of hs₀ and ls₀, has come down to index i
pub record Sliding (hs₀ ls₀ : List ℕ) (n : ℕ) (x : Row) (hs ls : List ℕ) (i : ℕ) : Type 0 where
  pub few : i ≤ n
  pub room : n < length hs
  pub room_lows : n < length ls
  pub sorted : sorting.Sorted row_order (rows_in hs ls i)
  pub rows : sliding row_order x n i (rows_of hs ls) ≡ insert_by row_order x (rows_in hs₀ ls₀ n)
  pub past : (drop (n + 1) hs ≡ drop (n + 1) hs₀) × (drop (n + 1) ls ≡ drop (n + 1) ls₀)

pub slide_start : (hs ls : List ℕ) (n : ℕ) (x : Row) → Held hs ls n (n + 1) → Sliding hs ls n x hs ls n
unfolding sliding
slide_start hs ls n x h = let a = h.room in let b = h.room_lows in record {
  few = omega arith;
  room = omega arith;
  room_lows = omega arith;
  sorted = h.sorted;
  rows = let l : length (take (suc n) (rows_of hs ls)) ≤ suc n = rw (length-take (suc n) (rows_of hs ls)) (omega arith) in
      rw (drop_of_length-le (take (suc n) (rows_of hs ls)) {i = suc n} l) (append-nil (insert_by row_order x (rows_in hs ls n)));
  past = (refl, refl);
}

module _ (hs₀ ls₀ : List ℕ) (n : ℕ) (x : Row) (hs ls : List ℕ) where
  long : (i : ℕ) → Sliding hs₀ ls₀ n x hs ls i → n < length (rows_of hs ls)
  long i s = let a = s.room in let b = s.room_lows in let c = length_rows_of (suc n) hs ls (omega arith) (omega arith) in omega arith

  -- the row before index i moves up
  pub slide_on : (i : ℕ) → Sliding hs₀ ls₀ n x hs ls i → 0 < i → row_order (row_of (get_or hs (i - 1) 0) (get_or ls (i - 1) 0)) x ≡ false
      → Sliding hs₀ ls₀ n x (set hs i (get_or hs (i - 1) 0)) (set ls i (get_or ls (i - 1) 0)) (i - 1)
  slide_on zero s z = absurd (omega arith)
  slide_on (suc j) s z =
      let q : suc j - 1 ≡ j = omega arith in
      let a = s.few in let b = s.room in let c = s.room_lows in let l = long (suc j) s in
      let r : get_or (rows_of hs ls) j x ≡ row_of (get_or hs j 0) (get_or ls j 0) = rows_of_at j hs ls x (omega arith) (omega arith) in
      let moved : rows_of (set hs (suc j) (get_or hs j 0)) (set ls (suc j) (get_or ls j 0)) ≡ set (rows_of hs ls) (suc j) (get_or (rows_of hs ls) j x) =
      rows_of_set (suc j) (get_or hs j 0) (get_or ls j 0) hs ls ∙ ap (set (rows_of hs ls) (suc j)) (sym r) in
      rw q (λ e. record {
        few = omega arith;
        room = rw (length-set hs (suc j) (get_or hs j 0)) b;
        room_lows = rw (length-set ls (suc j) (get_or ls j 0)) c;
        sorted = rw (moved, take-set-le j (rows_of hs ls) (suc j) (get_or (rows_of hs ls) j x) (omega arith), ← take-take j (suc j) (rows_of hs ls) (omega arith))
            (sorted_take row_order j (rows_in hs ls (suc j)) s.sorted);
        rows = ap (sliding row_order x n j) moved
            ∙ sym (slide_turn row_order x x n j (rows_of hs ls) (omega arith) l (ap (λ (y : Row). row_order y x) r ∙ e)) ∙ s.rows;
        past = (drop-set-lt (n + 1) hs (suc j) (get_or hs j 0) (omega arith) ∙ s.past.0, drop-set-lt (n + 1) ls (suc j) (get_or ls j 0) (omega arith) ∙ s.past.1);
      })

  -- and is put down
  pub slide_done : (i high low : ℕ) → Sliding hs₀ ls₀ n x hs ls i → GoesLast hs ls i x → row_of high low ≡ x
      → Held hs₀ ls₀ n (n + 1) → Offered hs₀ ls₀ n (n + 1) x (n + 1) (set hs i high) (set ls i low)
  slide_done i high low s e q h =
      let a = s.few in let b = s.room in let c = s.room_lows in
      let all : rows_in (set hs i high) (set ls i low) (n + 1) ≡ insert_by row_order x (rows_in hs₀ ls₀ n) =
      ap (take (n + 1)) (rows_of_set i high low hs ls ∙ ap (set (rows_of hs ls) i) q)
      ∙ ap (λ (m : ℕ). take m (set (rows_of hs ls) i x)) (add-one n)
      ∙ slide_end row_order x n i (rows_of hs ls) a (long i s) (goes_last hs ls i x record { few = omega arith; room = omega arith; room_lows = omega arith; sorted = s.sorted } e) ∙ s.rows in
      record {
        held = record {
          few = omega arith;
          room = rw (length-set hs i high) (omega arith);
          room_lows = rw (length-set ls i low) (omega arith);
          sorted = rw all (sorted_ins row_order row_order_law x (rows_in hs₀ ls₀ n) h.sorted);
        };
        rows = all ∙ offer_room hs₀ ls₀ n (n + 1) x (omega arith);
        past = (drop-set-lt (n + 1) hs i high (omega arith) ∙ s.past.0, drop-set-lt (n + 1) ls i low (omega arith) ∙ s.past.1);
      }

-- ---- an offer

-- behind k rows: nothing changes
pub offered_out : (hs ls : List ℕ) (n k : ℕ) (x : Row) → Held hs ls n k → k ≤ n → GoesLast hs ls n x → Offered hs ls n k x n hs ls
unfolding offer
offered_out hs ls n k x h all e =
    let a = h.few in let b = h.room in let c = h.room_lows in
    let l : length (rows_in hs ls n) ≡ k = length-take-le n (rows_of hs ls) (length_rows_of n hs ls (omega arith) (omega arith)) ∙ (let w : n ≡ k = omega arith in w) in
    record {
      held = h;
      rows = sym (ap (take k) (goes_last hs ls n x (held_part hs ls n k n n h (omega arith) (omega arith) a) e) ∙ take_at (rows_in hs ls n) (x ∷ []) k l);
      past = (refl, refl);
    }

-- fewer than k rows: the row is put in
pub offered_in : (hs ls : List ℕ) (n k : ℕ) (x : Row) (hs' ls' : List ℕ) → Held hs ls n k → n < k → length hs' ≡ length hs → length ls' ≡ length ls
    → Offered hs ls n (n + 1) x (n + 1) hs' ls' → Offered hs ls n k x (n + 1) hs' ls'
offered_in hs ls n k x hs' ls' h f lh ll o = let b = h.room in let c = h.room_lows in record {
  held = record { few = omega arith; room = omega arith; room_lows = omega arith; sorted = o.held.sorted };
  rows = o.rows ∙ sym (offer_room hs ls n (n + 1) x (omega arith)) ∙ offer_room hs ls n k x f;
  past = o.past;
}

-- k rows, the last of them not before the row: it is put in among the others, and the last is lost
pub offered_over : (hs ls : List ℕ) (m n k : ℕ) (x : Row) (hs' ls' : List ℕ) → Held hs ls n k → k ≤ n → n ≡ m + 1
    → row_order (row_of (get_or hs m 0) (get_or ls m 0)) x ≡ false → Offered hs ls m (m + 1) x (m + 1) hs' ls' → Offered hs ls n k x n hs' ls'
unfolding offer
offered_over hs ls m n k x hs' ls' h all more e o =
    let a = h.few in let b = h.room in let c = h.room_lows in
    let l : m < length (rows_of hs ls) = let w = length_rows_of (suc m) hs ls (omega arith) (omega arith) in omega arith in
    let size : length (insert_by row_order x (rows_in hs ls m)) ≡ suc m = length_ins row_order x (rows_in hs ls m) ∙ ap suc (length-take-le m (rows_of hs ls) (omega arith)) in
    let r : row_order (get_or (rows_of hs ls) m x) x ≡ false = ap (λ (y : Row). row_order y x) (rows_of_at m hs ls x (omega arith) (omega arith)) ∙ e in
    let wider : take (suc m) (insert_by row_order x (rows_in hs ls (suc m))) ≡ take (suc m) (insert_by row_order x (rows_in hs ls m)) =
    ap (λ (s : List Row). take (suc m) (insert_by row_order x s)) (take-suc (rows_of hs ls) m x l)
    ∙ ap (take (suc m)) (ins_snoc row_order x (get_or (rows_of hs ls) m x) (rows_in hs ls m) r)
    ∙ take-append-le (suc m) (insert_by row_order x (rows_in hs ls m)) (get_or (rows_of hs ls) m x ∷ []) (omega arith) in
    let one : k ≡ m + 1 = omega arith in
    rw (one, more) record { held = o.held; rows = o.rows ∙ rw (add-one m) (sym wider); past = o.past }

pub offered_same : (hs ls : List ℕ) (n k : ℕ) (w x : Row) (r : ℕ) (hs' ls' : List ℕ) → w ≡ x → Offered hs ls n k w r hs' ls' → Offered hs ls n k x r hs' ls'
offered_same hs ls n k w x r hs' ls' e o = rw (← e) o

-- a row behind the last of k rows
chosen : (a b c : Bool) → if a false (if b false c) ≡ true → (a ≡ false) × (b ≡ false) × (c ≡ true)
chosen true b c h = absurd (let z : ◌≡◌ {A = ℕ} 0 1 = ap indicator h in omega arith)
chosen false true c h = absurd (let z : ◌≡◌ {A = ℕ} 0 1 = ap indicator h in omega arith)
chosen false false c h = (refl, refl, h)

pub offered_behind : (hs ls : List ℕ) (n k : ℕ) (x : Row) → Held hs ls n k → behind_all hs n k x.distance ≡ true → Offered hs ls n k x n hs ls
offered_behind hs ls n k x h b =
    let c = chosen (ltb n k) (eqb k 0) (ltb (distance_in (get_or hs (k - 1) 0)) x.distance) b in
    let all : k ≤ n = ltb-false n k c.0 in
    let near : distance_in (get_or hs (k - 1) 0) < x.distance = ltb-true (distance_in (get_or hs (k - 1) 0)) x.distance c.2 in
    let f = h.few in
    let w : n ≡ k = omega arith in
    offered_out hs ls n k x h all (λ _. by_lower distance tie_order (row_of (get_or hs (n - 1) 0) (get_or ls (n - 1) 0)) x (rw w near))

-- two words of 64 bits hold the age of a stamp
last_bits : (tie : ℕ) → tie < 68719476736 → tie / 4294967296 < 16
last_bits tie h = omega arith

pub age_fits : (high low : ℕ) → low < 18446744073709551616 → high % 268435456 * 16 + low / 268435456 / 4294967296 ≤ 4294967295
age_fits high low h = let b = last_bits (low / 268435456) (omega arith) in omega arith

-- a row is that of its two words
pub row_again : (x : Row) → FitsWords x → x.id < 4294967296 → x.stamp < 4294967296 → row_of (high_of x) (low_of x) ≡ x
row_again x f i s =
    let p = f.placed in
    let o = age x in
    let t = age x % 16 * 4294967296 + x.id in
    let upper : low_of x / 268435456 ≡ t = omega arith in
    let d : distance_in (high_of x) ≡ x.distance = omega arith in
    let n : t % 4294967296 ≡ x.id = omega arith in
    let b : low_of x % 268435456 ≡ x.position = omega arith in
    let w : high_of x % 268435456 ≡ o / 16 = omega arith in
    let v : t / 4294967296 ≡ o % 16 = omega arith in
    let e : 4294967295 - (high_of x % 268435456 * 16 + low_of x / 268435456 / 4294967296) ≡ x.stamp = rw (w, upper, v) (omega arith) in
    λ j. record { distance = d j; id = (ap (λ (y : ℕ). y % 4294967296) upper ∙ n) j; stamp = e j; position = b j }

-- ---- the stop test

distance_at : (i n : ℕ) (hs ls : List ℕ) → i < n → i < length hs → i < length ls → get_or (map distance (rows_in hs ls n)) i 0 ≡ distance_in (get_or hs i 0)
unfolding rows_of
distance_at i zero hs ls f h g = absurd (omega arith)
distance_at i (suc n) [] ls f h g = absurd (omega arith)
distance_at i (suc n) (u ∷ hs) [] f h g = absurd (omega arith)
distance_at zero (suc n) (u ∷ hs) (v ∷ ls) f h g = refl
distance_at (suc i) (suc n) (u ∷ hs) (v ∷ ls) f h g = distance_at i n hs ls (omega arith) (omega arith) (omega arith)

-- a row is behind all k rows just if its distance exceeds the k-th
pub behind_exceeds : (passes : Row → Bool) (hs ls : List ℕ) (n k b : ℕ) → 1 ≤ k → n ≤ k → k ≤ length hs → k ≤ length ls
    → behind_all hs n k b ≡ nearest.exceeds (by_distance passes) k b (rows_in hs ls n)
unfolding nearest.exceeds kth
behind_exceeds passes hs ls n k b one few room room_lows =
    by_cases (ltb n k)
    (λ e. let q : length (rows_in hs ls n) < k = rw (length-take n (rows_of hs ls)) (omega (arith, ltb-true n k e)) in
    rw (e, lt-leb k (length (rows_in hs ls n)) q))
    (λ e. let all : k ≤ n = ltb-false n k e in
    let q : k ≤ length (rows_of hs ls) = length_rows_of k hs ls room room_lows in
    let f : k ≤ length (rows_in hs ls n) = rw (length-take n (rows_of hs ls)) (omega arith) in
    rw (e, ne_eqb k 0 (omega arith), le-leb k (length (rows_in hs ls n)) f, distance_at (k - 1) n hs ls (omega arith) (omega arith) (omega arith)))
