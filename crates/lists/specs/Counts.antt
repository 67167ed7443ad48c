-- How often a number stands in a list; distinct numbers below n are at most n.
use Rattle.std.specs.Prelude.{◌≡◌, refl, Bool, true, false, ◌&&◌, ◌≢◌, List, [], ◌∷◌, ◌++◌, ℕ, zero, suc, ◌+◌, ◌≤◌, ◌<◌, ltb, eqb, length}
use Rattle.std.proofs.Common.{sym, ap, ◌∙◌, arith, ltb-true, lt-ltb, eqb-true, eq-eqb, ne_eqb}
use Rattle.std.proofs.lemmas.Bool.{eqb-false}
use Rattle.lists.specs.Basics.{indicator, All, none, also, range_from}
use Rattle.lists.specs.Tests.{by_cases}

-- how often q stands in the list
unfoldable pub mult : ℕ → List ℕ → ℕ
mult q [] = 0
mult q (x ∷ xs) = indicator (eqb q x) + mult q xs

-- none stands in the list that has none
pub mult_none : (q : ℕ) → mult q [] ≡ 0
unfolding mult
mult_none q = refl

pub mult_append : (q : ℕ) (xs ys : List ℕ) → mult q (xs ++ ys) ≡ mult q xs + mult q ys
unfolding mult
mult_append q [] ys = omega arith
mult_append q (x ∷ xs) ys = omega (arith, mult_append q xs ys)

pub mult_more : (q p : ℕ) (xs : List ℕ) → mult q xs ≤ mult q (p ∷ xs)
unfolding mult
mult_more q p xs = omega arith

pub mult_self : (q : ℕ) (xs : List ℕ) → mult q (q ∷ xs) ≡ 1 + mult q xs
unfolding mult
mult_self q xs = rw (eq-eqb q q refl)

pub mult_not : (q p : ℕ) (xs : List ℕ) → q ≢ p → mult q (p ∷ xs) ≡ mult q xs
unfolding mult
mult_not q p xs f = omega (arith, ap indicator (ne_eqb q p f))

-- what stands nowhere in a list is not its first element
pub absent : (q p : ℕ) (xs : List ℕ) → mult q (p ∷ xs) ≡ 0 → q ≢ p
unfolding mult
absent q p xs h e = omega (arith, ap indicator (eq-eqb q p e))

pub all_of_mult : {P : ℕ → Type 0} (xs : List ℕ) → ((q : ℕ) → 0 < mult q xs → P q) → All P xs
all_of_mult [] f = none
all_of_mult (x ∷ xs) f = also (f x (omega (arith, mult_self x xs))) (all_of_mult xs (λ q h. f q (omega (arith, mult_more q x xs))))

pub mult_of_all : {P : ℕ → Type 0} {xs : List ℕ} → All P xs → (q : ℕ) → 0 < mult q xs → P q
unfolding mult
mult_of_all none q h = absurd (omega arith)
mult_of_all {P} (also {x = x} {xs = xs} a t) q h =
    by_cases (eqb q x) (λ e. let g : q ≡ x = eqb-true q x e in rw g a) (λ e. mult_of_all t q (omega (arith, ap indicator e)))

-- ---- numbers counted up

pub range_from_below : (q a n : ℕ) → q < a → mult q (range_from a n) ≡ 0
unfolding range_from mult
range_from_below q a zero h = refl
range_from_below q a (suc n) h = mult_not q a (range_from (suc a) n) (λ (e : q ≡ a). omega arith) ∙ range_from_below q (suc a) n (omega arith)

pub range_from_past : (q a n : ℕ) → a + n ≤ q → mult q (range_from a n) ≡ 0
unfolding range_from mult
range_from_past q a zero h = refl
range_from_past q a (suc n) h = mult_not q a (range_from (suc a) n) (λ (e : q ≡ a). omega arith) ∙ range_from_past q (suc a) n (omega arith)

pub range_from_within : (q a n : ℕ) → a ≤ q → q < a + n → mult q (range_from a n) ≡ 1
unfolding range_from mult
range_from_within q a zero h g = absurd (omega arith)
range_from_within q a (suc n) h g =
    by_cases (eqb q a)
    (λ e. let same : q ≡ a = eqb-true q a e in omega (arith, ap indicator e, range_from_below q (suc a) n (omega arith)))
    (λ e. let other : q ≢ a = eqb-false q a e in
    mult_not q a (range_from (suc a) n) other ∙ range_from_within q (suc a) n (omega (arith, other)) (omega arith))

-- ---- distinct numbers below n are at most n

-- f at 0, 1, .. up to n - 1, added up
sum : (ℕ → ℕ) → ℕ → ℕ
sum f zero = 0
sum f (suc n) = f n + sum f n

sum_le : (f : ℕ → ℕ) (n : ℕ) → ((q : ℕ) → f q ≤ 1) → sum f n ≤ n
unfolding sum
sum_le f zero h = omega arith
sum_le f (suc n) h = omega (arith, h n, sum_le f n h)

sum_add : (f g : ℕ → ℕ) (n : ℕ) → sum (λ q. f q + g q) n ≡ sum f n + sum g n
unfolding sum
sum_add f g zero = refl
sum_add f g (suc n) = omega (arith, sum_add f g n)

sum_zero : (n : ℕ) → sum (λ q. 0) n ≡ 0
unfolding sum
sum_zero zero = refl
sum_zero (suc n) = omega (arith, sum_zero n)

sum_past : (x n : ℕ) → n ≤ x → sum (λ q. indicator (eqb q x)) n ≡ 0
unfolding sum
sum_past x zero h = refl
sum_past x (suc n) h = omega (arith, sum_past x n (omega arith), ap indicator (ne_eqb n x (λ (e : n ≡ x). omega arith)))

sum_one : (x n : ℕ) → x < n → sum (λ q. indicator (eqb q x)) n ≡ 1
unfolding sum
sum_one x zero h = absurd (omega arith)
sum_one x (suc n) h =
    by_cases (eqb n x)
    (λ e. let same : n ≡ x = eqb-true n x e in omega (arith, ap indicator e, sum_past x n (omega arith)))
    (λ e. let other : n ≢ x = eqb-false n x e in let l : x < n = omega (arith, other) in omega (arith, ap indicator e, sum_one x n l))

sum_length : (n : ℕ) {xs : List ℕ} → All (λ x. x < n) xs → sum (λ q. mult q xs) n ≡ length xs
unfolding mult
sum_length n none = sum_zero n
sum_length n (also {x = x} {xs = xs} h t) =
    sum_add (λ q. indicator (eqb q x)) (λ q. mult q xs) n ∙ omega (arith, sum_one x n h, sum_length n t)

pub pigeons : (n : ℕ) {xs : List ℕ} → All (λ x. x < n) xs → ((q : ℕ) → mult q xs ≤ 1) → length xs ≤ n
pigeons n {xs} a h = omega (arith, sum_length n a, sum_le (λ q. mult q xs) n h)

sum_ext : (f g : ℕ → ℕ) (n : ℕ) → ((q : ℕ) → q < n → f q ≡ g q) → sum f n ≡ sum g n
unfolding sum
sum_ext f g zero h = refl
sum_ext f g (suc n) h = omega (arith, h n (omega arith), sum_ext f g n (λ q l. h q (omega arith)))

sum_above : (n : ℕ) → sum (λ q. indicator (ltb 0 q)) (suc n) ≡ n
unfolding sum
sum_above zero = refl
sum_above (suc n) = omega (arith, ap indicator (lt-ltb 0 (suc n) (omega arith)), sum_above n)

and_true : (t : Bool) → t && true ≡ t
and_true true = refl
and_true false = refl

and_false : (t : Bool) → t && false ≡ false
and_false true = refl
and_false false = refl

-- a list with each number from 1 up to n once, and no other
pub length_once : (n : ℕ) (xs : List ℕ) → ((q : ℕ) → mult q xs ≡ indicator (ltb 0 q && ltb q (suc n))) → length xs ≡ n
length_once n xs h =
    let few : All (λ x. x < suc n) xs =
    all_of_mult xs (λ q g. by_cases (ltb q (suc n)) (λ e. ltb-true q (suc n) e)
    (λ e. absurd (let z : mult q xs ≡ 0 = h q ∙ ap indicator (ap (λ (t : Bool). ltb 0 q && t) e ∙ and_false (ltb 0 q)) in omega arith))) in
    sym (sum_length (suc n) few)
    ∙ sum_ext (λ q. mult q xs) (λ q. indicator (ltb 0 q)) (suc n) (λ q l. h q ∙ ap indicator (ap (λ (t : Bool). ltb 0 q && t) (lt-ltb q (suc n) l) ∙ and_true (ltb 0 q)))
    ∙ sum_above n
