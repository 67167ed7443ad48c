-- An index has fewer than 15 levels, for it has at most 16,384 pages: the level of a root fits its byte, a new root's too.
use Rattle.std.specs.Prelude.{◌≡◌, List, ◌++◌, ℕ, zero, suc, ◌+◌, ◌≤◌, ◌<◌, length}
use Rattle.std.proofs.Common.{arith, length-append}
use Rattle.lists.specs.Basics.{indicator, All, none, also, concat_map}
use Rattle.lists.specs.Choices.{indicator_le, indicator_true}
use Rattle.lists.specs.Counts.{mult, pigeons, all_of_mult}
use Rattle.pagestore.specs.Store.{in_range, free_at}
use Rattle.pagestore.specs.Store.RangeLaws.{range_fits}
use Rattle.tree_model.specs.Trees.{Item, pages}
use Rattle.tree_laws.specs.Shapes.{Ok, Some, Root}

pow2 : ℕ → ℕ
pow2 zero = 1
pow2 (suc l) = pow2 l + pow2 l

pow2_some : (l : ℕ) → 0 < pow2 l
unfolding pow2
pow2_some zero = omega arith
pow2_some (suc l) = omega (arith, pow2_some l)

deep : (n l : ℕ) → pow2 l < pow2 n → l < n
unfolding pow2
deep zero zero h = absurd (omega arith)
deep zero (suc l) h = absurd (omega (arith, pow2_some l))
deep (suc n) zero h = omega arith
deep (suc n) (suc l) h = let ih : l < n = deep n l (omega arith) in omega arith

two_many : {A : Type 0} (f : A → List ℕ) (n : ℕ) {ts : List A} → 2 ≤ length ts → All (λ t. n ≤ length (f t)) ts → n + n ≤ length (concat_map f ts)
unfolding concat_map
two_many f n h none = absurd (omega arith)
two_many f n h (also p none) = absurd (omega arith)
two_many f n h (also {x = x} p (also {x = y} {xs = xs} q a)) = omega (arith, length-append (f x) (f y ++ concat_map f xs), length-append (f y) (concat_map f xs))

kids_many : (l : ℕ) → ((t : Item (suc l)) → Ok (suc l) t → pow2 l ≤ length (pages (suc l) t)) → {ts : List (Item (suc l))} → All (Ok (suc l)) ts → All (λ t. pow2 l ≤ length (pages (suc l) t)) ts
kids_many l f none = none
kids_many l f (also {x = t} o a) = also (f t o) (kids_many l f a)

pages_many : (l : ℕ) (t : Item (suc l)) → Ok (suc l) t → pow2 l ≤ length (pages (suc l) t)
unfolding pow2 pages Ok
pages_many zero t o = omega arith
pages_many (suc l) t o = let m = two_many (pages (suc l)) (pow2 l) (omega arith) (kids_many l (pages_many l) o.2) in omega arith

root_many : (l : ℕ) (t : Item (suc l)) → Root l t → pow2 l ≤ length (pages (suc l) t)
unfolding pow2 pages Some
root_many zero t o = omega arith
root_many (suc l) t o = let m = two_many (pages (suc l)) (pow2 l) o.some (kids_many l (pages_many l) o.subs) in omega arith

pub level_small : (b : List ℕ) (l : ℕ) (t : Item (suc l)) → Root l t → ((q : ℕ) → mult q (pages (suc l) t) + mult q (free_at b) ≡ indicator (in_range b q)) → l < 15
unfolding pow2
level_small b l t o own =
    let few =
    pigeons 16384 (all_of_mult (pages (suc l) t) (λ q g. range_fits b q (indicator_true (in_range b q) (omega (arith, own q))))) (λ q. omega (arith, own q, indicator_le (in_range b q))) in
    deep 15 l (omega (arith, root_many l t o))
