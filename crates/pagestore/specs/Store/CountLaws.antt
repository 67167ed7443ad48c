-- How many pages are free, along the chain of freed pages.
use Rattle.std.specs.Prelude.{◌≡◌, true, false, List, ℕ, suc, ◌+◌, ◌-◌, ◌≤◌, ◌<◌, length}
use Rattle.std.proofs.Common.{sym, ap, ◌∙◌, arith, length-append}
use Rattle.lists.specs.Basics.{length_range_from}
use Rattle.lists.specs.Tests.{by_cases}
use Rattle.pagestore.specs.Store.{freed, fresh, field_at, in_range, pages_in, link_at, chain, freed_at, fresh_at, free_at}
use Rattle.pagestore.specs.Store.RangeLaws.{pages_few}
use Rattle.pagestore.specs.Store.ChainLaws.{chain_out, chain_in, chain_most}

-- how many pages the chain still has from page p on, once n links have been followed
unfoldable pub chain_left : List ℕ → ℕ → ℕ → ℕ
chain_left b n p = length (chain (pages_in b - n) b p)

pub left_first : (b : List ℕ) → chain_left b 0 (field_at freed b) ≡ length (freed_at b)
unfolding chain_left freed_at
left_first b = ap (λ (m : ℕ). length (chain m b (field_at freed b))) (let e : pages_in b - 0 ≡ pages_in b = omega arith in e)

pub left_none : (b : List ℕ) (n p : ℕ) → in_range b p ≡ false → chain_left b n p ≡ 0
unfolding chain_left
left_none b n p e = ap length (chain_out (pages_in b - n) b p e)

pub left_next : (b : List ℕ) (n p : ℕ) → n < pages_in b → in_range b p ≡ true → chain_left b n p ≡ suc (chain_left b (n + 1) (link_at b p))
unfolding chain_left
left_next b n p h e =
    ap (λ (m : ℕ). length (chain m b p)) (let s : pages_in b - n ≡ suc (pages_in b - (n + 1)) = omega arith in s) ∙ ap length (chain_in (pages_in b - (n + 1)) b p e)

pub left_end : (b : List ℕ) (n p : ℕ) → pages_in b ≤ n → chain_left b n p ≡ 0
unfolding chain_left chain
left_end b n p h = ap (λ (m : ℕ). length (chain m b p)) (let s : pages_in b - n ≡ 0 = omega arith in s)

pub fresh_some : (b : List ℕ) → in_range b (field_at fresh b) ≡ true → length (fresh_at b) ≡ pages_in b - field_at fresh b
unfolding fresh_at
fresh_some b e = rw e (length_range_from (field_at fresh b) (pages_in b - field_at fresh b))

pub fresh_none : (b : List ℕ) → in_range b (field_at fresh b) ≡ false → length (fresh_at b) ≡ 0
unfolding fresh_at
fresh_none b e = rw e

pub free_both : (b : List ℕ) → length (free_at b) ≡ length (freed_at b) + length (fresh_at b)
unfolding free_at
free_both b = length-append (freed_at b) (fresh_at b)

-- each number fits
pub freed_most : (b : List ℕ) → length (freed_at b) ≤ 16384
unfolding freed_at
freed_most b = omega (arith, chain_most (pages_in b) b (field_at freed b), pages_few b)

pub fresh_most : (b : List ℕ) → length (fresh_at b) ≤ 16384
fresh_most b = by_cases (in_range b (field_at fresh b)) (λ e. omega (arith, fresh_some b e, pages_few b)) (λ e. omega (arith, fresh_none b e))

-- ---- THE WALK ALONG THE CHAIN, over the values of the code

pub walk_first : (b : List ℕ) (p : ℕ) → p ≡ field_at freed b → 0 + chain_left b 0 p ≡ length (freed_at b)
walk_first b p e = omega (arith, ap (chain_left b 0) e, left_first b)

pub walk_stops : (b : List ℕ) (n p l : ℕ) → n + chain_left b n p ≡ l → in_range b p ≡ false → n ≡ l
walk_stops b n p l h e = omega (arith, left_none b n p e)

pub walk_next : (b : List ℕ) (n p q l : ℕ) → n < pages_in b → in_range b p ≡ true → q ≡ link_at b p → n + chain_left b n p ≡ l → n + 1 + chain_left b (n + 1) q ≡ l
walk_next b n p q l w e f h = omega (arith, left_next b n p w e, ap (chain_left b (n + 1)) f)

pub walk_ends : (b : List ℕ) (n p l : ℕ) → n + chain_left b n p ≡ l → pages_in b ≤ n → n ≡ l
walk_ends b n p l h w = omega (arith, left_end b n p w)

pub fresh_counted : (b : List ℕ) (f n : ℕ) → f ≡ field_at fresh b → in_range b f ≡ true → n ≡ pages_in b → n - f ≡ length (fresh_at b)
fresh_counted b f n e r s = omega (arith, fresh_some b (ap (in_range b) (sym e) ∙ r))

pub fresh_absent : (b : List ℕ) (f : ℕ) → f ≡ field_at fresh b → in_range b f ≡ false → 0 ≡ length (fresh_at b)
fresh_absent b f e r = omega (arith, fresh_none b (ap (in_range b) (sym e) ∙ r))
