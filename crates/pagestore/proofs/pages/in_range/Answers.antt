use Rattle.std.proofs.Common.{◌≡◌, refl, ◌∙◌, Bool, true, false, cond, ℕ, zero, suc, ltb, eqb, Less, Equal, Greater, is_lt, is_le, nat_cmp, lt-ltb, arith}
use Rattle.pagestore.specs.Store.{in_range}
use Rattle.pagestore.proofs.pages.in_range.Goals as goal

-- the comparisons of a range's `contains`, as tests
lt_is : (a b : Bool) → is_lt (cond a Less (cond b Equal Greater)) ≡ a
lt_is true b = refl
lt_is false true = refl
lt_is false false = refl

positive : (p : ℕ) → is_le (nat_cmp 1 p) ≡ ltb 0 p
positive zero = refl
positive (suc zero) = refl
positive (suc (suc p)) = rw (lt-ltb 1 (suc (suc p)) (omega arith), lt-ltb 0 (suc (suc p)) (omega arith))

pub returns : goal.returns
unfolding in_range
returns c = c.contains.ensures.value ∙ rw (positive c.args.page, lt_is (ltb c.args.page c.page_count.result) (eqb c.args.page c.page_count.result), c.page_count.ensures)
