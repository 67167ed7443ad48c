-- page-laws: which pages an index has. They go by its length alone. Assumes nothing.
use Rattle.std.specs.Prelude.{◌≡◌, refl, Bool, true, false, ◌&&◌, List, ℕ, ◌+◌, ◌-◌, ◌*◌, ◌/◌, ◌^◌, min, ◌≤◌, ◌<◌, ltb, length}
use Rattle.std.proofs.Common.{sym, arith, ltb-true, ltb-false, lt-ltb}
use Rattle.pagestore.specs.Store.{pages_in, in_range}

pub pages_few : (b : List ℕ) → pages_in b ≤ 16384
unfolding pages_in
pages_few b = omega arith

both : (s t : Bool) → s && t ≡ true → (s ≡ true) × (t ≡ true)
both true true e = (refl, refl)
both true false e = absurd (let z : ◌≡◌ {A = Bool} true false = sym e in let y : ◌≡◌ {A = ℕ} 0 1 = cc in omega arith)
both false t e = absurd (let z : ◌≡◌ {A = Bool} false true = e in let y : ◌≡◌ {A = ℕ} 0 1 = cc in omega arith)

-- a page in range is a whole page of the index, other than the header
pub range_low : (b : List ℕ) (p : ℕ) → in_range b p ≡ true → 0 < p
unfolding in_range
range_low b p h = ltb-true 0 p (both (ltb 0 p) (ltb p (pages_in b)) h).0

pub range_high : (b : List ℕ) (p : ℕ) → in_range b p ≡ true → p < pages_in b
unfolding in_range
range_high b p h = ltb-true p (pages_in b) (both (ltb 0 p) (ltb p (pages_in b)) h).1

pub range_fits : (b : List ℕ) (p : ℕ) → in_range b p ≡ true → p < 2 ^ 14
range_fits b p h = omega (arith, range_high b p h, pages_few b)

pub range_whole : (b : List ℕ) (p : ℕ) → in_range b p ≡ true → p * 1024 + 1024 ≤ length b
unfolding pages_in
range_whole b p h = let g : p < min (length b / 1024) 16384 = range_high b p h in omega arith

pub range_is : (b : List ℕ) (p : ℕ) → 0 < p → p < pages_in b → in_range b p ≡ true
unfolding in_range
range_is b p l h = rw (lt-ltb 0 p l, lt-ltb p (pages_in b) h)

pub range_zero : (b : List ℕ) → in_range b 0 ≡ false
unfolding in_range
range_zero b = refl

pub range_past : (b : List ℕ) (p : ℕ) → 0 < p → in_range b p ≡ false → pages_in b - p ≡ 0
unfolding in_range
range_past b p l h = let g : ltb p (pages_in b) ≡ false = rw (lt-ltb 0 p l) at h in omega (arith, ltb-false p (pages_in b) g)

-- they go by the length alone
pub pages_same : (b c : List ℕ) → length c ≡ length b → pages_in c ≡ pages_in b
unfolding pages_in
pages_same b c e = rw e

pub range_same : (b c : List ℕ) (q : ℕ) → length c ≡ length b → in_range c q ≡ in_range b q
unfolding in_range
range_same b c q e = rw (pages_same b c e)
