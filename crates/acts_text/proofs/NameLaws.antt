-- A line is read as the names of d coordinates exactly if it is `names d` and d is 1 to 16: `names_reads`, `names_writes`.
-- Both are computed over all lengths and all d, of which there are few.
use Rattle.std.proofs.Common.{◌≡◌, refl, sym, ap, ◌∙◌, Bool, true, false, List, [], ◌∷◌, ℕ, ◌≤◌, ltb, eqb, leb, length, take, Option, Some, None, arith, length-take, take_all, eqb-true, ltb-true, ltb-false, leb-true, ne_eqb}
use Rattle.std.proofs.lemmas.Option.{none-some}
use Rattle.lists.specs.Basics.{if}
use Rattle.lists.specs.Tests.{false_true, by_cases}
use Rattle.lists.specs.Below.{all_below, all_below_law}
use Rattle.lists.specs.Equal.{same, same_is}
use Rattle.acts_fields.specs.Decimal.{decimal}
use Rattle.acts_text.specs.Names.{names, all_names, is_prefix, features_in, names_in}
use Rattle.acts_text.specs.Input.{kept}
use Rattle.acts_text.proofs.PrefixLaws.{names_in_law, names_out, prefix_long}

-- a length that some line of names has is that of `names d`, with d from 1 to 16, and the table begins with it
unfoldable right_at : ℕ → Option ℕ → Bool
right_at n None = true
right_at n (Some d) = if (leb 1 d) (if (leb d 16) (same (take n all_names) (names d)) false) false

unfoldable right : ℕ → Bool
right n = right_at n (features_in n)

all_right : all_below 75 right ≡ true
unfolding all_below right right_at same names decimal features_in
all_right = refl

unfoldable back_at : ℕ → Option ℕ → Bool
back_at d None = false
back_at d (Some n) = eqb n d

unfoldable back : ℕ → Bool
back d = if (eqb d 0) true (back_at d (names_in (names d)))

all_back : all_below 17 back ≡ true
unfolding all_below back back_at names decimal is_prefix features_in names_in
all_back = refl

back_is : (d : ℕ) (o : Option ℕ) → back_at d o ≡ true → o ≡ Some d
unfolding back_at
back_is d None h = false_true h
back_is d (Some n) h = ap Some (eqb-true n d h)

-- the line of d names is read as d
pub names_reads : (d : ℕ) → 1 ≤ d → d ≤ 16 → names_in (names d) ≡ Some d
unfolding back
names_reads d h k =
    let e : eqb d 0 ≡ false = ne_eqb d 0 (λ x. omega (arith, x)) in
    back_is d (names_in (names d)) (sym (ap (λ (b : Bool). if b true (back_at d (names_in (names d)))) e) ∙ all_below_law 17 back all_back d (omega arith))

prefix_take : (l t : List ℕ) → is_prefix l t ≡ true → (l ≡ take (length l) t) × (length l ≤ length t)
unfolding is_prefix
prefix_take [] t h = (refl, omega arith)
prefix_take (x ∷ l) [] h = false_true h
prefix_take (x ∷ l) (y ∷ t) h = by_cases (eqb x y)
    (λ e. let i = prefix_take l t (rw e at h) in let g = i.1 in
    (ap (λ (z : ℕ). z ∷ l) (eqb-true x y e) ∙ ap (λ (zs : List ℕ). y ∷ zs) i.0, omega arith))
    (λ e. false_true (rw e at h))

right_is : (n d : ℕ) → right_at n (Some d) ≡ true → (take n all_names ≡ names d) × (1 ≤ d) × (d ≤ 16)
unfolding right_at
right_is n d h = by_cases (leb 1 d)
    (λ e. by_cases (leb d 16)
    (λ f. (same_is (take n all_names) (names d) (rw (e, f) at h), leb-true 1 d e, leb-true d 16 f))
    (λ f. false_true (rw (e, f) at h)))
    (λ e. false_true (rw e at h))

-- and a line that is read as d is the line of d names, and d is 1 to 16
pub names_writes : (l : List ℕ) (d : ℕ) → names_in l ≡ Some d → (l ≡ names d) × (1 ≤ d) × (d ≤ 16)
unfolding right
names_writes l d h = by_cases (is_prefix l all_names)
    (λ e. let n : features_in (length l) ≡ Some d = names_in_law (features_in (length l)) l e refl ∙ h in
    let p = prefix_take l all_names e in
    let g : length l ≤ 74 = p.1 in
    let r = right_is (length l) d (ap (right_at (length l)) (sym n) ∙ all_below_law 75 right all_right (length l) (omega arith)) in
    (p.0 ∙ r.0, r.1, r.2))
    (λ e. absurd (none-some d (names_out l e ∙ h)))

-- what is kept of a line is enough to read it
pub names_kept : (l : List ℕ) → names_in (kept l) ≡ names_in l
names_kept l = by_cases (ltb 257 (length l))
    (λ e. let g = ltb-true 257 (length l) e in let m = length-take 257 l in
    sym (names_out (kept l) (sym (prefix_long (kept l) all_names (omega arith)))) ∙ names_out l (sym (prefix_long l all_names (omega arith))))
    (λ e. ap names_in (take_all 257 l (ltb-false 257 (length l) e)))
