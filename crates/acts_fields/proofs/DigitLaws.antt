-- Steps of reading a field, each in the form of a branch of the code.
use Rattle.std.proofs.Common.{◌≡◌, refl, sym, ap, ◌∙◌, ◌≢◌, ◌⊎◌, inl, inr, true≢false, eqb-true, nat_eq, Bool, true, false, List, [], ◌∷◌, ℕ, zero, suc, ◌+◌, ◌-◌, ◌*◌, ◌≤◌, ◌<◌, ltb, ℤ, pos, ◌-ℤ◌, length, take, drop, get_or, Option, Some, None, option_map, option_and_then, arith, add-one, drop-cons, lt-ltb, le-ltb, eq-eqb, ne_eqb}
use Rattle.std.proofs.lemmas.Int.{ints}
use Rattle.std.specs.Cmp.Lexicographic.{pointwise}
use Rattle.lists.specs.Tests.{by_cases}
use Rattle.acts_fields.specs.Fields.{with_digit, value_from, ill_formed, natural, negative, signed}

pub with_digit_not : (cap a b : ℕ) → (b < 48) ⊎ (57 < b) → None ≡ with_digit cap a b
unfolding with_digit
with_digit_not cap a b (inl h) = rw lt-ltb
with_digit_not cap a b (inr h) = rw (le-ltb b 48 (omega arith), lt-ltb 57 b h)

pub with_digit_over : (cap a b v : ℕ) → 48 ≤ b → b ≤ 57 → v ≡ a * 10 + (b - 48) → cap < v → None ≡ with_digit cap a b
unfolding with_digit
with_digit_over cap a b v h k e o = rw (le-ltb b 48 h, le-ltb 57 b k, ← e, lt-ltb cap v o)

pub with_digit_fits : (cap a b v : ℕ) → 48 ≤ b → b ≤ 57 → v ≡ a * 10 + (b - 48) → v ≤ cap → Some v ≡ with_digit cap a b
unfolding with_digit
with_digit_fits cap a b v h k e o = rw (le-ltb b 48 h, le-ltb 57 b k, ← e, le-ltb cap v o)

pub drop_end : (f : List ℕ) (i : ℕ) → length f ≤ i → drop i f ≡ []
drop_end [] zero h = refl
drop_end [] (suc i) h = refl
drop_end (x ∷ f) zero h = absurd (omega (arith, h))
drop_end (x ∷ f) (suc i) h = drop_end f i (omega (arith, h))

-- the digit at i is taken, or it ends the reading
pub value_step : (cap a v : ℕ) (f : List ℕ) (i : ℕ) → i < length f → Some v ≡ with_digit cap a (get_or f i 0) → value_from cap v (drop (i + 1) f) ≡ value_from cap a (drop i f)
unfolding value_from
value_step cap a v f i h e = rw (add-one, drop-cons f i 0 h, ← e)

pub value_stop : (cap a : ℕ) (f : List ℕ) (i : ℕ) → i < length f → None ≡ with_digit cap a (get_or f i 0) → None ≡ value_from cap a (drop i f)
unfolding value_from
value_stop cap a f i h e = rw (drop-cons f i 0 h, ← e)

pub value_end : (cap a : ℕ) (f : List ℕ) (i : ℕ) → length f ≤ i → Some a ≡ value_from cap a (drop i f)
unfolding value_from
value_end cap a f i h = rw (drop_end f i h)

pub ill_formed_none : (r : Bool) (f : List ℕ) → r ≡ true → length f ≡ 0 → r ≡ ill_formed f
unfolding ill_formed
ill_formed_none r f e h = rw (eq-eqb (length f) 0 h) e

pub ill_formed_zero : (f : List ℕ) → length f ≢ 0 → get_or f 0 0 ≡ 48 → ltb 1 (length f) ≡ ill_formed f
unfolding ill_formed
ill_formed_zero f h k = rw (ne_eqb (length f) 0 h, eq-eqb (get_or f 0 0) 48 k)

pub ill_formed_not : (r : Bool) (f : List ℕ) → r ≡ false → length f ≢ 0 → get_or f 0 0 ≢ 48 → r ≡ ill_formed f
unfolding ill_formed
ill_formed_not r f e h k = rw (ne_eqb (length f) 0 h, ne_eqb (get_or f 0 0) 48 k) e

pub natural_bad : (cap : ℕ) (f : List ℕ) → ill_formed f ≡ true → None ≡ natural cap f
unfolding natural
natural_bad cap f h = rw h

pub natural_value : (cap : ℕ) (v : Option ℕ) (f : List ℕ) → ill_formed f ≡ false → v ≡ value_from cap 0 f → v ≡ natural cap f
unfolding natural
natural_value cap v f h e = rw h e

pub negative_none : (m : ℕ) → m ≡ 0 → None ≡ negative m
unfolding negative
negative_none zero h = refl
negative_none (suc m) h = absurd (omega (arith, h))

pub negative_some : (m : ℕ) (z : ℤ) → m ≢ 0 → z ≡ pos 0 -ℤ pos m → Some z ≡ negative m
unfolding negative
negative_some zero z h e = absurd (h refl)
negative_some (suc m) z h e = ap Some (e ∙ omega (arith, ints))

-- the test for a minus, as the code does it
pub minus_first : (f : List ℕ) → pointwise nat_eq (take 1 f) (45 ∷ []) ≡ true → get_or f 0 0 ≡ 45
minus_first [] h = absurd (true≢false (sym h))
minus_first (x ∷ f) h = by_cases (nat_eq x 45) (λ e. eqb-true x 45 e) (λ e. absurd (true≢false (sym (rw e at h))))

pub minus_not : (f : List ℕ) → pointwise nat_eq (take 1 f) (45 ∷ []) ≡ false → get_or f 0 0 ≢ 45
minus_not [] h e = omega (arith, e)
minus_not (x ∷ f) h e = absurd (true≢false (rw (eq-eqb x 45 e) at h))

-- a field with a minus, of which d is what stands behind it
pub signed_minus : (f d : List ℕ) (n : Option ℕ) (r : Option ℤ) → get_or f 0 0 ≡ 45 → d ≡ drop 1 f → n ≡ natural 32768 d → r ≡ option_and_then negative n → r ≡ signed f
unfolding signed
signed_minus f d n r h e i k = rw (eq-eqb (get_or f 0 0) 45 h) (k ∙ ap (option_and_then negative) (i ∙ ap (natural 32768) e))

pub signed_plain : (f : List ℕ) (n : Option ℕ) (r : Option ℤ) → get_or f 0 0 ≢ 45 → n ≡ natural 32767 f → r ≡ option_map pos n → r ≡ signed f
unfolding signed
signed_plain f n r h i k = rw (ne_eqb (get_or f 0 0) 45 h) (k ∙ ap (option_map pos) i)
