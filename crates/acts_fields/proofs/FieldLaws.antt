-- A field is readable exactly if it is the decimal writing of its value: `natural_reads`, `natural_writes`, `signed_reads`, `signed_writes`.
use Rattle.std.proofs.Common.{◌≡◌, refl, sym, ap, ◌∙◌, subst, ◌≢◌, inl, inr, false, List, [], ◌∷◌, ◌++◌, ℕ, zero, suc, ◌+◌, ◌-◌, ◌*◌, ◌/◌, ◌%◌, ◌≤◌, ◌<◌, ltb, ℤ, pos, negsuc, length, drop, get_or, Option, Some, None, option_map, option_and_then, arith, append_assoc, append-nil, length-append, ltb-true, ltb-false, lt-ltb}
use Rattle.std.proofs.lemmas.Option.{none-some, same_Some, option_and_then_some}
use Rattle.lists.specs.Basics.{All, none, also, all_append}
use Rattle.lists.specs.Tests.{false_true, by_cases, decide}
use Rattle.acts_fields.specs.Decimal.{decimal, text, signed_text}
use Rattle.acts_fields.specs.Fields.{with_digit, value_from, ill_formed, natural, negative, signed, Coordinate}
use Rattle.acts_fields.proofs.DigitLaws.{with_digit_fits, with_digit_not, with_digit_over, ill_formed_zero, ill_formed_not, natural_value, signed_minus, signed_plain}
use Rattle.acts_fields.proofs.StoreLaws.{decimal_small, decimal_more}
use lib.ListN.{get_or-append}

-- numbers of k + 1 digits lie below it
unfoldable pub room : ℕ → ℕ
room zero = 10
room (suc k) = 10 * room k

-- ---- a number's writing is read as that number

last_value : (cap a n : ℕ) → n ≤ cap → a ≡ n / 10 → value_from cap a ((48 + n % 10) ∷ []) ≡ Some n
unfolding value_from
last_value cap a n h e =
    let d : Some n ≡ with_digit cap a (48 + n % 10) = with_digit_fits cap a (48 + n % 10) n (omega arith) (omega arith) (omega arith) h in rw (← d)

value_append : (cap a w : ℕ) (f g : List ℕ) → value_from cap a f ≡ Some w → value_from cap a (f ++ g) ≡ value_from cap w g
unfolding value_from
value_append cap a w [] g h = ap (λ (x : ℕ). value_from cap x g) (same_Some a w h)
value_append cap a w (x ∷ f) g h = option_and_then_some (λ v. value_from cap v f) (with_digit cap a x) w h (λ v e i. rw e (value_append cap v w f g i))

value : (cap k n : ℕ) → n ≤ cap → n < room k → value_from cap 0 (decimal k n) ≡ Some n
unfolding decimal room
value cap zero n h r = last_value cap 0 n h (omega arith)
value cap (suc k) n h r = by_cases (ltb n 10)
    (λ e. let t = ltb-true n 10 e in rw e (last_value cap 0 n h (omega arith)))
    (λ e. let t = ltb-false n 10 e in rw e (value_append cap 0 (n / 10) (decimal k (n / 10)) ((48 + n % 10) ∷ []) (value cap k (n / 10) (omega arith) (omega arith))
    ∙ last_value cap (n / 10) n h refl))

-- it has digits
pub some : (k n : ℕ) → 0 < length (decimal k n)
unfolding decimal
some zero n = omega arith
some (suc k) n = by_cases (ltb n 10) (λ e. rw e (omega arith)) (λ e. rw e (simp length-append (omega arith)))

head : (k n : ℕ) → 0 < n → n < room k → get_or (decimal k n) 0 0 ≢ 48
unfolding decimal room
head zero n h r = λ e. omega (arith, e)
head (suc k) n h r = by_cases (ltb n 10)
    (λ e. let t = ltb-true n 10 e in rw e (λ x. omega (arith, x)))
    (λ e. let t = ltb-false n 10 e in rw e (λ x. head k (n / 10) (omega arith) (omega arith) (sym (get_or-append (decimal k (n / 10)) ((48 + n % 10) ∷ []) 0 0 (some k (n / 10))) ∙ x)))

led : (k n : ℕ) → n < room k → ill_formed (decimal k n) ≡ false
unfolding decimal ill_formed
led k zero r = zero_led k where
  zero_led : (k : ℕ) → ill_formed (decimal k 0) ≡ false
  zero_led zero = refl
  zero_led (suc k) = refl
led k (suc n) r = let s = some k (suc n) in sym (ill_formed_not false (decimal k (suc n)) refl (λ e. omega (arith, e)) (head k (suc n) (omega arith) r))

pub natural_reads : (cap n : ℕ) → cap < 4294967296 → n ≤ cap → natural cap (text n) ≡ Some n
unfolding room
natural_reads cap n c h = sym (natural_value cap (Some n) (text n) (led 19 n (omega arith)) (sym (value cap 19 n h (omega arith))))

-- ---- and a readable field is the writing of a number in its range

record Taken (cap a b v : ℕ) : Type 0 where
  low : 48 ≤ b
  high : b ≤ 57
  fits : v ≤ cap
  is : v ≡ a * 10 + (b - 48)

is_taken : (cap a b v : ℕ) → with_digit cap a b ≡ Some v → Taken cap a b v
is_taken cap a b v h = by_cases (ltb b 48)
    (λ e. absurd (none-some v (with_digit_not cap a b (inl (ltb-true b 48 e)) ∙ h)))
    (λ e. by_cases (ltb 57 b)
    (λ t. absurd (none-some v (with_digit_not cap a b (inr (ltb-true 57 b t)) ∙ h)))
    (λ t. by_cases (ltb cap (a * 10 + (b - 48)))
    (λ u. absurd (none-some v (with_digit_over cap a b _ (ltb-false b 48 e) (ltb-false 57 b t) refl (ltb-true cap (a * 10 + (b - 48)) u) ∙ h)))
    (λ u. let f = ltb-false cap (a * 10 + (b - 48)) u in
    let i : v ≡ a * 10 + (b - 48) = sym (same_Some _ v (with_digit_fits cap a b _ (ltb-false b 48 e) (ltb-false 57 b t) refl f ∙ h)) in
    record { low = ltb-false b 48 e; high = ltb-false 57 b t; fits = omega arith; is = i })))

-- whatever number of digits is allowed
fuel : (k j n : ℕ) → n < room k → n < room j → decimal k n ≡ decimal j n
unfolding decimal room
fuel zero j n h i = sym (decimal_small j n h)
fuel (suc k) zero n h i = decimal_small (suc k) n i
fuel (suc k) (suc j) n h i = by_cases (ltb n 10) (λ e. rw e)
    (λ e. let t = ltb-false n 10 e in rw e (ap (λ (x : List ℕ). x ++ ((48 + n % 10) ∷ [])) (fuel k j (n / 10) (omega arith) (omega arith))))

first_back : (cap k b v : ℕ) → Taken cap 0 b v → b ∷ [] ≡ decimal k v
first_back cap k b v t =
    let l = t.low in let u = t.high in let i = t.is in
    let d : 48 + v % 10 ≡ b = omega arith in sym (decimal_small k v (omega arith) ∙ ap (λ (x : ℕ). x ∷ []) d)

next_back : (cap k b a v : ℕ) (P : List ℕ) → Taken cap a b v → 0 < a → P ≡ decimal k a → P ++ (b ∷ []) ≡ decimal (suc k) v
next_back cap k b a v P p z i =
    let s = p.is in let l = p.low in let u = p.high in
    let q : v / 10 ≡ a = omega arith in
    let d : 48 + v % 10 ≡ b = omega arith in
    let m : suc k - 1 ≡ k = omega arith in
    let w : decimal (suc k) v ≡ decimal (suc k - 1) (v / 10) ++ ((48 + v % 10) ∷ []) = decimal_more (suc k) v (λ x. omega (arith, x)) (omega arith) in
    sym (w ∙ ap (λ (x : ℕ). decimal x (v / 10) ++ ((48 + v % 10) ∷ [])) m ∙ ap (λ (x : ℕ). decimal k x ++ ((48 + v % 10) ∷ [])) q
    ∙ ap (λ (x : ℕ). decimal k a ++ (x ∷ [])) d ∙ ap (λ (x : List ℕ). x ++ (b ∷ [])) (sym i))

-- the digits P so far, and then f
back : (cap k a v : ℕ) (P f : List ℕ) → cap < 4294967296 → 100000000000000000000 ≤ room k → 0 < a → a ≤ cap → P ≡ decimal k a → value_from cap a f ≡ Some v
    → (P ++ f ≡ text v) × (v ≤ cap)
unfolding value_from room
back cap k a v P [] c r z s p h =
    let e : a ≡ v = same_Some a v h in
    (append-nil P ∙ p ∙ fuel k 19 a (omega arith) (omega arith) ∙ ap text e, omega arith)
back cap k a v P (b ∷ f) c r z s p h = option_and_then_some (λ w. value_from cap w f) (with_digit cap a b) v h
    (λ w e i. let t = is_taken cap a b w e in let y = t.is in
    let g = back cap (suc k) w v (P ++ (b ∷ [])) f c (omega arith) (omega arith) t.fits (next_back cap k b a w P t z p) i in
    (sym (append_assoc P (b ∷ []) f) ∙ g.0, g.1))

read_value : (cap n : ℕ) (f : List ℕ) → natural cap f ≡ Some n → (ill_formed f ≡ false) × (value_from cap 0 f ≡ Some n)
unfolding natural
read_value cap n f h = by_cases (ill_formed f) (λ e. absurd (none-some n (rw e at h))) (λ e. (e, rw e at h))

led_head : (b d : ℕ) (f : List ℕ) → ill_formed (b ∷ d ∷ f) ≡ false → b ≢ 48
led_head b d f m e = false_true (sym m ∙ sym (ill_formed_zero (b ∷ d ∷ f) (λ x. omega (arith, x)) e) ∙ lt-ltb 1 (length (b ∷ d ∷ f)) (omega arith))

pub natural_writes : (cap n : ℕ) (f : List ℕ) → cap < 4294967296 → natural cap f ≡ Some n → (f ≡ text n) × (n ≤ cap)
unfolding natural ill_formed value_from room
natural_writes cap n [] c h = absurd (none-some n h)
natural_writes cap n (b ∷ []) c h = option_and_then_some (λ w. value_from cap w []) (with_digit cap 0 b) n (read_value cap n (b ∷ []) h).1
    (λ w e i. let t = is_taken cap 0 b w e in let s = same_Some w n i in let y = t.fits in (first_back cap 19 b w t ∙ ap text s, omega arith))
natural_writes cap n (b ∷ d ∷ f) c h =
    let r = read_value cap n (b ∷ d ∷ f) h in
    let z : b ≢ 48 = led_head b d f r.0 in
    option_and_then_some (λ w. value_from cap w (d ∷ f)) (with_digit cap 0 b) n r.1
    (λ w e i. let t = is_taken cap 0 b w e in let l = t.low in let y = t.is in
    back cap 19 w n (b ∷ []) (d ∷ f) c (omega arith) (omega arith) t.fits (first_back cap 19 b w t) i)

-- ---- signed fields

digit : (n : ℕ) → 48 ≤ 48 + n % 10
digit n = omega arith

-- the bytes of a number are digits
pub digits : (k n : ℕ) → All (λ b. 48 ≤ b) (decimal k n)
unfolding decimal
digits zero n = also (digit n) none
digits (suc k) n = by_cases (ltb n 10) (λ e. rw e (also (digit n) none)) (λ e. rw e (all_append (digits k (n / 10)) (also (digit n) none)))

first : (l : List ℕ) → All (λ b. 48 ≤ b) l → 0 < length l → 48 ≤ get_or l 0 0
first [] a h = absurd (omega (arith, h))
first (x ∷ l) (also p a) h = p

unsigned : (n : ℕ) → get_or (text n) 0 0 ≢ 45
unsigned n e = let h = first (text n) (digits 19 n) (some 19 n) in omega arith

-- the writing of a number of 16 bits is read as that number
pub signed_reads : (z : ℤ) → Coordinate z → signed (signed_text z) ≡ Some z
unfolding signed negative
signed_reads (pos n) h = sym (signed_plain (text n) (Some n) _ (unsigned n) (sym (natural_reads 32767 n (omega arith) h)) refl)
signed_reads (negsuc m) h = ap (option_and_then negative) (natural_reads 32768 (suc m) (omega arith) (omega (arith, h)))

split : (f : List ℕ) (b : ℕ) → get_or f 0 0 ≡ suc b → f ≡ suc b ∷ drop 1 f
split [] b e = absurd (omega (arith, e))
split (x ∷ f) b e = ap (λ (y : ℕ). y ∷ f) e

plain_some : (o : Option ℕ) (z : ℤ) → option_map pos o ≡ Some z → (n : ℕ) × (o ≡ Some n) × (pos n ≡ z)
plain_some None z h = absurd (none-some z h)
plain_some (Some n) z h = (n, refl, same_Some (pos n) z h)

minus_some : (m : ℕ) (z : ℤ) → negative m ≡ Some z → (n : ℕ) × (m ≡ suc n) × (negsuc n ≡ z)
unfolding negative
minus_some zero z h = absurd (none-some z h)
minus_some (suc n) z h = (n, refl, same_Some (negsuc n) z h)

abbrev Writes : List ℕ → ℤ → Type 0
Writes f z = (f ≡ signed_text z) × Coordinate z

-- and a readable field is the writing of a number of 16 bits
pub signed_writes : (f : List ℕ) (z : ℤ) → signed f ≡ Some z → (f ≡ signed_text z) × Coordinate z
signed_writes f z h = decide (get_or f 0 0) 45 below above
  where
    above : get_or f 0 0 ≢ 45 → Writes f z
    above e =
        let s = plain_some (natural 32767 f) z (signed_plain f _ _ e refl refl ∙ h) in
        let w = natural_writes 32767 s.0 f (omega arith) s.1 in
        subst (Writes f) s.2 (w.0, w.1)

    below : get_or f 0 0 ≡ 45 → Writes f z
    below e = option_and_then_some negative (natural 32768 (drop 1 f)) z (signed_minus f _ _ _ e refl refl refl ∙ h)
        (λ m i j. let s = minus_some m z j in let q = s.1 in
        let w = natural_writes 32768 m (drop 1 f) (omega arith) i in let l = w.1 in
        subst (Writes f) s.2 (split f 44 e ∙ ap (λ (x : List ℕ). 45 ∷ x) (w.0 ∙ ap text q), omega arith))

-- a number below 10^(k + 1) has at most k + 1 digits
pub length_decimal : (j k n : ℕ) → n < room k → length (decimal j n) ≤ suc k
unfolding decimal room
length_decimal zero k n h = omega arith
length_decimal (suc j) zero n h = rw (lt-ltb n 10 h) (omega arith)
length_decimal (suc j) (suc k) n h = by_cases (ltb n 10) (λ e. rw e (omega arith))
    (λ e. rw e (simp length-append (omega (arith, length_decimal j k (n / 10) (omega arith)))))
