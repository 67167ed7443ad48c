-- Steps of reading a line of values, each in the form of a branch or a turn of the code.
use Rattle.std.proofs.Common.{◌≡◌, refl, sym, ap, ◌∙◌, ◌≢◌, ◌⊎◌, inl, inr, List, [], ◌∷◌, ◌++◌, ℕ, suc, ◌+◌, ◌-◌, ◌≤◌, ◌<◌, min, ltb, eqb, eqb-true, ℤ, pos, length, take, drop, set, replicate, Option, Some, None, Result, Ok, Err, option_map, option_and_then, arith, append_assoc, append-nil, add-one, length-drop, length-set, length-take-le, take-append-drop, take_all, take-suc-set, SFits, to_z, of_z, to_z-of_z, w16, negsuc, drop-set-lt, drop-drop, lt-ltb, le-ltb, eq-eqb, ne_eqb, ltb-true, ltb-false}
use Rattle.std.proofs.lemmas.Option.{none-some, same_Some}
use Rattle.lists.specs.Tests.{by_cases}
use Rattle.acts_fields.specs.Bytes.{space, until}
use Rattle.acts_fields.specs.Fields.{signed, Coordinate}
use Rattle.acts_fields.proofs.FieldLaws.{signed_writes}
use Rattle.acts_fields.proofs.DigitLaws.{drop_end}
use Rattle.std.specs.Result.{result_ok}
use Rattle.acts_text.specs.Acts.{number_of, numbered, Decodes}
use Rattle.acts_text.specs.declared.UnknownAct.{UnknownAct}
use Rattle.acts_text.specs.declared.Act.{Act}
use Rattle.acts_text.specs.declared.Act.TheVariants.{Insert, Delete, Ask}
use Rattle.acts_text.specs.Lines.{limit, max_features, leading, field_length, Cut, fields, number, coordinates, padded, line_of, said, act_of}
use Rattle.acts_text.specs.declared.ActLine.{ActLine}

-- ---- acts

pub numbered_is : (a : Act) (n : ℕ) → number_of a ≡ n → Some a ≡ numbered n
unfolding numbered
numbered_is Insert n e = rw (← e)
numbered_is Delete n e = rw (← e)
numbered_is Ask n e = rw (← e)

pub numbered_none : (n : ℕ) → n ≢ 1 → n ≢ 2 → n ≢ 3 → None ≡ numbered n
unfolding numbered
numbered_none n e f g = rw (ne_eqb n 1 e, ne_eqb n 2 f, ne_eqb n 3 g)

pub numbered_number : (n : ℕ) (a : Act) → numbered n ≡ Some a → number_of a ≡ n
unfolding numbered
numbered_number n a h = by_cases (eqb n 1) (λ e. ap number_of (sym (same_Some Insert a (rw e at h))) ∙ sym (eqb-true n 1 e))
    (λ e. by_cases (eqb n 2) (λ f. ap number_of (sym (same_Some Delete a (rw (e, f) at h))) ∙ sym (eqb-true n 2 f))
    (λ f. by_cases (eqb n 3) (λ g. ap number_of (sym (same_Some Ask a (rw (e, f, g) at h))) ∙ sym (eqb-true n 3 g))
    (λ g. absurd (none-some a (rw (e, f, g) at h)))))

pub kind_is : (n : ℕ) (r : Result Act UnknownAct) (o : Option Act) → Decodes n r → o ≡ result_ok r → o ≡ numbered n
kind_is n (Ok a) o h e = e ∙ numbered_is a n h
kind_is n (Err x) o h e = e ∙ numbered_none n h.0 h.1 h.2

-- ---- fields

pub field_length_last : (n : ℕ) (l : List ℕ) → n ≡ 0 → field_length n l ≡ length l
unfolding field_length
field_length_last n l h = rw (eq-eqb n 0 h)

pub field_length_word : (n : ℕ) (l : List ℕ) → n ≢ 0 → field_length n l ≡ until space l
unfolding field_length
field_length_word n l h = rw (ne_eqb n 0 h)

pub field_space : (n e : ℕ) (l : List ℕ) → n ≢ 0 → e ≡ 0 + until space (drop 0 l) → e ≡ field_length n l
field_space n e l h p = let w = field_length_word n l h in omega arith

drop_next : (l : List ℕ) (k n : ℕ) → n ≡ min k (length l) → drop n l ≡ drop k l
drop_next l k n e = by_cases (ltb k (length l))
    (λ h. let p = ltb-true k (length l) h in let q : n ≡ k = omega arith in ap (λ (i : ℕ). drop i l) q)
    (λ h. let p = ltb-false k (length l) h in drop_end l n (omega arith) ∙ sym (drop_end l k p))

-- a field as the code cuts it, and what is left from index x on
pub cut : (n e x : ℕ) (l f r : List ℕ) → e ≡ field_length n l → f ≡ take e l → x ≡ min (e + 1) (length l) → r ≡ take (length l - x) (drop x l) → Cut n l f r
cut n e x l f r p q s t = record {
  first = q ∙ ap (λ (i : ℕ). take i l) p;
  rest = t ∙ take_all (length l - x) (drop x l) (omega (arith, length-drop x l)) ∙ drop_next l (e + 1) x s ∙ ap (λ (i : ℕ). drop i l) (add-one e) ∙ ap (λ (i : ℕ). drop (suc i) l) p;
}

pub fields_step : (n m : ℕ) (l f r : List ℕ) → m ≡ suc n → Cut n l f r → fields m l ≡ f ∷ fields n r
unfolding fields
fields_step n m l f r e c = rw (e, c.first, c.rest)

-- ---- coordinates

map_none : {A B : Type 0} (f : A → B) (o : Option A) → o ≡ None → None ≡ option_map f o
map_none f o e = rw e

map_same : (o : Option (List ℤ)) → o ≡ option_map (λ (zs : List ℤ). [] ++ zs) o
map_same None = refl
map_same (Some zs) = refl

-- the first i coordinates stand in their slots, and the others are still to be read
pub record Read (d : ℕ) (line : List ℕ) (cs : List ℤ) (i : ℕ) (rest : List ℕ) : Type 0 where
  pub len : length cs ≡ 16
  pub zeros : drop i cs ≡ replicate (16 - i) (pos 0)
  pub left : coordinates (fields d line) ≡ option_map (λ (zs : List ℤ). take i cs ++ zs) (coordinates (fields (d - i) rest))

pub read_start : (d : ℕ) (line : List ℕ) → Read d line (replicate 16 (pos 0)) 0 line
read_start d line = let e : d - 0 ≡ d = omega arith in record { len = refl; zeros = refl; left = rw e (map_same (coordinates (fields d line))) }

module _ (d : ℕ) (line : List ℕ) (cs : List ℤ) (i : ℕ) (rest f behind : List ℕ) (h : i < d) (few : d ≤ 16) (r : Read d line cs i rest) (c : Cut (d - 1 - i) rest f behind) where
  next_fields : fields (d - i) rest ≡ f ∷ fields (d - 1 - i) behind
  next_fields = fields_step (d - 1 - i) (d - i) rest f behind (omega arith) c

  pub read_stop : (o : Option ℤ) → o ≡ signed f → o ≡ None → None ≡ option_map padded (coordinates (fields d line))
  unfolding coordinates
  read_stop o e n =
      let s : signed f ≡ None = sym e ∙ n in
      let z : coordinates (fields d line) ≡ None = r.left ∙ rw (next_fields, s) in map_none padded (coordinates (fields d line)) z

  pub read_turn : (o : Option ℤ) (z : ℤ) → o ≡ signed f → o ≡ Some z → Read d line (set cs i z) (i + 1) behind
  unfolding coordinates
  read_turn o z e n =
      let s : signed f ≡ Some z = sym e ∙ n in
      let l : i < length cs = let m = r.len in omega arith in
      let a : d - (i + 1) ≡ d - 1 - i = omega arith in
      record {
        len = length-set cs i z ∙ r.len;
        zeros = dropped cs i z r.zeros (omega arith);
        left = r.left ∙ rw (next_fields, s, a) (shifted (coordinates (fields (d - 1 - i) behind)) l);
      }
    where
      dropped : (cs : List ℤ) (i : ℕ) (z : ℤ) → drop i cs ≡ replicate (16 - i) (pos 0) → i < 16 → drop (i + 1) (set cs i z) ≡ replicate (16 - (i + 1)) (pos 0)
      dropped cs i z e h =
          let m : 16 - i ≡ suc (16 - (i + 1)) = omega arith in
          drop-set-lt (i + 1) cs i z (omega arith) ∙ sym (drop-drop 1 i cs) ∙ ap (drop 1) e ∙ ap (λ (n : ℕ). drop 1 (replicate n (pos 0))) m

      shifted : (o : Option (List ℤ)) → i < length cs → option_map (λ (zs : List ℤ). take i cs ++ zs) (option_map (λ (zs : List ℤ). z ∷ zs) o) ≡ option_map (λ (zs : List ℤ). take (i + 1) (set cs i z) ++ zs) o
      shifted None l = refl
      shifted (Some zs) l = ap Some (sym (rw (add-one, take-suc-set cs i z l) (append_assoc (take i cs) (z ∷ []) zs)))

fits_bits : (z : ℤ) → Coordinate z → SFits w16 z
fits_bits (pos n) h = record { sfits = omega arith }
fits_bits (negsuc m) h = record { sfits = omega arith }

-- a coordinate is the number whose 16 bits it has
pub same_bits : (f : List ℕ) (z : ℤ) (o : Option ℤ) → o ≡ signed f → o ≡ Some z → to_z w16 (of_z w16 z) ≡ z
same_bits f z o e n = to_z-of_z (fits_bits z (signed_writes f z (sym e ∙ n)).1)

pub read_end : (d : ℕ) (line : List ℕ) (cs : List ℤ) (i : ℕ) (rest : List ℕ) → i ≤ d → d ≤ i → d ≤ 16 → Read d line cs i rest → Some cs ≡ option_map padded (coordinates (fields d line))
unfolding coordinates fields
read_end d line cs i rest h k few r =
    let e : i ≡ d = omega arith in
    let z : d - i ≡ 0 = omega arith in
    let l : length (take i cs) ≡ i = length-take-le i cs (let m = r.len in omega arith) in
    let w : coordinates (fields d line) ≡ Some (take i cs) = r.left ∙ rw (z, append-nil) in
    let p : padded (take i cs) ≡ cs = rw (l, ← r.zeros) (take-append-drop i cs) in
    rw (w, p)

-- ---- lines

pub act_long : (d : ℕ) (l : List ℕ) → limit < length l → None ≡ act_of d l
unfolding act_of
act_long d l h = rw (lt-ltb limit (length l) h)

pub act_wide : (d : ℕ) (l : List ℕ) → max_features < d → None ≡ act_of d l
unfolding act_of
act_wide d l k = by_cases (ltb limit (length l)) (λ e. rw e) (λ e. rw (e, lt-ltb max_features d k))

-- a line of too many bytes, or too many names
pub act_out : (d : ℕ) (l : List ℕ) → (limit < length l) ⊎ (max_features < d) → None ≡ act_of d l
act_out d l (inl h) = act_long d l h
act_out d l (inr h) = act_wide d l h

pub act_said : (d : ℕ) (l : List ℕ) → length l ≤ limit → d ≤ max_features → act_of d l ≡ said d (fields (leading + d) l)
unfolding act_of
act_said d l h k = rw (le-ltb limit (length l) h, le-ltb max_features d k)

-- with a value missing there is no line
none_id : (d : ℕ) (a : Option Act) (i k s t : Option ℕ) (z : Option (List ℤ)) → i ≡ None → None ≡ line_of d a i k s t z
unfolding line_of
none_id d None i k s t z e = refl
none_id d (Some a) i k s t z e = rw e

none_k : (d : ℕ) (a : Option Act) (i k s t : Option ℕ) (z : Option (List ℤ)) → k ≡ None → None ≡ line_of d a i k s t z
unfolding line_of
none_k d None i k s t z e = refl
none_k d (Some a) None k s t z e = refl
none_k d (Some a) (Some i) k s t z e = rw e

none_stage : (d : ℕ) (a : Option Act) (i k s t : Option ℕ) (z : Option (List ℤ)) → s ≡ None → None ≡ line_of d a i k s t z
unfolding line_of
none_stage d None i k s t z e = refl
none_stage d (Some a) None k s t z e = refl
none_stage d (Some a) (Some i) None s t z e = refl
none_stage d (Some a) (Some i) (Some k) s t z e = rw e

none_stamp : (d : ℕ) (a : Option Act) (i k s t : Option ℕ) (z : Option (List ℤ)) → t ≡ None → None ≡ line_of d a i k s t z
unfolding line_of
none_stamp d None i k s t z e = refl
none_stamp d (Some a) None k s t z e = refl
none_stamp d (Some a) (Some i) None s t z e = refl
none_stamp d (Some a) (Some i) (Some k) None t z e = refl
none_stamp d (Some a) (Some i) (Some k) (Some s) t z e = rw e

none_coordinates : (d : ℕ) (a : Option Act) (i k s t : Option ℕ) (z : Option (List ℤ)) → option_map padded z ≡ None → None ≡ line_of d a i k s t z
unfolding line_of
none_coordinates d None i k s t z e = refl
none_coordinates d (Some a) None k s t z e = refl
none_coordinates d (Some a) (Some i) None s t z e = refl
none_coordinates d (Some a) (Some i) (Some k) None t z e = refl
none_coordinates d (Some a) (Some i) (Some k) (Some s) None z e = refl
none_coordinates d (Some a) (Some i) (Some k) (Some s) (Some t) None e = refl
none_coordinates d (Some a) (Some i) (Some k) (Some s) (Some t) (Some z) e = absurd (none-some _ (sym e))

all : (d : ℕ) (a : Act) (i k s t : ℕ) (cs : List ℤ) (oa : Option Act) (oi ok os ot : Option ℕ) (oz : Option (List ℤ)) → oa ≡ Some a → oi ≡ Some i → ok ≡ Some k → os ≡ Some s → ot ≡ Some t → option_map padded oz ≡ Some cs
    → Some (record { act = a; id = i; k = k; stage = s; stamp = t; d = d; coords = cs }) ≡ line_of d oa oi ok os ot oz
unfolding line_of
all d a i k s t cs oa oi ok os ot None ea ei ek es et ez = absurd (none-some cs ez)
all d a i k s t cs oa oi ok os ot (Some zs) ea ei ek es et ez =
    rw (ea, ei, ek, es, et) (ap (λ (x : List ℤ). Some (record { act = a; id = i; k = k; stage = s; stamp = t; d = d; coords = x })) (sym (same_Some _ cs ez)))

module _ (d : ℕ) (l f₀ r₀ f₁ r₁ f₂ r₂ f₃ r₃ f₄ r₄ : List ℕ) (short : length l ≤ limit) (few : d ≤ max_features) (c₀ : Cut (d + 4) l f₀ r₀) (c₁ : Cut (d + 3) r₀ f₁ r₁)
    (c₂ : Cut (d + 2) r₁ f₂ r₂) (c₃ : Cut (d + 1) r₂ f₃ r₃) (c₄ : Cut d r₃ f₄ r₄) where
  five : fields (leading + d) l ≡ f₀ ∷ f₁ ∷ f₂ ∷ f₃ ∷ f₄ ∷ fields d r₄
  five = fields_step (d + 4) (leading + d) l f₀ r₀ (omega arith) c₀
      ∙ ap (λ (x : List (List ℕ)). f₀ ∷ x) (fields_step (d + 3) (d + 4) r₀ f₁ r₁ (omega arith) c₁)
      ∙ ap (λ (x : List (List ℕ)). f₀ ∷ f₁ ∷ x) (fields_step (d + 2) (d + 3) r₁ f₂ r₂ (omega arith) c₂)
      ∙ ap (λ (x : List (List ℕ)). f₀ ∷ f₁ ∷ f₂ ∷ x) (fields_step (d + 1) (d + 2) r₂ f₃ r₃ (omega arith) c₃)
      ∙ ap (λ (x : List (List ℕ)). f₀ ∷ f₁ ∷ f₂ ∷ f₃ ∷ x) (fields_step d (d + 1) r₃ f₄ r₄ (omega arith) c₄)

  act_is : act_of d l ≡ line_of d (option_and_then numbered (number f₀)) (number f₁) (number f₂) (number f₃) (number f₄) (coordinates (fields d r₄))
  act_is = act_said d l short few ∙ ap (said d) five

  pub no_act : (r : Option ActLine) (o : Option Act) → r ≡ None → o ≡ option_and_then numbered (number f₀) → o ≡ None → r ≡ act_of d l
  unfolding line_of
  no_act r o e p n = let z : option_and_then numbered (number f₀) ≡ None = sym p ∙ n in e ∙ sym (act_is ∙ rw z)

  pub no_id : (r : Option ActLine) (o : Option ℕ) → r ≡ None → o ≡ number f₁ → o ≡ None → r ≡ act_of d l
  no_id r o e p n = e ∙ none_id d (option_and_then numbered (number f₀)) (number f₁) (number f₂) (number f₃) (number f₄) (coordinates (fields d r₄)) (sym p ∙ n) ∙ sym act_is

  pub no_k : (r : Option ActLine) (o : Option ℕ) → r ≡ None → o ≡ number f₂ → o ≡ None → r ≡ act_of d l
  no_k r o e p n = e ∙ none_k d (option_and_then numbered (number f₀)) (number f₁) (number f₂) (number f₃) (number f₄) (coordinates (fields d r₄)) (sym p ∙ n) ∙ sym act_is

  pub no_stage : (r : Option ActLine) (o : Option ℕ) → r ≡ None → o ≡ number f₃ → o ≡ None → r ≡ act_of d l
  no_stage r o e p n = e ∙ none_stage d (option_and_then numbered (number f₀)) (number f₁) (number f₂) (number f₃) (number f₄) (coordinates (fields d r₄)) (sym p ∙ n) ∙ sym act_is

  pub no_stamp : (r : Option ActLine) (o : Option ℕ) → r ≡ None → o ≡ number f₄ → o ≡ None → r ≡ act_of d l
  no_stamp r o e p n = e ∙ none_stamp d (option_and_then numbered (number f₀)) (number f₁) (number f₂) (number f₃) (number f₄) (coordinates (fields d r₄)) (sym p ∙ n) ∙ sym act_is

  pub no_coordinates : (r : Option ActLine) (o : Option (List ℤ)) → r ≡ None → o ≡ option_map padded (coordinates (fields d r₄)) → o ≡ None → r ≡ act_of d l
  no_coordinates r o e p n = e ∙ none_coordinates d (option_and_then numbered (number f₀)) (number f₁) (number f₂) (number f₃) (number f₄) (coordinates (fields d r₄)) (sym p ∙ n) ∙ sym act_is

  pub act_read : (a : Act) (i k s t : ℕ) (cs : List ℤ) (oa : Option Act) (oi ok os ot : Option ℕ) (oz : Option (List ℤ)) → oa ≡ option_and_then numbered (number f₀) → oa ≡ Some a
      → oi ≡ number f₁ → oi ≡ Some i → ok ≡ number f₂ → ok ≡ Some k → os ≡ number f₃ → os ≡ Some s → ot ≡ number f₄ → ot ≡ Some t
      → oz ≡ option_map padded (coordinates (fields d r₄)) → oz ≡ Some cs → Some (record { act = a; id = i; k = k; stage = s; stamp = t; d = d; coords = cs }) ≡ act_of d l
  act_read a i k s t cs oa oi ok os ot oz pa ea pi ei pk ek ps es pt et pz ez =
      all d a i k s t cs _ _ _ _ _ (coordinates (fields d r₄)) (sym pa ∙ ea) (sym pi ∙ ei) (sym pk ∙ ek) (sym ps ∙ es) (sym pt ∙ et) (sym pz ∙ ez) ∙ sym act_is
