-- Fields: a line whose fields have bytes is these fields joined by one space (`fields_joined`), and fields without spaces, joined, are read as
-- these fields (`fields_of`).
use Rattle.std.proofs.Common.{◌≡◌, refl, ap, ◌∙◌, ◌≢◌, List, [], ◌∷◌, ◌++◌, ℕ, zero, suc, ◌+◌, ◌*◌, ◌≤◌, ◌<◌, eqb, length, take, drop, get_or, arith, length-append, take_at, eqb-true, ne_eqb, length-take, length-drop}
use Rattle.lists.specs.Basics.{All, none, also, all_head, all_tail}
use Rattle.lists.specs.Tests.{by_cases}
use Rattle.acts_fields.specs.Bytes.{until}
use Rattle.acts_text.specs.Lines.{field_length, fields}
use Rattle.acts_text.specs.Grammar.{joined}
use Rattle.acts_text.proofs.CellLaws.{field_length_last, field_length_word}
use lib.Seq.{take-length, split_at}

-- a field without spaces
abbrev pub Solid : List ℕ → Type 0
Solid f = All (λ b. b ≢ 32) f

-- a field that has bytes
abbrev pub Full : List ℕ → Type 0
Full f = 0 < length f

until_skips : {f : List ℕ} → Solid f → (r : List ℕ) → until 32 (f ++ (32 ∷ r)) ≡ length f
unfolding until
until_skips none r = refl
until_skips (also {x = b} h t) r = rw (ne_eqb b 32 h) (ap suc (until_skips t r))

until_hits : (b : ℕ) (l : List ℕ) → until b l < length l → get_or l (until b l) 0 ≡ b
unfolding until
until_hits b [] h = absurd (omega (arith, h))
until_hits b (x ∷ l) h = by_cases (eqb x b)
    (λ e. rw e (eqb-true x b e))
    (λ e. rw e (until_hits b l (let g = rw e at h in omega (arith, g))))

pub length_fields : (n : ℕ) (l : List ℕ) → length (fields n l) ≡ n
unfolding fields
length_fields zero l = refl
length_fields (suc n) l = ap suc (length_fields n (drop (suc (field_length n l)) l))

behind : (f r : List ℕ) → drop (suc (length f)) (f ++ (32 ∷ r)) ≡ r
behind [] r = refl
behind (x ∷ f) r = behind f r

-- a field behind which more come ends at a space, if what comes first behind it has bytes
split : (l : List ℕ) (u n : ℕ) → u ≡ until 32 l → 0 < length (take (field_length n (drop (suc u) l)) (drop (suc u) l)) → l ≡ take u l ++ (32 ∷ drop (suc u) l)
split l u n e h =
    let inside : u < length l = omega (arith, length-take (field_length n (drop (suc u) l)) (drop (suc u) l), length-drop (suc u) l) in
    split_at l u 0 inside ∙ ap (λ (x : ℕ). take u l ++ (x ∷ drop (suc u) l)) (ap (λ (x : ℕ). get_or l x 0) e ∙ until_hits 32 l (omega arith))

pub fields_joined : (n : ℕ) (l : List ℕ) → All Full (fields (suc n) l) → l ≡ joined (fields (suc n) l)
unfolding fields joined
fields_joined zero l h = rw (field_length_last 0 l refl, take-length)
fields_joined (suc n) l h =
    let u = field_length (suc n) l in
    let t : All Full (fields (suc n) (drop (suc u) l)) = all_tail h in
    split l u n (field_length_word (suc n) l (λ x. omega (arith, x))) (all_head t) ∙ ap (λ (x : List ℕ). take u l ++ (32 ∷ x)) (fields_joined n (drop (suc u) l) t)

pub fields_of : (f : List ℕ) (fs : List (List ℕ)) → All Solid (f ∷ fs) → fields (suc (length fs)) (joined (f ∷ fs)) ≡ f ∷ fs
unfolding fields joined
fields_of f [] h = rw (field_length_last 0 f refl, take-length)
fields_of f (g ∷ fs) (also h t) =
    let rest = joined (g ∷ fs) in
    let l = f ++ (32 ∷ rest) in
    let u : field_length (suc (length fs)) l ≡ length f = field_length_word (suc (length fs)) l (λ e. omega (arith, e)) ∙ until_skips h rest in
    let a : take (length f) l ≡ f = take_at f (32 ∷ rest) (length f) refl in
    rw (u, a, behind f rest) (ap (λ (x : List (List ℕ)). f ∷ x) (fields_of g fs t))

-- ---- lengths

length_joined : (f : List ℕ) (fs : List (List ℕ)) → length (joined (f ∷ fs)) ≤ suc (length f) + length (joined fs)
unfolding joined
length_joined f [] = omega arith
length_joined f (g ∷ fs) = simp length-append (omega arith)

pub joined_thin : {fs : List (List ℕ)} → All (λ f. length f ≤ 10) fs → length (joined fs) ≤ 11 * length fs
unfolding joined
joined_thin none = omega arith
joined_thin (also {x = f} {xs = fs} h r) = omega (arith, length_joined f fs, joined_thin r)
