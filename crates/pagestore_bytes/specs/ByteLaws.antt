-- Laws of numbers in bytes, over the width, and of bytes stored in a list. Assumes nothing.
use Rattle.std.specs.Prelude.{◌≡◌, refl, ◌≢◌, List, [], ◌∷◌, ◌++◌, ℕ, zero, suc, ◌+◌, ◌*◌, ◌/◌, ◌%◌, ◌^◌, ◌≤◌, ◌<◌, length, get_or, set, take, drop, replicate}
use Rattle.std.proofs.Common.{sym, ap, ◌∙◌, append_assoc, append-nil, add-one, pow-suc, arith, drop_of_length-le, get_or-set_other, drop-set-lt, get_or-drop, drop_at, drop-drop, take_at, length-take-le}
use Rattle.std.proofs.lemmas.List.Edits.{sets, sets-eq}
use Rattle.std.proofs.Math.Seq.{length-sets}
use Rattle.lists.specs.Basics.{tabulate, concat_map, length_tabulate}
use Rattle.lists.specs.Tabulated.{length_concat_map, concat_map_more}
use Rattle.pagestore_bytes.specs.Bytes.{byte_at, le_at, le_bytes, put}

-- ---- numbers

pub le_fits : (n : ℕ) (s : List ℕ) (at : ℕ) → le_at n s at < 256 ^ n
unfolding le_at
le_fits zero s at = omega arith
le_fits (suc n) s at = omega (arith, le_fits n s (at + 1), pow-suc 256 n)

pub length_le : (n v : ℕ) → length (le_bytes n v) ≡ n
unfolding le_bytes
length_le zero v = refl
length_le (suc n) v = ap suc (length_le n (v / 256))

-- a number depends on its own bytes alone
pub le_ext : (n : ℕ) (s t : List ℕ) (at : ℕ) → ((i : ℕ) → at ≤ i → i < at + n → get_or s i 0 ≡ get_or t i 0) → le_at n s at ≡ le_at n t at
unfolding le_at
le_ext zero s t at h = refl
le_ext (suc n) s t at h =
    rw (h at (omega arith) (omega arith), le_ext n s t (at + 1) (λ i a b. h i (omega arith) (omega arith)))

pub le_drop : (n : ℕ) (s : List ℕ) (at i : ℕ) → le_at n (drop at s) i ≡ le_at n s (at + i)
unfolding le_at
le_drop zero s at i = refl
le_drop (suc n) s at i =
    let e : at + (i + 1) ≡ at + i + 1 = omega arith in
    rw (get_or-drop at s i 0, le_drop n s at (i + 1), e)

pub le_bytes_law : (n v : ℕ) (t : List ℕ) → v < 256 ^ n → le_at n (le_bytes n v ++ t) 0 ≡ v
unfolding le_at le_bytes
le_bytes_law zero v t h = omega arith
le_bytes_law (suc n) v t h =
    let r : le_at n (v % 256 ∷ (le_bytes n (v / 256) ++ t)) 1 ≡ v / 256 =
    sym (le_drop n (v % 256 ∷ (le_bytes n (v / 256) ++ t)) 1 0) ∙ le_bytes_law n (v / 256) t (omega (arith, pow-suc 256 n)) in
    rw r (omega arith)

-- the number whose bytes begin at an index
pub le_at_law : (n v : ℕ) (s : List ℕ) (at : ℕ) (t : List ℕ) → v < 256 ^ n → drop at s ≡ le_bytes n v ++ t → le_at n s at ≡ v
le_at_law n v s at t h e =
    let z : at + 0 ≡ at = omega arith in
    ap (le_at n s) (sym z) ∙ sym (le_drop n s at 0) ∙ rw e (le_bytes_law n v t h)

pub byte_at_law : (v : ℕ) (s : List ℕ) (at : ℕ) (t : List ℕ) → v < 256 → drop at s ≡ v ∷ t → byte_at s at ≡ v
byte_at_law v s at t h e =
    let z : at + 0 ≡ at = omega arith in
    let g : get_or s at 0 ≡ v = ap (λ (i : ℕ). get_or s i 0) (sym z) ∙ sym (get_or-drop at s 0 0) ∙ rw e in
    rw g (omega arith)

-- a number of one byte
pub le_one : (s : List ℕ) (at : ℕ) → le_at 1 s at ≡ byte_at s at
unfolding le_at
le_one s at = omega arith

-- what follows n bytes
pub next_at : (s : List ℕ) (at : ℕ) (xs t : List ℕ) (n : ℕ) → length xs ≡ n → drop at s ≡ xs ++ t → drop (at + n) s ≡ t
next_at s at xs t n l e = sym (drop-drop n at s) ∙ rw e (drop_at xs t n l)

-- ---- a run of stores

put_sets : (l : List ℕ) (i : ℕ) (vs : List ℕ) → put l i vs ≡ sets l i vs
unfolding put
put_sets l i [] = refl
put_sets l i (a ∷ vs) = put_sets (set l i a) (i + 1) vs ∙ rw (add-one)

pub put_eq : (l : List ℕ) (i : ℕ) (vs : List ℕ) → i + length vs ≤ length l → put l i vs ≡ take i l ++ (vs ++ drop (i + length vs) l)
put_eq l i vs h = put_sets l i vs ∙ sets-eq vs l i h ∙ append_assoc (take i l) vs (drop (i + length vs) l)

pub length_put : (l : List ℕ) (i : ℕ) (vs : List ℕ) → length (put l i vs) ≡ length l
length_put l i vs = rw (put_sets, length-sets)

put_append : (l : List ℕ) (i : ℕ) (xs ys : List ℕ) → put l i (xs ++ ys) ≡ put (put l i xs) (i + length xs) ys
unfolding put
put_append l i [] ys = ap (λ (k : ℕ). put l k ys) (omega arith)
put_append l i (a ∷ xs) ys = put_append (set l i a) (i + 1) xs ys ∙ ap (λ (k : ℕ). put (put (set l i a) (i + 1) xs) k ys) (omega arith)

-- bytes stored where those before them end
pub put_next : (l : List ℕ) (i : ℕ) (xs : List ℕ) (j : ℕ) (ys : List ℕ) → j ≡ i + length xs → put (put l i xs) j ys ≡ put l i (xs ++ ys)
put_next l i xs j ys e = rw e (sym (put_append l i xs ys))

-- bytes stored at the front
pub put_front : (l vs : List ℕ) (n : ℕ) → length vs ≡ n → n ≤ length l → take n (put l 0 vs) ≡ vs
put_front l vs n e h = rw (put_eq l 0 vs (omega arith)) (take_at vs (drop (0 + length vs) l) n e)

-- what lies elsewhere is as before
pub put_other : (l : List ℕ) (i : ℕ) (vs : List ℕ) (j : ℕ) → (i ≤ j → j < i + length vs → ⊥) → get_or (put l i vs) j 0 ≡ get_or l j 0
unfolding put
put_other l i [] j h = refl
put_other l i (a ∷ vs) j h =
    let ne : j ≢ i = λ (e : j ≡ i). h (omega arith) (omega arith) in
    put_other (set l i a) (i + 1) vs j (λ g k. h (omega arith) (omega arith)) ∙ get_or-set_other l i j a 0 ne

pub put_drop : (l : List ℕ) (i : ℕ) (vs : List ℕ) (n : ℕ) → i + length vs ≤ n → drop n (put l i vs) ≡ drop n l
unfolding put
put_drop l i [] n h = refl
put_drop l i (a ∷ vs) n h = put_drop (set l i a) (i + 1) vs n (omega arith) ∙ drop-set-lt n l i a (omega arith)

-- what is stored at an index begins there
pub put_there : (l : List ℕ) (i : ℕ) (vs : List ℕ) → i + length vs ≤ length l → drop i (put l i vs) ≡ vs ++ drop (i + length vs) l
put_there l i vs h = rw (put_eq l i vs h) (drop_at (take i l) (vs ++ drop (i + length vs) l) i (length-take-le i l (omega arith)))

-- a number that is stored is read back, and one that lies elsewhere is as before
pub le_put : (n v : ℕ) (l : List ℕ) (at : ℕ) → v < 256 ^ n → at + n ≤ length l → le_at n (put l at (le_bytes n v)) at ≡ v
le_put n v l at h g =
    le_at_law n v (put l at (le_bytes n v)) at (drop (at + length (le_bytes n v)) l) h (put_there l at (le_bytes n v) (omega (arith, length_le n v)))

pub le_other : (n : ℕ) (l : List ℕ) (i : ℕ) (vs : List ℕ) (at : ℕ) → (at < i + length vs → i < at + n → ⊥) → le_at n (put l i vs) at ≡ le_at n l at
le_other n l i vs at h = le_ext n (put l i vs) l at (λ j a b. put_other l i vs j (λ c d. h (omega arith) (omega arith)))

-- a loop that writes elements of k bytes one after the other: those of element m, behind those of the first m
pub concat_map_next : {A : Type 0} (e : A → List ℕ) (k : ℕ) → ((x : A) → length (e x) ≡ k) → (f : ℕ → A) (l : List ℕ) (at m j : ℕ) (x : A) (s t : List ℕ)
    → j ≡ at + k * m → x ≡ f m → s ≡ put l at (concat_map e (tabulate m f)) → t ≡ put s j (e x) → t ≡ put l at (concat_map e (tabulate (m + 1) f))
concat_map_next e k w f l at m j x s t q g p r =
    let n : length (concat_map e (tabulate m f)) ≡ k * m = length_concat_map e k w (tabulate m f) ∙ ap (λ (i : ℕ). k * i) (length_tabulate m f) in
    r ∙ rw (g, p, put_next l at (concat_map e (tabulate m f)) j (e (f m)) (q ∙ ap (λ (i : ℕ). at + i) (sym n)), concat_map_more e k w m f)

-- a loop that fills a list with one number, done
pub fill_done : (d s : List ℕ) (i v : ℕ) → length d ≤ i → i ≤ length d → s ≡ replicate i v ++ drop i d → s ≡ replicate (length d) v
fill_done d s i v h k e =
    let same : i ≡ length d = omega arith in
    e ∙ ap (λ (r : List ℕ). replicate i v ++ r) (drop_of_length-le d h) ∙ append-nil (replicate i v) ∙ ap (λ (n : ℕ). replicate n v) same
