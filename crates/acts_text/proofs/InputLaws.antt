-- Input cut into lines. `lines_line`, `lines_last`: what `lines_of` gives. `ended_append`, `current_append`: chunks fed one after the other are the
-- same as their concatenation. `lines_kept`: fed to the end they give the lines of the input, as kept. `feeds_line`, `feeds_on`: a call of `feed`.
use Rattle.std.proofs.Common.{◌≡◌, refl, sym, ap, ◌∙◌, ◌≢◌, true, false, List, [], ◌∷◌, ◌++◌, map, append_assoc, append-nil, ℕ, zero, suc, ◌+◌, ◌-◌, ◌≤◌, ◌<◌, min, arith, ltb, eqb, length, take, drop, length-append, length-take, length-drop, take_all, take_at, drop-drop, eqb-true, ltb-true, ltb-false, ne_eqb}
use lib.Seq.{take-append-add}
use borrow.Author.Tests.{eqb-false}
use Rattle.lists.specs.Basics.{All, none, also, all_append}
use Rattle.lists.specs.Tests.{by_cases}
use Rattle.acts_fields.specs.Bytes.{newline, until, Stored}
use Rattle.acts_text.specs.Input.{before, lines_of, kept, ended, current, last_line, piece, Feeds}
use Rattle.acts_text.specs.declared.Fed.{Fed}
use Rattle.acts_fields.proofs.StoreLaws.{written}

-- a line goes up to its newline
pub lines_line : {l : List ℕ} → All (λ b. b ≢ newline) l → (s : List ℕ) → lines_of (l ++ (newline ∷ s)) ≡ l ∷ lines_of s
unfolding lines_of before
lines_line none s = refl
lines_line (also {x = b} {xs = l} h t) s = rw (ne_eqb b newline h, lines_line t s)

-- or up to the end of input; after a last newline there is none
pub lines_last : {l : List ℕ} → All (λ b. b ≢ newline) l → lines_of l ≡ last_line l
unfolding lines_of before last_line
lines_last none = refl
lines_last (also {x = b} h none) = rw (ne_eqb b newline h)
lines_last (also {x = b} h (also k t)) = rw (ne_eqb b newline h) (ap (before b) (lines_last (also k t)))

pub ended_append : (l s t : List ℕ) → ended l (s ++ t) ≡ ended l s ++ ended (current l s) t
unfolding ended current
ended_append l [] t = refl
ended_append l (b ∷ s) t = by_cases (eqb b newline) (λ e. rw e (ap (λ (x : List (List ℕ)). l ∷ x) (ended_append [] s t))) (λ e. rw e (ended_append (kept (l ++ (b ∷ []))) s t))

pub current_append : (l s t : List ℕ) → current l (s ++ t) ≡ current (current l s) t
unfolding current
current_append l [] t = refl
current_append l (b ∷ s) t = by_cases (eqb b newline) (λ e. rw e (current_append [] s t)) (λ e. rw e (current_append (kept (l ++ (b ∷ []))) s t))

take_more : (m : ℕ) (l x : List ℕ) → take m (take m l ++ x) ≡ take m (l ++ x)
take_more zero l x = refl
take_more (suc m) [] x = refl
take_more (suc m) (y ∷ l) x = ap (λ (r : List ℕ). y ∷ r) (take_more m l x)

pub kept_more : (l x : List ℕ) → kept (kept l ++ x) ≡ kept (l ++ x)
kept_more l x = take_more 257 l x

kept_last : (l : List ℕ) → map kept (last_line l) ≡ last_line (kept l)
unfolding last_line
kept_last [] = refl
kept_last (b ∷ l) = refl

lines_from : {l : List ℕ} → All (λ b. b ≢ newline) l → (s : List ℕ) → map kept (lines_of (l ++ s)) ≡ ended (kept l) s ++ last_line (current (kept l) s)
unfolding ended current
lines_from {l} a [] = ap (λ (x : List ℕ). map kept (lines_of x)) (append-nil l) ∙ ap (map kept) (lines_last a) ∙ kept_last l
lines_from {l} a (b ∷ s) = by_cases (eqb b newline)
    (λ e. let n = eqb-true b newline e in
    ap (λ (x : ℕ). map kept (lines_of (l ++ (x ∷ s)))) n ∙ ap (map kept) (lines_line a s) ∙ rw e (ap (λ (x : List (List ℕ)). kept l ∷ x) (lines_from none s)))
    (λ e. ap (λ (x : List ℕ). map kept (lines_of x)) (sym (append_assoc l (b ∷ []) s))
    ∙ lines_from (all_append a (also (eqb-false b newline e) none)) s
    ∙ rw (e, kept_more l (b ∷ [])))

-- the lines of an input, as kept, are those that end within it and what the end of input ends
pub lines_kept : (s : List ℕ) → map kept (lines_of s) ≡ ended [] s ++ last_line (current [] s)
lines_kept s = lines_from none s

-- ---- one step

abbrev Ends : List ℕ → List ℕ → Type 0
Ends l s = (ended (kept l) s ≡ kept (l ++ take (until newline s) s) ∷ ended [] (drop (suc (until newline s)) s)) × (current (kept l) s ≡ current [] (drop (suc (until newline s)) s))

ends : (l s : List ℕ) → until newline s < length s → Ends l s
unfolding until ended current
ends l [] h = absurd (omega (arith, h))
ends l (b ∷ s) h = by_cases (eqb b newline)
    (λ e. rw e (ap (λ (x : List ℕ). kept x ∷ ended [] s) (sym (append-nil l)), refl))
    (λ e. let i = ends (l ++ (b ∷ [])) s (let g = rw e at h in omega (arith, g)) in
    rw (e, kept_more l (b ∷ [])) (i.0 ∙ ap (λ (x : List ℕ). kept x ∷ ended [] (drop (suc (until newline s)) s)) (append_assoc l (b ∷ []) (take (until newline s) s)), i.1))

abbrev Goes : List ℕ → List ℕ → Type 0
Goes l s = (ended (kept l) s ≡ []) × (current (kept l) s ≡ kept (l ++ s))

goes : (l s : List ℕ) → length s ≤ until newline s → Goes l s
unfolding until ended current
goes l [] h = (refl, ap kept (sym (append-nil l)))
goes l (b ∷ s) h = by_cases (eqb b newline)
    (λ e. absurd (let g = rw e at h in omega (arith, g)))
    (λ e. let i = goes (l ++ (b ∷ [])) s (let g = rw e at h in omega (arith, g)) in
    rw (e, kept_more l (b ∷ [])) (i.0, i.1 ∙ ap kept (append_assoc l (b ∷ []) s)))

take_min : (a b : ℕ) (l : List ℕ) → take (min a b) l ≡ take b (take a l)
take_min a b l = by_cases (ltb a b)
    (λ h. let p = ltb-true a b h in let e : min a b ≡ a = omega arith in rw e (sym (take_all b (take a l) (simp length-take (omega arith)))))
    (λ h. let p = ltb-false a b h in let e : min a b ≡ b = omega arith in rw e (shorter b a l p))
  where
    shorter : (m n : ℕ) (l : List ℕ) → m ≤ n → take m l ≡ take m (take n l)
    shorter zero n l h = refl
    shorter (suc m) zero l h = absurd (omega (arith, h))
    shorter (suc m) (suc n) [] h = refl
    shorter (suc m) (suc n) (x ∷ l) h = ap (λ (r : List ℕ). x ∷ r) (shorter m n l (omega (arith, h)))

add_sub : (a b : ℕ) → a + b - a ≡ b
add_sub a b = omega arith

room : (h n x y z : ℕ) → n ≤ 257 → 257 ≤ z → h ≡ n + y → y ≡ min (257 - n) x → h ≤ z
room h n x y z a b c d = omega arith

-- what the code does is `Feeds`
pub feeds : (held held' chunk : List ℕ) (n at e m h nx : ℕ) → 257 ≤ length held → n ≤ 257 → e ≡ at + until newline (drop at chunk) → m ≡ min (e - at) (257 - n)
    → Stored held held' n h (take (at + m - at) (drop at chunk)) → nx ≡ min (e + 1) (length chunk)
    → Feeds held held' n chunk at (record { ended = ltb e (length chunk); held = h; at = nx })
feeds held held' chunk n at e m h nx l k p q s t =
    let v : e - at ≡ until newline (drop at chunk) = rw p (add_sub at (until newline (drop at chunk))) in
    let u : at + m - at ≡ min (until newline (drop at chunk)) (257 - n) = add_sub at m ∙ q ∙ ap (λ (x : ℕ). min x (257 - n)) v in
    let w : take (at + m - at) (drop at chunk) ≡ take (257 - n) (piece chunk at) = ap (λ (x : ℕ). take x (drop at chunk)) u ∙ take_min (until newline (drop at chunk)) (257 - n) (drop at chunk) in
    let z : Stored held held' n h (take (257 - n) (piece chunk at)) = rw w at s in
    let o : h ≤ length held = room h n (length (piece chunk at)) (length (take (257 - n) (piece chunk at))) (length held) k l z.after (length-take (257 - n) (piece chunk at)) in
    record {
      bytes = written held held' n h (take (257 - n) (piece chunk at)) o z;
      whole = ap (λ (x : ℕ). ltb x (length chunk)) p;
      next = t ∙ ap (λ (x : ℕ). min (x + 1) (length chunk)) p;
    }

module _ (held held' : List ℕ) (n : ℕ) (chunk : List ℕ) (at : ℕ) (r : Fed) (len : 257 ≤ length held) (fits : n ≤ 257) (inside : at ≤ length chunk) (f : Feeds held held' n chunk at r) where
  open_kept : kept (take n held) ≡ take n held
  open_kept = take_all 257 (take n held) (simp length-take (omega arith))

  taken : take r.held held' ≡ kept (take n held ++ piece chunk at)
  taken =
      let w = take (257 - n) (piece chunk at) in
      let p : length (take n held) ≡ n = simp length-take (omega arith) in
      let q : length (take n held ++ w) ≡ r.held = length-append (take n held) w ∙ ap (λ (x : ℕ). x + length w) p ∙ sym f.bytes.after in
      let s : length (take n held) + (257 - n) ≡ 257 = omega arith in
      ap (take r.held) f.bytes.bytes ∙ take_at (take n held ++ w) (drop (n + length w) held) r.held q
      ∙ sym (ap (λ (x : ℕ). take x (take n held ++ piece chunk at)) (sym s) ∙ take-append-add (take n held) (piece chunk at) (257 - n))

  -- a call that met a newline: the line that ended is the one held, and the chunk goes on behind the newline with no line begun
  pub feeds_line : r.ended ≡ true → (ended (take n held) (drop at chunk) ≡ take r.held held' ∷ ended [] (drop r.at chunk)) × (current (take n held) (drop at chunk) ≡ current [] (drop r.at chunk))
  feeds_line t =
      let u = until newline (drop at chunk) in
      let b : at + u < length chunk = ltb-true (at + u) (length chunk) (sym f.whole ∙ t) in
      let g = length-drop at chunk in
      let i = ends (take n held) (drop at chunk) (omega arith) in
      let d : drop (suc u) (drop at chunk) ≡ drop r.at chunk = drop-drop (suc u) at chunk ∙ ap (λ (x : ℕ). drop x chunk) (let y = f.next in let e : at + suc u ≡ r.at = omega arith in e) in (
        ap (λ (x : List ℕ). ended x (drop at chunk)) (sym open_kept) ∙ i.0 ∙ ap (λ (x : List ℕ). x ∷ ended [] (drop (suc u) (drop at chunk))) (sym taken)
            ∙ ap (λ (x : List ℕ). take r.held held' ∷ ended [] x) d,
        ap (λ (x : List ℕ). current x (drop at chunk)) (sym open_kept) ∙ i.1 ∙ ap (current []) d,
      )

  -- a call that met none: the chunk is used up, no line ended, and what is held is what is kept of the current one
  pub feeds_on : r.ended ≡ false → (ended (take n held) (drop at chunk) ≡ []) × (current (take n held) (drop at chunk) ≡ take r.held held') × (r.at ≡ length chunk)
  feeds_on t =
      let u = until newline (drop at chunk) in
      let b : length chunk ≤ at + u = ltb-false (at + u) (length chunk) (sym f.whole ∙ t) in
      let g = length-drop at chunk in
      let v : length (drop at chunk) ≤ u = omega arith in
      let i = goes (take n held) (drop at chunk) v in
      let y = f.next in (
        ap (λ (x : List ℕ). ended x (drop at chunk)) (sym open_kept) ∙ i.0,
        ap (λ (x : List ℕ). current x (drop at chunk)) (sym open_kept) ∙ i.1 ∙ ap (λ (x : List ℕ). kept (take n held ++ x)) (sym (take_all u (drop at chunk) v)) ∙ sym taken,
        omega arith,
      )
