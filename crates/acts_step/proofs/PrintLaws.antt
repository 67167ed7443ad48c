-- A whole input. `text_prints`: of turns over all of an input and then its end, what is handed over and what stands in the buffer is what the input's lines
-- call for. `text_ends`: after an unreadable first line nothing more is looked at. `prints_stands`: the index that an input leaves.
use Rattle.std.proofs.Common.{◌≡◌, refl, sym, ap, ◌∙◌, subst, ◌≢◌, ◌⊎◌, inl, inr, Bool, true, false, List, [], ◌∷◌, ◌++◌, map, ℕ, ◌+◌, ◌≤◌, length, take, Option, Some, None, is_some, unwrap_or, arith, append_assoc, append-nil, length-take}
use Rattle.std.proofs.lemmas.Option.{none-some, same_Some}
use Rattle.lists.specs.Tests.{false_true}
use Rattle.pagestore.specs.Store.{new_index}
use Rattle.index.specs.Acts.{Done, held_by}
use Rattle.index_laws.specs.Series.{Stands}
use Rattle.acts_text.specs.Input.{lines_of, kept, ended, current, last_line}
use Rattle.acts_text.proofs.InputLaws.{lines_kept}
use Rattle.acts_text.proofs.NameLaws.{names_kept}
use Rattle.acts_step.specs.Steps.{index_bytes, Steps, Begins, ends, begins}
use Rattle.acts_step.specs.Advances.{Does, first, later, Closes, closed, last, Goings, Advances, Hands, Fresh}
use Rattle.acts_step.specs.Advances as goings
use Rattle.acts_step.specs.Texts.{Runs, first_of, later_of, Prints}
use Rattle.acts_step.specs.Texts as texts
use Rattle.acts_buffer.specs.declared.Progress.{Progress}
use Rattle.acts_step.proofs.StepLaws.{lent, few_features}
use Rattle.acts_step.proofs.AdvanceLaws.{advances_more, written_taken, text_handed}
use Rattle.acts_step.proofs.TextLaws.{runs_append, runs_kept, runs_series, text_stands}

-- ---- THE FIRST LINE AND THE LATER ONES, AS KEPT

apart : {P : Type 0} (l : List ℕ) (ls : List (List ℕ)) → ◌≡◌ {A = List (List ℕ)} [] (l ∷ ls) → P
apart l ls e = let z : ◌≡◌ {A = ℕ} 0 1 = cc in absurd (omega arith)

first_kept : (ls : List (List ℕ)) (l : List ℕ) (ks : List (List ℕ)) → map kept ls ≡ l ∷ ks → (kept (first_of ls) ≡ l) × (map kept (later_of ls) ≡ ks)
first_kept [] l ks e = apart l ks e
first_kept (x ∷ xs) l ks e = ((cc), (cc))

only_kept : (ls : List (List ℕ)) (l : List ℕ) → map kept ls ≡ last_line l → (kept (first_of ls) ≡ l) × (map kept (later_of ls) ≡ [])
unfolding last_line
only_kept [] [] e = (refl, refl)
only_kept [] (x ∷ l) e = apart (x ∷ l) [] e
only_kept (y ∷ ys) [] e = apart (kept y) (map kept ys) (sym e)
only_kept (y ∷ ys) (x ∷ l) e = first_kept (y ∷ ys) (x ∷ l) [] e

begins_kept : {b l c t : List ℕ} {d : Option ℕ} → Begins b (kept l) d c t → Begins b l d c t
begins_kept {l = l} (ends n z e f) = ends (sym (names_kept l) ∙ n) z e f
begins_kept {l = l} (begins n e z f g) = begins n (sym (names_kept l) ∙ e) z f g

module _ (b i : List ℕ) where
  -- the first line's text, and that of the later lines
  goes_on : (d : ℕ) (l made s c u : List ℕ) (ks : List (List ℕ)) → kept (first_of (lines_of i)) ≡ l → map kept (later_of (lines_of i)) ≡ ks
      → Begins b l (Some d) made s → Runs d made 2 ks c u → Prints b i c (s ++ u)
  goes_on d l made s c u ks e f g r =
      texts.goes d made s u
      (begins_kept (subst (λ (x : List ℕ). Begins b x (Some d) made s) (sym e) g))
      (runs_kept (later_of (lines_of i)) (subst (λ (x : List (List ℕ)). Runs d made 2 x c u) (sym f) r))
      refl

  stops : (l c s : List ℕ) → kept (first_of (lines_of i)) ≡ l → Begins b l None c s → Prints b i c s
  stops l c s e g = texts.ends (begins_kept (subst (λ (x : List ℕ). Begins b x None c s) (sym e) g))

  only : (d : Option ℕ) (l c s : List ℕ) → map kept (lines_of i) ≡ last_line l → Begins b l d c s → Prints b i c s
  only None l c s e g = stops l c s (only_kept (lines_of i) l e).0 g
  only (Some d) l c s e g = let w = only_kept (lines_of i) l e in subst (Prints b i c) (append-nil s) (goes_on d l c s c [] [] w.0 w.1 g texts.end)

-- ---- LINES OF VALUES

goings_going : {d n d' n' : ℕ} {b c t : List ℕ} {g g' : Bool} {ls : List (List ℕ)} → Goings d n b g ls d' n' c g' t → g' ≡ true → g ≡ true
goings_going goings.end e = e
goings_going (goings.next h r) e = refl

goings_runs : {d n d' n' : ℕ} {b c t : List ℕ} {g g' : Bool} {ls : List (List ℕ)} → 2 ≤ n → Goings d n b g ls d' n' c g' t
    → Runs d b n ls c t × ((d' ≡ d) × (n' ≡ n + length ls))
goings_runs low goings.end = (texts.end, (refl, omega arith))
goings_runs low (goings.next (first z g h y) r) = absurd (omega arith)
goings_runs {c = c} low (goings.next {n = n} {m = m} {t = t} {ls = ls} (later z e st h) r) =
    let w = goings_runs (omega arith) r in
    let k = w.1.1 in
    (texts.next st (subst (λ (x : ℕ). Runs x m (n + 1) ls c t) e w.0), (w.1.0 ∙ e, omega arith))

-- the line that the end of input ends, if there is one
data Last (d n : ℕ) (m l c u : List ℕ) : Type 0 where
  none : n ≢ 1 → l ≡ [] → c ≡ m → u ≡ [] → Last d n m l c u
  some : {d' : ℕ} {g g' : Bool} → (n ≡ 1) ⊎ (l ≢ []) → Does d n m l g d' g' c u → Last d n m l c u

last_line_law : (l : List ℕ) → l ≢ [] → last_line l ≡ l ∷ []
unfolding last_line
last_line_law [] z = absurd (z refl)
last_line_law (x ∷ l) z = refl

last_none : (l : List ℕ) → l ≡ [] → last_line l ≡ []
unfolding last_line
last_none l z = rw z

last_runs : (d n d' n' : ℕ) (m l c u : List ℕ) → d' ≡ d → n' ≡ n → 2 ≤ n → Last d' n' m l c u → Runs d m n (last_line l) c u
last_runs d n d' n' m l c u e f low (none z y x w) =
    subst (λ (k : List (List ℕ)). Runs d m n k c u) (sym (last_none l y)) (subst (Runs d m n [] c) (sym w) (subst (λ (k : List ℕ). Runs d m n [] k []) (sym x) texts.end))
last_runs d n d' n' m l c u e f low (some w (first z g h y)) = absurd (omega arith)
last_runs d n d' n' m l c u e f low (some (inl w) (later z y st h)) = absurd (z w)
last_runs d n d' n' m l c u e f low (some (inr w) (later z y st h)) =
    let st' : Steps d m n l c u = subst (λ (k : ℕ). Steps k m n l c u) e (subst (λ (k : ℕ). Steps d' m k l c u) f st) in
    subst (λ (k : List (List ℕ)). Runs d m n k c u) (sym (last_line_law l w)) (subst (Runs d m n (l ∷ []) c) (append-nil u) (texts.next st' texts.end))

-- ---- ALL LINES

named : (o : Option ℕ) (g : Bool) (d : ℕ) → g ≡ true → g ≡ is_some o → d ≡ unwrap_or o 0 → o ≡ Some d
named None g d e h f = false_true (sym h ∙ e)
named (Some n) g d e h f = ap Some (sym f)

prints_all : {b i m c l u t : List ℕ} {d n d' n' : ℕ} {g' : Bool} {ls : List (List ℕ)} → n ≡ 1 → Goings d n b true ls d' n' m g' t → g' ≡ true
    → map kept (lines_of i) ≡ ls ++ last_line l → Last d' n' m l c u → Prints b i c (t ++ u)
prints_all o goings.end e f (none z y x w) = absurd (z o)
prints_all {b = b} {i = i} {c = c} {l = l} {u = u} o goings.end e f (some w (first z g h y)) = only b i _ l c u f g
prints_all o goings.end e f (some w (later z y st h)) = absurd (z o)
prints_all o (goings.next (later z y st h) r) e f k = absurd (z o)
prints_all {b = b} {i = i} {m = m} {c = c} {l = l} {u = u} {n = n} {d' = d'} {n' = n'} o
    (goings.next {d₁ = d₁} {l = x} {m = made} {s = s} {t = t} {g₁ = g₁} {ls = ls} (first {e = o'} z g h y) r) e f k =
    let w = goings_runs (let v : 2 ≤ n + 1 = omega arith in v) r in
    let v = first_kept (lines_of i) x (ls ++ last_line l) f in
    let all : Runs d₁ made (n + 1) (ls ++ last_line l) c (t ++ u) = runs_append w.0 (last_runs d₁ (n + 1 + length ls) d' n' m l c u w.1.0 w.1.1 (omega arith) k) in
    let two : n + 1 ≡ 2 = omega arith in
    subst (Prints b i c) (sym (append_assoc s t u))
    (goes_on b i d₁ x made s c (t ++ u) (ls ++ last_line l) v.0 v.1 (subst (λ (q : Option ℕ). Begins b x q made s) (named o' g₁ d₁ (goings_going r e) h y) g) (subst (λ (y : ℕ). Runs d₁ made y (ls ++ last_line l) c (t ++ u)) two all))

-- what the end of input prints
abbrev last_text : {b held out : List ℕ} {s : Progress} {c out' : List ℕ} {r : Progress} → Closes b held out s c out' r → List ℕ
last_text (closed n z e f g) = []
last_text (last w e) = e.done.text

held_some : (n : ℕ) (l : List ℕ) → n ≤ length l → n ≢ 0 → take n l ≢ []
held_some n l h z e = let m = length-take n l in let k : length (take n l) ≡ 0 = ap length e in z (omega arith)

close_last : {m held out c out' : List ℕ} {r q : Progress} → r.held ≤ length held → (k : Closes m held out r c out' q) → Last r.d r.number m (take r.held held) c (last_text k)
close_last {held = held} fit (closed n z e f g) = none n (ap (λ (x : ℕ). take x held) z) f refl
close_last fit (last (inl w) e) = some (inl w) e.done.says
close_last {held = held} {r = r} fit (last (inr w) e) = some (inr (held_some r.held held fit w)) e.done.says

-- the lines of an input i that is taken whole, and its end
lines_print : (b held i : List ℕ) (s : Progress) (m held' : List ℕ) (r : Progress) (t : List ℕ) → Fresh s → Advances b held i s m held' [] r t → r.going ≡ true
    → (out c out' : List ℕ) (q : Progress) → r.held ≤ length held' → (k : Closes m held' out r c out' q) → Prints b i c (t ++ last_text k)
unfolding ended current
lines_print b held i s m held' r t f p e out c out' q fit k =
    let start : take s.held held ≡ [] = ap (λ (x : ℕ). take x held) f.held in
    let lines : ended [] i ≡ p.lines = ap (λ (x : List ℕ). ended x i) (sym start) ∙ p.ends ∙ append-nil p.lines in
    let rest : current [] i ≡ take r.held held' = ap (λ (x : List ℕ). current x i) (sym start) ∙ p.rest in
    prints_all f.number (subst (λ (x : Bool). Goings s.d s.number b x p.lines r.d r.number m r.going t) f.going p.does) e
    (lines_kept i ∙ (λ j. lines j ++ last_line (rest j))) (close_last fit k)

-- what the end of input prints is written behind what stood in the buffer
close_taken : {m held out c out' : List ℕ} {r q : Progress} → r.end ≤ length out → (k : Closes m held out r c out' q) → take q.end out' ≡ take r.end out ++ last_text k
close_taken {out = out} {out' = out'} {r = r} fit (closed n z e f g) = ap (λ (x : Progress). take x.end out') e ∙ ap (take r.end) g ∙ sym (append-nil (take r.end out))
close_taken {out = out} {out' = out'} {r = r} {q = q} fit (last w e) = written_taken out out' r.end q.end e.done.text fit e.done.written

none_taken : (s : Progress) (out t : List ℕ) → Fresh s → take s.end out ++ t ≡ t
none_taken s out t f = ap (λ (x : ℕ). take x out ++ t) f.empty

-- an input i that a run which begins has taken whole, and its end: what is handed over, and then what stands in the buffer, is the text that i calls for
pub text_prints : (b held out i : List ℕ) (s : Progress) (m held' out₁ : List ℕ) (r : Progress) (w : List ℕ) → Fresh s → Hands b held out i s m held' out₁ [] r w → r.going ≡ true
    → (c out₂ : List ℕ) (q : Progress) → r.held ≤ length held' → r.end ≤ length out₁ → Closes m held' out₁ r c out₂ q → Prints b i c (w ++ take q.end out₂)
text_prints b held out i s m held' out₁ r w f h e c out₂ q fit room k =
    let p = text_handed h in
    subst (Prints b i c)
    (ap (λ (x : List ℕ). x ++ last_text k) (sym (none_taken s out p.text f) ∙ p.bytes) ∙ append_assoc w (take r.end out₁) (last_text k)
    ∙ ap (λ (x : List ℕ). w ++ x) (sym (close_taken room k)))
    (lines_print b held i s m held' r p.text f p.advance e out₁ c out₂ q fit k)

-- ---- AN UNREADABLE FIRST LINE

goings_keeps : {d n d' n' : ℕ} {b c t : List ℕ} {g g' : Bool} {ls : List (List ℕ)} → 2 ≤ n → Goings d n b g ls d' n' c g' t → g ≡ true → g' ≡ true
goings_keeps low goings.end e = e
goings_keeps low (goings.next (first z g h y) r) e = absurd (omega arith)
goings_keeps low (goings.next (later z y st h) r) e = goings_keeps (omega arith) r h

unnamed : (o : Option ℕ) → false ≡ is_some o → o ≡ None
unnamed None h = refl
unnamed (Some n) h = false_true h

prints_none : {b i c t : List ℕ} {d n d' n' : ℕ} {g' : Bool} {ls : List (List ℕ)} (ks : List (List ℕ)) → n ≡ 1 → Goings d n b true ls d' n' c g' t → g' ≡ false → map kept (lines_of i) ≡ ls ++ ks → Prints b i c t
prints_none ks o goings.end e f = false_true (sym e)
prints_none ks o (goings.next (later z y st h) r) e f = absurd (z o)
prints_none {b = b} {i = i} {c = c} ks o (goings.next {l = l} {s = s} (first {e = o'} z g h y) goings.end) e f =
    subst (Prints b i c) (sym (append-nil s))
    (stops b i l c s (first_kept (lines_of i) l ks f).0 (subst (λ (q : Option ℕ). Begins b l q c s) (unnamed o' (sym e ∙ h)) g))
prints_none {n = n} ks o (goings.next (first z g h y) (goings.next k r)) e f =
    false_true (sym e ∙ goings_keeps (let v : 2 ≤ n + 1 = omega arith in v) (goings.next k r) refl)

lines_end : (b held i : List ℕ) (s : Progress) (c held' i' : List ℕ) (r : Progress) (t : List ℕ) → Fresh s → Advances b held i s c held' i' r t → r.going ≡ false
    → (j : List ℕ) → Prints b (i ++ j) c t
lines_end b held i s c held' i' r t f p e j =
    let q = advances_more b held i s c held' i' r t j p in
    let start : take s.held held ≡ [] = ap (λ (x : ℕ). take x held) f.held in
    let lines : map kept (lines_of (i ++ j)) ≡ (q.lines ++ ended (take r.held held') (i' ++ j)) ++ last_line (current [] (i ++ j)) =
    lines_kept (i ++ j) ∙ ap (λ (x : List (List ℕ)). x ++ last_line (current [] (i ++ j))) (ap (λ (x : List ℕ). ended x (i ++ j)) (sym start) ∙ q.ends) in
    prints_none (ended (take r.held held') (i' ++ j) ++ last_line (current [] (i ++ j))) f.number
    (subst (λ (x : Bool). Goings s.d s.number b x q.lines r.d r.number c r.going t) f.going q.does) e
    (lines ∙ append_assoc q.lines (ended (take r.held held') (i' ++ j)) (last_line (current [] (i ++ j))))

-- a run that has ended by its first line: what is handed over, and then what stands in the buffer, is the text that the input calls for, whatever comes
-- behind what was taken
pub text_ends : (b held out i : List ℕ) (s : Progress) (c held' out' i' : List ℕ) (r : Progress) (w : List ℕ) → Fresh s → Hands b held out i s c held' out' i' r w → r.going ≡ false
    → (j : List ℕ) → Prints b (i ++ j) c (w ++ take r.end out')
text_ends b held out i s c held' out' i' r w f h e j =
    let p = text_handed h in
    subst (Prints b (i ++ j) c) (sym (none_taken s out p.text f) ∙ p.bytes) (lines_end b held i s c held' i' r p.text f p.advance e j)

-- ---- THE INDEX THAT AN INPUT LEAVES

-- as it was, or sound with the records inserted and not deleted since
pub prints_stands : (b i c t : List ℕ) → length b ≡ index_bytes → Prints b i c t → (c ≡ b) ⊎ ((d : ℕ) × ((os : List Done) × Stands d (held_by d os []) c))
prints_stands b i c t len (texts.ends (ends n z e f)) = inl e
prints_stands b i c t len (texts.ends (begins n y z f g)) = absurd (none-some n z)
prints_stands b i c t len (texts.goes d made s u (ends n y e f) r w) = absurd (none-some d (sym y))
prints_stands b i c t len (texts.goes d made s u (begins n y z f g) r w) =
    let e : n ≡ d = sym (same_Some d n z) in
    let few = few_features (first_of (lines_of i)) d (y ∙ ap Some e) in
    let run : Runs d (new_index b d) 2 (later_of (lines_of i)) c u =
    subst (λ (x : List ℕ). Runs d x 2 (later_of (lines_of i)) c u) (f ∙ ap (new_index b) e) r in
    inr (d, ((runs_series run).0, text_stands b d (lent b len) few.0 few.1 run))
