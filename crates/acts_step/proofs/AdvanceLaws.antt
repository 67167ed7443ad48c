-- Turns one after the other do the lines of what they take. `advances_none`, `advances_then`, `takes_advances`; `advances_more`: input that comes behind.
-- `hands_more`, `text_handed`: the same with the output buffer and what is handed over of it.
use Rattle.std.proofs.Common.{◌≡◌, refl, sym, ap, ◌∙◌, subst, ◌⊎◌, inl, inr, Bool, true, List, [], ◌∷◌, ◌++◌, ℕ, ◌+◌, ◌≤◌, length, take, drop, arith, append_assoc, append-nil, length-append, take-append-drop, take_at, length-take-le}
use Rattle.std.proofs.Math.Seq.{drop-length}
use Rattle.acts_fields.specs.Bytes.{Written}
use Rattle.acts_text.specs.Input.{ended, current}
use Rattle.acts_text.proofs.InputLaws.{ended_append, current_append}
use Rattle.acts_step.specs.Advances.{Does, Waits, Goes, Takes, Goings, Advances, Hands, adds, flush, both}
use Rattle.acts_step.specs.Advances as goings
use Rattle.acts_buffer.specs.declared.Progress.{Progress}

-- ---- BYTES IN THE BUFFER

pub written_none : (l t : List ℕ) (at r : ℕ) → r ≡ at → t ≡ l → Written l t at r []
written_none l t at r e f = let z : at + 0 ≡ at = omega arith in record { bytes = f ∙ rw (z, append-nil (take at l)) (sym (take-append-drop at l)); after = omega arith }

-- what stands in the buffer up to where the output goes on: what stood there, and then the text written
pub written_taken : (l t : List ℕ) (at r : ℕ) (w : List ℕ) → at ≤ length l → Written l t at r w → take r t ≡ take at l ++ w
written_taken l t at r w fit p =
    let n : length (take at l ++ w) ≡ r = length-append (take at l) w ∙ ap (λ (x : ℕ). x + length w) (length-take-le at l fit) ∙ sym p.after in
    ap (take r) p.bytes ∙ take_at (take at l ++ w) (drop (at + length w) l) r n

-- ---- LINES ONE AFTER THE OTHER

goings_none : {d n d' n' : ℕ} (b : List ℕ) {g g' : Bool} → d ≡ d' → n ≡ n' → g ≡ g' → Goings d n b g [] d' n' b g' []
goings_none b e f h = rw (e, f, h) goings.end

goings_append : {d n d₁ n₁ d₂ n₂ : ℕ} {b m c s t : List ℕ} {g g₁ g₂ : Bool} {xs ys : List (List ℕ)}
    → Goings d n b g xs d₁ n₁ m g₁ s → Goings d₁ n₁ m g₁ ys d₂ n₂ c g₂ t → Goings d n b g (xs ++ ys) d₂ n₂ c g₂ (s ++ t)
goings_append goings.end q = q
goings_append {d = d} {n = n} {d₂ = d₂} {n₂ = n₂} {b = b} {c = c} {t = t} {g₂ = g₂} {ys = ys} (goings.next {l = l} {s = s} {t = u} {ls = ls} h r) q =
    subst (Goings d n b true (l ∷ (ls ++ ys)) d₂ n₂ c g₂) (sym (append_assoc s u t)) (goings.next h (goings_append r q))

pub advances_none : (b held i : List ℕ) (s r : Progress) → r.held ≡ s.held → r.d ≡ s.d → r.number ≡ s.number → r.going ≡ s.going → Advances b held i s b held i r []
advances_none b held i s r h d n g = record {
  lines = [];
  ends = ap (λ (x : ℕ). ended (take x held) i) (sym h);
  rest = ap (λ (x : ℕ). current (take x held) i) (sym h);
  does = goings_none b (sym d) (sym n) (sym g);
}

pub advances_then : (b held i : List ℕ) (s : Progress) (m held₁ j : List ℕ) (t : Progress) (c held₂ k : List ℕ) (r : Progress) (u v : List ℕ)
    → Advances b held i s m held₁ j t u → Advances m held₁ j t c held₂ k r v → Advances b held i s c held₂ k r (u ++ v)
advances_then b held i s m held₁ j t c held₂ k r u v p q = record {
  lines = p.lines ++ q.lines;
  ends = p.ends ∙ ap (λ (x : List (List ℕ)). p.lines ++ x) q.ends ∙ sym (append_assoc p.lines q.lines (ended (take r.held held₂) k));
  rest = p.rest ∙ q.rest;
  does = goings_append p.does q.does;
}

-- ---- ONE TURN

-- what a turn prints is written behind what stood in the buffer
pub record Turns (b held chunk out : List ℕ) (s : Progress) (c held' out' : List ℕ) (r : Progress) : Type 0 where
  pub text : List ℕ
  pub advance : Advances b held (drop s.at chunk) s c held' (drop r.at chunk) r text
  pub written : Written out out' s.end r.end text

module _ (b held chunk out : List ℕ) (s : Progress) (on : s.going ≡ true) (c held' out' : List ℕ) (r : Progress) where
  waits_advances : Waits b held chunk out s c held' out' r → Turns b held chunk out s c held' out' r
  unfolding ended current
  waits_advances w =
      let none : drop r.at chunk ≡ [] = ap (λ (x : ℕ). drop x chunk) w.used ∙ drop-length chunk in
      record {
        text = [];
        advance = record {
          lines = [];
          ends = w.none ∙ ap (ended (take r.held held')) (sym none);
          rest = w.kept ∙ ap (current (take r.held held')) (sym none);
          does = subst (λ (x : List ℕ). Goings s.d s.number b s.going [] r.d r.number x r.going []) (sym w.same.0)
              (goings_none b (sym w.stands.1) (sym w.stands.2) (sym w.stands.0));
        };
        written = written_none out out' s.end r.end w.stands.3 w.same.1;
      }

  goes_advances : Goes b held chunk out s c out' r → Turns b held chunk out s c held' out' r
  goes_advances w =
      let t = w.done.done.text in
      let empty : take r.held held' ≡ [] = ap (λ (x : ℕ). take x held') w.done.held in
      let step : Does s.d s.number b w.line true r.d r.going c t = subst (λ (x : Bool). Does s.d s.number b w.line x r.d r.going c t) on w.done.done.says in
      let all : Goings s.d s.number b true (w.line ∷ []) r.d (s.number + 1) c r.going (t ++ []) = goings.next step goings.end in
      record {
        text = t;
        advance = record {
          lines = w.line ∷ [];
          ends = w.ends ∙ ap (λ (x : List ℕ). w.line ∷ ended x (drop r.at chunk)) (sym empty);
          rest = w.rest ∙ ap (λ (x : List ℕ). current x (drop r.at chunk)) (sym empty);
          does = rw (w.done.number, on) (subst (Goings s.d s.number b true (w.line ∷ []) r.d (s.number + 1) c r.going) (append-nil t) all);
        };
        written = w.done.done.written;
      }

  either : Waits b held chunk out s c held' out' r ⊎ Goes b held chunk out s c out' r → Turns b held chunk out s c held' out' r
  either (inl w) = waits_advances w
  either (inr w) = goes_advances w

  pub takes_advances : Takes b held chunk out s c held' out' r → Turns b held chunk out s c held' out' r
  takes_advances w = either w.turn

-- ---- CHUNK AFTER CHUNK

-- more input j behind i changes nothing of what was done, and is left
pub advances_more : (b held i : List ℕ) (s : Progress) (c held' i' : List ℕ) (r : Progress) (t j : List ℕ) → Advances b held i s c held' i' r t → Advances b held (i ++ j) s c held' (i' ++ j) r t
advances_more b held i s c held' i' r t j p = record {
  lines = p.lines;
  ends = ended_append (take s.held held) i j
      ∙ ap (λ (x : List (List ℕ)). x ++ ended (current (take s.held held) i) j) p.ends
      ∙ append_assoc p.lines (ended (take r.held held') i') (ended (current (take s.held held) i) j)
      ∙ ap (λ (x : List ℕ). p.lines ++ (ended (take r.held held') i' ++ ended x j)) p.rest
      ∙ ap (λ (x : List (List ℕ)). p.lines ++ x) (sym (ended_append (take r.held held') i' j));
  rest = current_append (take s.held held) i j ∙ ap (λ (x : List ℕ). current x j) p.rest ∙ sym (current_append (take r.held held') i' j);
  does = p.does;
}

-- ---- WITH THE OUTPUT BUFFER

-- nothing is done, and nothing of the buffer changes
pub hands_none : (b held out i : List ℕ) (s r : Progress) → s.end ≤ length out → r.held ≡ s.held → r.d ≡ s.d → r.number ≡ s.number → r.going ≡ s.going → r.end ≡ s.end
    → Hands b held out i s b held out i r []
hands_none b held out i s r fit h d n g e = adds (advances_none b held i s r h d n g) fit (written_none out out s.end r.end e refl)

-- more input j behind i
pub hands_more : {b held out i : List ℕ} {s : Progress} {c held' out' i' : List ℕ} {r : Progress} {w : List ℕ} (j : List ℕ) → Hands b held out i s c held' out' i' r w
    → Hands b held out (i ++ j) s c held' out' (i' ++ j) r w
hands_more {b = b} {held = held} {i = i} {s = s} {c = c} {held' = held'} {i' = i'} {r = r} j (adds {t = t} p fit q) = adds (advances_more b held i s c held' i' r t j p) fit q
hands_more j (flush full f g) = flush full f g
hands_more j (both p q) = both (hands_more j p) (hands_more j q)

-- what stood in the buffer, and then the text of the lines, is what is handed over, and then what stands in the buffer
pub record Handed (b held out i : List ℕ) (s : Progress) (c held' out' i' : List ℕ) (r : Progress) (w : List ℕ) : Type 0 where
  pub text : List ℕ
  pub advance : Advances b held i s c held' i' r text
  pub bytes : take s.end out ++ text ≡ w ++ take r.end out'

pub text_handed : {b held out i : List ℕ} {s : Progress} {c held' out' i' : List ℕ} {r : Progress} {w : List ℕ} → Hands b held out i s c held' out' i' r w
    → Handed b held out i s c held' out' i' r w
text_handed {out = out} {s = s} {out' = out'} {r = r} (adds {t = t} p fit q) = record { text = t; advance = p; bytes = sym (written_taken out out' s.end r.end t fit q) }
text_handed {b = b} {held = held} {out = out} {i = i} {s = s} {r = r} (flush full f g) = record {
  text = [];
  advance = advances_none b held i s r f.held f.d f.number g;
  bytes = ap (λ (x : ℕ). take s.end out ++ take x out) (sym f.empty);
}
text_handed {b = b} {held = held} {out = out} {i = i} {s = s} {c = c} {held' = held₂} {out' = out₂} {i' = k} {r = r}
    (both {m = m} {held₁ = held₁} {out₁ = out₁} {j = j} {t = t} {u = u} {v = v} x y) =
    let p = text_handed x in
    let q = text_handed y in
    record {
      text = p.text ++ q.text;
      advance = advances_then b held i s m held₁ j t c held₂ k r p.text q.text p.advance q.advance;
      bytes = sym (append_assoc (take s.end out) p.text q.text)
          ∙ ap (λ (x : List ℕ). x ++ q.text) p.bytes
          ∙ append_assoc u (take t.end out₁) q.text
          ∙ ap (λ (x : List ℕ). u ++ x) q.bytes
          ∙ sym (append_assoc u v (take r.end out₂));
    }
