-- Stores one after the other, each in the form of a branch of the code.
use Rattle.std.proofs.Common.{◌≡◌, refl, sym, ap, ◌∙◌, ◌≢◌, List, [], ◌∷◌, ◌++◌, ℕ, zero, suc, ◌+◌, ◌-◌, ◌/◌, ◌≤◌, ◌<◌, length, take, drop, set, arith, append_assoc, length-append, lt-ltb, le-ltb}
use Rattle.std.proofs.lemmas.List.Edits.{sets, sets-eq}
use borrow.Rule.Slice.PartMut.{put_mid, Post-is}
use Rattle.acts_fields.specs.Decimal.{last_digit, decimal}
use Rattle.acts_fields.specs.Bytes.{Written, Stored}

pub sets_append : (l : List ℕ) (i : ℕ) (xs ys : List ℕ) → sets l i (xs ++ ys) ≡ sets (sets l i xs) (i + length xs) ys
sets_append l i [] ys = let e : i + 0 ≡ i = omega arith in rw e
sets_append l i (x ∷ xs) ys = let e : i + suc (length xs) ≡ (suc i) + length xs = omega arith in rw e (sets_append (set l i x) (suc i) xs ys)

pub sets_next : (l : List ℕ) (i : ℕ) (xs : List ℕ) (j : ℕ) (ys : List ℕ) → j ≡ i + length xs → sets (sets l i xs) j ys ≡ sets l i (xs ++ ys)
sets_next l i xs j ys e = rw e (sym (sets_append l i xs ys))

pub decimal_small : (k n : ℕ) → n < 10 → decimal k n ≡ last_digit n ∷ []
unfolding decimal
decimal_small zero n e = refl
decimal_small (suc k) n e = rw (lt-ltb n 10 e)

pub decimal_more : (k n : ℕ) → k ≢ 0 → 10 ≤ n → decimal k n ≡ decimal (k - 1) (n / 10) ++ (last_digit n ∷ [])
unfolding decimal
decimal_more zero n h e = absurd (h refl)
decimal_more (suc k) n h e = let p : suc k - 1 ≡ k = omega arith in rw (p, le-ltb n 10 e)

pub then : (l s t : List ℕ) (at e r : ℕ) (xs ys : List ℕ) → Stored l s at e xs → Stored s t e r ys → Stored l t at r (xs ++ ys)
then l s t at e r xs ys p q = record {
  bytes = q.bytes ∙ ap (λ (x : List ℕ). sets x e ys) p.bytes ∙ sets_next l at xs e ys p.after;
  after = let a = p.after in let b = q.after in simp length-append (omega arith);
}

-- what is stored within l is written there, and every other byte is as before
pub written : (l t : List ℕ) (at r : ℕ) (w : List ℕ) → r ≤ length l → Stored l t at r w → Written l t at r w
written l t at r w h p = let a = p.after in record { bytes = p.bytes ∙ sets-eq w l at (omega arith); after = a }

pub copied : (l w s : List ℕ) (at : ℕ) → at + length w ≤ length l → s ≡ w → Stored l (put_mid at (at + length w - at) l s) at (at + length w) w
copied l w s at h e = record { bytes = rw (e, Post-is at (at + length w) l (omega arith)) (sym (append_assoc (take at l) w (drop (at + length w) l)) ∙ sym (sets-eq w l at h)); after = refl }
