-- The followed pages, judged in turn, and the states of the others. Assumes nothing.
use Rattle.std.proofs.Common.{inr, ◌≡◌, sym, ◌∙◌, subst, List, ℕ, ◌+◌, ◌*◌, ◌≤◌, ◌<◌, arith, ltb, length, get_or, set, get_or-set_same, get_or-set_other, ltb-true, ltb-false}
use Rattle.lists.specs.Tests.{by_cases, decide}
use Rattle.pagestore.specs.Store.{View}
use Rattle.sound_faults.specs.Faults.{IsPage, Reached}
use Rattle.sound_faults.specs.Linked.{InState}
use Rattle.sound_faults.proofs.Assembled.{reached_page}
use Rattle.sound_links.specs.Marks.{Marked, Seen, Clear, MarksAre, FreedMarks}
use Rattle.sound_keys.specs.declared.Ends.{Ends}
use Rattle.sound_pages.specs.Pages.{Named, PagesFine, Lost}

-- ---- THE PAGES IN TURN

-- page 0 is not followed
pub pages_start : (v : View) (ends : List Ends) → v.count ≤ length ends → PagesFine v ends 1
pages_start v ends h =
    let none : (q : ℕ) → q < 1 → ¬ Reached v q = λ q k r. omega (arith, k, (reached_page r).0) in
    record {
      pages = λ q k r. absurd (none q k r);
      room = h;
      first = λ q k r. absurd (none q k r);
      last = λ q k r. absurd (none q k r);
    }

-- a value kept for page p, and those kept before
pub kept_more : (v : View) (h : ℕ → ℕ) (m : List ℕ) (p x : ℕ) → p < length m → x ≡ h p → ((q : ℕ) → q < p → Reached v q → get_or m q 0 ≡ h q)
    → (q : ℕ) → q < p + 1 → Reached v q → get_or (set m p x) q 0 ≡ h q
kept_more v h m p x l e f q k r =
    decide q p
    (λ s. subst (λ (y : ℕ). get_or (set m p x) y 0 ≡ h y) (sym s) (get_or-set_same m p x 0 l ∙ e))
    (λ d. get_or-set_other m p q x 0 d ∙ f q (omega (arith, d)) r)

pub named_start : (v : View) (m : List ℕ) → Clear v m → Named v m (16 * 1)
named_start v m c =
    record {
      size = c.size;
      by = λ q h. absurd (omega (arith, h, c.none q));
      fine = λ q j f b h. absurd (omega (arith, (reached_page b.reached).0));
      marked = λ q j f b h. absurd (omega (arith, (reached_page b.reached).0));
      alone = λ q j q' j' f f' b b' h h' e. absurd (omega (arith, (reached_page b.reached).0));
    }

-- ---- STATES

pub state_lost : (v : View) (m f : List ℕ) {p : ℕ} → MarksAre v m → FreedMarks v f → (¬ Seen m p) × (¬ Marked f p) → IsPage v p → p < v.fresh → Lost v p
state_lost v m f {p} s o h g l =
    record { range = g; reached = λ r. h.0 (omega (arith, s.all p r)); freed = λ z. omega (arith, z, o.other p h.1); fresh = λ u. omega (arith, u.1) }

pub state_all : (v : View) {p : ℕ} → ((q : ℕ) → IsPage v q → q < p → InState v q) → v.fresh ≤ p → (q : ℕ) → IsPage v q → InState v q
state_all v {p} f u q g = by_cases (ltb q p) (λ b. f q g (ltb-true q p b)) (λ b. let c : p ≤ q = ltb-false q p b in inr (inr (omega arith)))
