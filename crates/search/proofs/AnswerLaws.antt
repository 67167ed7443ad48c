-- What the search returns, from what the visit leaves.
use Rattle.std.proofs.Common.{◌≡◌, ◌∙◌, Bool, true, false, ◌||◌, List, [], ℕ, ◌≤◌, arith, eqb, ltb, ltb-false}
use Rattle.pagestore.specs.Store.{total, level, field_at}
use Rattle.search.specs.declared.Seen.{Seen}
use Rattle.search_model.specs.Numbers.{max_level}
use Rattle.search_model.specs.Asked.{Asked}
use Rattle.search_model.specs.Visit.{answer_of, visited, reads_none, found}
use Rattle.search.specs.Steps.{answer_in, Searched}
use Rattle.search_model.proofs.ExactLaws.{found_exact}
use Rattle.search_model.proofs.UnreadLaws.{unread_bytes}

-- where something is read, the root's level is 4 at most
pub level_low : (b : List ℕ) → reads_none b ≡ false → field_at level b ≤ max_level
unfolding reads_none
level_low b e = by (eqb (field_at total b) 0) e
  where
    by : (t : Bool) → t || ltb max_level (field_at level b) ≡ false → field_at level b ≤ max_level
    by true e = absurd (let z : ◌≡◌ {A = ℕ} 0 1 = cc in omega arith)
    by false e = ltb-false max_level (field_at level b) e

pub answer_none : (b : List ℕ) (q : Asked) → reads_none b ≡ true → record { rows = []; leaves = 0 } ≡ found b q
unfolding found
answer_none b q e = rw e

pub answer_some : (b : List ℕ) (q : Asked) → reads_none b ≡ false → answer_of (visited b q) ≡ found b q
unfolding found
answer_some b q e = rw e

pub searched : (b : List ℕ) (q : Asked) (highs lows : List ℕ) (r : Seen) → 1 ≤ q.k → r.rows ≤ q.k → answer_in highs lows r ≡ found b q → Searched b q highs lows r
searched b q highs lows r one few e =
    record { answer = e; few = few; sound = λ c s suits agree. e ∙ unread_bytes c s q suits one b agree ∙ found_exact c s q suits one }
