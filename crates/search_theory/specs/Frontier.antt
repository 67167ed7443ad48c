-- The visit over a hierarchy: a frontier of entries of every level in place of all leaves. Definitions.
-- E: an entry, which stands for the page that it names. is_leaf: its page is a leaf. kids: the entries of its page.
use Rattle.std.specs.Prelude.{◌≡◌, Bool, leb}
use Rattle.std.proofs.Math.Bool.{true, false}
use mathlib.Core.List.{List, [], ◌∷◌}
use Prim.Native.Nat.{ℕ, zero, suc, ◌+◌, ◌≤◌}
use Rattle.std.proofs.Math.ListN.{length}
use Rattle.lists.specs.Basics.{if, All, concat_map}
use Rattle.lists.specs.Sorting.{insert_all, offer_all, filter}
use Rattle.search_theory.specs.Nearest.{Ranking, Outcome, reading, exceeds, offered}

module _ {E : Type 0} (is_leaf : E → Bool) (kids : E → List E) where
  -- the leaves under an entry, first to last; n: how many levels of inner pages are looked at
  unfoldable pub leaves_under : ℕ → E → List E
  unfolding concat_map
  leaves_under zero e = if (is_leaf e) (e ∷ []) []
  leaves_under (suc n) e = if (is_leaf e) (e ∷ []) (concat_map (leaves_under n) (kids e))

  -- In at most n levels all ways down end at a leaf; an inner page has two entries or more; and no leaf under an entry is before it.
  unfoldable pub Descends : (E → E → Bool) → ℕ → E → Type 0
  unfolding leaves_under
  Descends before zero e = is_leaf e ≡ true
  Descends before (suc n) e =
      is_leaf e ≡ false → (2 ≤ length (kids e)) × All (λ x. before x e ≡ false) (leaves_under (suc n) e) × All (Descends before n) (kids e)

module _ {A E : Type 0} (r : Ranking A) (bound : E → ℕ) (rows : E → List A) (before : E → E → Bool) (is_leaf : E → Bool) (kids : E → List E) (k room : ℕ) where
  -- The search: the first entry of the frontier is taken until its bound exceeds the k-th cost found; a leaf is read, an inner
  -- page gives its entries to the frontier. It also ends after n steps, or where the entries have no room: then the entries
  -- are not those of a sound index. s: the k best rows so far.
  unfoldable pub seek : ℕ → List E → List A → Outcome A E
  unfolding exceeds filter offer_all insert_all
  seek zero f s = record { rows = s; read = [] }
  seek (suc n) [] s = record { rows = s; read = [] }
  seek (suc n) (e ∷ f) s =
      if (exceeds r k (bound e) s) (record { rows = s; read = [] })
      (if (is_leaf e) (reading e (seek n f (offered r bound rows k e s)))
      (if (leb (length (kids e) + length f) room) (seek n (insert_all before (kids e) f) s) (record { rows = s; read = [] })))
