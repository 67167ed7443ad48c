-- The record that a lookup comes to has the identifier asked for.
use Rattle.std.proofs.Common.{◌≡◌, List, [], ◌∷◌, ℕ, ◌<◌, length, take, get_or, arith, eqb, length-take, ◌∙◌, sym, eqb-true}
use Rattle.std.proofs.Math.ListN.{get_or-eq_default}
use Rattle.lists.specs.Ascending.{head_or}
use Rattle.lists.specs.Leading.{leading}
use Rattle.lists.specs.Sorting.{filter}
use Rattle.lists.specs.Tests.{by_cases}
use Rattle.pagestore_page.specs.declared.Record.{Record}
use Rattle.tree_model.specs.Deleting.{other_ident}
use Rattle.tree_core.specs.Lookup.{with_ident, blank}
use Rattle.tree_core.proofs.LookupLaws.{first_is, found_is}

leading_ident : (k : ℕ) (rs : List Record) → leading (other_ident k) rs < length rs → (head_or blank (with_ident k rs)).id ≡ k
unfolding leading filter head_or
leading_ident k [] h = absurd (omega arith)
leading_ident k (r ∷ rs) h =
    by_cases (eqb r.id k) (λ e. rw e (eqb-true r.id k e))
    (λ e. let g = rw e at h in rw e (leading_ident k rs (omega arith)))

-- the record x at the place i of the slots of a leaf whose count is c
pub found_in_slots : (k : ℕ) (slots : List Record) (c i : ℕ) (d x : Record) → x ≡ get_or slots i d → i ≡ leading (other_ident k) (take c slots) → i < length (take c slots)
    → (x ≡ head_or blank (with_ident k (take c slots))) × (x.id ≡ k)
found_in_slots k slots c i d x e f h =
    let n = length-take c slots in
    let g : x ≡ head_or blank (with_ident k (take c slots)) = e ∙ found_is k slots c i d (omega arith) (omega arith) f in
    let m = leading_ident k (take c slots) (omega arith) in
    (g, rw g m)

pub absent_from : (k : ℕ) (rs : List Record) → leading (other_ident k) rs ≡ length rs → head_or blank (with_ident k rs) ≡ blank
absent_from k rs e = sym (first_is k rs blank) ∙ get_or-eq_default rs blank {n = leading (other_ident k) rs} (omega arith)
