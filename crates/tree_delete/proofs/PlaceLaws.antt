-- The place of a record that is to go, or behind all where there is none. Assumes nothing.
use Rattle.std.proofs.Common.{◌≡◌, sym, ◌∙◌, List, ℕ, ◌<◌, length, Option, Some, None, MatchOption, unwrap_or}
use Rattle.lists.specs.Leading.{leading}
use Rattle.pagestore_page.specs.declared.Record.{Record}
use Rattle.tree_model.specs.Deleting.{other_ident}

pub place_is : (k d : ℕ) (rs : List Record) (o : Option ℕ) → MatchOption o (leading (other_ident k) rs ≡ length rs) (λ i. (i ≡ leading (other_ident k) rs) × (i < length rs) × (i < 16)) → d ≡ length rs
    → unwrap_or o d ≡ leading (other_ident k) rs
place_is k d rs None h e = e ∙ sym h
place_is k d rs (Some i) h e = h.0
