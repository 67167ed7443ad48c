use Rattle.std.proofs.Common.{◌≡◌, refl, ap, ◌∙◌, ℕ, ◌+◌, eqb, Bool, true, false}
use mir.Val.{bool_byte}
use Rattle.lists.specs.Basics.{indicator}
use Rattle.tree_core.proofs.RootLaws.{wanted_is}
use Rattle.tree_wanted.proofs.wanted.pages_wanted.Goals as goal

byte_is : (b : Bool) → bool_byte b ≡ indicator b
byte_is true = refl
byte_is false = refl

pub returns : goal.returns
returns c = let a = c.args in
    let n = c.full_run-n.result in
    wanted_is a.index.now a.x c.features_of-d.ensures c.root_level-level.ensures c.root_page-root.ensures c.record_rank-rank.ensures c.full_run-n.ensures.0
    (ap (λ (m : ℕ). n + m) (c.from-2.ensures ∙ byte_is _ ∙ ap (λ (m : ℕ). indicator (eqb n (m + 1))) c.from.ensures))
