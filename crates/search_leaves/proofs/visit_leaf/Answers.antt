use Rattle.std.proofs.Common.{◌≡◌, sym, ap, ◌∙◌, true, List, ℕ, ◌+◌, ◌*◌, ◌-◌, arith, length, take, drop, length-drop, length-take-le}
use Rattle.pagestore.specs.Store.{in_range}
use Rattle.pagestore.specs.Store.RangeLaws.{range_whole}
use Rattle.search_model.specs.Asked.{asking, weights_in}
use Rattle.search_model.proofs.AskedLaws.{ones_in}
use Rattle.search_leaves.proofs.LeafLaws.{offered_part, offered_outside}
use Rattle.search_leaves.proofs.visit_leaf.Goals as goal

-- `visit_leaf` hands the page's part over, and the low ends and weights of the question, which are its point's; out of range there are no records.
-- the weights as the code cuts them out
same-part : (asked : List ℕ) → take (32 + (length asked - 48) - 32) (drop 32 asked) ≡ weights_in asked
same-part asked = let e : 32 + (length asked - 48) - 32 ≡ length asked - 48 = omega arith in ap (λ (n : ℕ). take n (drop 32 asked)) e

-- a page's part is a page long
part_length : (b : List ℕ) (p : ℕ) → in_range b p ≡ true → length (take (p * 1024 + 1024 - p * 1024) (drop (p * 1024) b)) ≡ 1024
part_length b p e =
    let w = range_whole b p e in
    length-take-le (p * 1024 + 1024 - p * 1024) (drop (p * 1024) b) (omega (arith, length-drop (p * 1024) b)) ∙ omega arith

pub returns-then-not-in_range : goal.returns-then-not-in_range
returns-then-not-in_range c =
    let S = c in
    offered_outside S.args.index.now S.args.page (asking S.args.sought.now.asked.now S.args.sought.now.k S.args.sought.now.choice) S.args.position _ _ _ _ (sym c.in_range.ensures ∙ c.if-not-in_range.true) S.requires.2

pub slice_bounds-offer_leaf-end : goal.slice_bounds-offer_leaf-end
slice_bounds-offer_leaf-end c = let S = c in omega (arith, range_whole S.args.index.now S.args.page (sym c.in_range.ensures ∙ c.if-not-in_range.false))

pub slice_bounds-offer_leaf-end-2 : goal.slice_bounds-offer_leaf-end-2
slice_bounds-offer_leaf-end-2 c = sym (length-take-le _ _ (omega arith))

pub offer_leaf-requires : goal.offer_leaf-requires
offer_leaf-requires c =
    let S = c in let asked = S.args.sought.now.asked.now in (
      record { bytes = part_length S.args.index.now S.args.page (sym c.in_range.ensures ∙ c.if-not-in_range.false); point = rw (same-part asked) S.requires.0.point; placed = S.requires.1; held = S.requires.2 },
      λ e. same-part asked ∙ ones_in asked S.requires.0 (S.args.sought.now.flag e),
    )

pub returns : goal.returns
returns c =
    let S = c in
    offered_part S.args.index.now S.args.page S.args.sought.now.asked.now _ S.args.position _ _ _ _ _ _ _ _ (sym c.in_range.ensures ∙ c.if-not-in_range.false) S.requires.0
    (same-part S.args.sought.now.asked.now) c.offer_leaf.ensures
