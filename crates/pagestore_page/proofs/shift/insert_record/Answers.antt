use Rattle.std.proofs.Common.{◌≡◌, suc, ◌+◌, ◌-◌, List, length, take, set, get_or, refl, ap, ◌∙◌, arith, rules}
use Rattle.lists.specs.Lengths.{unmapped}
use Rattle.lists.specs.Shift.{raised_none, raised_more, raised_filled}
use Rattle.pagestore_page.specs.declared.Record.{Record}
use Rattle.pagestore_page.specs.Layout.{no_record}
use Rattle.pagestore_page.proofs.shift.insert_record.Goals as goal

pub loop-i-init : goal.loop-i-init
loop-i-init c = (search rules, search (unmapped, rules), raised_none _ _)

pub loop-i-preserved : goal.loop-i-preserved
loop-i-preserved c =
    let L = c.loop-i in
    let S = c.args in
    let slots : length S.leaf.records ≡ 16 = search (unmapped, rules) in
    let e : L.i ≡ suc (L.i - 1) = omega arith in
    let f : L.i - 1 + 1 ≡ L.i = omega arith in (
      omega arith,
      search rules,
      rw f (ap (λ (l : List Record). set l L.i (get_or l (L.i - 1) no_record)) L.invariant.2
          ∙ raised_more S.leaf.records L.i (L.i - 1) S.leaf.count no_record e (omega arith) (omega arith)),
    )

pub returns : goal.returns
returns c =
    let L = c.loop-i in
    let S = c.args in
    let slots : length S.leaf.records ≡ 16 = search (unmapped, rules) in
    let e : L.i ≡ S.at = omega arith in (
      refl,
      ap (λ (l : List Record). take (S.leaf.count + 1) (set l S.at S.r)) (rw e at L.invariant.2)
          ∙ raised_filled S.leaf.records S.leaf.count S.at S.r no_record c.requires.1 (omega arith),
    )
