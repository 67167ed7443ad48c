use Rattle.std.proofs.Common.{rules, ◌≡◌, ◌+◌, ◌-◌, length, arith, tests}
use Rattle.std.proofs.lemmas.Iterator.{cases_from_all, YieldsList-from_slice, YieldsList-from_zip}
use Rattle.geometry_slices.specs.Questions.{NoWeight, part_from, weights_from, reaches_from}
use Rattle.geometry_slices.proofs.UnweightedLaws.{unweighted_all}
use Rattle.geometry_slices.proofs.asked.is_unweighted.Goals as goal

pub returns : goal.returns
returns c =
    let a = c.args.asked.now in
    let e : 32 + (length a - 48) - 32 ≡ length a - 48 = omega arith in
    let w = rw e at c.iter.ensures.rest in
    unweighted_all a c.requires c.all.result
    (cases_from_all c.all.new.self _ _ (λ x. NoWeight x.0 x.1) (λ x. ¬ NoWeight x.0 x.1) c.all.ensures.ran
    (YieldsList-from_zip (YieldsList-from_slice (part_from weights_from a) (cc (w, c.zip.ensures.first))) (YieldsList-from_slice (part_from reaches_from a) (cc (c.iter-2.ensures.rest, c.zip.ensures.second))))
    (λ x q k. search (rules, tests)) (λ x q k. search (rules, tests)))
