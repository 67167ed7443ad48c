use Rattle.std.proofs.Common.{sym, ◌∙◌, arith}
use Rattle.acts_step.proofs.StepLaws.{few_features, first_ends, first_begins}
use Rattle.acts_step.proofs.lines.first_line.Goals as goal

pub overflow_cast-n : goal.overflow_cast-n
overflow_cast-n c = record { fits = let w = few_features _ c.in-Some.n (sym c.read_names-d.ensures ∙ c.in-Some.is) in omega (arith, w.1) }

pub returns-in-Some : goal.returns-in-Some
returns-in-Some c =
    let H = c.put_heading-e in let N = c.read_names-d in let M = c.make in
    first_begins _ _ _ _ _ N.ensures _ _ _ c.in-Some.n _ c.in-Some.is c.requires.0 H.ensures M.ensures.0 M.ensures.1

pub returns-in-None : goal.returns-in-None
returns-in-None c =
    let H = c.put_heading-e in let N = c.read_names-d in let P = c.put_result-end in
    first_ends _ _ _ _ _ N.ensures _ _ _ _ c.in-None.is c.requires.1 H.ensures H.auto.out P.ensures.0 P.ensures.1
