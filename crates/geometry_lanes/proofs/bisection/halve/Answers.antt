use Rattle.std.proofs.Common.{ℕ, rules}
use Rattle.geometry_slices.specs.Questions.{sum_to}
use Rattle.geometry_lanes.specs.Lanes.{pull_at}
use Rattle.geometry_lanes.proofs.FallLaws.{in_4, in_unweighted, in_8, in_16, falls_pull}
use Rattle.geometry_lanes.proofs.bisection.halve.Goals as goal

pub returns-then-n-le8 : goal.returns-then-n-le8
returns-then-n-le8 c =
    let a = c.args in
    rw (in_4 a.unweighted a.n c.if-n-le8.true) at (c.halve_by.ensures (λ (i t : ℕ). sum_to 4 (pull_at a.tables.falls.now a.tables.weights.now i t)) (λ i t s l p. search rules))

pub returns-then-unweighted : goal.returns-then-unweighted
returns-then-unweighted c =
    let a = c.args in
    rw (in_unweighted a.unweighted a.n c.if-n-le8.false c.if-unweighted.true) at (c.halve_by-then-unweighted.ensures (λ (i t : ℕ). sum_to 16 (pull_at a.tables.falls.now a.tables.weights.now i t)) (λ i t s l p. falls_pull a.tables.falls.now a.tables.weights.now a.n 16 i t s (c.requires.1 c.if-unweighted.true) l (search rules)))

pub returns-then-n-le16 : goal.returns-then-n-le16
returns-then-n-le16 c =
    let a = c.args in
    rw (in_8 a.unweighted a.n c.if-n-le8.false c.if-unweighted.false c.if-n-le16.true) at (c.halve_by-then-n-le16.ensures (λ (i t : ℕ). sum_to 8 (pull_at a.tables.falls.now a.tables.weights.now i t)) (λ i t s l p. search rules))

pub returns-else-n-le16 : goal.returns-else-n-le16
returns-else-n-le16 c =
    let a = c.args in
    rw (in_16 a.unweighted a.n c.if-n-le8.false c.if-unweighted.false c.if-n-le16.false) at (c.halve_by-else-n-le16.ensures (λ (i t : ℕ). sum_to 16 (pull_at a.tables.falls.now a.tables.weights.now i t)) (λ i t s l p. search rules))
