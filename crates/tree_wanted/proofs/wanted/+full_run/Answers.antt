use Rattle.std.proofs.Common.{refl, sym, ◌∙◌, arith}
use Rattle.tree_core.proofs.RootLaws.{run_leaf, run_inner, run_on, run_ends}
use Rattle.tree_wanted.proofs.wanted.+full_run.Goals as goal

pub returns-then-level-eq0 : goal.returns-then-level-eq0
returns-then-level-eq0 t c = let a = c.args in
    let F = c.full_page-full.ensures in
    (run_leaf a.level a.index.now a.page a.rank c.if-level-eq0.true F.0, omega (arith, F.1))

pub returns-then-n-from : goal.returns-then-n-from
returns-then-n-from t c = let a = c.args in
    let F = c.full_page-full.ensures in
    let R = c.full_run-n in (
      run_inner a.level a.index.now a.page a.rank c.if-level-eq0.false F.0 refl c.choose_at-i.ensures.0 c.child_of-child.ensures R.ensures.0
          (run_on R.result a.level c.full_page-full.result (c.if-n-from.true ∙ c.from.ensures)),
      omega (arith, F.1, c.if-n-from.true, c.from.ensures),
    )

pub returns-else-n-from : goal.returns-else-n-from
returns-else-n-from t c = let a = c.args in
    let F = c.full_page-full.ensures in
    let R = c.full_run-n in (
      run_inner a.level a.index.now a.page a.rank c.if-level-eq0.false F.0 refl c.choose_at-i.ensures.0 c.child_of-child.ensures R.ensures.0
          (run_ends R.result a.level c.full_page-full.result (λ e. c.if-n-from.false (e ∙ sym c.from.ensures))),
      omega (arith, R.ensures.1),
    )
