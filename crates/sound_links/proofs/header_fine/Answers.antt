use Rattle.std.proofs.Common.{◌≡◌, sym, ap, ◌∙◌, ℕ, ◌*◌, arith}
use Rattle.lists.specs.Judges.{judge_eq}
use Rattle.lists.specs.Judges.{Judges}
use Rattle.pagestore.specs.Store.{view_of, level_of}
use Rattle.sound_faults.proofs.ViewLaws.{view_level}
use Rattle.sound_faults.specs.Faults.{FailsAt}
use Rattle.sound_links.proofs.MarkLaws.{root_fails}
use Rattle.sound_links.proofs.header_fine.Goals as goal

pub returns-then-index_size-index : goal.returns-then-index_size-index
unfolding view_of
returns-then-index_size-index c = Judges.fault (FailsAt.size (λ e. c.if-index_size-index.true (ap (λ (n : ℕ). n * 1024) (c.index_size.ensures) ∙ e)))

pub returns-then-d-lt1 : goal.returns-then-d-lt1
unfolding view_of
returns-then-d-lt1 c = Judges.fault (FailsAt.features (λ f. omega (arith, f.0, c.features_of-d.ensures, c.if-d-lt1.true)))

pub returns-then-d-gt-FEATURES : goal.returns-then-d-gt-FEATURES
unfolding view_of
returns-then-d-gt-FEATURES c = Judges.fault (FailsAt.features (λ f. omega (arith, f.1, c.features_of-d.ensures, c.if-d-gt-FEATURES.true)))

pub returns-then-page_count-fresh : goal.returns-then-page_count-fresh
unfolding view_of
returns-then-page_count-fresh c = Judges.fault (FailsAt.fresh (λ f. omega (arith, f.1, c.fresh_page-fresh.ensures, c.page_count.ensures, c.if-page_count-fresh.true)))

pub returns-then-root-eq0 : goal.returns-then-root-eq0
unfolding view_of
returns-then-root-eq0 c = Judges.fault (FailsAt.root_range (λ r. omega (arith, r.0, c.root_page-root.ensures, c.if-root-eq0.true)))

pub returns-then-fresh-root : goal.returns-then-fresh-root
unfolding view_of
returns-then-fresh-root c = Judges.fault (root_fails (view_of c.args.index.now) (λ z. c.if-root-eq0.false (c.root_page-root.ensures ∙ z)) (omega (arith, c.root_page-root.ensures, c.fresh_page-fresh.ensures, c.if-fresh-root.true)))

pub returns : goal.returns
unfolding view_of
returns c = let b = c.args.index.now in
    let R = c.root_page-root in
    let F = c.fresh_page-fresh.ensures in
    let N = c.page_count.ensures in
    let e : level_of ((view_of b).page (view_of b).root) ≡ c.level_at.result = ap (λ (p : ℕ). level_of ((view_of b).page p)) (sym R.ensures) ∙ view_level b R.result ∙ sym c.level_at.ensures in
    let low = c.if-fresh-root.false in
    let fits = c.if-page_count-fresh.false in
    let real = c.if-root-eq0.false in
    judge_eq c.level_at.result c.root_level.result
    (λ h. record {
      size = sym (ap (λ (n : ℕ). n * 1024) (c.index_size.ensures)) ∙ c.if-index_size-index.false;
      features = (omega (arith, c.features_of-d.ensures, c.if-d-lt1.false), omega (arith, c.features_of-d.ensures));
      fresh = (omega (arith, R.ensures, F, low), omega (arith, F, N, fits));
      root = (omega (arith, R.ensures, real), omega (arith, R.ensures, F, N, low, fits));
      root_fresh = omega (arith, R.ensures, F, low);
      level = e ∙ h ∙ c.root_level.ensures;
    })
    (λ n. FailsAt.root_level (λ z. n (sym e ∙ z ∙ sym c.root_level.ensures)))
