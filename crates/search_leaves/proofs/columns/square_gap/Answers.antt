use Rattle.std.proofs.Common.{◌≡◌, ap, ◌∙◌, ℕ, ◌+◌, ◌-◌, ◌*◌, ◌≤◌, arith, ℤ, pos, nat_abs, ◌-ℤ◌}
use Rattle.geometry.proofs.IntLaws.{gap_pos}
use Rattle.search_leaves.specs.Columns.{gap_square}
use Rattle.search_leaves.proofs.ColumnLaws.{square_most}
use Rattle.search_leaves.proofs.WordLaws.{back_16, gap_most}
use Rattle.search_leaves.proofs.columns.square_gap.Goals as goal

pub squared-requires : goal.squared-requires
squared-requires c =
    let a = c.args in let G = c.gap_of in
    let h : nat_abs G.result ≤ 2047 = rw G.ensures (gap_most a.y a.x c.requires.1 c.requires.0) in
    rw (back_16 G.result h) h

pub returns : goal.returns
unfolding gap_square
returns c =
    let a = c.args in let P = c.requires in let G = c.gap_of in
    let h : nat_abs G.result ≤ 2047 = rw G.ensures (gap_most a.y a.x P.1 P.0) in
    let g : nat_abs (pos a.y -ℤ pos a.x) ≡ (a.x - a.y) + (a.y - a.x) = omega (arith, gap_pos a.y a.x) in
    let e : c.squared.result ≡ gap_square a.x a.y =
    c.squared.ensures ∙ ap (λ (z : ℤ). nat_abs z * nat_abs z) (back_16 G.result h ∙ G.ensures) ∙ ap (λ (n : ℕ). n * n) g in
    (e, omega (arith, e, square_most a.x a.y P.0 P.1))
