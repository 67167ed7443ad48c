use Rattle.std.proofs.Common.{refl, ◌*◌, arith, pos, nat_abs}
use Rattle.search_leaves.proofs.WordLaws.{fits_32, back_16, back_32, self_square, squared_most}
use Rattle.search_leaves.proofs.columns.squared.Goals as goal

-- `columns::squared` meets its contract: the product in 32 bits is not below 0.
pub overflow_cast-g : goal.overflow_cast-g
overflow_cast-g c = rw (back_16 c.args.gap c.requires) (fits_32 c.args.gap (omega (arith, c.requires)))

pub overflow_mul-result : goal.overflow_mul-result
overflow_mul-result c =
    let x = c.args.gap in
    let h = squared_most (nat_abs x) c.requires in
    rw (back_16 x c.requires, back_32 x (omega (arith, c.requires)), self_square x) (fits_32 (pos (nat_abs x * nat_abs x)) h)

pub overflow_cast-result : goal.overflow_cast-result
overflow_cast-result c =
    let x = c.args.gap in
    let h = squared_most (nat_abs x) c.requires in
    rw (back_16 x c.requires, back_32 x (omega (arith, c.requires)), self_square x, back_32 (pos (nat_abs x * nat_abs x)) h) (tt, record { fits = omega (arith, h) })

pub returns : goal.returns
returns c =
    let x = c.args.gap in
    let h = squared_most (nat_abs x) c.requires in
    rw (back_16 x c.requires, back_32 x (omega (arith, c.requires)), self_square x, back_32 (pos (nat_abs x * nat_abs x)) h) refl
