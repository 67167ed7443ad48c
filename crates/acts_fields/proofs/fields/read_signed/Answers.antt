use Rattle.std.proofs.Common.{◌≤◌, sym, ap, ◌∙◌, option_map, option_and_then, pos, Some, w16, arith}
use mir.ValLaws.{to_z_pos}
use Rattle.acts_fields.specs.Fields.{negative}
use Rattle.acts_fields.proofs.DigitLaws.{minus_first, minus_not, signed_minus, signed_plain}
use Rattle.acts_fields.proofs.FieldLaws.{natural_writes}
use Rattle.acts_fields.proofs.fields.read_signed.Goals as goal

pub returns-in_err-read_natural-in-Some : goal.returns-in_err-read_natural-in-Some
returns-in_err-read_natural-in-Some c =
    let p = c.in-Some.ensures.cases in
    signed_minus c.args.f.now _ c.read_natural.result _ (minus_first c.args.f.now p.0) p.1 c.read_natural.ensures
    (c.from_residual.ensures ∙ ap (option_and_then negative) (sym c.in_err-read_natural-in-Some.was))

pub negated-requires : goal.negated-requires
negated-requires c = (natural_writes _ _ _ (omega arith) (sym c.read_natural.ensures ∙ c.in_ok-read_natural-in-Some.was)).1

pub returns-in_ok-read_natural-in-Some : goal.returns-in_ok-read_natural-in-Some
returns-in_ok-read_natural-in-Some c =
    let p = c.in-Some.ensures.cases in
    signed_minus c.args.f.now _ c.read_natural.result _ (minus_first c.args.f.now p.0) p.1 c.read_natural.ensures
    (c.negated.ensures ∙ ap (option_and_then negative) (sym c.in_ok-read_natural-in-Some.was))

pub returns-in_err-n-in-None : goal.returns-in_err-n-in-None
returns-in_err-n-in-None c =
    signed_plain c.args.f.now c.read_natural-in-None.result _ (minus_not c.args.f.now c.in-None.ensures.cases) c.read_natural-in-None.ensures
    (c.from_residual-in_err-n-in-None.ensures ∙ ap (option_map pos) (sym c.in_err-n-in-None.was))

pub overflow_cast-result : goal.overflow_cast-result
overflow_cast-result c =
    let n : c.in_ok-n-in-None.n ≤ 32767 = (natural_writes _ _ _ (omega arith) (sym c.read_natural-in-None.ensures ∙ c.in_ok-n-in-None.was)).1 in
    record { sfits = omega arith }

pub returns-in_ok-n-in-None : goal.returns-in_ok-n-in-None
returns-in_ok-n-in-None c =
    let n : c.in_ok-n-in-None.n ≤ 32767 = (natural_writes _ _ _ (omega arith) (sym c.read_natural-in-None.ensures ∙ c.in_ok-n-in-None.was)).1 in
    signed_plain c.args.f.now c.read_natural-in-None.result _ (minus_not c.args.f.now c.in-None.ensures.cases) c.read_natural-in-None.ensures
    (ap Some (to_z_pos w16 _ (omega arith)) ∙ ap (option_map pos) (sym c.in_ok-n-in-None.was))
