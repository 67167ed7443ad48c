use Rattle.lists.specs.Basics.{if}
use Rattle.std.proofs.Common.{eq-eqb, ne_eqb, Bool, ap, sym, arith}
use Rattle.sound_keys.proofs.keys.first_of.Goals as goal

pub returns-then-i-eq0 : goal.returns-then-i-eq0
returns-then-i-eq0 c = let s = c in sym (ap (λ (t : Bool). if t s.args.own s.args.first) (eq-eqb s.args.i 0 (omega (arith, c.if-i-eq0.true))))

pub returns-else-i-eq0 : goal.returns-else-i-eq0
returns-else-i-eq0 c = let s = c in sym (ap (λ (t : Bool). if t s.args.own s.args.first) (ne_eqb s.args.i 0 (λ z. c.if-i-eq0.false (omega (arith, z)))))
