use Rattle.std.proofs.Common.{◌≡◌, drop}
use Rattle.acts_fields.specs.Fields.{value_from}
use Rattle.acts_fields.proofs.fields.value_of.Given as goal

-- `fields::value_of` meets its contract: the value so far, with the digits left, is the value of all.
abbrev pub invariant-loop-b : goal.invariant-loop-b
invariant-loop-b l = value_from l.cap l.v (drop l.b-index l.f) ≡ value_from l.cap 0 l.f
