-- A line of the output of 01's whole case, computed.
use Rattle.std.proofs.Common.{◌≡◌, refl, [], ◌∷◌}
use Rattle.acts_fields.specs.Decimal.{decimal}
use Rattle.acts_output.specs.Output.{field, result_line}

-- `5 0 7 80000 1`
whole_result : result_line 5 0 7 80000 1 ≡ 53 ∷ 32 ∷ 48 ∷ 32 ∷ 55 ∷ 32 ∷ 56 ∷ 48 ∷ 48 ∷ 48 ∷ 48 ∷ 32 ∷ 49 ∷ 10 ∷ []
unfolding result_line field decimal
whole_result = refl
