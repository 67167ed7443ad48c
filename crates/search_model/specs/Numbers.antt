-- Numbers of the format, by name.
use Rattle.std.specs.Prelude.{ℕ}

-- the highest level of a root
abbrev pub max_level : ℕ
max_level = 4
