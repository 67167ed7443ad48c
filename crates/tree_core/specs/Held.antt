-- Items in an array of slots, of which the first ones count.
use Rattle.std.specs.Prelude.{◌≡◌, List, ℕ, length, take}

-- the first n slots are there, and hold the list xs
pub record Held {A : Type 0} (n : ℕ) (slots xs : List A) : Type 0 where
  pub count : n ≡ length xs
  pub items : take n slots ≡ xs
