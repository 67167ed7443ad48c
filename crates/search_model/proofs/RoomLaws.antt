-- The room for the frontier.
use Rattle.std.proofs.Common.{◌≡◌, subst, List, ℕ, ◌*◌, ◌≤◌, ◌<◌, arith, leb, le-leb, leb-true, leb-false}
use borrow.Author.Tests.{lt-leb}
use Rattle.lists.specs.Tests.{by_cases}
use Rattle.pagestore.specs.Store.{total, field_at}
use Rattle.search_model.specs.Visit.{few_records, some_records, many_records, small_room, middle_room, large_room, full_room, room_for, room}

module _ (n : ℕ) where
  for_small : n ≤ few_records → small_room ≡ room_for n
  for_small h = rw (le-leb n few_records h)

  for_middle : few_records < n → n ≤ some_records → middle_room ≡ room_for n
  for_middle g h = rw (lt-leb n few_records g, le-leb n some_records h)

  for_large : some_records < n → n ≤ many_records → large_room ≡ room_for n
  for_large g h = rw (lt-leb n few_records (omega arith), lt-leb n some_records g, le-leb n many_records h)

  for_full : many_records < n → full_room ≡ room_for n
  for_full g = rw (lt-leb n few_records (omega arith), lt-leb n some_records (omega arith), lt-leb n many_records g)

-- as the code asks for it
module _ (b : List ℕ) (n : ℕ) (e : n ≡ field_at total b) where
  pub room_small : n ≤ few_records → small_room ≡ room b
  unfolding room
  room_small h = rw (← e) (for_small n h)

  pub room_middle : few_records < n → n ≤ some_records → middle_room ≡ room b
  unfolding room
  room_middle g h = rw (← e) (for_middle n g h)

  pub room_large : some_records < n → n ≤ many_records → large_room ≡ room b
  unfolding room
  room_large g h = rw (← e) (for_large n g h)

  pub room_full : many_records < n → full_room ≡ room b
  unfolding room
  room_full g = rw (← e) (for_full n g)

-- what holds of the four sizes, each where it is the room, holds of the room
module _ (P : ℕ → Type 0) (n : ℕ) (few : n ≤ few_records → P small_room) (some : n ≤ some_records → P middle_room)
    (many : n ≤ many_records → P large_room) (all : P full_room) where
  above_some : some_records < n → P (room_for n)
  above_some g =
      by_cases (leb n many_records) (λ e. let h = leb-true n many_records e in subst P (for_large n g h) (many h))
      (λ e. subst P (for_full n (leb-false n many_records e)) all)

  above_few : few_records < n → P (room_for n)
  above_few g =
      by_cases (leb n some_records) (λ e. let h = leb-true n some_records e in subst P (for_middle n g h) (some h))
      (λ e. above_some (leb-false n some_records e))

  room_by : P (room_for n)
  room_by =
      by_cases (leb n few_records) (λ e. let h = leb-true n few_records e in subst P (for_small n h) (few h))
      (λ e. above_few (leb-false n few_records e))

module _ (b : List ℕ) where
  pub room_some : small_room ≤ room b
  unfolding room
  room_some = room_by (λ m. small_room ≤ m) (field_at total b) (λ _. omega arith) (λ _. omega arith) (λ _. omega arith) (omega arith)

  pub room_most : room b ≤ full_room
  unfolding room
  room_most = room_by (λ m. m ≤ full_room) (field_at total b) (λ _. omega arith) (λ _. omega arith) (λ _. omega arith) (omega arith)

  -- one branch for 8 records each, or one at least
  pub room_enough : (m : ℕ) → ((n : ℕ) → 8 ≤ n → field_at total b ≤ n → 8 * m ≤ n) → field_at total b ≤ 65535 → m ≤ room b
  unfolding room
  room_enough m f h =
      room_by (λ n. m ≤ n) (field_at total b)
      (λ g. omega (arith, f few_records (omega arith) g))
      (λ g. omega (arith, f some_records (omega arith) g))
      (λ g. omega (arith, f many_records (omega arith) g))
      (omega (arith, f 65536 (omega arith) (omega arith)))
