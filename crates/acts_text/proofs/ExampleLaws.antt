-- The examples of `Examples`, computed.
use Rattle.std.proofs.Common.{◌≡◌, refl, Bool, true, false, List, [], ◌∷◌, map, ℕ, pos, negsuc, replicate, drop, is_none, Some, None}
use Rattle.lists.specs.Basics.{if}
use Rattle.acts_fields.specs.Bytes.{until}
use Rattle.acts_fields.specs.Fields.{with_digit, value_from, ill_formed, natural, negative, signed}
use Rattle.acts_text.specs.Acts.{numbered}
use Rattle.acts_text.specs.declared.Act.TheVariants.{Insert, Delete, Ask}
use Rattle.acts_text.specs.Lines.{field_length, fields, coordinates, line_of, act_of}
use Rattle.acts_text.specs.Names.{is_prefix, features_in, names_in}
use Rattle.acts_text.specs.Input.{before, lines_of}
use Rattle.acts_text.specs.Examples.{unreadables, unnamed, whole_case}

-- a test holds of each line
unfoldable every : (List ℕ → Bool) → List (List ℕ) → Bool
every f [] = true
every f (l ∷ ls) = if (f l) (every f ls) false

all_unreadable : every (λ l. is_none (act_of 2 l)) unreadables ≡ true
unfolding every until with_digit value_from ill_formed natural negative signed numbered field_length fields coordinates line_of act_of
all_unreadable = refl

all_unnamed : every (λ l. is_none (names_in l)) unnamed ≡ true
unfolding every is_prefix features_in names_in
all_unnamed = refl

-- the whole case has seven lines: two coordinates are named, and six acts follow
whole_names : map names_in (lines_of whole_case) ≡ Some 2 ∷ None ∷ None ∷ None ∷ None ∷ None ∷ None ∷ []
unfolding is_prefix features_in names_in before lines_of
whole_names = refl

whole_acts : map (act_of 2) (drop 1 (lines_of whole_case))
    ≡ Some (record { act = Insert; id = 7; k = 0; stage = 0; stamp = 0; d = 2; coords = negsuc 299 ∷ pos 100 ∷ replicate 14 (pos 0) })
    ∷ Some (record { act = Insert; id = 4; k = 0; stage = 0; stamp = 0; d = 2; coords = pos 100 ∷ negsuc 299 ∷ replicate 14 (pos 0) })
    ∷ Some (record { act = Insert; id = 4; k = 0; stage = 0; stamp = 0; d = 2; coords = pos 5 ∷ pos 5 ∷ replicate 14 (pos 0) })
    ∷ Some (record { act = Ask; id = 0; k = 2; stage = 63; stamp = 0; d = 2; coords = negsuc 99 ∷ negsuc 99 ∷ replicate 14 (pos 0) })
    ∷ Some (record { act = Delete; id = 7; k = 0; stage = 0; stamp = 0; d = 2; coords = pos 0 ∷ pos 0 ∷ replicate 14 (pos 0) })
    ∷ Some (record { act = Ask; id = 0; k = 2; stage = 63; stamp = 0; d = 2; coords = negsuc 99 ∷ negsuc 99 ∷ replicate 14 (pos 0) })
    ∷ []
unfolding before lines_of until with_digit value_from ill_formed natural negative signed numbered field_length fields coordinates line_of act_of
whole_acts = refl

-- no line, one empty line, one line, a line and an empty one
cut_none : lines_of [] ≡ []
unfolding lines_of
cut_none = refl

cut_newline : lines_of (10 ∷ []) ≡ [] ∷ []
unfolding lines_of
cut_newline = refl

cut_last : lines_of (49 ∷ 10 ∷ []) ≡ (49 ∷ []) ∷ []
unfolding lines_of before
cut_last = refl

cut_open : lines_of (49 ∷ []) ≡ (49 ∷ []) ∷ []
unfolding lines_of before
cut_open = refl

cut_empty : lines_of (49 ∷ 10 ∷ 10 ∷ []) ≡ (49 ∷ []) ∷ [] ∷ []
unfolding lines_of before
cut_empty = refl
