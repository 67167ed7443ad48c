-- No space lies idle: every page but the header and those in the tree is free.
use Rattle.std.specs.Prelude.{◌≡◌, refl, ◌&&◌, List, ◌++◌, ℕ, zero, suc, ◌+◌, ◌≤◌, ltb, length}
use Rattle.std.proofs.Common.{sym, ap, ◌∙◌, arith, length-append}
use Rattle.lists.specs.Basics.{indicator}
use Rattle.lists.specs.Counts.{mult, mult_append, length_once}
use Rattle.pagestore.specs.Store.{in_range, pages_in, free_at, view_of}
use Rattle.tree_model.specs.Sound.{SoundIndex}
use Rattle.tree_laws.specs.Wholes.{tree_pages, sound_whole}

by_count : (n : ℕ) (b xs : List ℕ) → 1 ≤ n → n ≡ pages_in b → ((q : ℕ) → mult q xs ≡ indicator (in_range b q)) → length xs + 1 ≡ n
unfolding in_range
by_count zero b xs h e f = absurd (omega arith)
by_count (suc n) b xs h e f = omega (arith, length_once n xs (λ q. f q ∙ ap (λ (m : ℕ). indicator (ltb 0 q && ltb q m)) (sym e)))

-- no page lies idle: an insertion is short of pages only if the freed and the never used together are too few for it
pub no_page_idle : (b : List ℕ) → SoundIndex b → length (tree_pages b) + length (free_at b) + 1 ≡ (view_of b).count
unfolding view_of
no_page_idle b s =
    let w = sound_whole b s in
    let ps = tree_pages b in
    let g = by_count (pages_in b) b (ps ++ free_at b) (omega (arith, w.well.low, w.well.high)) refl (λ q. mult_append q ps (free_at b) ∙ w.own q) in
    omega (arith, length-append ps (free_at b))
