-- A page taken, and a page freed, step by step. Assumes nothing.
use Rattle.std.proofs.Common.{◌≡◌, ap, ◌∙◌, true, false, List, ℕ, ◌+◌}
use Rattle.pagestore.specs.Store.{in_range, link_at, set_link, field_at, set_field, freed, fresh, page_taken, take_page, free_page}

module _ (b : List ℕ) where
  -- the page freed last is taken, or one never used, or none
  pub take_freed : (f n : ℕ) (c : List ℕ) → f ≡ field_at freed b → in_range b f ≡ true → n ≡ link_at b f → c ≡ set_field freed b n
      → (f ≡ page_taken b) × (c ≡ take_page b)
  unfolding page_taken take_page
  take_freed f n c p h l e = let g : in_range b (field_at freed b) ≡ true = rw p at h in (rw g p, rw g (e ∙ ap (set_field freed b) (l ∙ ap (link_at b) p)))

  pub take_fresh : (f g : ℕ) (c : List ℕ) → f ≡ field_at freed b → in_range b f ≡ false → g ≡ field_at fresh b → in_range b g ≡ true
      → c ≡ set_field fresh b (g + 1) → (g ≡ page_taken b) × (c ≡ take_page b)
  unfolding page_taken take_page
  take_fresh f g c p h q k e =
      let u : in_range b (field_at freed b) ≡ false = rw p at h in
      let v : in_range b (field_at fresh b) ≡ true = rw q at k in
      (rw (u, v) q, rw (u, v) (e ∙ ap (λ (x : ℕ). set_field fresh b (x + 1)) q))

  pub take_none : (f g : ℕ) → f ≡ field_at freed b → in_range b f ≡ false → g ≡ field_at fresh b → in_range b g ≡ false
      → (0 ≡ page_taken b) × (b ≡ take_page b)
  unfolding page_taken take_page
  take_none f g p h q k =
      let u : in_range b (field_at freed b) ≡ false = rw p at h in
      let v : in_range b (field_at fresh b) ≡ false = rw q at k in
      (rw (u, v), rw (u, v))

  pub free_step : (p f : ℕ) (c d : List ℕ) → in_range b p ≡ true → f ≡ field_at freed b → c ≡ set_link b p f → d ≡ set_field freed c p → d ≡ free_page b p
  unfolding free_page
  free_step p f c d h e g k = rw h (k ∙ ap (λ (x : List ℕ). set_field freed x p) (g ∙ ap (set_link b p) e))

  pub free_none : (p : ℕ) → in_range b p ≡ false → b ≡ free_page b p
  unfolding free_page
  free_none p h = rw h
