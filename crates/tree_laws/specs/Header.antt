-- The root link and the total: what setting them leaves as it was, and what an act comes to once the total is set.
use Rattle.std.specs.Prelude.{◌≡◌, refl, true, List, map, ℕ, suc, ◌+◌, ◌≤◌, ◌<◌, length}
use Rattle.std.proofs.Common.{sym, ap, ◌∙◌, subst, arith}
use Rattle.lists.specs.Basics.{indicator, All}
use Rattle.lists.specs.Counts.{mult}
use Rattle.pagestore_page.specs.declared.Record.{Record}
use Rattle.pagestore.specs.Store.{Field, size, features, root, level, total, freed, fresh, Apart, field_at, set_field, in_range, free_at, view_of}
use Rattle.pagestore.specs.Store.RangeLaws.{range_same, range_fits, range_whole, pages_same}
use Rattle.pagestore.specs.Store.PageLaws.{SamePage, same_trans, length_set_field, field_same, field_other, page_field}
use Rattle.pagestore.specs.Store.FreeLaws.{rest_field, free_field}
use Rattle.tree_model.specs.Trees.{Item, records, pages, ident_of, live}
use Rattle.tree_model.specs.Sound.{Permitted, RecordOk, SoundIndex}
use Rattle.tree_model.specs.Inserting.{Shape}
use Rattle.tree_laws.specs.Frames.{held_frame, Well, Kept}
use Rattle.tree_laws.specs.Wholes.{Whole, Right, shape_at, whole_shape, whole_live, whole_sound}

-- ANY FIELD BUT THOSE OF THE FREE PAGES

well_field : (f : Field) (b : List ℕ) (v : ℕ) → Apart f freed → Apart f fresh → Well b → Well (set_field f b v)
well_field f b v x y w =
    let e = field_other f fresh b v y in
    let n = pages_same b (set_field f b v) (length_set_field f b v) in
    record { rest = rest_field f b v x ∙ w.rest; low = omega (arith, w.low); high = omega (arith, w.high) }

-- THE ROOT LINK

abbrev pub set_root : List ℕ → ℕ → ℕ → List ℕ
set_root b p l = set_field level (set_field root b p) l

module _ (b : List ℕ) (p l : ℕ) where
  pub root_length : length (set_root b p l) ≡ length b
  root_length = length_set_field level (set_field root b p) l ∙ length_set_field root b p

  pub root_field : (f : Field) → Apart root f → Apart level f → field_at f (set_root b p l) ≡ field_at f b
  root_field f u v = field_other level f (set_field root b p) l v ∙ field_other root f b p u

  pub root_page : (q : ℕ) → SamePage b (set_root b p l) q
  root_page q = same_trans (page_field root b p q) (page_field level (set_field root b p) l q)

  pub root_free : free_at (set_root b p l) ≡ free_at b
  root_free = free_field level (set_field root b p) l refl refl ∙ free_field root b p refl refl

  pub root_well : Well b → Well (set_root b p l)
  root_well w = well_field level (set_field root b p) l refl refl (well_field root b p refl refl w)

  pub root_range_law : (q : ℕ) → in_range (set_root b p l) q ≡ in_range b q
  root_range_law q = range_same b (set_root b p l) q root_length

  module _ (h : in_range b p ≡ true) (v : l < 256) where
    room : 1024 ≤ length b
    room = omega (arith, range_whole b p h)

    pub root_set : field_at root (set_root b p l) ≡ p
    root_set = field_other level root (set_field root b p) l refl ∙ field_same root b p room (omega (arith, range_fits b p h))

    pub level_set : field_at level (set_root b p l) ≡ l
    level_set = field_same level (set_field root b p) l (rw (length_set_field root b p) room) (omega arith)

-- WHAT AN ACT COMES TO

-- c is b changed: it holds the tree of s, whose records are rs, and the pages fs are free
pub record Changed (d : ℕ) (b c : List ℕ) (s : Shape) (rs : List Record) (fs : List ℕ) : Type 0 where
  pub whole : Whole d c s.0 s.1
  pub records_are : records (suc s.0) s.1 ≡ rs
  pub free_are : free_at c ≡ fs
  pub length_is : length c ≡ length b
  pub others : (f : Field) → Apart freed f → Apart fresh f → Apart root f → Apart level f → field_at f c ≡ field_at f b

whole_total : (d : ℕ) (b : List ℕ) (l : ℕ) (t : Item (suc l)) (v : ℕ) → Whole d b l t → Whole d (set_field total b v) l t
whole_total d b l t v w =
    record {
      features_are = field_other total features b v refl ∙ w.features_are;
      root_is = field_other total root b v refl ∙ w.root_is;
      level_is = field_other total level b v refl ∙ w.level_is;
      held = held_frame d (suc l) b (set_field total b v) t (λ q h. (page_field total b v q).page) w.held;
      ok = w.ok;
      well = well_field total b v refl refl w.well;
      own = λ q. ap (λ (z : List ℕ). mult q (pages (suc l) t) + mult q z) (free_field total b v refl refl) ∙ w.own q
          ∙ ap indicator (sym (range_same b (set_field total b v) q (length_set_field total b v)));
      order = w.order;
    }

pub total_changed : {d : ℕ} {b c : List ℕ} {s : Shape} {rs : List Record} {fs : List ℕ} (v : ℕ) → Changed d b c s rs fs
    → (live (view_of (set_field total c v)) ≡ rs) × (free_at (set_field total c v) ≡ fs) × (length (set_field total c v) ≡ length b) × (field_at features (set_field total c v) ≡ d) × (◌≡◌ {A = Shape} (shape_at (set_field total c v)) s)
total_changed {d} {b} {c} {s} {rs} {fs} v x =
    let w = whole_total d c s.0 s.1 v x.whole in (
      whole_live d (set_field total c v) s.0 s.1 w ∙ x.records_are,
      free_field total c v refl refl ∙ x.free_are,
      length_set_field total c v ∙ x.length_is,
      w.features_are,
      whole_shape d (set_field total c v) s.0 s.1 w,
    )

-- b was right for the records before; the changed index is sound with the records rs once its total is theirs
pub changed_sound : {d : ℕ} {b c : List ℕ} {s : Shape} {olds rs : List Record} {fs : List ℕ} (v : ℕ) → Right d b olds → Changed d b c s rs fs
    → All (RecordOk d) rs → ((i : ℕ) → mult i (map ident_of rs) ≤ 1) → v ≡ length rs → length rs ≤ 65535 → SoundIndex (set_field total c v)
changed_sound {d} {b} {c} {s} {olds} {rs} {fs} v r x ok one e few =
    let w = whole_total d c s.0 s.1 v x.whole in
    let room : 1024 ≤ length c = omega (arith, x.length_is, r.lent.low) in
    let rt : Right d (set_field total c v) rs =
    record {
      lent = subst Permitted (sym (length_set_field total c v ∙ x.length_is)) r.lent;
      size_is = omega (arith, field_other total size c v refl, x.others size refl refl refl refl, r.size_is, length_set_field total c v, x.length_is);
      d_low = r.d_low;
      d_high = r.d_high;
      ranges = ok;
      distinct = one;
      total_is = field_same total c v room (omega arith) ∙ e;
      most = few;
    } in
    whole_sound d (set_field total c v) s.0 s.1 w (subst (Right d (set_field total c v)) (sym x.records_are) rt)

-- a change of b', to which b was brought by steps that keep the header
pub changed_over : {d : ℕ} {b b' c c' : List ℕ} {s s' : Shape} {rs rs' : List Record} {fs fs' : List ℕ}
    → Kept b b' → c ≡ c' → s ≡ s' → rs ≡ rs' → fs ≡ fs' → Changed d b' c s rs fs → Changed d b c' s' rs' fs'
changed_over {d} {b} {b'} {c} {c'} {s} {s'} {rs} {rs'} {fs} {fs'} k e h f g x =
    let y : Changed d b c s rs fs =
    record {
      whole = x.whole;
      records_are = x.records_are;
      free_are = x.free_are;
      length_is = x.length_is ∙ k.size;
      others = λ h u v m n. x.others h u v m n ∙ k.field h u v;
    } in
    subst (λ (z : List ℕ). Changed d b z s' rs' fs') e
    (subst (λ (z : Shape). Changed d b c z rs' fs') h (subst (λ (z : List Record). Changed d b c s z fs') f (subst (λ (z : List ℕ). Changed d b c s rs z) g y)))
