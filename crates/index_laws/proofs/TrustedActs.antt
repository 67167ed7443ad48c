-- trusted_same: on a sound index a trusted act, which leaves out the check, is the act. So an application that holds its index alone checks
-- it once: from a sound index on, any series of trusted acts is the series of the acts.
use Rattle.std.specs.Prelude.{◌≡◌, List, [], ℕ, ◌≤◌, length}
use Rattle.std.proofs.Common.{sym, ap, ◌∙◌, arith}
use Rattle.std.proofs.Math.Path.{subst}
use Rattle.pagestore.specs.Store.{view_of, Field, field_at, features, level, new_index}
use Rattle.tree_model.specs.Sound.{Permitted, SoundIndex}
use Rattle.search_model.specs.Visit.{Answer as Found}
use Rattle.search_model.specs.Questions.{AgreeBut, unread_pages}
use Rattle.search_model.proofs.SoundLaws.{tree_level}
use Rattle.search_model.proofs.UnreadLaws.{agree_field}
use Rattle.index_query.specs.Asking.{Question, sought, AsMany}
use Rattle.index_query.proofs.AskingLaws.{header_read, unread_same}
use Rattle.index_refusals.specs.Refusals.{First, insert_rules, delete_rules, question_rules, check_rules}
use Rattle.index_refusals.specs.RefusalLaws.{first_one, none_fails, Carried}
use Rattle.index_refusals.proofs.CarriedLaws.{carried_asked, question_sound, question_carried}
use Rattle.index_refusals.specs.Outcomes.{found_with}
use Rattle.index_refusals.specs.Trusted.{Suits, trusted_question}
use Rattle.index_refusals.specs.TrustedLaws.{insert_same, delete_same, question_same}
use Rattle.index.specs.Acts.{Act, insert, delete, question, check, Done, does, Series, end, next, held_by}
use Rattle.index_laws.specs.Series.{Stands, sound_after}
use Rattle.index_laws.proofs.Series.{new_stands, series}
use Rattle.index_laws.specs.TrustedActs.{trusted_does, TrustedSeries, stop, step}

module _ (b : List ℕ) (s : SoundIndex b) where
  -- number, rows, count and every byte are the act's
  pub trusted_same : (a : Act) (code : ℕ) (f : Found) (c : List ℕ) → trusted_does a b code f c → does a b code f c
  trusted_same (insert x p) code f c h = (h.0, insert_same b s x p code h.1, h.2)
  trusted_same (delete i) code f c h = (delete_same b s i code h.0, h.1)
  trusted_same (question w n) code f c h = (question_same b s w n code h.0, h.1, h.2)
  trusted_same check code f c h = h

  -- an act has one number on an index, and leaves one index
  one_number : (a : Act) (m n : ℕ) (f g : Found) (c e : List ℕ) → does a b m f c → does a b n g e → m ≡ n
  one_number (insert x p) m n f g c e h k = first_one (insert_rules b x p) m n h.1 k.1
  one_number (delete i) m n f g c e h k = first_one (delete_rules b i) m n h.0 k.0
  one_number (question w l) m n f g c e h k = first_one (question_rules b w l) m n h.0 k.0
  one_number check m n f g c e h k = first_one (check_rules b) m n h.0 k.0

  one_index : (a : Act) (n : ℕ) (f g : Found) (c e : List ℕ) → does a b n f c → does a b n g e → c ≡ e
  one_index (insert x p) n f g c e h k = h.2 ∙ sym k.2
  one_index (delete i) n f g c e h k = h.1 ∙ sym k.1
  one_index (question w l) n f g c e h k = h.2 ∙ sym k.2
  one_index check n f g c e h k = h.1 ∙ sym k.1

  -- the results of a trusted act and of the act, side by side
  pub trusted_equal : (a : Act) (m n : ℕ) (f g : Found) (c e : List ℕ) → trusted_does a b m f c → does a b n g e → (m ≡ n) × (c ≡ e)
  trusted_equal a m n f g c e h k =
      let t = trusted_same a m f c h in
      let z = one_number a m n f g c e t k in
      (z, one_index a n f g c e (subst (λ (x : ℕ). does a b x f c) z t) k)

  pub question_equal : (w : Question) (l m n : ℕ) (f g : Found) (c e : List ℕ) → trusted_does (question w l) b m f c → does (question w l) b n g e → f ≡ g
  question_equal w l m n f g c e h k = h.1 ∙ ap (λ (x : ℕ). found_with x b w) (trusted_equal (question w l) m n f g c e h k).0 ∙ sym k.1

-- one check is enough: from a sound index on, trusted acts are acts, and the index stays sound
pub trusted_series : {b c : List ℕ} {os : List Done} → SoundIndex b → TrustedSeries b os c → Series b os c × SoundIndex c
trusted_series s stop = (end, s)
trusted_series {b = b} s (step {m = m} {o = o} h t) =
    let g = trusted_same b s o.act o.code o.answer m h in
    let r = trusted_series (sound_after b s o.act o.code o.answer m g) t in
    (next g r.0, r.1)

-- demand 2 for trusted acts: after any of them on a newly made index the live records are those inserted and not deleted since
pub trusted_stands : (b : List ℕ) (d : ℕ) → Permitted (length b) → 1 ≤ d → d ≤ 16 → {os : List Done} {c : List ℕ} → TrustedSeries (new_index b d) os c → Stands d (held_by d os []) c
trusted_stands b d lent low high h = series b d lent low high (trusted_series (new_stands b d lent low high).sound h).0

-- Demand 3's last sentence for the trusted question: whatever bytes the pages of the unread leaves hold, it is carried out on them with the
-- rows and the count of the question on the sound index.
module _ (b : List ℕ) (w : Question) (n : ℕ) (h : First (question_rules b w n) 0) (c : List ℕ) (agree : AgreeBut (unread_pages (view_of b) (sought w)) b c) where
  carried : Carried (view_of b).d w n
  carried = question_carried b w n h

  sound : SoundIndex b
  sound = question_sound b w n h

  field_same : (f : Field) → field_at f c ≡ field_at f b
  field_same = agree_field (unread_pages (view_of b) (sought w)) b c agree (header_read b sound w carried.features carried.some)

  features_same : (view_of c).d ≡ (view_of b).d
  unfolding view_of
  features_same = field_same features

  level_low : field_at level c ≤ 4
  unfolding view_of
  level_low = rw (field_same level) (tree_level b sound)

  permitted : Permitted (length c)
  unfolding view_of
  permitted = subst Permitted (sym agree.lent) sound.lent

  suits : Suits c w.point × AsMany (view_of c).d w.weights
  suits =
      let low : 1 ≤ (view_of b).d = sound.d.0 in
      let high : (view_of b).d ≤ 16 = sound.d.1 in
      let e : length w.point ≡ (view_of b).d = carried.features.0 in
      ((omega arith, omega arith, e ∙ sym features_same), subst (λ (d : ℕ). AsMany d w.weights) (sym features_same) carried.features.1)

  pub trusted_unread : First (trusted_question c w n) 0 × (found_with 0 c w ≡ found_with 0 b w)
  trusted_unread =
      (none_fails (trusted_question c w n) (permitted, (level_low, (suits, (carried.ranges, (carried.light, carried_asked (view_of b).d w n carried))))), unread_same b sound w carried.features carried.some c agree)
