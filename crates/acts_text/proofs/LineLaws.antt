-- A line is readable exactly if it is the decimal writings of values in their ranges, joined by one space: `act_reads`, `act_writes`.
use Rattle.std.proofs.Common.{◌≡◌, refl, sym, ap, ◌∙◌, subst, List, [], ◌∷◌, map, ℕ, suc, ◌+◌, ◌-◌, ◌≤◌, ltb, ℤ, pos, negsuc, length, take, drop, get_or, replicate, Option, Some, None, option_map, option_and_then, arith, length-append, length-take, take-append-drop, take_all, take_at, drop_at, ltb-true, ltb-false}
use Rattle.std.proofs.lemmas.Option.{none-some, same_Some, option_and_then_some}
use Rattle.lists.specs.Basics.{All, none, also}
use Rattle.lists.specs.Tests.{by_cases}
use Rattle.acts_fields.specs.Decimal.{text, signed_text}
use Rattle.acts_fields.specs.Fields.{signed, Coordinate}
use Rattle.acts_fields.proofs.FieldLaws.{natural_reads, natural_writes, signed_reads, signed_writes, digits, some, room, length_decimal}
use Rattle.acts_text.specs.Acts.{number_of, numbered}
use Rattle.acts_text.specs.declared.Act.{Act}
use Rattle.acts_text.specs.declared.Act.TheVariants.{Insert, Delete, Ask}
use Rattle.acts_text.specs.Lines.{leading, max_features, limit, fields, number, coordinates, padded, line_of, said, act_of}
use Rattle.acts_text.specs.Grammar.{joined, line_text, Ranged}
use Rattle.acts_text.specs.Input.{kept}
use Rattle.acts_text.specs.declared.ActLine.{ActLine}
use Rattle.acts_text.proofs.CellLaws.{numbered_is, numbered_number, act_long, act_wide, act_said}
use Rattle.acts_text.proofs.SplitLaws.{Solid, Full, length_fields, fields_joined, fields_of, joined_thin}
use lib.ListN.{length-map, length-replicate}

-- ---- the writings of values

-- of the values of a line, each by itself
abbrev texts : Act → ℕ → ℕ → ℕ → ℕ → List ℤ → List (List ℕ)
texts a i k s t zs = text (number_of a) ∷ text i ∷ text k ∷ text s ∷ text t ∷ map signed_text zs

all_map : (P : List ℕ → Type 0) → ((z : ℤ) → P (signed_text z)) → (zs : List ℤ) → All P (map signed_text zs)
all_map P h [] = none
all_map P h (z ∷ zs) = also (h z) (all_map P h zs)

all_texts : (P : List ℕ → Type 0) → ((n : ℕ) → P (text n)) → ((z : ℤ) → P (signed_text z)) → (a : Act) (i k s t : ℕ) (zs : List ℤ) → All P (texts a i k s t zs)
all_texts P p q a i k s t zs = also (p (number_of a)) (also (p i) (also (p k) (also (p s) (also (p t) (all_map P q zs)))))

-- they have bytes
signed_full : (z : ℤ) → Full (signed_text z)
signed_full (pos n) = some 19 n
signed_full (negsuc m) = omega arith

-- and no spaces
solid : {l : List ℕ} → All (λ b. 48 ≤ b) l → Solid l
solid none = none
solid (also {x = b} h t) = also (λ e. omega (arith, e, h)) (solid t)

signed_solid : (z : ℤ) → Solid (signed_text z)
signed_solid (pos n) = solid (digits 19 n)
signed_solid (negsuc m) = also (λ e. omega (arith, e)) (solid (digits 19 (suc m)))

-- ---- a readable line is the writing of values in their ranges

number_writes : (f : List ℕ) (n : ℕ) → number f ≡ Some n → (f ≡ text n) × (n ≤ 4294967295)
number_writes f n h = natural_writes 4294967295 n f (omega arith) h

more_some : (z : ℤ) (o : Option (List ℤ)) (zs : List ℤ) → option_map (λ (x : List ℤ). z ∷ x) o ≡ Some zs → (ys : List ℤ) × (o ≡ Some ys) × (z ∷ ys ≡ zs)
more_some z None zs h = absurd (none-some zs h)
more_some z (Some ys) zs h = (ys, refl, same_Some (z ∷ ys) zs h)

abbrev Writes : List (List ℕ) → List ℤ → Type 0
Writes fs zs = (fs ≡ map signed_text zs) × All Coordinate zs

coordinates_writes : (fs : List (List ℕ)) (zs : List ℤ) → coordinates fs ≡ Some zs → Writes fs zs
unfolding coordinates
coordinates_writes [] zs h = subst (Writes []) (same_Some [] zs h) (refl, none)
coordinates_writes (f ∷ fs) zs h = option_and_then_some (λ (z : ℤ). option_map (λ (x : List ℤ). z ∷ x) (coordinates fs)) (signed f) zs h
    (λ z e i. let w = signed_writes f z e in let m = more_some z (coordinates fs) zs i in let r = coordinates_writes fs m.0 m.1 in
    subst (Writes (f ∷ fs)) m.2 (ap (λ (x : List ℕ). x ∷ fs) w.0 ∙ ap (λ (x : List (List ℕ)). signed_text z ∷ x) r.0, also w.1 r.1))

-- what a line that is made says of the values that it is made of
record Made (d : ℕ) (oa : Option Act) (oi ok os ot : Option ℕ) (oz : Option (List ℤ)) (x : ActLine) : Type 0 where
  zs : List ℤ
  act : oa ≡ Some x.act
  id : oi ≡ Some x.id
  k : ok ≡ Some x.k
  stage : os ≡ Some x.stage
  stamp : ot ≡ Some x.stamp
  coords : oz ≡ Some zs
  d_is : x.d ≡ d
  slots : x.coords ≡ padded zs

made : (d : ℕ) (oa : Option Act) (oi ok os ot : Option ℕ) (oz : Option (List ℤ)) (x : ActLine) → line_of d oa oi ok os ot oz ≡ Some x → Made d oa oi ok os ot oz x
unfolding line_of
made d None i k s t z x h = absurd (none-some x h)
made d (Some a) None k s t z x h = absurd (none-some x h)
made d (Some a) (Some i) None s t z x h = absurd (none-some x h)
made d (Some a) (Some i) (Some k) None t z x h = absurd (none-some x h)
made d (Some a) (Some i) (Some k) (Some s) None z x h = absurd (none-some x h)
made d (Some a) (Some i) (Some k) (Some s) (Some t) None x h = absurd (none-some x h)
made d (Some a) (Some i) (Some k) (Some s) (Some t) (Some zs) x h =
    let e = same_Some _ x h in
    subst (λ (y : ActLine). Made d (Some a) (Some i) (Some k) (Some s) (Some t) (Some zs) y) e
    (record { zs = zs; act = refl; id = refl; k = refl; stage = refl; stamp = refl; coords = refl; d_is = refl; slots = refl })

spread : (r : List (List ℕ)) → leading ≤ length r → r ≡ get_or r 0 [] ∷ get_or r 1 [] ∷ get_or r 2 [] ∷ get_or r 3 [] ∷ get_or r 4 [] ∷ drop leading r
spread [] h = absurd (omega (arith, h))
spread (a ∷ []) h = absurd (omega (arith, h))
spread (a ∷ b ∷ []) h = absurd (omega (arith, h))
spread (a ∷ b ∷ c ∷ []) h = absurd (omega (arith, h))
spread (a ∷ b ∷ c ∷ e ∷ []) h = absurd (omega (arith, h))
spread (a ∷ b ∷ c ∷ e ∷ f ∷ r) h = refl

act_said_text : (o : Option ℕ) (a : Act) (f : List ℕ) → o ≡ number f → option_and_then numbered o ≡ Some a → f ≡ text (number_of a)
act_said_text o a f e h = option_and_then_some numbered o a h (λ n i j. (number_writes f n (sym e ∙ i)).0 ∙ ap text (sym (numbered_number n a j)))

-- fields that say a line are the writings of its values
module _ (d : ℕ) (few : d ≤ max_features) (r : List (List ℕ)) (long : length r ≡ leading + d) (x : ActLine) (h : said d r ≡ Some x) where
  m : Made d (option_and_then numbered (number (get_or r 0 []))) (number (get_or r 1 [])) (number (get_or r 2 [])) (number (get_or r 3 [])) (number (get_or r 4 [])) (coordinates (drop leading r)) x
  m = made d _ _ _ _ _ _ x h

  written : r ≡ texts x.act x.id x.k x.stage x.stamp m.zs
  written =
      let e0 : get_or r 0 [] ≡ text (number_of x.act) = act_said_text (number (get_or r 0 [])) x.act (get_or r 0 []) refl m.act in
      let e1 : get_or r 1 [] ≡ text x.id = (number_writes (get_or r 1 []) x.id m.id).0 in
      let e2 : get_or r 2 [] ≡ text x.k = (number_writes (get_or r 2 []) x.k m.k).0 in
      let e3 : get_or r 3 [] ≡ text x.stage = (number_writes (get_or r 3 []) x.stage m.stage).0 in
      let e4 : get_or r 4 [] ≡ text x.stamp = (number_writes (get_or r 4 []) x.stamp m.stamp).0 in
      let e5 : drop leading r ≡ map signed_text m.zs = (coordinates_writes (drop leading r) m.zs m.coords).0 in
      spread r (omega arith) ∙ rw (e0, e1, e2, e3, e4, e5)

  many : length m.zs ≡ d
  many = let e = ap length written ∙ ap (λ (y : ℕ). suc (suc (suc (suc (suc y))))) (length-map m.zs signed_text) in omega (arith, e, long)

  text_is : line_text x ≡ joined r
  text_is =
      let t : take x.d x.coords ≡ m.zs = ap (λ (y : ℕ). take y x.coords) m.d_is ∙ ap (take d) m.slots ∙ take_at m.zs (replicate (max_features - length m.zs) (pos 0)) d many in
      ap (λ (y : List ℤ). joined (texts x.act x.id x.k x.stage x.stamp y)) t ∙ ap joined (sym written)

  ranged : Ranged d x
  ranged = record {
    ids = (number_writes (get_or r 1 []) x.id m.id).1;
    ks = (number_writes (get_or r 2 []) x.k m.k).1;
    stages = (number_writes (get_or r 3 []) x.stage m.stage).1;
    stamps = (number_writes (get_or r 4 []) x.stamp m.stamp).1;
    named = (m.d_is, few);
    coordinate = rw (m.slots, take_at m.zs (replicate (max_features - length m.zs) (pos 0)) d many) (coordinates_writes (drop leading r) m.zs m.coords).1;
    slots = (
      ap length m.slots ∙ length-append m.zs (replicate (max_features - length m.zs) (pos 0)) ∙ ap (λ (y : ℕ). length m.zs + y) (length-replicate (max_features - length m.zs) (pos 0)) ∙ omega (arith, many, few),
      ap (drop d) m.slots ∙ drop_at m.zs (replicate (max_features - length m.zs) (pos 0)) d many ∙ ap (λ (y : ℕ). replicate (max_features - y) (pos 0)) many,
    );
  }

  full : All Full r
  full = subst (All Full) (sym written) (all_texts Full (some 19) signed_full x.act x.id x.k x.stage x.stamp m.zs)

record Parts (d : ℕ) (l : List ℕ) (x : ActLine) : Type 0 where
  few : d ≤ max_features
  says : said d (fields (leading + d) l) ≡ Some x

parts : (d : ℕ) (l : List ℕ) (x : ActLine) → act_of d l ≡ Some x → Parts d l x
parts d l x h = by_cases (ltb limit (length l))
    (λ e. absurd (none-some x (act_long d l (ltb-true limit (length l) e) ∙ h)))
    (λ e. by_cases (ltb max_features d)
    (λ t. absurd (none-some x (act_wide d l (ltb-true max_features d t) ∙ h)))
    (λ t. let f = ltb-false max_features d t in record { few = f; says = sym (act_said d l (ltb-false limit (length l) e) f) ∙ h }))

columns_are : (d : ℕ) → leading + d ≡ suc (d + 4)
columns_are d = omega arith

-- a readable line is the writing of what it says, each value in its range
pub act_writes : (d : ℕ) (l : List ℕ) (x : ActLine) → act_of d l ≡ Some x → (l ≡ line_text x) × Ranged d x
act_writes d l x h =
    let p = parts d l x h in
    let r = fields (leading + d) l in
    let n : length r ≡ leading + d = length_fields (leading + d) l in
    let f : All Full (fields (suc (d + 4)) l) = rw (columns_are d) at (full d p.few r n x p.says) in
    (fields_joined (d + 4) l f ∙ ap (λ (y : ℕ). joined (fields y l)) (sym (columns_are d)) ∙ sym (text_is d p.few r n x p.says), ranged d p.few r n x p.says)

-- ---- and the writing of values in their ranges is readable: the limit by itself never decides

number_thin : (n : ℕ) → n ≤ 4294967295 → length (text n) ≤ 10
unfolding room
number_thin n h = length_decimal 19 9 n (omega arith)

signed_thin : (z : ℤ) → Coordinate z → length (signed_text z) ≤ 10
unfolding room
signed_thin (pos n) h = number_thin n (omega (arith, h))
signed_thin (negsuc m) h = omega (arith, length_decimal 19 8 (suc m) (omega (arith, h)))

map_thin : {zs : List ℤ} → All Coordinate zs → All (λ f. length f ≤ 10) (map signed_text zs)
map_thin none = none
map_thin (also {x = z} h t) = also (signed_thin z h) (map_thin t)

act_low : (a : Act) → number_of a ≤ 4294967295
act_low Insert = omega arith
act_low Delete = omega arith
act_low Ask = omega arith

act_reads_number : (a : Act) → option_and_then numbered (number (text (number_of a))) ≡ Some a
act_reads_number a = ap (option_and_then numbered) (natural_reads 4294967295 (number_of a) (omega arith) (act_low a)) ∙ sym (numbered_is a (number_of a) refl)

coordinates_reads : {zs : List ℤ} → All Coordinate zs → coordinates (map signed_text zs) ≡ Some zs
unfolding coordinates
coordinates_reads none = refl
coordinates_reads (also {x = z} h t) = rw (signed_reads z h, coordinates_reads t)

-- the writings of a line's values
abbrev texts_of : ℕ → ActLine → List (List ℕ)
texts_of d x = texts x.act x.id x.k x.stage x.stamp (take d x.coords)

texts_text : (d : ℕ) (x : ActLine) → Ranged d x → line_text x ≡ joined (texts_of d x)
texts_text d x g = ap (λ (y : ℕ). joined (texts_of y x)) g.named.0

length_texts : (d : ℕ) (x : ActLine) → Ranged d x → length (texts_of d x) ≡ leading + d
length_texts d x g = omega (arith, length-map (take d x.coords) signed_text, length-take d x.coords, g.slots.0, g.named.1)

-- a line of values in their ranges is within the limit, which so never decides by itself
pub line_short : (d : ℕ) (x : ActLine) → Ranged d x → length (line_text x) ≤ limit
line_short d x g =
    let w = joined_thin (also (number_thin (number_of x.act) (act_low x.act)) (also (number_thin x.id g.ids) (also (number_thin x.k g.ks)
    (also (number_thin x.stage g.stages) (also (number_thin x.stamp g.stamps) (map_thin g.coordinate)))))) in
    omega (arith, w, ap length (texts_text d x g), length_texts d x g, g.named.1)

-- the writing of values in their ranges is read as what it says
pub act_reads : (d : ℕ) (x : ActLine) → Ranged d x → act_of d (line_text x) ≡ Some x
unfolding line_of
act_reads d x g =
    let t : line_text x ≡ joined (texts_of d x) = texts_text d x g in
    let n : leading + d ≡ suc (length (drop 1 (texts_of d x))) = sym (length_texts d x g) in
    let f : fields (leading + d) (line_text x) ≡ texts_of d x =
    ap (fields (leading + d)) t ∙ ap (λ (y : ℕ). fields y (joined (texts_of d x))) n
    ∙ fields_of (text (number_of x.act)) (drop 1 (texts_of d x)) (all_texts Solid (λ n. solid (digits 19 n)) signed_solid x.act x.id x.k x.stage x.stamp (take d x.coords)) in
    let e0 = act_reads_number x.act in
    let e1 = natural_reads 4294967295 x.id (omega arith) g.ids in
    let e2 = natural_reads 4294967295 x.k (omega arith) g.ks in
    let e3 = natural_reads 4294967295 x.stage (omega arith) g.stages in
    let e4 = natural_reads 4294967295 x.stamp (omega arith) g.stamps in
    let e5 = coordinates_reads g.coordinate in
    let l : length (take d x.coords) ≡ d = omega (arith, length-take d x.coords, g.slots.0, g.named.1) in
    let c : padded (take d x.coords) ≡ x.coords = rw (l, ← g.slots.1) (take-append-drop d x.coords) in
    act_said d (line_text x) (line_short d x g) g.named.1 ∙ ap (said d) f ∙ rw (e0, e1, e2, e3, e4, e5, c, g.named.0)

-- what is kept of a line is enough to read it
pub act_kept : (d : ℕ) (l : List ℕ) → act_of d (kept l) ≡ act_of d l
act_kept d l = by_cases (ltb 257 (length l))
    (λ e. let g = ltb-true 257 (length l) e in let m = length-take 257 l in sym (act_long d (kept l) (omega arith)) ∙ act_long d l (omega arith))
    (λ e. ap (act_of d) (take_all 257 l (ltb-false 257 (length l) e)))
