-- Steps of reading the line of names, each in the form of a branch of the code.
use Rattle.std.proofs.Common.{◌≡◌, refl, sym, ◌∙◌, Bool, true, false, List, [], ◌∷◌, ℕ, ◌+◌, ◌-◌, ◌/◌, ◌%◌, ◌≤◌, ◌<◌, eqb, nat_eq, length, Option, None, arith, le-leb}
use Rattle.std.specs.Bool.{then_some}
use Rattle.std.specs.List.{starts_with}
use borrow.Author.Tests.{lt-leb}
use Rattle.lists.specs.Tests.{by_cases}
use Rattle.acts_text.specs.Names.{lead, ten, is_prefix, all_names, features_in, names_in}

-- the library's test is ours
starts_is : (l t : List ℕ) → starts_with nat_eq t l ≡ is_prefix l t
unfolding is_prefix
starts_is [] t = refl
starts_is (a ∷ l) [] = refl
starts_is (a ∷ l) (b ∷ t) = by_cases (eqb a b) (λ e. rw e (starts_is l t)) (λ e. rw e)

pub prefix_long : (l t : List ℕ) → length t < length l → false ≡ is_prefix l t
unfolding is_prefix
prefix_long [] t h = absurd (omega (arith, h))
prefix_long (a ∷ l) [] h = refl
prefix_long (a ∷ l) (b ∷ t) h = by_cases (eqb a b) (λ e. rw e (prefix_long l t (omega (arith, h)))) (λ e. rw e)

pub names_in_law : (v : Option ℕ) (l : List ℕ) → is_prefix l all_names ≡ true → v ≡ features_in (length l) → v ≡ names_in l
unfolding names_in
names_in_law v l h e = rw h e

pub names_out : (l : List ℕ) → is_prefix l all_names ≡ false → None ≡ names_in l
unfolding names_in
names_out l h = rw h

pub names_read : (v : Option ℕ) (b : Bool) (l : List ℕ) → b ≡ starts_with nat_eq all_names l → b ≡ true → v ≡ features_in (length l) → v ≡ names_in l
names_read v b l e t f = names_in_law v l (sym (e ∙ starts_is l all_names) ∙ t) f

pub names_unread : (b : Bool) (l : List ℕ) → b ≡ starts_with nat_eq all_names l → b ≡ false → None ≡ names_in l
names_unread b l e t = names_out l (sym (e ∙ starts_is l all_names) ∙ t)

pub features_few : (n : ℕ) → n ≤ lead → None ≡ features_in n
unfolding features_in
features_few n h = rw (le-leb n lead h)

pub features_short : (n : ℕ) (r : Option ℕ) → lead < n → n ≤ ten → r ≡ then_some (nat_eq ((n - lead) % 3) 0) ((n - lead) / 3) → r ≡ features_in n
unfolding features_in
features_short n r h k e = rw (lt-leb n lead h, le-leb n ten k) (by_cases (eqb ((n - lead) % 3) 0) (λ t. rw t (rw t at e)) (λ t. rw t (rw t at e)))

pub features_long : (n : ℕ) (r : Option ℕ) → lead < n → ten < n → r ≡ then_some (nat_eq ((n - ten) % 4) 0) (10 + (n - ten) / 4) → r ≡ features_in n
unfolding features_in
features_long n r h k e = rw (lt-leb n lead h, lt-leb n ten k) (by_cases (eqb ((n - ten) % 4) 0) (λ t. rw t (rw t at e)) (λ t. rw t (rw t at e)))
