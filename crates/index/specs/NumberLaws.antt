-- Each condition of the refusal table is decided, so on any input an act has a number; it has no second one (`first_one`).
use Rattle.std.specs.Prelude.{◌≡◌, refl, Bool, true, List, [], ◌∷◌, ℕ, length}
use Rattle.std.proofs.Common.{sym, ◌∙◌, inl, inr}
use Rattle.lists.specs.Tests.{false_true, by_cases}
use Rattle.sound_faults.specs.Decidable.{Either, le?, eq?, both?, all?, permitted?, sound_index?}
use Rattle.calendar.specs.declared.Date.{Date}
use Rattle.calendar.specs.Dates.{InCalendar}
use Rattle.calendar.specs.Days.{Days, undated, dated, InCalendars, InOrder}
use Rattle.calendar.specs.Counting.{in_calendar, before}
use Rattle.calendar.proofs.Promises.{calendar_decided, order_decided}
use Rattle.geometry.specs.Numbers.{max_weight}
use Rattle.index_query.specs.Asking.{Weights, unweighed, weighed, Question, AsMany, Light}
use Rattle.index_refusals.specs.Refusals.{Rule, First, make_rules, insert_rules, delete_rules, question_rules, asked_rules, check_rules}
use Rattle.index.specs.Acts.{Act, insert, delete, question, check}

abbrev Decided : List Rule → Type 0
Decided [] = Unit {0}
Decided (rule ∷ rules) = Either rule.1 × Decided rules

first_some : (rules : List Rule) → Decided rules → (n : ℕ) × First rules n
first_some [] d = (0, refl)
first_some (rule ∷ rules) (inl h, d) = let r = first_some rules d in (r.0, inr (h, r.1))
first_some (rule ∷ rules) (inr w, d) = (rule.0, inl (refl, w))

true? : (t : Bool) → Either (t ≡ true)
true? t = by_cases t (λ e. inl e) (λ e. inr (λ h. false_true (sym e ∙ h)))

-- the rules of an act on index b
abbrev pub rules_of : Act → List ℕ → List Rule
rules_of (insert e p) b = insert_rules b e p
rules_of (delete i) b = delete_rules b i
rules_of (question w n) b = question_rules b w n
rules_of check b = check_rules b

-- the weights that a question carries
many? : (d : ℕ) (ws : Weights) → Either (AsMany d ws)
many? d unweighed = inl tt
many? d (weighed ws) = eq? (length ws) d

light? : (ws : Weights) → Either (Light ws)
light? unweighed = inl tt
light? (weighed ws) = all? (λ x. le? x max_weight) ws

-- and the days that it names
in_calendar? : (d : Date) → Either (InCalendar d)
in_calendar? d = by_cases (in_calendar d) (λ e. inl ((calendar_decided d).1 e)) (λ e. inr (λ h. false_true (sym e ∙ (calendar_decided d).0 h)))

dates? : (days : Days) → Either (InCalendars days)
dates? undated = inl tt
dates? (dated dates) = both? (in_calendar? dates.first) (in_calendar? dates.last)

order? : (days : Days) → Either (InOrder days)
order? undated = inl tt
order? (dated dates) =
    by_cases (before dates.last dates.first)
    (λ e. inr (λ n. n ((order_decided dates.last dates.first).1 e)))
    (λ e. inl (λ h. false_true (sym e ∙ (order_decided dates.last dates.first).0 h)))

asked? : (w : Question) (n : ℕ) → Decided (asked_rules w n)
asked? w n = (both? (le? _ _) (le? _ _), (le? _ _, (both? (le? _ _) (le? _ _), (dates? w.days, (order? w.days, tt)))))

decided : (a : Act) (b : List ℕ) → Decided (rules_of a b)
decided (insert e p) b = (permitted? _, (sound_index? b, (eq? _ _, (true? _, (le? _ _, (le? _ _, (eq? _ _, (le? _ _, (le? _ _, tt)))))))))
decided (delete i) b = (permitted? _, (sound_index? b, (le? _ _, (le? _ _, tt))))
decided (question w n) b = (permitted? _, (sound_index? b, (both? (eq? _ _) (many? _ w.weights), (true? _, (light? w.weights, asked? w n)))))
decided check b = (permitted? _, (sound_index? b, tt))

pub some_number : (a : Act) (b : List ℕ) → (n : ℕ) × First (rules_of a b) n
some_number a b = first_some (rules_of a b) (decided a b)

pub make_number : (bytes d : ℕ) → (n : ℕ) × First (make_rules bytes d) n
make_number bytes d = first_some (make_rules bytes d) (permitted? _, (both? (le? _ _) (le? _ _), tt))
