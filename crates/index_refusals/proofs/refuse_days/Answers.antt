use Rattle.std.proofs.Common.{refl, sym, ◌∙◌, inl, inr}
use Rattle.lists.specs.Tests.{false_true}
use Rattle.calendar.proofs.Promises.{calendar_decided, order_decided}
use Rattle.index_refusals.proofs.refuse_days.Goals as goal
use Rattle.index_refusals.proofs.refuse_days.Goals.{then-not-in_calendar-via-then-not-in_calendar, then-not-in_calendar-via-else-not-in_calendar+then-not-in_calendar-2}

pub returns-then-not-in_calendar : goal.returns-then-not-in_calendar
returns-then-not-in_calendar c =
    let dates = c.in-Some.dates in
    rw c.in-Some.is (inl (
      refl,
      λ h. elim c.then-not-in_calendar.branch [
        | then-not-in_calendar-via-then-not-in_calendar w ↦ false_true (sym w.if-not-in_calendar.true ∙ c.in_calendar.ensures ∙ (calendar_decided dates.first).0 h.0)
        | then-not-in_calendar-via-else-not-in_calendar+then-not-in_calendar-2 w ↦ false_true (sym w.if-not-in_calendar-2.true ∙ w.in_calendar-else-not-in_calendar.ensures ∙ (calendar_decided dates.last).0 h.1)
      ],
    ))

pub returns-then-comes_before : goal.returns-then-comes_before
returns-then-comes_before c =
    let dates = c.in-Some.dates in
    let first = (calendar_decided dates.first).1 (sym c.in_calendar.ensures ∙ c.if-not-in_calendar.false) in
    let last = (calendar_decided dates.last).1 (sym c.in_calendar-else-not-in_calendar.ensures ∙ c.if-not-in_calendar-2.false) in
    rw c.in-Some.is (inr ((first, last), inl (refl, λ n. n ((order_decided dates.last dates.first).1 (sym c.comes_before.ensures ∙ c.if-comes_before.true)))))

pub returns : goal.returns
returns c =
    let dates = c.in-Some.dates in
    let first = (calendar_decided dates.first).1 (sym c.in_calendar.ensures ∙ c.if-not-in_calendar.false) in
    let last = (calendar_decided dates.last).1 (sym c.in_calendar-else-not-in_calendar.ensures ∙ c.if-not-in_calendar-2.false) in
    rw c.in-Some.is (inr ((first, last), inr (λ b. false_true (sym c.if-comes_before.false ∙ c.comes_before.ensures ∙ (order_decided dates.last dates.first).0 b), refl)))
