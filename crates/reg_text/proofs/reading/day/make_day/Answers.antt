use Rattle.std.proofs.Common.{◌≡◌, ℕ, ◌-◌, ap, refl, subst}
use Rattle.std.proofs.lemmas.List.{append-nil}
use Rattle.reg_base.specs.Batch.{IsBatch}
use Rattle.reg_text.proofs.Names.{accounts_in, draft_of, is_text_over}
use Rattle.reg_text.proofs.Readings.{book-of, headed, says-a-day, some-of, current-or}
use Rattle.reg_text.proofs.reading.day.make_day.Goals as goal

pub of_rising-calendar-requires : goal.of_rising-calendar-requires
of_rising-calendar-requires c =
    let d = draft_of c.args.draft in
    (says-a-day d c.requires.draft
    (headed d c.requires.draft (ap is_text_over c.requires.over))).day.rules.working_days

pub of_fitting-rules-requires : goal.of_fitting-rules-requires
of_fitting-rules-requires c =
    let heading = c.args.draft.heading in
    let d = draft_of c.args.draft in
    let k = headed d c.requires.draft (ap is_text_over c.requires.over) in
    let lags : k.lags ≡ c.unwrap-lags.result = cc (some-of heading.lags k.lags k.one_lags, c.unwrap-lags.ensures) in
    let said = current-or k.version heading.current k.current k.current_is in
    let current : k.current ≡ c.unwrap_or-current.result = cc (k.said, said, c.unwrap_or-current.ensures) in
    rw (c.of_rising-calendar.ensures, ← lags, ← current) (says-a-day d c.requires.draft k).day.rules

pub of_fitting-batch-requires : goal.of_fitting-batch-requires
of_fitting-batch-requires c =
    let d = draft_of c.args.draft in
    let k = headed d c.requires.draft (ap is_text_over c.requires.over) in
    let day : k.day ≡ c.unwrap-day.result =
    cc (some-of c.args.draft.heading.day k.day k.one_day, c.unwrap-day.ensures) in
    subst (λ (p : ℕ × ℕ). IsBatch (record { day = p.0; base = p.1 - 1; instructions = d.instructions })) day
    (says-a-day d c.requires.draft k).day.batch

pub of_rising-requires : goal.of_rising-requires
of_rising-requires c =
    let d = draft_of c.args.draft in
    let k = headed d c.requires.draft (ap is_text_over c.requires.over) in
    let day : k.day ≡ c.unwrap-day.result =
    cc (some-of c.args.draft.heading.day k.day k.one_day, c.unwrap-day.ensures) in
    book-of (accounts_in d) d.accounts k.day c.unwrap-day.result (rw (c.requires.unbegun, append-nil) refl) day
    (says-a-day d c.requires.draft k).day.book
