use Rattle.std.proofs.Common.{◌∙◌, Ok, refl, sym, ap}
use Rattle.reg_text.proofs.Names.{Tag, draft_of}
use Rattle.reg_text.specs.declared.reading.tag.Tag.TheVariants as tag
use Rattle.reg_text.proofs.DraftSteps.{none-before}
use Rattle.reg_text.proofs.FirstRows.{no-current, no-lags}
use Rattle.reg_text.proofs.reading.take.take_row.Goals as goal

pub take_format-requires : goal.take_format-requires
take_format-requires c = none-before (draft_of c.args.draft.now) tag.Format c.field_at.result.now c.requires
    (sym (rw c.scope.ensures at c.read_tag.ensures) ∙ c.in_ok-read_tag.was {u = tt}
    ∙ ap (λ (t : Tag). Ok t) c.in-Format.is) refl

pub take_day-requires : goal.take_day-requires
take_day-requires c = none-before (draft_of c.args.draft.now) tag.Day c.field_at.result.now c.requires
    (sym (rw c.scope.ensures at c.read_tag.ensures) ∙ c.in_ok-read_tag.was {u = tt}
    ∙ ap (λ (t : Tag). Ok t) c.in-Day.is) refl

pub take_current-requires : goal.take_current-requires
take_current-requires c = no-current (draft_of c.args.draft.now) c.field_at.result.now c.requires
    (sym (rw c.scope.ensures at c.read_tag.ensures) ∙ c.in_ok-read_tag.was {u = tt}
    ∙ ap (λ (t : Tag). Ok t) c.in-Current.is)

pub take_lags-requires : goal.take_lags-requires
take_lags-requires c = no-lags (draft_of c.args.draft.now) c.field_at.result.now c.requires
    (sym (rw c.scope.ensures at c.read_tag.ensures) ∙ c.in_ok-read_tag.was {u = tt}
    ∙ ap (λ (t : Tag). Ok t) c.in-Lags.is)
