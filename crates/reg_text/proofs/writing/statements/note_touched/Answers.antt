use Rattle.std.proofs.Common.{◌≡◌, ◌∙◌, ℕ, ◌+◌, eqb, [], ◌∷◌, ◌++◌, take, subst, ap, sym}
use Rattle.std.specs.List.{IsDistinct}
use Rattle.std.proofs.lemmas.List.{take_more}
use Rattle.reg_base.specs.Footprint.{footprint}
use Rattle.reg_text.specs.Statement.{noted_at}
use Rattle.reg_text.proofs.StatementFacts.{is-new, noted-more}
use Rattle.reg_text.proofs.writing.statements.note_touched.Goals as goal

pub loop-number-preserved : goal.loop-number-preserved
loop-number-preserved c = λ (a : ℕ).
    let accounts = c.as_slice-accounts.result.now in
    let k = c.loop-number.number-index in
    let x = c.number-item.result in
    let act = c.args.log.now.instruction.act in
    let touched : accounts ≡ footprint c.args.directory.now act =
    c.as_slice-accounts.ensures.value ∙ c.touches-touched.ensures in
    let sound = c.each_footprint_is_sound.ensures c.args.directory.now act in
    let distinct = subst (IsDistinct eqb) (sym touched) sound.once in
    let fresh = is-new accounts k x distinct c.loop-number-test.true c.number-item.is in
    let more : take (k + 1) accounts ≡ take k accounts ++ x ∷ [] =
    take_more accounts k x c.loop-number-test.true ∙ ap (λ (n : ℕ). take k accounts ++ n ∷ []) (sym c.number-item.is) in
    rw more
    (noted-more (noted_at c.args.noted.now a) (noted_at c.loop-number.noted a) (noted_at c.note_row.new.noted a)
    c.args.log.now (take k accounts) x a fresh (c.loop-number.invariant a) (c.in_ok-note_row.ensures a))
