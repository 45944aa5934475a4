use Rattle.std.proofs.Common.{◌-◌, ℕ, arith, sym, subst, ◌∙◌}
use Rattle.std.proofs.lemmas.Bool.{eqb-true}
use Rattle.std.proofs.lemmas.List.Elements.{All-set}
use Rattle.reg_account.specs.Account.{IsAccount}
use Rattle.reg_book.proofs.Overlays.{set_at, not_there, numbers_below, lower_than}
use Rattle.reg_book.proofs.book.replace_last.Goals as goal
use Rattle.reg_book.proofs.book.replace_last.Goals.{else-count-gt0-via-then-count-gt0+else-eq}
use Rattle.reg_book.proofs.book.replace_last.Goals.{else-count-gt0-via-else-count-gt0}

pub returns-then-eq-clause-items : goal.returns-then-eq-clause-items
returns-then-eq-clause-items c =
    let within = c.requires.within in
    let same = sym c.number.ensures ∙ eqb-true c.number.result c.number-number.result (sym c.if-eq.ensures)
    ∙ c.number-number.ensures in
    let some = c.if-count-gt0.true in
    set_at c.args.accounts.now.items c.args.account c.index.result.now _ c.requires.rising
    (omega (arith, within, some)) c.index.ensures same

pub returns-else-count-gt0-clause-items : goal.returns-else-count-gt0-clause-items
returns-else-count-gt0-clause-items c =
    let xs = c.args.accounts.now.items in
    let within = c.requires.within in
    let higher = c.requires.higher in
    elim c.else-count-gt0.branch [
      | else-count-gt0-via-then-count-gt0+else-eq w ↦
          not_there xs c.args.account c.args.count c.requires.rising within higher
          (λ some. lower_than xs c.args.account c.args.count w.index.result.now w.number.result
          c.number-number.result some within w.index.ensures w.number.ensures c.number-number.ensures
          (sym w.if-eq.ensures) (subst
          (λ (n : ℕ). numbers_below xs c.args.count n)
          (sym c.number-number.ensures) (c.requires.last some)))
      | else-count-gt0-via-else-count-gt0 w ↦
          let none = w.if-count-gt0.false in
          not_there xs c.args.account c.args.count c.requires.rising within higher
          (λ some. absurd (omega (arith, none, some)))
    ]

pub returns-then-eq-clause-within_limits : goal.returns-then-eq-clause-within_limits
returns-then-eq-clause-within_limits c =
    All-set IsAccount c.args.accounts.now.items (c.args.count - 1) c.args.account c.is_within_limits.ensures
    c.requires.within_limits
