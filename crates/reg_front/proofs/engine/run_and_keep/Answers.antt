-- A failed writer has taken a prefix of the day's text.
use Rattle.std.proofs.Common.{List, Vec, ℕ, ◌++◌, ap, sym, ◌∙◌}
use Rattle.std.specs.Global.{Global}
use Rattle.reg_text.specs.Pieces.{text_of_pieces}
use Rattle.reg_front.proofs.Ends.{of_failed, failed_write}
use Rattle.reg_front.proofs.engine.run_and_keep.Goals as goal

pub returns-then-is_err : goal.returns-then-is_err
returns-then-is_err g c =
    let took = of_failed _ (sym c.is_err.ensures.value ∙ c.if-is_err.true) c.write_pieces.ensures.err in
    let written = ap (λ (pieces : List (Vec ℕ Global)). text_of_pieces pieces ++ c.as_slice-2.result.now)
    c.as_slice.ensures.value ∙ ap (λ (end : List ℕ). text_of_pieces c.in_ok-used.used.pieces.items ++ end)
    c.as_slice-2.ensures.value in
    failed_write _ _ _ _ _ _ _ _ c.in_ok-day.ensures.ok c.in_ok-day.ensures.whole c.in_ok-used.ensures.0
    c.in_ok-used.ensures.1 written took
