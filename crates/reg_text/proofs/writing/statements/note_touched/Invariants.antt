use Rattle.std.proofs.Common.{◌≡◌, ℕ, cond, [], ◌∷◌, ◌++◌, take}
use Rattle.reg_base.specs.Footprint.{is_among}
use Rattle.reg_text.specs.Statement.{noted_at}
use Rattle.reg_text.proofs.writing.statements.note_touched.Given as goal

-- the row is noted at the accounts so far, behind those that were noted before
abbrev pub invariant-loop-number : goal.invariant-loop-number
invariant-loop-number l = (a : ℕ) → noted_at l.noted a
    ≡ noted_at l.initial.noted a ++ cond (is_among (take l.number-index l.accounts) a) (l.log ∷ []) []
