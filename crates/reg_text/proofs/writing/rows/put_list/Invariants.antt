use Rattle.std.proofs.Common.{◌≡◌, ◌++◌, [], ◌∷◌, take}
use Rattle.std.specs.List.{flat_map}
use Rattle.reg_text.specs.Grammar.{row_text}
use Rattle.reg_text.specs.Report.{text_of}
use Rattle.reg_text.proofs.writing.rows.put_list.Given as goal

-- the rows so far have been added
abbrev pub invariant-loop-value : goal.invariant-loop-value
invariant-loop-value g l = l.text ≡ l.initial.text
    ++ text_of (flat_map (λ value. row_text g.T.Tagged.tag (g.T.Tagged.said value) ∷ []) (take l.value-index l.values))
