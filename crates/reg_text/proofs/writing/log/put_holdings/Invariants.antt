use Rattle.std.proofs.Common.{◌≡◌, [], ◌++◌, take}
use Rattle.std.specs.List.{flat_map}
use Rattle.reg_text.proofs.Names.{with_commas, holding_fields}
use Rattle.reg_text.proofs.writing.log.put_holdings.Given as goal

-- the holdings so far have been added
abbrev pub invariant-loop-held : goal.invariant-loop-held
invariant-loop-held l = l.text
    ≡ l.initial.text ++ with_commas (flat_map holding_fields (take l.held-index l.closing)) []
