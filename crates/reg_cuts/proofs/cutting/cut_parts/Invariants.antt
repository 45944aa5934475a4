use Rattle.std.proofs.Common.{◌≡◌, ◌+◌, ◌≤◌, ◌++◌, vec_len}
use Rattle.reg_cuts.specs.Parts.{text_of_parts}
use Rattle.reg_cuts.proofs.cutting.cut_parts.Given as goal

-- the parts so far and the rest are the text
abbrev pub invariant-loop-left : goal.invariant-loop-left
invariant-loop-left l = record {
  whole : text_of_parts l.parts.items ++ l.rest ≡ l.fn.text;
  few : vec_len l.parts + 1 ≤ l.left;
}
