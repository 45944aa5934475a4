use Rattle.std.proofs.Common.{◌++◌}
use Rattle.reg_cuts.specs.Parts.{text_of_parts}
use Rattle.reg_text.proofs.Names.{draft_of, read_behind}
use Rattle.reg_text.specs.PartsRead.{ReadsEach}
use Rattle.reg_text.proofs.PartFacts.{IsJoined}
use Rattle.reg_text.proofs.reading.joining.join_all.Given as goal

-- what was joined is what the text of the parts before the rest says
abbrev pub invariant-loop-part : goal.invariant-loop-part
invariant-loop-part l = record {
  next : goal.iterator-loop-part.can_next l.part-iterator;
  ends : goal.iterator-loop-part.is_finite l.part-iterator;
  each : ReadsEach (draft_of l.fn.start) l.rest l.part-iterator.rest.items;
  joined : IsJoined (draft_of l.fn.start) (l.fn.head ++ text_of_parts l.fn.parts) l.rest (read_behind l.heading
      l.joined);
}
