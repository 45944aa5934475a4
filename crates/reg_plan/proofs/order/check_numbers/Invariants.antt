use Rattle.std.proofs.Common.{◌≡◌, length, take, drop, []}
use Rattle.reg_plan.specs.Orders.{first_fault_after}
use Rattle.reg_plan.proofs.Marking.{AreMarks}
use Rattle.reg_plan.proofs.order.check_numbers.Given as goal

abbrev pub invariant-loop-index : goal.invariant-loop-index
invariant-loop-index l = record {
  marks : AreMarks (take l.index l.order) l.came;
  left : first_fault_after l.arrows (length l.came) (take l.index l.order) (drop l.index l.order)
      ≡ first_fault_after l.arrows (length l.initial.came) [] l.order;
}
