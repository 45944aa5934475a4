use Rattle.reg_plan.proofs.LegalOrders.{legal_orders}
use Rattle.reg_plan.proofs.laws.no_fault_is_a_legal_order.Goals as goal

pub returns : goal.returns
returns c = legal_orders
