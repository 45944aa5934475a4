-- The table of acts: what each asks of its accounts, who proposes and approves it, and how long it waits.
use Rattle.std.specs.Prelude.{Bool, true, false, ◌||◌}
use Rattle.reg_base.specs.declared.kinds.AccountKind.{AccountKind}
use Rattle.reg_base.specs.declared.kinds.AccountKind.TheVariants.{Total, Allocation, Operator, Aircraft, Trading}
use Rattle.reg_base.specs.declared.kinds.Status.{Status}
use Rattle.reg_base.specs.declared.kinds.Status.TheVariants.{Opened, Blocked, Excluded, Closed}
use Rattle.reg_base.specs.declared.act.Act.{Act}
use Rattle.reg_base.specs.declared.act.Act.TheVariants.{Transfer, Surrender, Delete, ReturnExcess, Reverse, Create}
use Rattle.reg_base.specs.declared.act.Act.TheVariants.{CentralMove, Distribute, Trust, Untrust, SetStatus}
use Rattle.reg_base.specs.declared.act.Act.TheVariants.{EnterEmissions, Assess}
use Rattle.reg_rules.specs.declared.rule.KindRule.{KindRule}
use Rattle.reg_rules.specs.declared.rule.KindRule.TheVariants.{HolderToHolder, OperatorToAllocation}
use Rattle.reg_rules.specs.declared.rule.KindRule.TheVariants.{AllocationToOperator, Central, OfHolder, OfOperator}
use Rattle.reg_rules.specs.declared.rule.KindRule.TheVariants.{OfTotal}
use Rattle.reg_rules.specs.declared.rule.StatusRule.{StatusRule}
use Rattle.reg_rules.specs.declared.rule.StatusRule.TheVariants.{IsOpened, OpenedOrBlocked, NotClosed, AsReceiver}
use Rattle.reg_rules.specs.declared.rule.Who.{Who}
use Rattle.reg_rules.specs.declared.rule.Who.TheVariants.{Representatives, Administrators}
use Rattle.reg_rules.specs.declared.rule.LagRule.{LagRule}
use Rattle.reg_rules.specs.declared.rule.LagRule.TheVariants.{ByTrust, NoLag}
use Rattle.reg_rules.specs.declared.rule.ActRule.{ActRule}

-- a row: the kinds of the accounts, the status that the first account needs, who proposes and approves, and the lag
abbrev pub act_row : KindRule → StatusRule → Who → LagRule → ActRule
act_row kinds status who lag = record { kinds = kinds; status = status; who = who; lag = lag }

-- one row for each act
abbrev pub rule_of : Act → ActRule
rule_of (Transfer from to kind amount) = act_row HolderToHolder IsOpened Representatives ByTrust
rule_of (Surrender from kind amount) = act_row OfOperator NotClosed Representatives NoLag
rule_of (Delete from kind amount) = act_row OfHolder IsOpened Representatives NoLag
rule_of (ReturnExcess from to kind amount) = act_row OperatorToAllocation NotClosed Representatives NoLag
rule_of (Reverse account number) = act_row OfHolder NotClosed Administrators NoLag
rule_of (Create to kind amount) = act_row OfTotal AsReceiver Administrators NoLag
rule_of (CentralMove from to kind amount) = act_row Central NotClosed Administrators NoLag
rule_of (Distribute from kind shares) = act_row AllocationToOperator NotClosed Administrators NoLag
rule_of (Trust account other) = act_row OfHolder NotClosed Representatives NoLag
rule_of (Untrust account other) = act_row OfHolder NotClosed Representatives NoLag
rule_of (SetStatus account status) = act_row OfHolder NotClosed Administrators NoLag
rule_of (EnterEmissions account year tonnes) = act_row OfOperator NotClosed Administrators NoLag
rule_of (Assess account year) = act_row OfOperator OpenedOrBlocked Administrators NoLag

-- the accounts of holders
abbrev pub is_holder_kind : AccountKind → Bool
is_holder_kind Total = false
is_holder_kind Allocation = false
is_holder_kind Operator = true
is_holder_kind Aircraft = true
is_holder_kind Trading = true

-- the accounts of operators and aircraft operators, which have emissions
abbrev pub is_operator_kind : AccountKind → Bool
is_operator_kind Total = false
is_operator_kind Allocation = false
is_operator_kind Operator = true
is_operator_kind Aircraft = true
is_operator_kind Trading = false

abbrev pub is_allocation_kind : AccountKind → Bool
is_allocation_kind Total = false
is_allocation_kind Allocation = true
is_allocation_kind Operator = false
is_allocation_kind Aircraft = false
is_allocation_kind Trading = false

abbrev pub is_total_kind : AccountKind → Bool
is_total_kind Total = true
is_total_kind Allocation = false
is_total_kind Operator = false
is_total_kind Aircraft = false
is_total_kind Trading = false

-- the central accounts: total quantity and allocation accounts
abbrev pub is_central_kind : AccountKind → Bool
is_central_kind Total = true
is_central_kind Allocation = true
is_central_kind Operator = false
is_central_kind Aircraft = false
is_central_kind Trading = false

-- where allowances may go from a central account: from the total quantity account to an allocation account, and from
-- that back, or to those to whom they are allocated
abbrev pub may_go_central : AccountKind → AccountKind → Bool
may_go_central Total to = is_allocation_kind to
may_go_central Allocation to = is_total_kind to || is_operator_kind to
may_go_central Operator to = false
may_go_central Aircraft to = false
may_go_central Trading to = false

-- the first account may be of this kind
abbrev pub fits_first : KindRule → AccountKind → Bool
fits_first HolderToHolder kind = is_holder_kind kind
fits_first OperatorToAllocation kind = is_operator_kind kind
fits_first AllocationToOperator kind = is_allocation_kind kind
fits_first Central kind = is_central_kind kind
fits_first OfHolder kind = is_holder_kind kind
fits_first OfOperator kind = is_operator_kind kind
fits_first OfTotal kind = is_total_kind kind

-- an account that receives may be of the second kind if the first account is of the first
abbrev pub fits_receiver : KindRule → AccountKind → AccountKind → Bool
fits_receiver HolderToHolder first kind = is_holder_kind kind
fits_receiver OperatorToAllocation first kind = is_allocation_kind kind
fits_receiver AllocationToOperator first kind = is_operator_kind kind
fits_receiver Central first kind = may_go_central first kind
fits_receiver OfHolder first kind = false
fits_receiver OfOperator first kind = false
fits_receiver OfTotal first kind = false

abbrev pub is_opened : Status → Bool
is_opened Opened = true
is_opened Blocked = false
is_opened Excluded = false
is_opened Closed = false

abbrev pub is_opened_or_blocked : Status → Bool
is_opened_or_blocked Opened = true
is_opened_or_blocked Blocked = true
is_opened_or_blocked Excluded = false
is_opened_or_blocked Closed = false

abbrev pub is_not_closed : Status → Bool
is_not_closed Opened = true
is_not_closed Blocked = true
is_not_closed Excluded = true
is_not_closed Closed = false

-- the first account, as the source, has a status that is needed
abbrev pub fits_source : StatusRule → Status → Bool
fits_source IsOpened status = is_opened status
fits_source OpenedOrBlocked status = is_opened_or_blocked status
fits_source NotClosed status = is_not_closed status
fits_source AsReceiver status = true

-- the first account, as a receiver, has a status that is needed
abbrev pub fits_first_receiver : StatusRule → Status → Bool
fits_first_receiver IsOpened status = true
fits_first_receiver OpenedOrBlocked status = true
fits_first_receiver NotClosed status = true
fits_first_receiver AsReceiver status = is_not_closed status
