-- The words that the texts have for kinds, statuses, rights and acts, and what it means to read a word.
use Rattle.std.specs.Prelude.{◌≡◌, ◌↔◌, ℕ, List, Result, Ok, codes}
use Rattle.reg_base.specs.declared.act.Act.{Act}
use Rattle.reg_base.specs.declared.act.Act.TheVariants as act
use Rattle.reg_base.specs.declared.kinds.AllowanceKind.{AllowanceKind}
use Rattle.reg_base.specs.declared.kinds.AllowanceKind.TheVariants.{General, Aviation}
use Rattle.reg_base.specs.declared.kinds.AccountKind.{AccountKind}
use Rattle.reg_base.specs.declared.kinds.AccountKind.TheVariants.{Total, Allocation, Operator, Aircraft, Trading}
use Rattle.reg_base.specs.declared.kinds.Status.{Status}
use Rattle.reg_base.specs.declared.kinds.Status.TheVariants.{Opened, Blocked, Excluded, Closed}
use Rattle.reg_base.specs.declared.kinds.Retirement.{Retirement}
use Rattle.reg_base.specs.declared.kinds.Retirement.TheVariants.{Surrendered, Deleted}
use Rattle.reg_base.specs.declared.kinds.Right.{Right}
use Rattle.reg_base.specs.declared.kinds.Right.TheVariants.{Propose, Approve, Both}

-- the answer is a value exactly if the text is the word of this value. So it is an error exactly if the text is no word
abbrev pub ReadsWord : {X E : Type 0} → (X → List ℕ) → List ℕ → Result X E → Type 0
ReadsWord {X} word text answer = (value : X) → (answer ≡ Ok value) ↔ (text ≡ word value)

abbrev pub allowance_kind_name : AllowanceKind → List ℕ
allowance_kind_name General = codes "general"
allowance_kind_name Aviation = codes "aviation"

abbrev pub account_kind_name : AccountKind → List ℕ
account_kind_name Total = codes "total"
account_kind_name Allocation = codes "allocation"
account_kind_name Operator = codes "operator"
account_kind_name Aircraft = codes "aircraft"
account_kind_name Trading = codes "trading"

abbrev pub status_name : Status → List ℕ
status_name Opened = codes "open"
status_name Blocked = codes "blocked"
status_name Excluded = codes "excluded"
status_name Closed = codes "closed"

abbrev pub retirement_name : Retirement → List ℕ
retirement_name Surrendered = codes "surrender"
retirement_name Deleted = codes "deletion"

abbrev pub right_name : Right → List ℕ
right_name Propose = codes "propose"
right_name Approve = codes "approve"
right_name Both = codes "both"

abbrev pub name_of_act : Act → List ℕ
name_of_act (act.Transfer from to kind amount) = codes "transfer"
name_of_act (act.Surrender from kind amount) = codes "surrender"
name_of_act (act.Delete from kind amount) = codes "delete"
name_of_act (act.ReturnExcess from to kind amount) = codes "return"
name_of_act (act.Reverse account number) = codes "reverse"
name_of_act (act.Create to kind amount) = codes "create"
name_of_act (act.CentralMove from to kind amount) = codes "central"
name_of_act (act.Distribute from kind shares) = codes "distribute"
name_of_act (act.Trust account other) = codes "trust"
name_of_act (act.Untrust account other) = codes "untrust"
name_of_act (act.SetStatus account status) = codes "status"
name_of_act (act.EnterEmissions account year tonnes) = codes "emissions"
name_of_act (act.Assess account year) = codes "assess"
