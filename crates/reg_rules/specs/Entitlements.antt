-- Who may propose and approve an instruction.
use Rattle.std.specs.Prelude.{ℕ, Bool, true, false, not, ◌==◌, Option}
use Rattle.std.specs.Option.{option_map_or}
use Rattle.reg_base.specs.declared.kinds.Right.{Right}
use Rattle.reg_base.specs.declared.kinds.Right.TheVariants.{Propose, Approve, Both}
use Rattle.reg_base.specs.declared.instruction.Instruction.{Instruction}
use Rattle.reg_base.specs.Footprint.{is_among}
use Rattle.reg_base.specs.Rules.{RulesValue}
use Rattle.reg_account.specs.Users.{right_in}
use Rattle.reg_account.specs.Account.{AccountValue}
use Rattle.reg_rules.specs.declared.rule.Role.{Role}
use Rattle.reg_rules.specs.declared.rule.Role.TheVariants.{Proposer, Approver}
use Rattle.reg_rules.specs.declared.rule.Who.{Who}
use Rattle.reg_rules.specs.declared.rule.Who.TheVariants.{Representatives, Administrators}
use Rattle.reg_rules.specs.ActRules.{rule_of}
use Rattle.reg_rules.specs.State.{Seen, passes}

-- the right includes the role
abbrev pub includes : Right → Role → Bool
includes Propose Proposer = true
includes Propose Approver = false
includes Approve Proposer = false
includes Approve Approver = true
includes Both Proposer = true
includes Both Approver = true

-- the user may take the role: as a representative of this account whose right includes it, or as an administrator
abbrev pub is_entitled : RulesValue → Who → Role → Option AccountValue → ℕ → Bool
is_entitled rules Representatives role found user =
    passes (λ v. option_map_or (λ right. includes right role) (right_in v.users user) false) found
is_entitled rules Administrators role found user = is_among rules.admins user

-- the proposer may not propose the act
abbrev pub is_not_proposer : RulesValue → Instruction → Seen → Bool
is_not_proposer rules i e = not (is_entitled rules (rule_of i.act).who Proposer e.first i.proposer)

-- the approver, if there is one, is the proposer
abbrev pub is_same_representative : Instruction → Bool
is_same_representative i = option_map_or (λ user. user == i.proposer) i.approver false

-- the approver, if there is one, may not approve the act
abbrev pub is_not_approver : RulesValue → Instruction → Seen → Bool
is_not_approver rules i e =
    option_map_or (λ user. not (is_entitled rules (rule_of i.act).who Approver e.first user)) i.approver false
