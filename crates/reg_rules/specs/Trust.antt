-- Trust between accounts, what depends on it, and the entries of a trusted list.
use Rattle.std.specs.Prelude.{ℕ, Bool, false, not, ◌&&◌, nat_le, length, Option, is_none, is_some, if◌then◌else◌}
use Rattle.std.specs.List.{list_all}
use Rattle.reg_base.specs.declared.limits.TheConstants.{MOST_TRUSTED}
use Rattle.reg_base.specs.declared.movement.Change.{Change}
use Rattle.reg_base.specs.declared.movement.Change.TheVariants.{Trust, Untrust}
use Rattle.reg_base.specs.declared.instruction.Instruction.{Instruction}
use Rattle.reg_base.specs.Calendar.{due}
use Rattle.reg_base.specs.Rules.{RulesValue}
use Rattle.reg_account.specs.Trusted.{effective_in}
use Rattle.reg_account.specs.Account.{trusts}
use Rattle.reg_rules.specs.declared.rule.LagRule.{LagRule}
use Rattle.reg_rules.specs.declared.rule.LagRule.TheVariants.{ByTrust, NoLag}
use Rattle.reg_rules.specs.ActRules.{rule_of}
use Rattle.reg_rules.specs.State.{Setting, Seen, passes}

-- on this day the first account trusts each that receives
abbrev pub trusts_receivers : ℕ → Seen → Bool
trusts_receivers day e =
    passes (λ v. list_all (λ r. passes (λ w. trusts v w.number w.holder day) r.account) e.receivers) e.first

-- how many working days lie between the proposal and the due day, by whether the accounts that receive are trusted
abbrev pub lag_by : RulesValue → LagRule → Bool → ℕ
lag_by rules ByTrust trusted = if trusted then rules.trusted_lag else rules.other_lag
lag_by rules NoLag trusted = 0

-- the day on which the instruction falls due, if the calendar has it
abbrev pub due_day : Setting → Seen → Instruction → Option ℕ
due_day c e i = due c.rules.calendar i.proposed (lag_by c.rules (rule_of i.act).lag (trusts_receivers c.day e))

-- an act that depends on trust, to accounts that are trusted, from an account that needs no approval for that
abbrev pub is_waived : Setting → LagRule → Seen → Bool
is_waived c ByTrust e = passes (λ v. v.waiver) e.first && trusts_receivers c.day e
is_waived c NoLag e = false

-- there is no approver, and one is needed
abbrev pub lacks_approval : Setting → Instruction → Seen → Bool
lacks_approval c i e = is_none i.approver && not (is_waived c (rule_of i.act).lag e)

-- an act that depends on trust, to an account that is not trusted, from an account that allows transfers only to those
-- that are
abbrev pub is_not_trusted : Setting → LagRule → Seen → Bool
is_not_trusted c ByTrust e = not (trusts_receivers c.day e) && not (passes (λ v. v.outside) e.first)
is_not_trusted c NoLag e = false

-- the day of effect of what is added to a trusted list today, if the calendar has it
abbrev pub effective_day : Setting → Option ℕ
effective_day c = due c.rules.calendar c.day c.rules.list_lag

-- an addition to a trusted list would have no day of effect
abbrev pub has_no_effective_day : Setting → Change → Bool
has_no_effective_day c (Trust other) = is_none (effective_day c)
has_no_effective_day c made = false

-- the first account's trusted list has the account that is to be added, in effect or not
abbrev pub is_already_trusted : Change → Seen → Bool
is_already_trusted (Trust other) e = passes (λ v. is_some (effective_in v.trusted other)) e.first
is_already_trusted made e = false

-- the first account's trusted list lacks the account that is to be removed
abbrev pub is_not_on_list : Change → Seen → Bool
is_not_on_list (Untrust other) e = passes (λ v. is_none (effective_in v.trusted other)) e.first
is_not_on_list made e = false

-- an entry is to be added, and the first account's trusted list has as many as it may have
abbrev pub is_list_full : Change → Seen → Bool
is_list_full (Trust other) e = passes (λ v. nat_le MOST_TRUSTED (length v.trusted)) e.first
is_list_full made e = false
