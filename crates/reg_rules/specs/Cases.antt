-- What the checks of an instruction look at, found once.
use Rattle.std.specs.Prelude.{◌≡◌, ℕ, ℤ, true, false, List, [], ◌∷◌, map, Option, Some, None, Result, Err, IfOk}
use Rattle.std.specs.Option.{option_map_or}
use Rattle.reg_base.specs.declared.shares.Share.{Share}
use Rattle.reg_base.specs.declared.instruction.Instruction.{Instruction}
use Rattle.reg_base.specs.declared.movement.Change.{Change}
use Rattle.reg_base.specs.declared.movement.Change.TheVariants.{Trust, Determine}
use Rattle.reg_base.specs.declared.movement.Movement.{Movement}
use Rattle.reg_base.specs.Acts.{movement_of, change_of, shares}
use Rattle.reg_base.specs.Footprint.{must_be_known, all_known}
use Rattle.reg_base.specs.Rules.{RulesValue}
use Rattle.reg_account.specs.declared.figure.FigureFault.{FigureFault}
use Rattle.reg_account.specs.declared.figure.FigureFault.TheVariants.{YearOutsidePeriod}
use Rattle.reg_account.specs.Years.{FigureFits}
use Rattle.reg_account.specs.Account.{AccountValue}
use Rattle.reg_account.specs.Figure.{figure_of}
use Rattle.reg_rules.specs.declared.found.Found.{Found}
use Rattle.reg_rules.specs.ActRules.{rule_of}
use Rattle.reg_rules.specs.State.{State, Setting, Receiver, Seen, numbers}
use Rattle.reg_rules.specs.Trust.{trusts_receivers, due_day, effective_day}
use Rattle.reg_rules.specs.Checks.{has_repeat, row_to_reverse}

-- the accounts that receive, each with its share
abbrev pub receiving : State → List Share → List Receiver
receiving [] shared = []
receiving (v ∷ vs) [] = []
receiving (v ∷ vs) (share ∷ shared) = record { account = Some v; amount = share.amount } ∷ receiving vs shared

-- what an act with these shares sees if these are its first account and those that receive
abbrev pub seeing : AccountValue → State → List Share → Seen
seeing first receivers shared = record { first = Some first; receivers = receiving receivers shared }

-- the day of effect of what this change adds to a trusted list, if it adds something
abbrev pub effect_day : Setting → Change → Option ℕ
effect_day c (Trust other) = effective_day c
effect_day c made = None

-- the figure that this change determines for an account, or why there is none: YearOutsidePeriod too if it determines
-- none
abbrev pub figure_asked : RulesValue → Change → Option AccountValue → Result ℤ FigureFault
figure_asked rules (Determine year) own = option_map_or (λ v. figure_of rules v year) own (Err YearOutsidePeriod)
figure_asked rules made own = Err YearOutsidePeriod

-- what several checks ask of an instruction and of what it sees
abbrev pub found_of : Setting → Instruction → Seen → Found
found_of c i e = record {
  rule = rule_of i.act;
  trusted = trusts_receivers c.day e;
  due = due_day c e i;
  row = row_to_reverse (change_of i.act) e;
  effective = effect_day c (change_of i.act);
  figure = figure_asked c.rules (change_of i.act) e.first;
}

-- an instruction whose accounts are all known and of which none is named twice, with these accounts
pub record Case : Type 0 where
  pub setting : Setting
  pub instruction : Instruction
  pub first : AccountValue
  pub receivers : State

-- what the act sees
abbrev pub seen_in : Case → Seen
seen_in k = seeing k.first k.receivers (shares k.instruction.act)

-- so it is: each account is known, none is named twice, those that receive stand in the order of their shares, and this
-- is what the act does and what is found
pub record IsCase (k : Case) (m : Movement) (found : Found) : Type 0 where
  pub known : all_known k.setting.directory k.instruction.act ≡ true
  pub apart : has_repeat (must_be_known k.instruction.act) ≡ false
  pub in_order : numbers k.receivers ≡ map (λ share. share.to) (shares k.instruction.act)
  pub moved : m ≡ movement_of k.instruction.act
  pub is_found : found ≡ found_of k.setting k.instruction (seen_in k)
  pub figure_fits : IfOk found.figure FigureFits
