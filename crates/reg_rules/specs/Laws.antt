-- The laws of a step. They compare the states at each account number.
use Rattle.std.specs.Prelude.{◌≡◌, ℕ, ℤ, ◌+◌, Bool, nat_eq, List, [], Option, Some}
use Rattle.std.specs.Option.{option_map}
use Rattle.std.specs.List.{All, Contains, IsDistinct}
use Rattle.reg_base.specs.declared.kinds.AccountKind.{AccountKind}
use Rattle.reg_base.specs.declared.kinds.Status.TheVariants.{Opened}
use Rattle.reg_base.specs.declared.refusals.Refusal.{Refusal}
use Rattle.reg_base.specs.declared.instruction.Instruction.{Instruction}
use Rattle.reg_base.specs.Footprint.{footprint}
use Rattle.reg_base.specs.Instructions.{IsInstruction}
use Rattle.reg_base.specs.Numbers.{IsDayNo, IsRecordNo}
use Rattle.reg_base.specs.Rules.{AreRules}
use Rattle.reg_account.specs.declared.corrections.Correction.{Correction}
use Rattle.reg_account.specs.declared.users.Representative.{Representative}
use Rattle.reg_account.specs.Account.{AccountValue, IsAccount}
use Rattle.reg_rules.specs.declared.reply.Reply.{Reply}
use Rattle.reg_rules.specs.declared.reply.Reply.TheVariants.{Refused}
use Rattle.reg_rules.specs.State.{State, Setting, numbers, account}
use Rattle.reg_rules.specs.Checks.{refusal}
use Rattle.reg_rules.specs.Effect.{IsBehind}
use Rattle.reg_rules.specs.Step.{step}

-- the state after an instruction
abbrev pub after_step : Setting → State → ℕ → Instruction → State
after_step c s number i = (step c s number i).0

-- the reply to an instruction
abbrev pub reply_to : Setting → State → ℕ → Instruction → Reply
reply_to c s number i = (step c s number i).1

-- both states have the same account, or none, at each of these numbers
abbrev pub AgreeOn : List ℕ → State → State → Type 0
AgreeOn wanted s t = All (λ a. account s a ≡ account t a) wanted

-- what no act changes of an account
pub record Constants : Type 0 where
  pub number : ℕ
  pub kind : AccountKind
  pub holder : ℕ
  pub outside : Bool
  pub waiver : Bool
  pub correction : ℤ
  pub corrections : List Correction
  pub users : List Representative

abbrev pub constants_of : AccountValue → Constants
constants_of v = record {
  number = v.number;
  kind = v.kind;
  holder = v.holder;
  outside = v.outside;
  waiver = v.waiver;
  correction = v.correction;
  corrections = v.corrections;
  users = v.users;
}

-- an account with all that acts change left out
abbrev pub set_aside : AccountValue → AccountValue
set_aside v = record v {
  status = Opened;
  held = record { general = 0; aviation = 0 };
  trusted = [];
  rows = [];
  emissions = [];
  figures = [];
}

-- the account of this number, with all that acts change left out
abbrev pub account_aside : State → ℕ → Option AccountValue
account_aside s a = option_map set_aside (account s a)

-- the accounts that an instruction touches decide its refusal
abbrev pub RefusalIsLocal : Type 0
RefusalIsLocal = (c : Setting) (s t : State) (i : Instruction) → AgreeOn (footprint c.directory i.act) s t
    → refusal c s i ≡ refusal c t i

-- if two states agree on the accounts that the instruction touches, it gets the same reply in both, and they agree
-- afterwards wherever they agreed before
abbrev pub StepIsLocal : Type 0
StepIsLocal = (c : Setting) (s t : State) (number : ℕ) (i : Instruction) → AgreeOn (footprint c.directory i.act) s t
    → (reply_to c s number i ≡ reply_to c t number i)
    × ((a : ℕ) → account s a ≡ account t a → account (after_step c s number i) a ≡ account (after_step c t number i) a)

-- an account that the instruction does not touch stays as it is
abbrev pub OthersStay : Type 0
OthersStay = (c : Setting) (s : State) (number : ℕ) (i : Instruction) (a : ℕ)
    → (Contains (footprint c.directory i.act) a → ⊥) → account (after_step c s number i) a ≡ account s a

-- no account is added, removed or moved in the list
abbrev pub NumbersStayInStep : Type 0
NumbersStayInStep = (c : Setting) (s : State) (number : ℕ) (i : Instruction)
    → numbers (after_step c s number i) ≡ numbers s

-- an account keeps its kind, its holder, its two switches, its correction factors and its representatives
abbrev pub ConstantsStay : Type 0
ConstantsStay = (c : Setting) (s : State) (number : ℕ) (i : Instruction) (a : ℕ)
    → option_map constants_of (account (after_step c s number i) a) ≡ option_map constants_of (account s a)

-- a refused instruction changes nothing, and its reply is the refusal
abbrev pub RefusedChangesNothing : Type 0
RefusedChangesNothing = (c : Setting) (s : State) (number : ℕ) (i : Instruction) (q : Refusal)
    → refusal c s i ≡ Some q → step c s number i ≡ (s, Refused q)

-- two states are equal if they list the same account numbers, each once, with the same account at each number
abbrev pub SameState : Type 0
SameState = (s t : State) → IsDistinct nat_eq (numbers s) → numbers s ≡ numbers t → AgreeOn (numbers s) s t → s ≡ t

-- what a step needs of a state: each account once and within its limits, and its surrenders and deletions recorded
-- under lower numbers
pub record IsReady (number : ℕ) (s : State) : Type 0 where
  pub once : IsDistinct nat_eq (numbers s)
  pub fit : All IsAccount s
  pub behind : All (IsBehind number) s

-- a state that is ready for a record number is after the step ready for the next one: limits are kept (if the rules,
-- the settlement day and the record number are within theirs)
abbrev pub StaysReadyInStep : Type 0
StaysReadyInStep = (c : Setting) (s : State) (number : ℕ) (i : Instruction)
    → AreRules c.rules → IsDayNo c.day → IsRecordNo number → IsInstruction i → IsReady number s
    → IsReady (number + 1) (after_step c s number i)

-- what holds of every step, whatever its act
pub record StepLaws : Type 0 where
  pub refusal_local : RefusalIsLocal
  pub local : StepIsLocal
  pub others_stay : OthersStay
  pub numbers_stay : NumbersStayInStep
  pub constants_stay : ConstantsStay
  pub refused_changes_nothing : RefusedChangesNothing
  pub stays_ready : StaysReadyInStep
  pub same_state : SameState
