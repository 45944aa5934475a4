-- A closed account: nothing is done on it, it is never opened again, and it stays as it is.
use Rattle.std.specs.Prelude.{◌≡◌, ◌≢◌, ℕ, Some, None}
use Rattle.std.specs.List.{Contains}
use Rattle.reg_base.specs.declared.kinds.Status.TheVariants.{Closed}
use Rattle.reg_base.specs.declared.instruction.Instruction.{Instruction}
use Rattle.reg_base.specs.Footprint.{footprint}
use Rattle.reg_rules.specs.State.{State, Setting, account, status}
use Rattle.reg_rules.specs.Checks.{refusal}
use Rattle.reg_rules.specs.Laws.{after_step}

-- law: an accepted instruction touches no closed account
abbrev pub NothingIsDoneOnClosed : Type 0
NothingIsDoneOnClosed = (c : Setting) (s : State) (i : Instruction) (a : ℕ)
    → refusal c s i ≡ None → Contains (footprint c.directory i.act) a → status s a ≢ Some Closed

-- law: an account that is closed before a step is the same after it: nothing goes in or out, and it keeps what it
-- holds, its lists and everything else
abbrev pub ClosedStaysInStep : Type 0
ClosedStaysInStep = (c : Setting) (s : State) (number : ℕ) (i : Instruction) (a : ℕ)
    → status s a ≡ Some Closed → account (after_step c s number i) a ≡ account s a

-- law: so it stays closed
abbrev pub ClosedIsNeverLeftInStep : Type 0
ClosedIsNeverLeftInStep = (c : Setting) (s : State) (number : ℕ) (i : Instruction) (a : ℕ)
    → status s a ≡ Some Closed → status (after_step c s number i) a ≡ Some Closed
