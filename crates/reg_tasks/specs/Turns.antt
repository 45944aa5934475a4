-- Taking the task of a place out of the slots, and laying what it left.
use Rattle.std.specs.Prelude.{◌≡◌, ℕ, true, false, None, Result, MatchResult}
use Rattle.reg_rules.specs.declared.reply.LogRow.{LogRow}
use Rattle.reg_tasks.specs.declared.naming.Naming.{Ghosts}
use Rattle.reg_tasks.specs.declared.done.Done.{Done}
use Rattle.reg_tasks.specs.declared.lack.Lack.{Lack}
use Rattle.reg_tasks.specs.declared.outcome.TaskOutcome.{TaskOutcome}
use Rattle.reg_tasks.specs.declared.outcome.Ran.{Ran}
use Rattle.reg_tasks.specs.declared.slots.Slots.{Slots}
use Rattle.reg_tasks.specs.declared.task.Task.{Task}
use Rattle.reg_tasks.specs.Contexts.{the_day}
use Rattle.reg_tasks.specs.Names.{IsRowOfDay}
use Rattle.reg_tasks.specs.Parcels.{names_of}
use Rattle.reg_tasks.specs.Slots.{AreTaken, AreLaid, StandAsBefore, LacksFor, have_slots, is_ready}
use Rattle.reg_tasks.specs.Standing.{stands}

module _ {N : Type 0} {b : Ghosts N} where
  -- the parcels that this place needs were there, are out of their slots, and this is their task
  pub record IsTaskTaken (here : ℕ) (old new : Slots N b) (task : Task N b) : Type 0 where
    pub context : new.context.now ≡ old.context.now
    pub place : task.place ≡ here
    pub ready : is_ready (the_day old.context.now) old.context.now.plan here (stands old) ≡ true
    pub taken : AreTaken (the_day old.context.now) here (stands old) (stands new)

  -- nothing is taken, for this reason
  pub record TakesNothing (here : ℕ) (old new : Slots N b) (why : Lack) : Type 0 where
    pub context : new.context.now ≡ old.context.now
    pub lack : LacksFor (is_ready (the_day old.context.now) old.context.now.plan here (stands old) ≡ false) why
    pub back : StandAsBefore (stands old) (stands new)

  -- the task of this place is taken out of the slots, with a fault or without
  abbrev pub TakesTask : ℕ → Slots N b → Slots N b → Result (Task N b) Lack → Type 0
  TakesTask place old new result = MatchResult result (IsTaskTaken place old new) (TakesNothing place old new)

  -- what an instruction left lies in the slots of its accounts, and these are its run and its row in the log
  pub record IsLaidForRow (outcome : TaskOutcome N b) (old new : Slots N b) (kept : Ran N × LogRow) : Type 0 where
    pub context : new.context.now ≡ old.context.now
    pub ran : kept.0.place ≡ outcome.place
    pub row : kept.1 ≡ outcome.row
    pub row_is : IsRowOfDay b.day outcome.place kept.1
    pub laid : AreLaid (names_of outcome.parcels.items) (stands old) (stands new)

  -- what an instruction left lies in the slots of its accounts, and these are its run and what is kept of itself
  pub record IsLaidForReply (outcome : TaskOutcome N b) (old new : Slots N b) (kept : Ran N × Done N b) : Type 0 where
    pub context : new.context.now ≡ old.context.now
    pub ran : kept.0.place ≡ outcome.place
    pub place : kept.1.place ≡ outcome.place
    pub reply : kept.1.reply ≡ outcome.row.reply
    pub laid : AreLaid (names_of outcome.parcels.items) (stands old) (stands new)

  -- nothing is laid, and the outcome comes back: one of its accounts has no slot, which occurs only if no day is named
  pub record LaysNothing (outcome : TaskOutcome N b) (old new : Slots N b) (given : TaskOutcome N b) : Type 0 where
    pub context : new.context.now ≡ old.context.now
    pub there : have_slots (the_day old.context.now) (names_of outcome.parcels.items) ≡ false
    pub named : b.day ≡ None
    pub back : given ≡ outcome
    pub unchanged : new ≡ old

  -- what an instruction left is laid into the slots, with a fault or without, and its row is answered
  abbrev pub LaysForRow : TaskOutcome N b → Slots N b → Slots N b → Result (Ran N × LogRow) (TaskOutcome N b) → Type 0
  LaysForRow outcome old new result =
      MatchResult result (IsLaidForRow outcome old new) (LaysNothing outcome old new)

  -- the same, and what is kept of the instruction is answered
  abbrev pub LaysForReply : TaskOutcome N b → Slots N b → Slots N b → Result (Ran N × Done N b) (TaskOutcome N b)
      → Type 0
  LaysForReply outcome old new result =
      MatchResult result (IsLaidForReply outcome old new) (LaysNothing outcome old new)
