-- Taking the tasks of a level, and laying what they left.
use Rattle.std.specs.Prelude.{◌≡◌, ℕ, ◌+◌, ◌<◌, ◌≤◌, List, None, Result, MatchResult, Vec}
use Rattle.std.specs.Global.{Global}
use Rattle.reg_tasks.specs.declared.lack.Lack.{Lack}
use Rattle.reg_tasks.specs.declared.lack.Lack.TheVariants.{Foreign}
use Rattle.reg_tasks.specs.declared.naming.Naming.{Ghosts}
use Rattle.reg_tasks.specs.declared.task.Task.{Task}
use Rattle.reg_tasks.specs.Slots.{IsLack}
use Rattle.reg_levels.specs.declared.levels.Levels.{Levels}
use Rattle.reg_levels.specs.Levels.{AreRestOrMost, places_between, places_of}

module _ {N : Type 0} {b : Ghosts N} where
  -- these tasks were taken, in their order: the rest of a level, or the first `most` of that, and nothing was laid
  pub record HasTaken (most : ℕ) (old new : Levels N b) (tasks : List (Task N b)) : Type 0 where
    pub context : new.slots.context.now ≡ old.slots.context.now
    pub order : new.order ≡ old.order
    pub laid : new.laid ≡ old.laid
    pub places : places_of tasks ≡ places_between new.order.items new.laid new.taken
    pub some : old.taken < new.taken
    pub few : new.taken ≤ old.taken + most
    pub whole : AreRestOrMost new.slots.context.now.plan new.order.items most new.laid new.taken

  -- the tasks that were taken are lost, for this reason, and nothing was laid
  pub record LosesTasks (old new : Levels N b) (why : Lack) : Type 0 where
    pub context : new.slots.context.now ≡ old.slots.context.now
    pub order : new.order ≡ old.order
    pub laid : new.laid ≡ old.laid
    pub lack : IsLack b.day why

  -- the next level, or the first `most` of its tasks, is taken, with a fault or without
  abbrev pub TakesLevel : ℕ → Levels N b → Levels N b → Result (Vec (Task N b) Global) Lack → Type 0
  TakesLevel most old new result =
      MatchResult result (λ tasks. HasTaken most old new tasks.items) (LosesTasks old new)

  -- what all tasks left that were taken is laid, and no more tasks were taken
  pub record HasLaid (old new : Levels N b) : Type 0 where
    pub context : new.slots.context.now ≡ old.slots.context.now
    pub order : new.order ≡ old.order
    pub taken : new.taken ≡ old.taken
    pub laid : new.laid ≡ new.taken

  -- a value of another context came, which occurs only if no day is named, and no more tasks were taken
  pub record MeetsForeign (old new : Levels N b) (why : Lack) : Type 0 where
    pub context : new.slots.context.now ≡ old.slots.context.now
    pub order : new.order ≡ old.order
    pub taken : new.taken ≡ old.taken
    pub foreign : why ≡ Foreign
    pub unnamed : b.day ≡ None

  -- what the tasks left that were taken is laid, with a fault or without
  abbrev pub LaysLevel : Levels N b → Levels N b → Result (Unit {0}) Lack → Type 0
  LaysLevel old new result = MatchResult result (λ done. HasLaid old new) (MeetsForeign old new)
