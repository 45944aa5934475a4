-- Who settled the regions of a day.
use Rattle.std.specs.Prelude.{ℕ, ◌≤◌, List, length}
use Rattle.reg_base.specs.Batch.{BatchValue}
use Rattle.reg_rules.specs.State.{State, Setting}
use Rattle.reg_run.specs.declared.ran.Ran.{Ran}
use Rattle.reg_run.specs.Running.{WereRun}
use Rattle.reg_advice.specs.declared.dealing.Deal.{Deal}
use Rattle.reg_regions.specs.declared.running.settled_list.SettledList.{SettledList}
use Rattle.reg_regions.specs.Dealing.{AreDealtOnce}
use Rattle.reg_regions.specs.Stealing.{IsSettledList}

-- each instruction is in one region, once; and so many workers at most ran the regions as tasks: each region was put
-- into the deque of one worker, once, and settled once, by the worker that took it from its own deque or another one's
pub record WereSettledBy (b : BatchValue) (workers : ℕ) : Type 0 where
  pub setting : Setting
  pub openings : List State
  pub deals : List Deal
  pub each_once : AreDealtOnce b deals
  pub busy : ℕ
  pub few : busy ≤ workers
  pub answers : List (Ran SettledList)
  pub notes : List (Unit {0})
  pub ran : WereRun (IsSettledList setting b openings deals) (λ _ _ _. Unit {0}) busy (length openings) answers notes
