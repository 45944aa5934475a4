-- What workers have at their end.
use Rattle.std.specs.Prelude.{ℕ, List, map, flat_map}
use Rattle.reg_tasks.specs.declared.naming.Naming.{Ghosts}
use Rattle.reg_tasks.specs.declared.done.Done.{Done}
use Rattle.reg_tasks.specs.declared.last_parcel.LastParcel.{LastParcel}
use Rattle.reg_run.specs.declared.taker.Sharing.{Ghosts as SharingGhosts}
use Rattle.reg_work.specs.declared.work_loop.EndedWorker.{EndedWorker}

module _ {T N S : Type 0} {t : _} {n : Ghosts N} {s : SharingGhosts S} where
  -- their numbers
  abbrev pub ended_numbers : List (EndedWorker T N S t n s) → List ℕ
  ended_numbers ended_workers = map (λ e. e.number) ended_workers

  -- what is kept of the instructions that they ran, and the last values, worker by worker
  abbrev pub all_done : List (EndedWorker T N S t n s) → List (Done N n)
  all_done ended_workers = flat_map (λ e. e.worker.done.items) ended_workers

  abbrev pub all_closing : List (EndedWorker T N S t n s) → List (LastParcel N n)
  all_closing ended_workers = flat_map (λ e. e.worker.closing.items) ended_workers
