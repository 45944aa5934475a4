-- What a step of a worker leaves as it is.
use Rattle.std.specs.Prelude.{◌≡◌}
use Rattle.reg_run.specs.declared.taker.Sharing.{Ghosts as SharingGhosts}
use Rattle.reg_run.specs.Taking.{WorkerView, known_by}
use Rattle.reg_tasks.specs.declared.naming.Naming.{Ghosts}
use Rattle.reg_work.specs.declared.worker.Worker.{Worker}

-- it is the same worker, and knows the same of the other deques
abbrev pub IsSameThief : WorkerView → WorkerView → Type 0
IsSameThief k l = (l.worker ≡ k.worker) × (l.others ≡ k.others)

module _ {T N S : Type 0} {t : _} {n : Ghosts N} {s : SharingGhosts S} where
  -- what it ran and what it keeps of that are the same
  abbrev pub IsSameWork : Worker T N S t n s → Worker T N S t n s → Type 0
  IsSameWork v w = (w.ran ≡ v.ran) × (w.done ≡ v.done) × (w.closing ≡ v.closing)

  -- its own deque alone may have changed
  abbrev pub OwnerAlone : Worker T N S t n s → Worker T N S t n s → Type 0
  OwnerAlone v w = IsSameWork v w × (w.seat ≡ v.seat) × IsSameThief (known_by v.taker) (known_by w.taker)

  -- what it knows of the deques alone may have changed
  abbrev pub TakerAlone : Worker T N S t n s → Worker T N S t n s → Type 0
  TakerAlone v w = IsSameWork v w × (w.seat ≡ v.seat)

  -- its seat alone may have changed
  abbrev pub SeatAlone : Worker T N S t n s → Worker T N S t n s → Type 0
  SeatAlone v w = IsSameWork v w × (w.taker ≡ v.taker)
