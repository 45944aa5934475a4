-- The world at the start: each place is in its dock, or dealt to a worker.
use Rattle.std.proofs.Common.{◌≡◌, ℕ, zero, suc, ◌+◌, ◌<◌, ◌≤◌, Bool, true, false, eqb, List, [], ◌∷◌, ◌++◌, length}
use Rattle.std.proofs.Common.{Option, Some, None, arith, refl, ap, ◌∙◌}
use Rattle.std.specs.Prelude.{slice_get, slice_set, ◌≢◌, is_some, replicate, ◌&&◌, if◌then◌else◌}
use Rattle.std.specs.Option.{option_map_or}
use Rattle.std.proofs.lemmas.Bool.{eq-eqb, eqb-true}
use Rattle.std.proofs.lemmas.List.{length-set, length-replicate}
use Rattle.reg_facts.proofs.lemmas.Numbers.{clash}
use Rattle.reg_rules.specs.declared.reply.LogRow.{LogRow}
use Rattle.reg_plan.specs.Plans.{PlanValue}
use Rattle.reg_book.specs.Day.{DayValue}
use Rattle.reg_schedules.specs.Docks.{ParcelValue, TaskValue, complete}
use Rattle.reg_schedules.specs.World.{empty, at_place, opened_at, docks_from, ready_from, before_some, pushed_to, dealt}
use Rattle.reg_schedules.specs.World.{at_start}
use Rattle.reg_facts.specs.Counting.{one_if, total}
use Rattle.reg_schedules.specs.Schedules.{times_found}
use Rattle.reg_facts.proofs.lemmas.Totals.{total-set, total-append, total-replicate}
use Rattle.reg_schedules.proofs.lemmas.WorldSums.{get-within}
use Rattle.reg_schedules.proofs.lemmas.WorldCounts.{in_list, in_hand_once, Stands, complete-place}

-- a deal gives each task to one list
length-dealt : (worker : ℕ) (tasks : List TaskValue) (lists : List (List TaskValue))
    → length (dealt worker tasks lists) ≡ length lists
length-dealt worker [] lists = refl
length-dealt worker (t ∷ ts) lists = length-dealt (if eqb (suc worker) (length lists) then 0 else suc worker) ts
    (pushed_to worker t lists) ∙ length-set lists worker _

pub next_worker : (worker many : ℕ) → worker < many → (if eqb (suc worker) many then 0 else suc worker) < many
next_worker worker many lt = by (eqb (suc worker) many) refl
  where
    by : (b : Bool) → eqb (suc worker) many ≡ b → (if b then 0 else suc worker) < many
    by true e = omega (arith, lt)
    by false e = under (λ same. clash (eq-eqb (suc worker) many same) e)
      where
        under : suc worker ≢ many → suc worker < many
        under ne = grind (arith, lt, ne)

pub total-dealt : (f : TaskValue → ℕ) (worker : ℕ) (tasks : List TaskValue) (lists : List (List TaskValue))
    → worker < length lists → total (total f) (dealt worker tasks lists) ≡ total (total f) lists + total f tasks
total-dealt f worker [] lists lt = omega arith
total-dealt f worker (t ∷ ts) lists lt =
    let l = get-within lists worker lt in
    let more : pushed_to worker t lists ≡ slice_set lists worker (l.0 ++ t ∷ []) = rw l.1 refl in
    let long = length-set lists worker (l.0 ++ t ∷ []) in
    let next = total-dealt f (if eqb (suc worker) (length lists) then 0 else suc worker) ts
    (slice_set lists worker (l.0 ++ t ∷ [])) (rw long (next_worker worker (length lists) lt)) in
    rw more (omega (arith, next, total-set (total f) lists worker l.0 (l.0 ++ t ∷ []) l.1, total-append f l.0 (t ∷ [])))

module _ (day : DayValue) (plan : PlanValue) where
  pub length-docks : (place more : ℕ) → length (docks_from day plan place more) ≡ more
  length-docks place zero = refl
  length-docks place (suc more) = omega (arith, length-docks (suc place) more)

  -- the tasks of these places, with one more in front of them
  in-front : (q place : ℕ) (o : Option TaskValue) (rest : List TaskValue)
      → complete day plan place (opened_at day plan place) ≡ o
      → total (in_list q) (before_some o rest) ≡ one_if (is_some o && eqb place q) + total (in_list q) rest
  in-front q place None rest e = omega arith
  in-front q place (Some t) rest e =
      omega (arith, ap (λ n. one_if (eqb n q)) (complete-place day plan place (opened_at day plan place) t e))

  apart : (b : Bool) (m n : ℕ) → m ≢ n → one_if (b && eqb m n) ≡ 0
  apart b m n ne = by b (eqb m n) refl
    where
      by : (b c : Bool) → eqb m n ≡ c → one_if (b && c) ≡ 0
      by false c e = refl
      by true false e = refl
      by true true e = absurd (ne (eqb-true m n e))

  -- no task of these places is of an earlier one
  none-before : (q place more : ℕ) → q < place → total (in_list q) (ready_from day plan place more) ≡ 0
  none-before q place zero lt = refl
  none-before q place (suc more) lt =
      omega (
        arith,
        none-before q (suc place) more (omega (arith, lt)),
        in-front q place (complete day plan place (opened_at day plan place)) (ready_from day plan (suc place) more)
            refl,
        apart (is_some (complete day plan place (opened_at day plan place))) place q (λ e. omega (arith, lt, e)),
      )

  -- a dock waits, or its task is ready
  either : (o : Option TaskValue) (parcels : List ParcelValue) (m n : ℕ) → m ≡ n
      → one_if (is_some (if is_some o then None else Some parcels)) + one_if (is_some o && eqb m n) ≡ 1
  either None parcels m n e = refl
  either (Some t) parcels m n e = omega (arith, ap one_if (eq-eqb m n e))

  -- each of these places has a dock that waits or a task
  pub dock-or-task : (k place more q : ℕ) → k < more → place + k ≡ q
      → one_if (option_map_or is_some (slice_get (docks_from day plan place more) k) false) + total (in_list q)
      (ready_from day plan place more) ≡ 1
  dock-or-task k place zero q lt e = absurd (omega (arith, lt))
  dock-or-task zero place (suc more) q lt e =
      omega (
        arith,
        none-before q (suc place) more (omega (arith, e)),
        in-front q place (complete day plan place (opened_at day plan place)) (ready_from day plan (suc place) more)
            refl,
        either (complete day plan place (opened_at day plan place)) (opened_at day plan place) place q
            (omega (arith, e)),
      )
  dock-or-task (suc k) place (suc more) q lt e =
      omega (
        arith,
        dock-or-task k (suc place) more q (omega (arith, lt)) (omega (arith, e)),
        in-front q place (complete day plan place (opened_at day plan place)) (ready_from day plan (suc place) more)
            refl,
        apart (is_some (complete day plan place (opened_at day plan place))) place q (λ f. omega (arith, e, f)),
      )

pub start-stands : (day : DayValue) (plan : PlanValue) (workers : ℕ) → 1 ≤ workers
    → Stands (length day.batch.instructions) workers (at_start day plan workers)
start-stands day plan workers some = record {
  docks = length-docks day plan 1 n;
  rows = length-replicate n None;
  lists = length-dealt 0 (ready_from day plan 1 n) (replicate workers []) ∙ length-replicate workers [];
  hands = length-replicate workers empty;
  once = once;
}
  where
    n : ℕ
    n = length day.batch.instructions

    no-task : List TaskValue
    no-task = []

    rows-undone : ℕ → List (Option LogRow)
    rows-undone m = replicate m None

    long : length (replicate workers (no-task)) ≡ workers
    long = length-replicate workers no-task

    undone : (m q : ℕ) → one_if (option_map_or is_some (at_place (rows-undone m) q) false) ≡ 0
    undone m zero = refl
    undone zero (suc k) = refl
    undone (suc m) (suc zero) = refl
    undone (suc m) (suc (suc k)) = undone m (suc k)

    once : (q : ℕ) → 1 ≤ q → q ≤ n → times_found (at_start day plan workers) q ≡ 1
    once zero low high = absurd (omega (arith, low))
    once (suc k) low high =
        let deal = total-dealt (in_list (suc k)) 0 (ready_from day plan 1 n) (replicate workers [])
        (omega (arith, some, long)) in
        let here = dock-or-task day plan k 1 n (suc k) (omega (arith, high)) (omega arith) in
        omega (
          arith,
          deal,
          here,
          total-replicate (total (in_list (suc k))) workers [] refl,
          total-replicate (in_hand_once (suc k)) workers empty refl,
          undone n (suc k),
        )
