-- What one worker ran: each place, once.
use Rattle.std.proofs.Common.{arith, add-one, ◌≡◌, ℕ, zero, suc, ◌+◌, ◌==◌, List, [], ◌∷◌, ◌++◌, take, Some}
use Rattle.std.proofs.Common.{refl, sym, ap, ◌∙◌}
use Rattle.std.specs.Prelude.{slice_get}
use Rattle.std.proofs.lemmas.Option.{same_Some}
use Rattle.std.proofs.lemmas.List.{map-append}
use mathlib.Core.Logic.{dite}
use native.Mathlib.Decide.{ℕ_discrete, dec_le}
use Rattle.reg_facts.specs.Counting.{times, once, one_if}
use Rattle.reg_facts.proofs.lemmas.Times.{equal-one, apart-none, once-yes, once-past, once-zero, times-append}
use Rattle.reg_rules.specs.declared.reply.LogRow.{LogRow}
use Rattle.reg_book.specs.Day.{DayValue, row_at, log_of}
use Rattle.reg_tasks.specs.declared.outcome.Ran.{Ran}
use Rattle.reg_work.specs.declared.shift.Shift.{Shift}
use Rattle.reg_work.specs.Shifts.{AreShifts, places_ran}

-- no number is one of the numbers 1 to 0
pub once-none : (p : ℕ) → 0 ≡ once 0 p
once-none zero = refl
once-none (suc p) = sym (once-past 0 (suc p) (omega arith))

-- the numbers 1 to n, and the next
once-next : (n p : ℕ) → once n p + one_if ((n + 1) == p) ≡ once (n + 1) p
once-next n zero =
    let apart = apart-none (n + 1) 0 (λ same. absurd (omega arith)) in
    let old = once-zero n in
    let new = once-zero (n + 1) in
    omega arith
once-next n (suc p) = dite (ℕ_discrete (n + 1) (suc p))
    (λ same.
    let old = once-past n (suc p) (omega arith) in
    let one = equal-one (n + 1) (suc p) same in
    let new = once-yes (n + 1) (suc p) (omega arith) (omega arith) in
    omega arith)
    (λ apart.
    let none = apart-none (n + 1) (suc p) apart in
    dite (dec_le (suc p) n)
    (λ within.
    let old = once-yes n (suc p) (omega arith) within in
    let new = once-yes (n + 1) (suc p) (omega arith) (omega arith) in
    omega arith)
    (λ past.
    let old = once-past n (suc p) (omega arith) in
    let new = once-past (n + 1) (suc p) (omega arith) in
    omega arith))

-- one more place was run
pub one-ran : {N : Type 0} (n p : ℕ) (all before : List (Ran N)) (r : Ran N) → all ≡ before ++ r ∷ [] → r.place ≡ n + 1
    → times p (places_ran before) ≡ once n p → times p (places_ran all) ≡ once (n + 1) p
one-ran n p all before r items is counted =
    ap (λ rs. times p (places_ran rs)) items
    ∙ ap (times p) (map-append (λ x. x.place) before (r ∷ []))
    ∙ ap (λ k. times p (places_ran before ++ k ∷ [])) is
    ∙ (let both = times-append p (places_ran before) ((n + 1) ∷ []) in let next = once-next n p in omega arith)

-- the shift of a single worker
pub shift-alone : {N : Type 0} (n : ℕ) (shifts : List (Shift N)) (s : Shift N) → shifts ≡ s ∷ [] → s.worker ≡ 0
    → ((p : ℕ) → times p (places_ran s.ran.items) ≡ once n p) → AreShifts 1 n shifts
shift-alone n shifts s items worker each = rw items (record {
  workers_are = ap (λ w. w ∷ []) worker;
  each_once = λ p. let one = each p in omega arith;
})

-- one row more of a log
pub row-more : (log : List LogRow) (n : ℕ) (rows now : List LogRow) (row : LogRow) → now ≡ rows ++ row ∷ []
    → rows ≡ take n log → slice_get log n ≡ Some row → now ≡ take (n + 1) log
row-more log n rows now row items before at =
    items ∙ ap (λ rs. rs ++ row ∷ []) before ∙ rw add-one (sym (next log n at))
  where
    next : (rs : List LogRow) (k : ℕ) → slice_get rs k ≡ Some row → take (suc k) rs ≡ take k rs ++ row ∷ []
    next [] k e = absurd cc
    next (r ∷ rs) zero e = ap (λ x. x ∷ []) (same_Some r row e)
    next (r ∷ rs) (suc k) e = ap (λ xs. r ∷ xs) (next rs k e)

-- the row of the next place, as a row of the log
pub row-next : (d : DayValue) (n : ℕ) (row : LogRow) → row_at d (n + 1) ≡ Some row → slice_get (log_of d) n ≡ Some row
row-next d n row e = let one : suc n ≡ n + 1 = omega arith in ap (row_at d) one ∙ e
