-- Counting places in shifts.
use Rattle.std.proofs.Common.{arith, add-one, ◌≡◌, ℕ, ◌+◌, List, [], ◌∷◌, ◌++◌, map, refl, ap, sym, ◌∙◌}
use Rattle.std.proofs.lemmas.List.{map-append}
use Rattle.reg_facts.specs.Counting.{times}
use Rattle.reg_facts.proofs.lemmas.Times.{times-append}
use Rattle.reg_facts.proofs.lemmas.Totals.{total-append}
use Rattle.reg_work.specs.declared.shift.Shift.{Shift}
use Rattle.reg_facts.specs.Lists.{first_numbers}
use Rattle.reg_work.specs.Shifts.{times_in, places_ran}

-- one shift more adds what stands in it
pub times-one_more : {N : Type 0} (p : ℕ) (shifts : List (Shift N)) (s : Shift N)
    → times_in p (shifts ++ s ∷ []) ≡ times_in p shifts + times p (places_ran s.ran.items)
times-one_more p shifts s = omega (arith, total-append (λ x. times p (places_ran x.ran.items)) shifts (s ∷ []))

-- one more number
pub numbers-next : (n : ℕ) → first_numbers (n + 1) ≡ first_numbers n ++ n ∷ []
numbers-next n = rw add-one refl

-- if one more is numbered after so many, one more number is there
pub one-numbered : {X : Type 0} (f : X → ℕ) (all before : List X) (x : X) (n m : ℕ) → all ≡ before ++ x ∷ []
    → map f before ≡ first_numbers n → f x ≡ n → m ≡ n + 1 → map f all ≡ first_numbers m
one-numbered f all before x n m items numbered is next =
    ap (map f) items
    ∙ map-append f before (x ∷ [])
    ∙ ap (λ ns. ns ++ f x ∷ []) numbered
    ∙ ap (λ k. first_numbers n ++ k ∷ []) is
    ∙ sym (numbers-next n)
    ∙ sym (ap first_numbers next)

-- how often a number stands in the images of two lists, one behind the other
pub times-mapped : {X : Type 0} (f : X → ℕ) (p : ℕ) (all before more : List X) → all ≡ before ++ more
    → times p (map f all) ≡ times p (map f before) + times p (map f more)
times-mapped f p all before more items = ap (λ xs. times p (map f xs)) items ∙ ap (times p) (map-append f before more)
    ∙ times-append p (map f before) (map f more)
