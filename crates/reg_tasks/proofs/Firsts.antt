-- The first instruction of an account, found among the openings.
use Rattle.std.proofs.Common.{◌≡◌, ℕ, zero, suc, ◌<◌, Bool, true, false, cond, eqb, ◌||◌, List, [], ◌∷◌, length, get_or}
use Rattle.std.proofs.Common.{Some, None, arith, refl, ap, ◌∙◌}
use Rattle.std.specs.Prelude.{find}
use Rattle.std.specs.Option.{option_map}
use Rattle.std.proofs.lemmas.Bool.{eq-eqb, ne_eqb}
use Rattle.reg_base.specs.Footprint.{is_among}
use Rattle.reg_base.specs.Rising.{IsRising}
use Rattle.reg_plan.specs.declared.arrow.Opening.{Opening}
use Rattle.reg_tasks.specs.Openings.{first_in}
use Rattle.reg_tasks.specs.Slots.{opened_accounts}
use Rattle.reg_tasks.proofs.Rising.{Up, up_rising}
use Rattle.reg_tasks.proofs.lemmas.Slotting.{number_of, opening_at}

abbrev first_of : Opening → ℕ
first_of opening = opening.first

-- no opening is the account's
pub first_nowhere : (os : List Opening) (a : ℕ) → is_among (opened_accounts os) a ≡ false → first_in os a ≡ None
first_nowhere [] a e = refl
first_nowhere (o ∷ os) a e = by (eqb o.account a) e (first_nowhere os a) where
  by : (c : Bool) → (c || is_among (opened_accounts os) a) ≡ false
      → (is_among (opened_accounts os) a ≡ false → first_in os a ≡ None)
      → option_map first_of (cond c (Some o) (find (λ w. eqb w.account a) os)) ≡ None
  by true h more = absurd cc
  by false h more = more h

first_up : (os : List Opening) (k a : ℕ) (d : Opening) → Up number_of os → k < length os
    → get_or (opened_accounts os) k 0 ≡ a → first_in os a ≡ Some (get_or os k d).first
first_up [] k a d up lt is = absurd (omega arith)
first_up (o ∷ os) zero a d up lt is =
    ap (λ c. option_map first_of (cond c (Some o) (find (λ w. eqb w.account a) os))) (eq-eqb o.account a is)
first_up (o ∷ os) (suc k) a d up lt is =
    let (w, there, same) = opening_at os k (omega (arith, lt)) in
    ap (λ c. option_map first_of (cond c (Some o) (find (λ w. eqb w.account a) os)))
    (ne_eqb o.account a (λ e. omega (arith, e, same, is, up.0 w there)))
    ∙ first_up os k a d up.1 (omega (arith, lt)) is

-- the opening at this place is the account's
pub first_there : (os : List Opening) (k a : ℕ) (d : Opening) → IsRising (opened_accounts os) → k < length os
    → get_or (opened_accounts os) k 0 ≡ a → first_in os a ≡ Some (get_or os k d).first
first_there os k a d rising lt is = first_up os k a d (up_rising number_of os rising) lt is
