-- What a seat shows of the end of the work, after two seats were made one.
use Rattle.std.proofs.Common.{arith, refl, ◌≡◌, ℕ, ◌≤◌, ◌<◌, ◌/◌, ◌||◌, max, Bool, true, false, nat_le, sym, ◌∙◌, ◌⊎◌}
use Rattle.std.proofs.Common.{inl, inr, ⊎_elim}
use Rattle.std.proofs.lemmas.Bool.Decides.{nat_tests}
use Rattle.reg_facts.proofs.lemmas.Numbers.{either-most}
use Rattle.reg_claim.specs.declared.views.SeatView.{SeatView}
use Rattle.reg_claim.specs.Views.{joined_views, is_odd}
use Rattle.reg_work.specs.Ends.{sees_end, shows_end}

-- the greater of two counts shows the end if both do
both-show : (n a b : ℕ) → shows_end n a ≡ true → shows_end n b ≡ true → shows_end n (max a b) ≡ true
both-show n a b p q = ⊎_elim
    (λ le. let e : max a b ≡ b = omega arith in rw e q)
    (λ ge. let e : max a b ≡ a = omega arith in rw e p)
    (either-most a b)

-- a seat that sees the end, made one with another that has seen nothing or sees the end too
pub joined-sees : (n : ℕ) (P : Type 0) (v w : SeatView) → ((P × (v.seen ≡ 0)) ⊎ (sees_end n v ≡ true))
    → sees_end n w ≡ true
    → sees_end n (joined_views v w) ≡ true
joined-sees n P v w (inl none) q = let e : max v.seen w.seen ≡ w.seen = let z = none.1 in omega arith in rw e q
joined-sees n P v w (inr p) q = both-show n v.seen w.seen p q

-- a count that shows the end, and is not odd
second-of : (a b : Bool) → (a || b) ≡ true → ¬ (a ≡ true) → b ≡ true
second-of true b e never = absurd (never refl)
second-of false b e never = e

-- if nobody was told to leave, the last seat sees that all places are finished
pub all-finished : (n : ℕ) (v : SeatView) (done : ℕ) (stopped : Bool) → sees_end n v ≡ true
    → (is_odd v.seen ≡ true → stopped ≡ true) → stopped ≡ false → v.seen / 2 ≤ done → done ≤ n → done ≡ n
all-finished n v done stopped ends stops going seen most =
    let half : nat_le n (v.seen / 2)
    ≡ true = second-of (is_odd v.seen) (nat_le n (v.seen / 2)) ends (λ odd. let both :
    true ≡ false = sym (stops odd) ∙ going in absurd cc) in
    let low : n ≤ v.seen / 2 = grind (arith, nat_tests) in
    omega arith

-- some worker was there, so the last seat sees the end
pub was-there : (n left all : ℕ) (v : SeatView) → left ≡ 0 → 0 < all
    → ((left ≡ all) × (v.seen ≡ 0)) ⊎ (sees_end n v ≡ true)
    → sees_end n v ≡ true
was-there n left all v none some (inl same) = let e = same.0 in absurd (omega arith)
was-there n left all v none some (inr ends) = ends
