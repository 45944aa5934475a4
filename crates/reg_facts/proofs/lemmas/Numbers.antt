-- Numbers and tests: how two numbers compare, and that no test is both true and false.
use Rattle.std.proofs.Common.{◌≡◌, ℕ, ◌<◌, ◌≤◌, ◌⊎◌, inl, inr, Bool, true, false, sym, arith, tests}
use Rattle.std.specs.Cmp.{ranked}
use Rattle.std.specs.Ordering.{nat_cmp, ordering_index, is_le}
use Rattle.std.specs.declared.cmp.Ordering.TheVariants.{Less, Greater}
use mathlib.Core.Logic.{dite}
use native.Mathlib.Decide.{dec_le}

pub clash : {b : Bool} → b ≡ true → b ≡ false → ⊥
clash p q = absurd cc

pub below_of : (x a : ℕ) → nat_cmp x a ≡ Less → x < a
below_of x a e = ranked x a Less (sym e)

pub above_of : (x a : ℕ) → nat_cmp x a ≡ Greater → a < x
above_of x a e = ranked x a Greater (sym e)

pub below_not_le : (x a : ℕ) → is_le (nat_cmp x a) ≡ false → a < x
below_not_le x a e = grind (arith, tests, e)

-- a higher number compares as higher
pub ordering-higher : (x a b : ℕ) → a ≤ b → ordering_index (nat_cmp a x) ≤ ordering_index (nat_cmp b x)
ordering-higher x a b le = grind (arith, tests)

-- one of two numbers is at most the other
pub either-most : (a b : ℕ) → (a ≤ b) ⊎ (b ≤ a)
either-most a b = dite (dec_le a b) (λ h. inl h) (λ h. inr (omega arith))
