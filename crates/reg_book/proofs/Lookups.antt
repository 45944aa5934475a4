-- Finding accounts in lists made from other lists, and what a list is after its slice was written.
use Rattle.std.proofs.Common.{◌≡◌, ℕ, zero, suc, ◌<◌, Bool, true, false, cond, eqb, ◌||◌, List, [], ◌∷◌, ◌++◌, filter}
use Rattle.std.proofs.Common.{length, take, drop, Option, Some, None, refl, ap, ◌∙◌, arith}
use Rattle.std.specs.Prelude.{Contains}
use Rattle.std.proofs.lemmas.List.{append-nil, take_all, drop_all}
use Rattle.std.proofs.lemmas.Map.Keys.{IsDistinct-cons}
use Rattle.reg_base.specs.Rising.{IsRising}
use Rattle.reg_base.proofs.lemmas.Among.{is_among-contained}
use Rattle.reg_base.proofs.lemmas.RisesFrom.{RisesFrom, rises_from}
use Rattle.std.specs.List.{IsDistinct, AllByRecursion}
use Rattle.std.proofs.lemmas.Bool.{eq-eqb, ne_eqb, eqb-true, or_left, or_right}
use Rattle.reg_account.specs.Account.{AccountValue}
use Rattle.reg_rules.specs.State.{State, account, numbers}
use Rattle.reg_base.specs.Footprint.{is_among}

-- the accounts that pass a test of their numbers
pub account-filter : (p : ℕ → Bool) (s : State) (a : ℕ) → account (filter (λ v. p v.number) s) a
    ≡ cond (p a) (account s a) None
account-filter p [] a = by (p a)
  where
    by : (b : Bool) → ◌≡◌ {A = Option AccountValue} None (cond b None None)
    by true = refl
    by false = refl
account-filter p (x ∷ xs) a = by (p x.number) (eqb x.number a) refl refl (p a) refl (account-filter p xs a)
  where
    by : (kept same : Bool) → p x.number ≡ kept → eqb x.number a ≡ same → (wanted : Bool) → p a ≡ wanted
        → account (filter (λ v. p v.number) xs) a ≡ cond wanted (account xs a) None
        → account (cond kept (x ∷ filter (λ v. p v.number) xs) (filter (λ v. p v.number) xs)) a
        ≡ cond wanted (cond same (Some x) (account xs a)) None
    by true true k e true w more = rw e refl
    by true true k e false w more =
        absurd (let n : x.number ≡ a = eqb-true x.number a e in let h : p x.number ≡ p a = ap p n in cc)
    by true false k e wanted w more = rw e more
    by false true k e true w more =
        absurd (let n : x.number ≡ a = eqb-true x.number a e in let h : p x.number ≡ p a = ap p n in cc)
    by false true k e false w more = more
    by false false k e wanted w more = more

pub numbers-filter : (p : ℕ → Bool) (s : State) → numbers (filter (λ v. p v.number) s) ≡ filter p (numbers s)
numbers-filter p [] = refl
numbers-filter p (x ∷ xs) = by (p x.number) (numbers-filter p xs)
  where
    by : (b : Bool) → numbers (filter (λ v. p v.number) xs) ≡ filter p (numbers xs)
        → numbers (cond b (x ∷ filter (λ v. p v.number) xs) (filter (λ v. p v.number) xs))
        ≡ cond b (x.number ∷ filter p (numbers xs)) (filter p (numbers xs))
    by true more = ap (λ ns. x.number ∷ ns) more
    by false more = more

below_all : (low m : ℕ) (ns : List ℕ) → RisesFrom low ns → m < low → AllByRecursion (λ y. eqb m y ≡ false) ns
below_all low m [] rises lt = tt
below_all low m (x ∷ xs) rises lt =
    (ne_eqb m x (λ e. omega (arith, rises.0, e)), below_all (suc x) m xs rises.1 (omega (arith, rises.0)))

rises-distinct : (low : ℕ) (ns : List ℕ) → RisesFrom low ns → IsDistinct eqb ns
unfolding IsDistinct
rises-distinct low [] rises = tt
rises-distinct low (x ∷ xs) rises =
    IsDistinct-cons eqb x xs (below_all (suc x) x xs rises.1 (omega arith)) (rises-distinct (suc x) xs rises.1)

-- numbers that rise differ
pub rising-distinct : (s : State) → IsRising (numbers s) → IsDistinct eqb (numbers s)
rising-distinct s rising = rises-distinct 0 (numbers s) (rises_from 0 (numbers s) rising (λ some. omega arith))
