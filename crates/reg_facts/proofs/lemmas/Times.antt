-- How often numbers stand in a list: in two lists behind each other, in one without repeats, and in one of numbers from
-- 1 to n.
use Rattle.std.proofs.Common.{◌≡◌, ◌≢◌, ℕ, zero, suc, ◌+◌, ◌<◌, ◌≤◌, ◌==◌, ◌&&◌, nat_le, eqb, true, false, List, []}
use Rattle.std.proofs.Common.{◌∷◌, ◌++◌, length, refl, sym, ◌∙◌, ap, arith, Contains}
use Rattle.std.specs.List.{IsDistinct, AllByRecursion}
use Rattle.std.proofs.lemmas.Bool.Decides.{nat_tests}
use mathlib.Core.Logic.{dite}
use native.Mathlib.Decide.{ℕ_discrete, dec_le}
use Rattle.reg_facts.specs.Counting.{one_if, total, times, once}
use Rattle.reg_facts.proofs.lemmas.Totals.{total-append}

pub equal-one : (x p : ℕ) → x ≡ p → one_if (x == p) ≡ 1
equal-one x p e = let t : (x == p) ≡ true = grind (arith, nat_tests) in rw t refl

pub apart-none : (x p : ℕ) → x ≢ p → one_if (x == p) ≡ 0
apart-none x p e = let t : (x == p) ≡ false = grind (arith, nat_tests) in rw t refl

pub times-append : (p : ℕ) (xs ys : List ℕ) → times p (xs ++ ys) ≡ times p xs + times p ys
times-append p xs ys = total-append (λ x. one_if (x == p)) xs ys

pub times-push : (p y : ℕ) (xs : List ℕ) → times p (xs ++ y ∷ []) ≡ times p xs + one_if (y == p)
times-push p y xs = omega (arith, times-append p xs (y ∷ []))

pub contains-times : (xs : List ℕ) (p : ℕ) → Contains xs p → 0 < times p xs
contains-times [] p (k, h, e) = absurd (omega arith)
contains-times (x ∷ xs) p (zero, h, e) = let one = equal-one x p e in omega arith
contains-times (x ∷ xs) p (suc k, h, e) = let r = contains-times xs p (k, omega arith, e) in omega arith

pub times-contains : (xs : List ℕ) (p : ℕ) → 0 < times p xs → Contains xs p
times-contains [] p h = absurd (omega arith)
times-contains (x ∷ xs) p h = dite (ℕ_discrete x p)
    (λ same. (0, omega arith, same))
    (λ apart. let none = apart-none x p apart in let r = times-contains xs p (omega arith) in
    (suc r.0, omega arith, r.2))

absent : (x p : ℕ) (ys : List ℕ) → x ≡ p → AllByRecursion (λ y. eqb x y ≡ false) ys → times p ys ≡ 0
absent x p [] e a = refl
absent x p (y ∷ ys) e a =
    let r = absent x p ys e a.1 in
    let apart : eqb x y ≡ false = a.0 in
    let none = apart-none y p (λ h. grind (arith, nat_tests)) in omega arith

pub distinct-times : (xs : List ℕ) → IsDistinct eqb xs → (p : ℕ) → times p xs ≤ 1
unfolding IsDistinct
distinct-times [] d p = omega arith
distinct-times (x ∷ xs) d p = dite (ℕ_discrete x p)
    (λ same. let one = equal-one x p same in let none = absent x p xs same d.0 in omega arith)
    (λ apart. let none = apart-none x p apart in let r = distinct-times xs d.1 p in omega arith)

away : (x : ℕ) (ys : List ℕ) → times x ys ≡ 0 → AllByRecursion (λ y. eqb x y ≡ false) ys
away x [] h = tt
away x (y ∷ ys) h =
    let apart : y ≢ x = λ same. (let one = equal-one y x same in absurd (omega arith)) in
    (grind (arith, nat_tests), away x ys (omega arith))

pub times-distinct : (xs : List ℕ) → ((p : ℕ) → times p xs ≤ 1) → IsDistinct eqb xs
unfolding IsDistinct
times-distinct [] h = tt
times-distinct (x ∷ xs) h =
    let one = equal-one x x refl in
    let here = h x in
    (away x xs (omega arith), times-distinct xs (λ p. let most = h p in omega arith))

-- numbers from 1 to n
pub once-yes : (n p : ℕ) → 1 ≤ p → p ≤ n → once n p ≡ 1
once-yes n p low high = let t : (nat_le 1 p && nat_le p n) ≡ true = grind (arith, nat_tests) in rw t refl

pub once-zero : (n : ℕ) → once n 0 ≡ 0
once-zero n = refl

pub once-past : (n p : ℕ) → n < p → once n p ≡ 0
once-past n p past = let t : (nat_le 1 p && nat_le p n) ≡ false = grind (arith, nat_tests) in rw t refl

pub once-only : (n p : ℕ) → 0 < once n p → (1 ≤ p) × (p ≤ n)
once-only n zero h = absurd (omega arith)
once-only n (suc p) h = dite (dec_le (suc p) n) (λ in_it. (omega arith, in_it))
    (λ past. let none = once-past n (suc p) (omega arith) in absurd (omega arith))

pub once-most : (n p : ℕ) → once n p ≤ 1
once-most n zero = omega arith
once-most n (suc p) = dite (dec_le (suc p) n) (λ in_it. let one = once-yes n (suc p) (omega arith) in_it in
    omega arith) (λ past. let none = once-past n (suc p) (omega arith) in omega arith)

once-more : (n p : ℕ) → once (suc n) p ≡ once n p + one_if (p == suc n)
once-more n zero = let none = apart-none 0 (suc n) (λ e. absurd (omega arith)) in omega arith
once-more n (suc p) = dite (ℕ_discrete (suc p) (suc n))
    (λ same. let one = equal-one (suc p) (suc n) same in let a = once-yes (suc n) (suc p) (omega arith) (omega arith) in
    let b = once-past n (suc p) (omega arith) in omega arith)
    (λ apart. let none = apart-none (suc p) (suc n) apart in dite (dec_le (suc p) n)
    (λ below. let a = once-yes (suc n) (suc p) (omega arith) (omega arith) in
    let b = once-yes n (suc p) (omega arith) below in omega arith)
    (λ above. let a = once-past (suc n) (suc p) (omega arith) in let b = once-past n (suc p) (omega arith) in
    omega arith))

below-zero : (xs : List ℕ) → total (once 0) xs ≡ 0
below-zero [] = refl
below-zero (x ∷ xs) = let r = below-zero xs in let most = once-most 0 x in dite (ℕ_discrete x 0)
    (λ same. let none : once 0 x ≡ 0 = ap (once 0) same in omega arith)
    (λ apart. let none = once-past 0 x (omega arith) in omega arith)

below-more : (n : ℕ) (xs : List ℕ) → total (once (suc n)) xs ≡ total (once n) xs + times (suc n) xs
below-more n [] = refl
below-more n (x ∷ xs) = let r = below-more n xs in let here = once-more n x in omega arith

below-most : (n : ℕ) (xs : List ℕ) → ((p : ℕ) → times p xs ≤ 1) → total (once n) xs ≤ n
below-most zero xs h = let none = below-zero xs in omega arith
below-most (suc n) xs h = let more = below-more n xs in let r = below-most n xs h in let last = h (suc n) in omega arith

below-all : (n : ℕ) (xs : List ℕ) → ((p : ℕ) → 0 < times p xs → 0 < once n p) → total (once n) xs ≡ length xs
below-all n [] h = refl
below-all n (x ∷ xs) h =
    let one = equal-one x x refl in
    let here = h x (omega arith) in
    let most = once-most n x in
    let r = below-all n xs (λ p some. h p (let a : 0 ≤ one_if (x == p) = omega arith in omega arith)) in omega arith

below-full : (n : ℕ) (xs : List ℕ) → ((p : ℕ) → times p xs ≤ 1) → total (once n) xs ≡ n → (p : ℕ) → 1 ≤ p → p ≤ n
    → times p xs ≡ 1
below-full zero xs h full p low high = absurd (omega arith)
below-full (suc n) xs h full p low high =
    let more = below-more n xs in
    let most = below-most n xs h in
    let last = h (suc n) in
    dite (ℕ_discrete p (suc n))
    (λ same. let here : times (suc n) xs ≡ 1 = omega arith in ap (λ q. times q xs) same ∙ here)
    (λ apart. below-full n xs h (omega arith) p low (omega arith))

-- a list of numbers from 1 to n, none twice, has at most n
pub length-most : (n : ℕ) (xs : List ℕ) → ((p : ℕ) → times p xs ≤ once n p) → length xs ≤ n
length-most n xs h =
    let all = below-all n xs (λ p some. let most = h p in omega arith) in
    let few = below-most n xs (λ p. let a = h p in let b = once-most n p in omega arith) in omega arith

-- and if it has n, it has each
pub length-full : (n : ℕ) (xs : List ℕ) → ((p : ℕ) → times p xs ≤ once n p) → length xs ≡ n → (p : ℕ)
    → times p xs ≡ once n p
length-full n xs h full zero = let a = h 0 in omega arith
length-full n xs h full (suc p) =
    let all = below-all n xs (λ q some. let most = h q in omega arith) in
    dite (dec_le (suc p) n)
    (λ in_it. below-full n xs (λ q. let a = h q in let b = once-most n q in
    omega arith) (all ∙ full) (suc p) (omega arith) in_it ∙ sym (once-yes n (suc p) (omega arith) in_it))
    (λ past. let none = once-past n (suc p) (omega arith) in let a = h (suc p) in omega arith)
