-- The rule of the table, counted: sums over all views in the place of lists behind one another. Both say the same.
use Rattle.std.proofs.Common.{◌≡◌, ◌≢◌, ℕ, zero, suc, ◌+◌, ◌/◌, ◌%◌, ◌<◌, ◌≤◌, ◌==◌, nat_lt, Bool, true, false, cond}
use Rattle.std.proofs.Common.{List, [], ◌∷◌, length, get_or, refl, sym, subst, ◌∙◌, ap, arith, All, Contains}
use Rattle.std.proofs.Common.{length-append}
use Rattle.std.specs.List.{AllByRecursion, flat_map}
use Rattle.std.proofs.lemmas.List.{get_or_past}
use Rattle.std.proofs.lemmas.List.Elements.{All-from_recursion, recursion_from_All, All-contains, All-weaker}
use Rattle.std.proofs.lemmas.List.Elements.{All-contains_itself}
use Rattle.std.proofs.lemmas.Bool.Decides.{nat_tests}
use mathlib.Core.Logic.{dite}
use native.Mathlib.Decide.{ℕ_discrete, dec_le}
use Rattle.reg_facts.specs.Counting.{one_if, total, times}
use Rattle.reg_facts.proofs.lemmas.Times.{contains-times, times-contains, distinct-times, times-distinct}
use Rattle.reg_facts.proofs.lemmas.Totals.{total-append}
use Rattle.reg_claim.specs.declared.views.SeatView.{SeatView}
use Rattle.reg_claim.specs.Views.{spent, is_odd, is_seat, seats, all_claimed}
use Rattle.reg_claim.specs.Claims.{IsSet, IsSeatView, IsClaimTable}

-- 1 for a word that is not 0
abbrev pub set_of : ℕ → ℕ
set_of zero = 0
set_of (suc x) = 1

-- 1 for a place whose word is not 0
abbrev pub flag : List ℕ → ℕ → ℕ
flag words zero = 0
flag words (suc j) = set_of (get_or words (suc j) 0)

-- what each view, spent or not, says while the count is c
pub record Knows (c : ℕ) (v : SeatView) : Type 0 where
  pub finished : (p : ℕ) → times p v.finished ≤ times p v.claimed
  pub seen : v.seen ≤ c
  pub stopped : v.seen % 2 ≡ 1 → c % 2 ≡ 1

-- a view without a stake is spent
abbrev pub Rests : SeatView → Type 0
Rests v = v.stake ≡ 0 → v ≡ spent

pub record Counted (n : ℕ) (words : List ℕ) (views : List SeatView) : Type 0 where
  pub wide : length words ≡ n + 1
  pub small : n < 4294967296
  pub claims : (p : ℕ) → total (λ v. times p v.claimed) views ≡ flag words p
  pub done : get_or words 0 0 / 2 ≡ total (λ v. length v.finished) views
  pub stakes : total (λ v. v.stake) views ≡ 16
  pub each : All (Knows (get_or words 0 0)) views
  pub rest : All Rests views

-- odd counts
pub odd-is : (c : ℕ) → is_odd c ≡ true → c % 2 ≡ 1
odd-is c h = grind (arith, nat_tests)

pub is-odd : (c : ℕ) → c % 2 ≡ 1 → is_odd c ≡ true
is-odd c h = grind (arith, nat_tests)

-- lists behind one another
pub flat-times : (f : SeatView → List ℕ) (p : ℕ) (views : List SeatView)
    → times p (flat_map f views) ≡ total (λ v. times p (f v)) views
flat-times f p [] = refl
flat-times f p (v ∷ vs) = let r = flat-times f p vs in
    let a = total-append (λ x. one_if (x == p)) (f v) (flat_map f vs) in omega arith

pub flat-length : (f : SeatView → List ℕ) (views : List SeatView)
    → length (flat_map f views) ≡ total (λ v. length (f v)) views
flat-length f [] = refl
flat-length f (v ∷ vs) = let r = flat-length f vs in let a = length-append (f v) (flat_map f vs) in omega arith

-- views that a join spent count for nothing
seats-total : (f : SeatView → ℕ) → f spent ≡ 0 → (views : List SeatView) → AllByRecursion Rests views
    → total f (seats views) ≡ total f views
seats-total f bare [] rest = refl
seats-total f bare (v ∷ vs) rest =
    let r = seats-total f bare vs rest.1 in
    dite (ℕ_discrete v.stake 0)
    (λ none.
    let no : nat_lt 0 v.stake ≡ false = grind (arith, nat_tests) in
    let same : f v ≡ f spent = ap f (rest.0 none) in
    let head : total f (seats (v ∷ vs)) ≡ total f (seats vs) =
    ap (λ (b : Bool). total f (cond b (v ∷ seats vs) (seats vs))) no in omega arith)
    (λ some.
    let yes : nat_lt 0 v.stake ≡ true = grind (arith, nat_tests) in
    let head : total f (seats (v ∷ vs)) ≡ f v + total f (seats vs) =
    ap (λ (b : Bool). total f (cond b (v ∷ seats vs) (seats vs))) yes in omega arith)

-- what holds of seats' views, and of spent ones, holds of all views
all-views : (P : SeatView → Type 0) → P spent → (views : List SeatView) → AllByRecursion Rests views
    → AllByRecursion P (seats views) → AllByRecursion P views
all-views P bare [] rest h = tt
all-views P bare (v ∷ vs) rest h = dite (ℕ_discrete v.stake 0)
    (λ none.
    let no : nat_lt 0 v.stake ≡ false = grind (arith, nat_tests) in
    let tail : AllByRecursion P (seats vs) =
    subst (λ (b : Bool). AllByRecursion P (cond b (v ∷ seats vs) (seats vs))) no h in
    (subst P (sym (rest.0 none)) bare, all-views P bare vs rest.1 tail))
    (λ some.
    let yes : nat_lt 0 v.stake ≡ true = grind (arith, nat_tests) in
    let both : P v × AllByRecursion P (seats vs) =
    subst (λ (b : Bool). AllByRecursion P (cond b (v ∷ seats vs) (seats vs))) yes h in
    (both.0, all-views P bare vs rest.1 both.1))

all-seats : (P : SeatView → Type 0) (views : List SeatView) → AllByRecursion P views → AllByRecursion P (seats views)
all-seats P [] h = tt
all-seats P (v ∷ vs) h = dite (ℕ_discrete v.stake 0)
    (λ none.
    let no : nat_lt 0 v.stake ≡ false = grind (arith, nat_tests) in
    subst (λ (b : Bool). AllByRecursion P (cond b (v ∷ seats vs) (seats vs))) (sym no) (all-seats P vs h.1))
    (λ some.
    let yes : nat_lt 0 v.stake ≡ true = grind (arith, nat_tests) in
    subst (λ (b : Bool). AllByRecursion P (cond b (v ∷ seats vs) (seats vs))) (sym yes) (h.0, all-seats P vs h.1))

map-all : (P Q : SeatView → Type 0) → ((v : SeatView) → P v → Q v) → (views : List SeatView) → AllByRecursion P views
    → AllByRecursion Q views
map-all P Q f [] h = tt
map-all P Q f (v ∷ vs) h = (f v h.0, map-all P Q f vs h.1)

-- both at once
both-all : (P Q : SeatView → Type 0) (views : List SeatView) → AllByRecursion P views → AllByRecursion Q views
    → AllByRecursion (λ v. P v × Q v) views
both-all P Q [] h k = tt
both-all P Q (v ∷ vs) h k = ((h.0, k.0), both-all P Q vs h.1 k.1)

-- the words of places
pub set_of-most : (x : ℕ) → set_of x ≤ 1
set_of-most zero = omega arith
set_of-most (suc x) = omega arith

pub flag-most : (words : List ℕ) (p : ℕ) → flag words p ≤ 1
flag-most words zero = omega arith
flag-most words (suc j) = set_of-most (get_or words (suc j) 0)

pub set_of-some : (x : ℕ) → x ≢ 0 → set_of x ≡ 1
set_of-some zero h = absurd (h refl)
set_of-some (suc x) h = refl

some-set : (x : ℕ) → 0 < set_of x → x ≢ 0
some-set zero h = absurd (omega arith)
some-set (suc x) h = λ e. absurd (omega arith)

flag-set : (words : List ℕ) (p : ℕ) → 0 < flag words p → IsSet words p
flag-set words zero h = absurd (omega arith)
flag-set words (suc j) h =
    let full = some-set (get_or words (suc j) 0) h in
    dite (dec_le (length words) (suc j))
    (λ past. absurd (full (get_or_past words (suc j) 0 past)))
    (λ within. (omega arith, omega arith, full))

set-flag : (words : List ℕ) (p : ℕ) → IsSet words p → flag words p ≡ 1
set-flag words zero h = absurd (let a = h.0 in omega arith)
set-flag words (suc j) h = set_of-some (get_or words (suc j) 0) h.2

-- a finished list
within-times : (c : ℕ) (v : SeatView) → IsSeatView c v → (p : ℕ) → times p v.finished ≤ times p v.claimed
within-times c v k p =
    let most = distinct-times v.finished k.finished_once p in
    dite (ℕ_discrete (times p v.finished) 0)
    (λ none. omega arith)
    (λ some.
    let there : Contains v.claimed p =
    All-contains (Contains v.claimed) v.finished p k.finished_claimed (times-contains v.finished p (omega arith)) in
    let a = contains-times v.claimed p there in omega arith)

-- what the lists say, counted
module _ (n : ℕ) (words : List ℕ) (views : List SeatView) (t : IsClaimTable n words views) where
  resting : AllByRecursion Rests views
  resting = map-all (λ v. is_seat v ≡ false → v ≡ spent) Rests (λ v h none. h (grind (arith, nat_tests))) views
      (recursion_from_All (λ v. is_seat v ≡ false → v ≡ spent) views t.rest)

  claims-counted : (p : ℕ) → total (λ v. times p v.claimed) views ≡ flag words p
  claims-counted p =
      let xs : List ℕ = all_claimed views in
      let a = flat-times (λ v. v.claimed) p (seats views) in
      let b = seats-total (λ v. times p v.claimed) refl views resting in
      let most = distinct-times xs t.claimed_once p in
      let few = flag-most words p in
      dite (ℕ_discrete (times p xs) 0)
      (λ none. dite (ℕ_discrete (flag words p) 0)
      (λ bare. omega arith)
      (λ set. let there = contains-times xs p ((t.claimed_set p).1 (flag-set words p (omega arith))) in
      absurd (omega arith)))
      (λ some. let set = set-flag words p ((t.claimed_set p).0 (times-contains xs p (omega arith))) in omega arith)

  pub counted : Counted n words views
  counted = record {
    wide = t.wide;
    small = t.small;
    claims = claims-counted;
    done = (let a = flat-length (λ v. v.finished) (seats views) in
        let b = seats-total (λ v. length v.finished) refl views resting in t.counted ∙ a ∙ b);
    stakes = sym (seats-total (λ v. v.stake) refl views resting) ∙ t.stakes;
    each = All-from_recursion (Knows (get_or words 0 0)) views (all-views (Knows (get_or words 0 0))
        (record { finished = λ p. omega arith; seen = omega arith; stopped = λ o. absurd (omega arith) }) views resting
        (map-all (IsSeatView (get_or words 0 0)) (Knows (get_or words 0 0))
        (λ v k. record {
          finished = within-times (get_or words 0 0) v k;
          seen = k.seen;
          stopped = λ o. odd-is (get_or words 0 0) (k.stopped (is-odd v.seen o));
        })
        (seats views) (recursion_from_All (IsSeatView (get_or words 0 0)) (seats views) t.known)));
    rest = All-from_recursion Rests views resting;
  }

each-most : (views : List SeatView) → ((p : ℕ) → total (λ v. times p v.claimed) views ≤ 1)
    → AllByRecursion (λ (v : SeatView). (p : ℕ) → times p v.claimed ≤ 1) views
each-most [] h = tt
each-most (v ∷ vs) h = ((λ p. let a = h p in omega arith), each-most vs (λ p. let a = h p in omega arith))

within-claimed : (xs ys : List ℕ) → ((p : ℕ) → times p xs ≤ times p ys) → All (Contains ys) xs
within-claimed xs ys h = All-weaker (Contains xs) (Contains ys) (λ p there. let a = contains-times xs p there in
    let b = h p in times-contains ys p (omega arith)) xs (All-contains_itself xs)

seat-view : (c : ℕ) (v : SeatView) → Knows c v → ((p : ℕ) → times p v.claimed ≤ 1) → IsSeatView c v
seat-view c v k most = record {
  finished_once = times-distinct v.finished (λ p. let a = k.finished p in let b = most p in omega arith);
  finished_claimed = within-claimed v.finished v.claimed k.finished;
  seen = k.seen;
  stopped = λ o. is-odd c (k.stopped (odd-is v.seen o));
}

-- what the sums say, of the lists
module _ (n : ℕ) (words : List ℕ) (views : List SeatView) (k : Counted n words views) where
  rests : AllByRecursion Rests views
  rests = recursion_from_All Rests views k.rest

  times-flag : (p : ℕ) → times p (all_claimed views) ≡ flag words p
  times-flag p = flat-times (λ v. v.claimed) p (seats views) ∙ seats-total (λ v. times p v.claimed) refl views rests
      ∙ k.claims p

  pub ruled : IsClaimTable n words views
  ruled = record {
    wide = k.wide;
    small = k.small;
    claimed_once = times-distinct (all_claimed views) (λ p. let a = times-flag p in let b = flag-most words p in
        omega arith);
    claimed_set = λ p. (
      (λ there. let a = contains-times (all_claimed views) p there in let b = times-flag p in
          flag-set words p (omega arith)),
      (λ set. let a = set-flag words p set in let b = times-flag p in
          times-contains (all_claimed views) p (omega arith)),
    );
    counted = k.done ∙ sym (flat-length (λ v. v.finished) (seats views)
        ∙ seats-total (λ v. length v.finished) refl views rests);
    known = All-from_recursion (IsSeatView (get_or words 0 0)) (seats views)
        (all-seats (IsSeatView (get_or words 0 0)) views
        (map-all (λ v. Knows (get_or words 0 0) v × ((p : ℕ) → times p v.claimed ≤ 1)) (IsSeatView (get_or words 0 0))
        (λ v b. seat-view (get_or words 0 0) v b.0 b.1) views
        (both-all (Knows (get_or words 0 0)) (λ v. (p : ℕ) → times p v.claimed ≤ 1) views
        (recursion_from_All (Knows (get_or words 0 0)) views k.each)
        (each-most views (λ p. let a = k.claims p in let b = flag-most words p in omega arith)))));
    stakes = seats-total (λ v. v.stake) refl views rests ∙ k.stakes;
    rest = All-weaker Rests (λ v. is_seat v ≡ false → v ≡ spent) (λ v h no. h (grind (arith, nat_tests))) views k.rest;
  }
