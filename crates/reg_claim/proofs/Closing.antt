-- The last seat has all that was claimed and finished.
use Rattle.std.proofs.Common.{◌≡◌, ℕ, ◌/◌, ◌<◌, ◌≤◌, true, List, [], ◌∷◌, length, get_or, refl, sym, ap, ◌∙◌, subst}
use Rattle.std.proofs.Common.{arith, All, Contains}
use Rattle.std.proofs.lemmas.List.Elements.{recursion_from_All, All-weaker, All-contains_itself}
use mathlib.Core.Option.{some, some-injective, some-ne-none}
use lib.ListN.{get_elem?}
use Rattle.atomic_table.specs.Table.{State, Final, Seen}
use Rattle.reg_facts.specs.Counting.{times, once}
use Rattle.reg_facts.proofs.lemmas.Times.{contains-times, times-distinct, once-most, once-only, length-full}
use Rattle.reg_claim.specs.declared.views.SeatView.{SeatView}
use Rattle.reg_claim.specs.Views.{is_odd}
use Rattle.reg_claim.specs.Claims.{HasNoRepeat}
use Rattle.reg_claim.proofs.Counts.{Knows, Rests, Counted, counted, odd-is, is-odd}
use Rattle.reg_claim.proofs.Keeps.{Holds, total-at, alone, one-of, flag-once, done-most}

-- what the last seat's view says of the count found at the end
pub record Tallied (n found : ℕ) (v : SeatView) : Type 0 where
  pub done : found / 2 ≡ length v.finished
  pub most : found / 2 ≤ n
  pub small : found / 2 < 4294967296
  pub seen : v.seen ≤ found
  pub stopped : is_odd v.seen ≡ true → is_odd found ≡ true
  pub no_repeat : HasNoRepeat v.finished
  pub within : All (λ p. (1 ≤ p) × (p ≤ n)) v.finished
  pub all : found / 2 ≡ n → (p : ℕ) → times p v.finished ≡ once n p

first-word : (ws : List ℕ) (found : ℕ) → get_elem? ws 0 ≡ some found → get_or ws 0 0 ≡ found
first-word [] found e = absurd (some-ne-none found (sym e))
first-word (x ∷ xs) found e = some-injective x found e

tally : (n id : ℕ) (words : List ℕ) (views : List SeatView) (v : SeatView) → v.stake ≡ 16 → Counted n words views
    → get_elem? views id ≡ some v → Tallied n (get_or words 0 0) v
tally n id words views v last k at =
    let stakes = k.stakes in
    let done = k.done in
    let own = alone (λ u. length u.finished) refl views id v at (recursion_from_All Rests views k.rest) (omega arith) in
    let mine : Knows (get_or words 0 0) v = one-of (Knows (get_or words 0 0)) views id v at k.each in
    let half = done-most n words views k in
    let few = k.small in
    let each : (p : ℕ) → times p v.finished ≤ once n p = λ p. (
    let a = mine.finished p in
    let b = total-at (λ u. times p u.claimed) views id v at in
    let c = k.claims p in
    let d = flag-once words n p k.wide in omega arith) in record {
      done = omega arith;
      most = half;
      small = omega arith;
      seen = mine.seen;
      stopped = λ o. is-odd (get_or words 0 0) (mine.stopped (odd-is v.seen o));
      no_repeat = times-distinct v.finished (λ p. let a = each p in let b = once-most n p in omega arith);
      within = All-weaker (Contains v.finished) (λ p. (1 ≤ p) × (p ≤ n))
          (λ p there. let a = contains-times v.finished p there in let b = each p in
          once-only n p (omega arith)) v.finished (All-contains_itself v.finished);
      all = λ full p. length-full n v.finished each (omega arith) p;
    }

pub tallied : (n id : ℕ) (v : SeatView) (words : List ℕ) (slots : List (Unit {0})) (found : ℕ) → v.stake ≡ 16
    → Final (Seen (Holds n) id v) words slots → get_elem? words 0 ≡ some found → Tallied n found v
tallied n id v words slots found last final at0 =
    let s : State (Unit {0}) SeatView = final.0 in
    let is : get_or s.words 0 0 ≡ found = ap (λ w. get_or w 0 0) final.2 ∙ first-word words found at0 in
    subst (λ (c : ℕ). Tallied n c v) is
    (tally n id s.words s.views v last (counted n s.words s.views final.1.0) final.1.1)
