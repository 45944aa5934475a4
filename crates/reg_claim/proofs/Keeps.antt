-- Each kind of step keeps the rule of the table.
use Rattle.std.proofs.Common.{◌≡◌, ◌≢◌, ℕ, zero, suc, ◌+◌, ◌/◌, ◌%◌, ◌^◌, ◌<◌, ◌≤◌, ◌==◌, max, List, [], ◌∷◌, ◌++◌}
use Rattle.std.proofs.Common.{length, get_or, set, refl, sym, ap, ◌∙◌, subst, ⊎_elim, arith, All}
use Rattle.std.proofs.Common.{Contains, Some, replicate, length-append}
use Rattle.std.specs.Prelude.{slice_get}
use Rattle.std.specs.List.{AllByRecursion, flat_map}
use Rattle.std.proofs.Math.ListN.{length-set}
use Rattle.std.proofs.lemmas.List.{length-replicate, get_or-replicate, get_or-set_same, get_or-set_other, get_or_past}
use Rattle.std.proofs.lemmas.List.{length_push}
use Rattle.std.proofs.lemmas.List.Elements.{All-from_recursion, recursion_from_All, All-weaker, All-set, All-push}
use Rattle.std.specs.Int.Bits.{bit_or, or_zero_r}
use Rattle.std.proofs.lemmas.Nat.{or_shr, or_mod, le_or_l, le_or_r}
use mathlib.Core.Logic.{dite}
use mathlib.Core.Option.{none, some, some-injective, some-ne-none}
use native.Mathlib.Decide.{ℕ_discrete, dec_le}
use lib.ListN.{get_elem?}
use Rattle.atomic_table.specs.Table.{State, step, keeps, Allows, Splits, Joins, opening, stepped}
use Rattle.atomic_table.proofs.Lists.{at_set}
use Rattle.reg_facts.specs.Counting.{one_if, total, times, once}
use Rattle.reg_facts.proofs.lemmas.Numbers.{either-most}
use Rattle.reg_facts.proofs.lemmas.Times.{equal-one, apart-none, contains-times, times-contains, once-yes, length-most}
use Rattle.reg_facts.proofs.lemmas.Totals.{total-set, total-append}
use Rattle.reg_claim.specs.declared.views.SeatView.{SeatView}
use Rattle.reg_claim.specs.Views.{fresh, newcomer, spent, with_claimed, with_finished, with_seen, with_less}
use Rattle.reg_claim.specs.Views.{joined_views}
use Rattle.reg_claim.specs.Claims.{IsClaimTable}
use Rattle.reg_claim.specs.Steps.{IsLater, Known, ClaimStep, FinishStep, LookStep, StopStep}
use Rattle.reg_claim.proofs.Counts.{set_of, set_of-some, flag, flag-most, Knows, Rests, Counted, counted, ruled, odd-is}
use Rattle.reg_claim.proofs.Counts.{is-odd, flat-times, flat-length}

abbrev St : Type 0
St = State (Unit {0}) SeatView

abbrev pub Holds : ℕ → St → Type 0
Holds n s = IsClaimTable n s.words s.views

-- one view among all
there : (views : List SeatView) (id : ℕ) (v : SeatView) → get_elem? views id ≡ some v → slice_get views id ≡ Some v
there [] id v at = absurd (some-ne-none v (sym at))
there (x ∷ xs) zero v at = ap Some (some-injective x v at)
there (x ∷ xs) (suc id) v at = there xs id v at

one-by : (P : SeatView → Type 0) (views : List SeatView) (id : ℕ) (v : SeatView) → get_elem? views id ≡ some v
    → AllByRecursion P views → P v
one-by P [] id v at h = absurd (some-ne-none v (sym at))
one-by P (x ∷ xs) zero v at h = subst P (some-injective x v at) h.0
one-by P (x ∷ xs) (suc id) v at h = one-by P xs id v at h.1

pub one-of : (P : SeatView → Type 0) (views : List SeatView) (id : ℕ) (v : SeatView) → get_elem? views id ≡ some v
    → All P views
    → P v
one-of P views id v at h = one-by P views id v at (recursion_from_All P views h)

changed-total : (f : SeatView → ℕ) (views : List SeatView) (id : ℕ) (v w : SeatView) → get_elem? views id ≡ some v
    → total f (set views id w) + f v ≡ total f views + f w
changed-total f views id v w at = total-set f views id v w (there views id v at)

pub total-at : (f : SeatView → ℕ) (views : List SeatView) (id : ℕ) (v : SeatView) → get_elem? views id ≡ some v
    → f v ≤ total f views
total-at f [] id v at = absurd (some-ne-none v (sym at))
total-at f (x ∷ xs) zero v at = let h = ap f (some-injective x v at) in omega arith
total-at f (x ∷ xs) (suc id) v at = let h = total-at f xs id v at in omega arith

total-push : (f : SeatView → ℕ) (views : List SeatView) (v : SeatView) → total f (views ++ v ∷ []) ≡ total f views + f v
total-push f views v = let a = total-append f views (v ∷ []) in omega arith

total-most : (f g : SeatView → ℕ) (views : List SeatView) → AllByRecursion (λ v. f v ≤ g v) views
    → total f views ≤ total g views
total-most f g [] h = omega arith
total-most f g (v ∷ vs) h = let a = h.0 in let b = total-most f g vs h.1 in omega arith

-- words
flag-count : (words : List ℕ) (y p : ℕ) → flag (set words 0 y) p ≡ flag words p
flag-count words y zero = refl
flag-count [] y (suc j) = refl
flag-count (x ∷ xs) y (suc j) = refl

flag-here : (words : List ℕ) (j y : ℕ) → suc j < length words → flag (set words (suc j) y) (suc j) ≡ set_of y
flag-here words j y h = ap set_of (get_or-set_same words (suc j) y 0 h)

flag-else : (words : List ℕ) (j y p : ℕ) → p ≢ suc j → flag (set words (suc j) y) p ≡ flag words p
flag-else words j y zero apart = refl
flag-else words j y (suc i) apart = ap set_of (get_or-set_other words (suc j) (suc i) y 0 apart)

pub flag-once : (words : List ℕ) (n p : ℕ) → length words ≡ n + 1 → flag words p ≤ once n p
flag-once words n zero wide = omega arith
flag-once words n (suc j) wide = dite (dec_le (suc j) n)
    (λ within. let a = once-yes n (suc j) (omega arith) within in let b = flag-most words (suc j) in omega arith)
    (λ past. let a = ap set_of (get_or_past words (suc j) 0 (omega arith)) in omega arith)

-- at most n places are finished, so the count is far from its end
pub finished-most : (n : ℕ) (words : List ℕ) (views : List SeatView) → Counted n words views → (p : ℕ)
    → times p (flat_map (λ v. v.finished) views) ≤ once n p
finished-most n words views k p =
    let a = flat-times (λ v. v.finished) p views in
    let each = recursion_from_All (λ v. times p v.finished ≤ times p v.claimed) views
    (All-weaker (Knows (get_or words 0 0)) (λ v. times p v.finished ≤ times p v.claimed)
    (λ v h. h.finished p) views k.each) in
    let b = total-most (λ v. times p v.finished) (λ v. times p v.claimed) views each in
    let c = k.claims p in
    let d = flag-once words n p k.wide in omega arith

pub done-most : (n : ℕ) (words : List ℕ) (views : List SeatView) → Counted n words views → get_or words 0 0 / 2 ≤ n
done-most n words views k =
    let a = length-most n (flat_map (λ v. v.finished) views) (finished-most n words views k) in
    let b = flat-length (λ v. v.finished) views in
    let c = k.done in omega arith

-- one view and one word change
module _ (n : ℕ) (words : List ℕ) (views : List SeatView) (id : ℕ) (v : SeatView) (k : Counted n words views)
    (at : get_elem? views id ≡ some v) (lives : 0 < v.stake) where
  changed : (words' : List ℕ) (w : SeatView) → length words' ≡ length words
      → ((p : ℕ) → times p w.claimed + flag words p ≡ times p v.claimed + flag words' p)
      → length w.finished + get_or words 0 0 / 2 ≡ length v.finished + get_or words' 0 0 / 2
      → w.stake ≡ v.stake → get_or words 0 0 ≤ get_or words' 0 0
      → (get_or words 0 0 % 2 ≡ 1 → get_or words' 0 0 % 2 ≡ 1)
      → Knows (get_or words' 0 0) w → Counted n words' (set views id w)
  changed words' w wide claims done stake more odd mine = record {
    wide = wide ∙ k.wide;
    small = k.small;
    claims = λ p. let t = changed-total (λ u. times p u.claimed) views id v w at in let a = k.claims p in
        let b = claims p in omega arith;
    done = (let t = changed-total (λ u. length u.finished) views id v w at in let a = k.done in omega arith);
    stakes = (let t = changed-total (λ u. u.stake) views id v w at in let a = k.stakes in omega arith);
    each = All-set (Knows (get_or words' 0 0)) views id w mine
        (All-weaker (Knows (get_or words 0 0)) (Knows (get_or words' 0 0))
        (λ u h. (let s = h.seen in
        record { finished = h.finished; seen = omega arith; stopped = λ o. odd (h.stopped o) })) views k.each);
    rest = All-set Rests views id w (λ idle. absurd (omega arith)) k.rest;
  }

  mine : Knows (get_or words 0 0) v
  mine = one-of (Knows (get_or words 0 0)) views id v at k.each

  -- a count c that the seat finds
  later : (c : ℕ) → get_or words 0 0 ≤ c → c ≤ get_or words 0 0 + 1 → (get_or words 0 0 % 2 ≡ 1 → c % 2 ≡ 1)
      → c / 2 ≡ get_or words 0 0 / 2 → IsLater v c
  later c more few odd half =
      let s = mine.seen in
      let d = k.done in
      let own = total-at (λ u. length u.finished) views id v at in
      let most = done-most n words views k in
      let small = k.small in record {
        seen = omega arith;
        stopped = λ o. is-odd c (odd (mine.stopped (odd-is v.seen o)));
        own = omega arith;
        small = omega arith;
      }

  claimed : (j : ℕ) → suc j ≤ n → get_or words (suc j) 0 ≡ 0
      → Counted n (set words (suc j) 1) (set views id (with_claimed (suc j) v))
  claimed j within free =
      let wide = k.wide in
      let room : suc j < length words = omega arith in
      let same = get_or-set_other words (suc j) 0 1 0 (λ e. absurd (omega arith)) in
      let s = mine.seen in
      changed (set words (suc j) 1) (with_claimed (suc j) v) (length-set words (suc j) 1)
      (λ p. let a = total-append (λ x. one_if (x == p)) v.claimed (suc j ∷ []) in dite (ℕ_discrete p (suc j))
      (λ here.
      let one = equal-one (suc j) p (sym here) in
      let before : flag words p ≡ 0 = ap (flag words) here ∙ ap set_of free in
      let after : flag (set words (suc j) 1) p ≡ 1 = ap (flag (set words (suc j) 1)) here ∙ flag-here words j 1 room in
      omega arith)
      (λ apart. let zero_more = apart-none (suc j) p (λ e. apart (sym e)) in let b = flag-else words j 1 p apart in
      omega arith))
      (omega arith) refl (omega arith) (λ o. omega arith)
      (record {
        finished = λ p. (let a = total-append (λ x. one_if (x == p)) v.claimed (suc j ∷ []) in
            let b = mine.finished p in omega arith);
        seen = omega arith;
        stopped =
            λ o. (let b = mine.stopped o in omega arith);
      })

  missed : (j : ℕ) → suc j ≤ n → get_or words (suc j) 0 ≢ 0 → Counted n (set words (suc j) 1) (set views id v)
  missed j within full =
      let wide = k.wide in
      let room : suc j < length words = omega arith in
      let same = get_or-set_other words (suc j) 0 1 0 (λ e. absurd (omega arith)) in
      let s = mine.seen in
      changed (set words (suc j) 1) v (length-set words (suc j) 1)
      (λ p. dite (ℕ_discrete p (suc j))
      (λ here.
      let before : flag words p ≡ 1 = ap (flag words) here ∙ set_of-some (get_or words (suc j) 0) full in
      let after : flag (set words (suc j) 1) p ≡ 1 = ap (flag (set words (suc j) 1)) here ∙ flag-here words j 1 room in
      omega arith)
      (λ apart. let b = flag-else words j 1 p apart in omega arith))
      (omega arith) refl (omega arith) (λ o. omega arith)
      (record { finished = mine.finished; seen = omega arith; stopped = λ o. (let b = mine.stopped o in omega arith) })

  -- the count becomes y
  counts : (y : ℕ) (w : SeatView) → w.claimed ≡ v.claimed → length w.finished + get_or words 0 0 / 2
      ≡ length v.finished + y / 2 → w.stake ≡ v.stake
      → get_or words 0 0 ≤ y → (get_or words 0 0 % 2 ≡ 1 → y % 2 ≡ 1) → Knows y w
      → Counted n (set words 0 y) (set views id w)
  counts y w claims done stake more odd knows =
      let wide = k.wide in
      let new : get_or (set words 0 y) 0 0 ≡ y = get_or-set_same words 0 y 0 (omega arith) in
      changed (set words 0 y) w (length-set words 0 y)
      (λ p. let a = flag-count words y p in let b = ap (times p) claims in omega arith)
      (omega arith) stake (omega arith) (λ o. (let b = odd o in omega arith)) (subst (λ c. Knows c w) (sym new) knows)

  looked : Counted n (set words 0 (get_or words 0 0)) (set views id (with_seen (get_or words 0 0) v))
  looked = counts (get_or words 0 0) (with_seen (get_or words 0 0) v) refl refl refl (omega arith) (λ o. o)
      (record { finished = mine.finished; seen = omega arith; stopped = λ o. o })

  or-half : bit_or (get_or words 0 0) 1 / 2 ≡ get_or words 0 0 / 2
  or-half = or_shr (get_or words 0 0) 1 1 ∙ or_zero_r (get_or words 0 0 / 2)

  or-odd : bit_or (get_or words 0 0) 1 % 2 ≡ 1
  or-odd = let a = or_mod (get_or words 0 0) 1 1 in let b = le_or_r (get_or words 0 0 % 2) 1 in omega arith

  stopped : Counted n (set words 0 (bit_or (get_or words 0 0) 1))
      (set views id (with_seen (bit_or (get_or words 0 0) 1) v))
  stopped = counts (bit_or (get_or words 0 0) 1) (with_seen (bit_or (get_or words 0 0) 1) v) refl
      (ap (λ x. length v.finished + x) (sym or-half)) refl (le_or_l (get_or words 0 0) 1) (λ o. or-odd)
      (record { finished = mine.finished; seen = omega arith; stopped = λ o. o })

  finished : (place : ℕ) → Contains v.claimed place → ¬ Contains v.finished place
      → Counted n (set words 0 (get_or words 0 0 + 2))
      (set views id (with_seen (get_or words 0 0 + 2) (with_finished place v)))
  finished place has_it not_yet =
      let len = length_push v.finished place in
      counts (get_or words 0 0 + 2) (with_seen (get_or words 0 0 + 2) (with_finished place v)) refl (omega arith) refl
      (omega arith) (λ o. omega arith)
      (record {
        finished = λ p. (
            let a = total-append (λ x. one_if (x == p)) v.finished (place ∷ []) in
            let b = mine.finished p in
            dite (ℕ_discrete place p)
            (λ here.
            let one = equal-one place p here in
            let some_of : 0 < times p v.claimed = contains-times v.claimed p (subst (Contains v.claimed) here has_it) in
            dite (ℕ_discrete (times p v.finished) 0)
            (λ none_yet. omega arith)
            (λ twice. absurd (not_yet
            (subst (Contains v.finished) (sym here) (times-contains v.finished p (omega arith))))))
            (λ apart. let zero_more = apart-none place p apart in omega arith));
        seen = omega arith;
        stopped = λ o. o;
      })

-- a place whose word is 0 is in no list of any seat
fresh-claim : (n : ℕ) (words : List ℕ) (views : List SeatView) (id : ℕ) (v : SeatView) → Counted n words views
    → get_elem? views id ≡ some v → (j : ℕ) → get_or words (suc j) 0 ≡ 0
    → ¬ Contains v.claimed (suc j) × ¬ Contains v.finished (suc j)
fresh-claim n words views id v k at j free =
    let own : Knows (get_or words 0 0) v = one-of (Knows (get_or words 0 0)) views id v at k.each in
    let bare : flag words (suc j) ≡ 0 = ap set_of free in
    let all = k.claims (suc j) in
    let mine = total-at (λ u. times (suc j) u.claimed) views id v at in
    let done = own.finished (suc j) in (
      (λ h. let some_of = contains-times v.claimed (suc j) h in absurd (omega arith)),
      (λ h. let some_of = contains-times v.finished (suc j) h in absurd (omega arith)),
    )

none-left : (f : SeatView → ℕ) → f spent ≡ 0 → (views : List SeatView) → AllByRecursion Rests views
    → total (λ u. u.stake) views ≡ 0 → total f views ≡ 0
none-left f bare [] rest h = refl
none-left f bare (x ∷ xs) rest h =
    let here : f x ≡ f spent = ap f (rest.0 (omega arith)) in
    let tail = none-left f bare xs rest.1 (omega arith) in omega arith

-- where one seat has the whole stake, all other views are spent
pub alone : (f : SeatView → ℕ) → f spent ≡ 0 → (views : List SeatView) (id : ℕ) (v : SeatView)
    → get_elem? views id ≡ some v
    → AllByRecursion Rests views → total (λ u. u.stake) views ≤ v.stake → total f views ≡ f v
alone f bare [] id v at rest h = absurd (some-ne-none v (sym at))
alone f bare (x ∷ xs) zero v at rest h =
    let same : x ≡ v = some-injective x v at in
    let s = ap (λ (u : SeatView). u.stake) same in
    let tail = none-left f bare xs rest.1 (omega arith) in
    let g = ap f same in omega arith
alone f bare (x ∷ xs) (suc id) v at rest h =
    let big = total-at (λ u. u.stake) xs id v at in
    let here : f x ≡ f spent = ap f (rest.0 (omega arith)) in
    let tail = alone f bare xs id v at rest.1 (omega arith) in omega arith

-- a place whose word is set was claimed by the seat, if that has the whole stake
own-claim : (n : ℕ) (words : List ℕ) (views : List SeatView) (id : ℕ) (v : SeatView) → Counted n words views
    → get_elem? views id ≡ some v → (j : ℕ) → get_or words (suc j) 0 ≢ 0
    → v.stake ≡ 16 → Contains v.claimed (suc j)
own-claim n words views id v k at j full last =
    let stakes = k.stakes in
    let set_one : flag words (suc j) ≡ 1 = set_of-some (get_or words (suc j) 0) full in
    let all = k.claims (suc j) in
    let own = alone (λ u. times (suc j) u.claimed) refl views id v at (recursion_from_All Rests views k.rest)
    (omega arith) in
    times-contains v.claimed (suc j) (omega arith)

-- the four steps that find a number in a word
claim-next : (n slots id : ℕ) (me : Known) (j : ℕ) → 0 < me.0.stake → suc j ≤ n
    → Allows (Holds n) slots id me (suc j) (λ _. 1) (ClaimStep (step slots (suc j) 1 0 none) me)
claim-next n slots id me j lives within s t homes at small =
    let k = counted n s.words s.views t in
    dite (ℕ_discrete (get_or s.words (suc j) 0) 0)
    (λ free. (
      with_claimed (suc j) me.0,
      keeps,
      tt,
      ruled n (set s.words (suc j) 1) (set s.views id (with_claimed (suc j) me.0))
          (claimed n s.words s.views id me.0 k at lives j within free),
      (
        refl,
        (λ _. (let new = fresh-claim n s.words s.views id me.0 k at j free in (refl, new.0, new.1))),
        λ full. absurd (full free),
      ),
    ))
    (λ full. (
      me.0,
      keeps,
      tt,
      ruled n (set s.words (suc j) 1) (set s.views id me.0) (missed n s.words s.views id me.0 k at lives j within full),
      (refl, (λ free. absurd (full free)), λ _. (refl, own-claim n s.words s.views id me.0 k at j full)),
    ))

pub claim-allowed : (n slots id : ℕ) (me : Known) (place : ℕ) → 0 < me.0.stake → 1 ≤ place → place ≤ n
    → Allows (Holds n) slots id me place (λ _. 1) (ClaimStep (step slots place 1 0 none) me)
claim-allowed n slots id me zero lives first within = absurd (omega arith)
claim-allowed n slots id me (suc j) lives first within = claim-next n slots id me j lives within

pub look-allowed : (n slots id : ℕ) (me : Known) → 0 < me.0.stake
    → Allows (Holds n) slots id me 0 (λ x. x) (LookStep me)
look-allowed n slots id me lives s t homes at small =
    let k = counted n s.words s.views t in
    let c : ℕ = get_or s.words 0 0 in (
      with_seen c me.0,
      keeps,
      tt,
      ruled n (set s.words 0 c) (set s.views id (with_seen c me.0)) (looked n s.words s.views id me.0 k at lives),
      (refl, refl, later n s.words s.views id me.0 k at lives c (omega arith) (omega arith) (λ o. o) refl),
    )

pub stop-allowed : (n slots id : ℕ) (me : Known) → 0 < me.0.stake
    → Allows (Holds n) slots id me 0 (λ x. bit_or x 1) (StopStep me)
stop-allowed n slots id me lives s t homes at small =
    let k = counted n s.words s.views t in
    let c : ℕ = get_or s.words 0 0 in
    let half = or-half n s.words s.views id me.0 k at lives in
    let odd = or-odd n s.words s.views id me.0 k at lives in (
      with_seen (bit_or c 1) me.0,
      keeps,
      tt,
      ruled n (set s.words 0 (bit_or c 1)) (set s.views id (with_seen (bit_or c 1) me.0))
          (stopped n s.words s.views id me.0 k at lives),
      (
        refl,
        refl,
        later n s.words s.views id me.0 k at lives (bit_or c 1) (le_or_l c 1) (omega arith) (λ o. odd) half,
        is-odd (bit_or c 1) odd,
      ),
    )

pub finish-allowed : (n slots id : ℕ) (me : Known) (place : ℕ) → 0 < me.0.stake → Contains me.0.claimed place
    → ¬ Contains me.0.finished place
    → Allows (Holds n) slots id me 0 (λ x. (x + 2) % 2 ^ 64) (FinishStep place me)
finish-allowed n slots id me place lives has_it not_yet s t homes at small =
    let k = counted n s.words s.views t in
    let c : ℕ = get_or s.words 0 0 in
    let most = done-most n s.words s.views k in
    let few = k.small in
    let same : c + 2 ≡ (c + 2) % 18446744073709551616 = omega arith in
    let w : SeatView = with_seen (c + 2) (with_finished place me.0) in
    let after : Counted n (set s.words 0 (c + 2)) (set s.views id w) =
    finished n s.words s.views id me.0 k at lives place has_it not_yet in
    let new : get_or (set s.words 0 (c + 2)) 0 0 ≡ c + 2 =
    get_or-set_same s.words 0 (c + 2) 0 (let wide = k.wide in omega arith) in
    let most' = done-most n (set s.words 0 (c + 2)) (set s.views id w) after in
    let own = (later n s.words s.views id me.0 k at lives c (omega arith) (omega arith) (λ o. o) refl).own in
    let len = length_push me.0.finished place in (
      w,
      keeps,
      tt,
      subst (λ (y : ℕ). Holds n (stepped s 0 y id me.1 w keeps)) same
          (ruled n (set s.words 0 (c + 2)) (set s.views id w) after),
      (
        refl,
        refl,
        later n s.words s.views id me.0 k at lives c (omega arith) (omega arith) (λ o. o) refl,
        record { seen = omega arith; stopped = λ o. o; own = omega arith; small = omega arith },
      ),
    )

-- seats split and joined
pub split-allowed : (n id : ℕ) (v : SeatView) → 2 ≤ v.stake → Splits (Holds n) id v (with_less v) (newcomer v.seen)
split-allowed n id v enough s t at =
    let k = counted n s.words s.views t in
    let vs : List SeatView = set s.views id (with_less v) in
    let c : ℕ = get_or s.words 0 0 in
    let own : Knows c v = one-of (Knows c) s.views id v at k.each in
    ruled n s.words (vs ++ newcomer v.seen ∷ []) (record {
      wide = k.wide;
      small = k.small;
      claims = λ p. let x = changed-total (λ u. times p u.claimed) s.views id v (with_less v) at in
          let y = total-push (λ u. times p u.claimed) vs (newcomer v.seen) in let z = k.claims p in omega arith;
      done = (let x = changed-total (λ u. length u.finished) s.views id v (with_less v) at in
          let y = total-push (λ u. length u.finished) vs (newcomer v.seen) in let z = k.done in omega arith);
      stakes = (let x = changed-total (λ u. u.stake) s.views id v (with_less v) at in
          let y = total-push (λ u. u.stake) vs (newcomer v.seen) in let z = k.stakes in omega arith);
      each = All-push (Knows c) vs (newcomer v.seen)
          (All-set (Knows c) s.views id (with_less v)
          (record { finished = own.finished; seen = own.seen; stopped = own.stopped }) k.each)
          (record { finished = λ p. omega arith; seen = own.seen; stopped = own.stopped });
      rest = All-push Rests vs (newcomer v.seen)
          (All-set Rests s.views id (with_less v) (λ idle. absurd (omega arith)) k.rest) (λ idle. absurd (omega arith));
    })

max-odd : (a b c : ℕ) → (a % 2 ≡ 1 → c % 2 ≡ 1) → (b % 2 ≡ 1 → c % 2 ≡ 1) → max a b % 2 ≡ 1 → c % 2 ≡ 1
max-odd a b c f g h = ⊎_elim (λ le. let e : max a b ≡ b = omega arith in
    g (rw e at h)) (λ ge. let e : max a b ≡ a = omega arith in f (rw e at h)) (either-most a b)

pub join-allowed : (n id : ℕ) (v : SeatView) (other : ℕ) (w : SeatView) → 0 < v.stake
    → Joins (Holds n) id v other w (joined_views v w) spent
join-allowed n id v other w lives s t at two at' =
    let k = counted n s.words s.views t in
    let c : ℕ = get_or s.words 0 0 in
    let vs : List SeatView = set s.views id (joined_views v w) in
    let was : get_elem? s.views other ≡ some w =
    ⊎_elim (λ x. absurd (two x.0)) (λ x. x.1) (at_set s.views id other (joined_views v w) w at') in
    let own : Knows c v = one-of (Knows c) s.views id v at k.each in
    let theirs : Knows c w = one-of (Knows c) s.views other w was k.each in
    ruled n s.words (set vs other spent) (record {
      wide = k.wide;
      small = k.small;
      claims = λ p. (
          let x = changed-total (λ u. times p u.claimed) s.views id v (joined_views v w) at in
          let y = changed-total (λ u. times p u.claimed) vs other w spent at' in
          let z = total-append (λ q. one_if (q == p)) v.claimed w.claimed in
          let a = k.claims p in omega arith);
      done = (
          let x = changed-total (λ u. length u.finished) s.views id v (joined_views v w) at in
          let y = changed-total (λ u. length u.finished) vs other w spent at' in
          let z = length-append v.finished w.finished in
          let a = k.done in omega arith);
      stakes = (let x = changed-total (λ u. u.stake) s.views id v (joined_views v w) at in
          let y = changed-total (λ u. u.stake) vs other w spent at' in let a = k.stakes in omega arith);
      each = All-set (Knows c) vs other spent
          (record { finished = λ p. omega arith; seen = omega arith; stopped = λ o. absurd (omega arith) })
          (All-set (Knows c) s.views id (joined_views v w)
          (record {
            finished = λ p. (
                let x = total-append (λ q. one_if (q == p)) v.claimed w.claimed in
                let y = total-append (λ q. one_if (q == p)) v.finished w.finished in
                let a = own.finished p in let b = theirs.finished p in omega arith);
            seen = (let a = own.seen in let b = theirs.seen in omega arith);
            stopped = max-odd v.seen w.seen c own.stopped theirs.stopped;
          }) k.each);
      rest = All-set Rests vs other spent (λ _. refl)
          (All-set Rests s.views id (joined_views v w) (λ idle. absurd (omega arith)) k.rest);
    })

-- a new table
zero-word : (k j : ℕ) → get_or {A = ℕ} (replicate k 0) j 0 ≡ 0
zero-word zero j = refl
zero-word (suc k) zero = refl
zero-word (suc k) (suc j) = zero-word k j

zero-flag : (k p : ℕ) → flag (replicate k 0) p ≡ 0
zero-flag k zero = refl
zero-flag k (suc j) = ap set_of (zero-word k (suc j))

pub begins : (n : ℕ) (words : List ℕ) → n < 4294967296 → words ≡ replicate (n + 1) 0
    → Holds n (opening {S = Unit {0}} words [] fresh)
begins n words few is =
    let wide : length words ≡ n + 1 = ap length is ∙ length-replicate (n + 1) 0 in
    let first : get_or words 0 0 ≡ 0 = ap (λ ws. get_or ws 0 0) is ∙ get_or-replicate (n + 1) 0 0 0 (omega arith) in
    ruled n words (fresh ∷ []) (record {
      wide = wide;
      small = few;
      claims = λ p. sym (ap (λ ws. flag ws p) is ∙ zero-flag (n + 1) p);
      done = (omega arith);
      stakes = refl;
      each = All-from_recursion (Knows (get_or words 0 0)) (fresh ∷ [])
          (record { finished = λ p. omega arith; seen = omega arith; stopped = λ o. absurd (omega arith) }, tt);
      rest = All-from_recursion Rests (fresh ∷ []) ((λ idle. absurd (omega arith)), tt);
    })
