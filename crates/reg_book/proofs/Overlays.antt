-- Accounts put in the place of those with their numbers.
use Rattle.std.proofs.Common.{◌≡◌, ◌≢◌, ℕ, zero, suc, ◌+◌, ◌-◌, ◌<◌, ◌≤◌, Bool, true, false, cond, eqb, List, [], ◌∷◌}
use Rattle.std.proofs.Common.{◌++◌, map, length, get_or, take, drop, Option, Some, None, ⊎_elim, refl, sym, ap, subst}
use Rattle.std.proofs.Common.{◌∙◌, arith, append_assoc, add-one}
use Rattle.std.specs.Prelude.{All, unwrap_or, option_map, slice_set}
use Rattle.std.specs.List.{AllByRecursion}
use Rattle.std.specs.FinMap as fin
use Rattle.std.proofs.lemmas.List.Elements.{All-contains, All-from_recursion, recursion_from_All}
use Rattle.reg_base.specs.Directory.{DirectoryValue}
use Rattle.std.proofs.lemmas.Bool.{eq-eqb, ne_eqb, eqb-false, cases_lt}
use Rattle.std.proofs.Math.Seq.{get_or-append_seam}
use Rattle.std.proofs.lemmas.List.{take-append-drop, take_at, drop_at, get_or-take}
use Rattle.std.proofs.lemmas.List.{get_or_append_left, length-append}
use Rattle.std.proofs.lemmas.Option.{same_Some}
use Rattle.reg_base.specs.declared.kinds.AccountKind.{AccountKind}
use Rattle.reg_base.specs.Rising.{IsRising}
use Rattle.reg_base.proofs.lemmas.RisesFrom.{RisesFrom, rises_from}
use Rattle.reg_account.specs.Rows.{row_numbers, AreBelow}
use Rattle.reg_account.specs.Account.{AccountValue, IsAccount}
use Rattle.reg_account.proofs.lemmas.Rows.{below_higher}
use Rattle.reg_rules.specs.Effect.{IsBehind}
use Rattle.reg_rules.specs.State.{State, account, numbers}
use Rattle.reg_rules.proofs.lemmas.Accounts.{length-numbers, found_in}
use Rattle.reg_book.specs.Book.{overlay, entry_of, directory_of, IsNext, IsBookKept, AreHigher}
use Rattle.reg_book.specs.Settled.{SettledValue}
use Rattle.reg_base.specs.declared.limits.TheConstants.{MOST_RECORD}
use Rattle.reg_book.proofs.lemmas.Listings.{listing, get-directory_of}
use Rattle.reg_book.proofs.Accounts.{low_number, account_at, ascending}
use Rattle.reg_book.proofs.Directories.{number_at}

-- accounts of other numbers stay
over_others : (xs : State) (w : AccountValue)
    → ((p : ℕ) (d : AccountValue) → p < length xs → (get_or xs p d).number ≢ w.number) → overlay xs (w ∷ []) ≡ xs
over_others [] w other = refl
over_others (v ∷ vs) w other =
    let differs : eqb w.number v.number ≡ false = ne_eqb w.number v.number (λ e. other 0 v (omega arith) (sym e)) in
    rw differs (ap (λ (ys : State). v ∷ ys) (over_others vs w (λ p d lt. other (suc p) d (omega arith))))

pub set_over : (low : ℕ) (xs : State) → RisesFrom low (numbers xs) → (p : ℕ) (w d : AccountValue) → p < length xs
    → (get_or xs p d).number ≡ w.number → slice_set xs p w ≡ overlay xs (w ∷ [])
set_over low [] rises p w d lt e = absurd (omega arith)
set_over low (v ∷ vs) rises zero w d lt e =
    let same : eqb w.number v.number ≡ true = eq-eqb w.number v.number (sym e) in
    rw same (ap (λ (ys : State). w ∷ ys)
    (sym (over_others vs w (λ p o within eq. let h = low_number (suc v.number) vs rises.1 p o within in
    absurd (omega (arith, h, eq, e))))))
set_over low (v ∷ vs) rises (suc p) w d lt e =
    let above = low_number (suc v.number) vs rises.1 p d (omega arith) in
    let differs : eqb w.number v.number ≡ false = ne_eqb w.number v.number (omega (arith, above, e)) in
    rw differs (ap (λ (ys : State). v ∷ ys) (set_over (suc v.number) vs rises.1 p w d (omega arith) e))

-- the account found in another list has the number that it was looked up by
number_by : (others : State) (v : AccountValue) (o : Option AccountValue) → account others v.number ≡ o
    → (unwrap_or o v).number ≡ v.number
number_by others v None e = refl
number_by others v (Some w) e = (found_in others v.number w e).1

pub placed_number : (others : State) (v : AccountValue) → (unwrap_or (account others v.number) v).number ≡ v.number
placed_number others v = number_by others v (account others v.number) refl

pub numbers-overlay : (xs others : State) → numbers (overlay xs others) ≡ numbers xs
numbers-overlay [] others = refl
numbers-overlay (v ∷ vs) others =
    rw (placed_number others v) (ap (λ (ns : List ℕ). v.number ∷ ns) (numbers-overlay vs others))

pub length-overlay : (xs others : State) → length (overlay xs others) ≡ length xs
length-overlay [] others = refl
length-overlay (v ∷ vs) others = ap suc (length-overlay vs others)

more_by : (b : Bool) (w v : AccountValue) (o : Option AccountValue) → unwrap_or (cond b (Some w) None) (unwrap_or o v)
    ≡ unwrap_or (cond b (Some w) o) v
more_by true w v o = refl
more_by false w v o = refl

-- one account more is put in place last
pub over_more : (xs others : State) (w : AccountValue) → overlay (overlay xs others) (w ∷ []) ≡ overlay xs (w ∷ others)
over_more [] others w = refl
over_more (v ∷ vs) others w =
    rw (placed_number others v, more_by (eqb w.number v.number) w v (account others v.number))
    (ap (λ (ys : State). unwrap_or (cond (eqb w.number v.number) (Some w) (account others v.number)) v ∷ ys)
    (over_more vs others w))

pub over_nothing : (xs : State) → overlay xs [] ≡ xs
over_nothing [] = refl
over_nothing (v ∷ vs) = ap (λ (ys : State). v ∷ ys) (over_nothing vs)

-- an account whose number stands at this index
pub set_at : (xs : State) (w v : AccountValue) (p : ℕ) → IsRising (numbers xs) → p < length xs → v ≡ get_or xs p v
    → v.number ≡ w.number → slice_set xs p w ≡ overlay xs (w ∷ [])
set_at xs w v p rising within is same =
    set_over 0 xs (rises_from 0 (numbers xs) rising (λ some. omega arith)) p w v within
    (ap (λ (o : AccountValue). o.number) (sym is) ∙ same)

-- a number that is below those of all later indexes, and above those of all earlier ones
pub not_there : (xs : State) (w : AccountValue) (count : ℕ) → IsRising (numbers xs) → count ≤ length xs
    → AreHigher (numbers xs) count w.number
    → (0 < count → get_or (numbers xs) (count - 1) 0 < w.number) → xs ≡ overlay xs (w ∷ [])
not_there xs w count rising within higher lower =
    let rises = rises_from 0 (numbers xs) rising (λ some. omega arith) in
    sym (over_others xs w (λ p d lt. ⊎_elim
    (λ (before : p < count).
    let last = lower (omega arith) in
    let le = ascending 0 xs rises p (count - 1) d (omega arith) (omega arith) in
    let at = number_at xs (count - 1) d (omega arith) in
    λ e. omega (arith, last, le, at, e))
    (λ (after : count ≤ p).
    let h = higher p after (omega (arith, length-numbers xs)) in
    let at = number_at xs p d lt in
    λ e. omega (arith, h, at, e))
    (cases_lt p count)))

-- an account taken from the end
pub popped : (all cur new : State) (w : AccountValue) → cur ≡ take (length cur) all → cur ≡ new ++ w ∷ []
    → (new ≡ take (length new) all) × (drop (length new) all ≡ w ∷ drop (length cur) all)
popped all cur new w front parts =
    let whole : all ≡ new ++ (w ∷ drop (length cur) all) =
    sym (take-append-drop (length cur) all) ∙ ap (λ (zs : State). zs ++ drop (length cur) all) (sym front ∙ parts)
    ∙ append_assoc new (w ∷ []) (drop (length cur) all) in (
      sym (ap (λ (zs : State). take (length new) zs) whole ∙ take_at new (w ∷ drop (length cur) all) (length new) refl),
      ap (λ (zs : State). drop (length new) zs) whole ∙ drop_at new (w ∷ drop (length cur) all) (length new) refl,
    )

-- each of these accounts stands among the others with the same kind and holder
abbrev pub StandIn : State → State → Type 0
StandIn xs others = AllByRecursion (λ v. fin.get (directory_of xs) v.number ≡ Some (v.kind, v.holder)) others

entry_by : (xs others : State) (v : AccountValue) (o : Option AccountValue) → StandIn xs others
    → account xs v.number ≡ Some v → account others v.number ≡ o → entry_of (unwrap_or o v) ≡ entry_of v
entry_by xs others v None stand there e = refl
entry_by xs others v (Some w) stand there e =
    let (among, number) = found_in others v.number w e in
    let Stands : AccountValue → Type 0 = λ u. fin.get (directory_of xs) u.number ≡ Some (u.kind, u.holder) in
    let listed : fin.get (directory_of xs) w.number ≡ Some (w.kind, w.holder) =
    All-contains Stands others w (All-from_recursion Stands others stand) among in
    let is : ◌≡◌ {A = AccountKind × ℕ} (listing w) (listing v) =
    same_Some (listing w) (listing v) (sym listed ∙ ap (λ n. fin.get (directory_of xs) n) number
    ∙ get-directory_of xs v.number ∙ ap (option_map listing) there) in
    λ i. (number i, is i)

entries_same : (xs others ys : State) → StandIn xs others
    → ((p : ℕ) (d : AccountValue) → p < length ys → account xs (get_or ys p d).number ≡ Some (get_or ys p d))
    → map entry_of (overlay ys others) ≡ map entry_of ys
entries_same xs others [] stand at = refl
entries_same xs others (v ∷ vs) stand at =
    rw (entry_by xs others v (account others v.number) stand (at 0 v (omega arith)) refl)
    (ap (λ es. entry_of v ∷ es) (entries_same xs others vs stand (λ p d lt. at (suc p) d (omega arith))))

-- accounts that were put in place have no rows ahead
found_behind : (after a : ℕ) (others : State) (v : AccountValue) → AllByRecursion (IsBehind after) others
    → IsBehind after v → IsBehind after (unwrap_or (account others a) v)
found_behind after a [] v all own = own
found_behind after a (w ∷ ws) v all own = go (eqb w.number a) (found_behind after a ws v all.1 own)
  where
    go : (b : Bool) → IsBehind after (unwrap_or (account ws a) v)
        → IsBehind after (unwrap_or (cond b (Some w) (account ws a)) v)
    go true more = all.0
    go false more = more

-- the accounts of a book and the settled ones in their places
behind_overlay : (next after : ℕ) (xs others : State) → next ≤ after → AllByRecursion (IsBehind next) xs
    → AllByRecursion (IsBehind after) others → AllByRecursion (IsBehind after) (overlay xs others)
behind_overlay next after [] others le all settled = tt
behind_overlay next after (v ∷ vs) others le all settled = (
  found_behind after v.number others v settled (below_higher next after (row_numbers v.rows) le all.0),
  behind_overlay next after vs others le all.1 settled,
)

pub kept_after : (xs ys others : State) (directory : DirectoryValue) (next after : ℕ) → IsBookKept xs directory next
    → ys ≡ overlay xs others → All IsAccount ys → StandIn xs others → IsNext after → next ≤ after
    → AllByRecursion (IsBehind after) others → IsBookKept ys directory after
kept_after xs ys others directory next after kept is fit stand fits later settled =
    let rises = rises_from 0 (numbers xs) kept.book.rising (λ some. omega arith) in
    let entries = entries_same xs others xs stand
    (λ p d lt. account_at 0 xs rises p (get_or xs p d).number d lt refl) in
    record {
      book = record {
        rising = subst IsRising (sym (ap numbers is ∙ numbers-overlay xs others)) kept.book.rising;
        few = omega (arith, ap length is, length-overlay xs others, kept.book.few);
        within_limits = fit;
        next = fits;
        behind = All-from_recursion (IsBehind after) ys
            (subst (AllByRecursion (IsBehind after)) (sym is)
            (behind_overlay next after xs others later (recursion_from_All (IsBehind next) xs kept.book.behind)
            settled));
      };
      listed = kept.listed ∙ sym (ap (λ es. fin.from_entries es) (ap (map entry_of) is ∙ entries));
    }

-- from an index on the numbers are above each of these
abbrev pub HigherThanEach : List ℕ → ℕ → State → Type 0
HigherThanEach ns until settled = (j : ℕ) → j < length settled → AreHigher ns until (get_or (numbers settled) j 0)

-- one number more is higher
pub one_lower : (xs : State) (count a : ℕ) (v : AccountValue) (x : ℕ) → 0 < count → count ≤ length xs
    → v ≡ get_or xs (count - 1) v → x ≡ v.number → a < x → AreHigher (numbers xs) count a
    → AreHigher (numbers xs) (count - 1) a
one_lower xs count a v x some within at is above higher k le lt =
    ⊎_elim
    (λ (last : k < count).
    let k_is : k ≡ count - 1 = omega arith in
    let here : get_or (numbers xs) (count - 1) 0 ≡ x =
    number_at xs (count - 1) v (omega arith) ∙ ap (λ (o : AccountValue). o.number) (sym at) ∙ sym is in
    let there : get_or (numbers xs) k 0 ≡ x = ap (λ m. get_or (numbers xs) m 0) k_is ∙ here in
    omega (arith, there, above))
    (λ (later : count ≤ k). higher k later lt)
    (cases_lt k count)

-- the last of the settled accounts
pub higher-last : (ns : List ℕ) (cur new : State) (w : AccountValue) (until : ℕ) → HigherThanEach ns until cur
    → cur ≡ new ++ w ∷ [] → AreHigher ns until w.number
higher-last ns cur new w until higher parts k le within =
    let size : length cur ≡ length new + 1 = ap length parts ∙ length-append new (w ∷ []) in
    let last : get_or (numbers cur) (length new) 0 ≡ w.number =
    number_at cur (length new) w (omega (arith, size))
    ∙ ap (λ (o : AccountValue). o.number) (ap (λ (s : State). get_or s (length new) w) parts
    ∙ get_or-append_seam new w [] w) in
    let above = higher (length new) (omega (arith, size)) k le within in
    omega (arith, above, last)

pub climbs : (xs : List ℕ) → IsRising xs → (i j : ℕ) → i < j → j < length xs → get_or xs i 0 < get_or xs j 0
climbs xs rising i zero lt within = absurd (omega arith)
climbs xs rising i (suc j) lt within =
    let next : get_or xs j 0 < get_or xs (suc j) 0 = let h = rising j (omega (arith, within)) in rw add-one at h in
    ⊎_elim
    (λ (before : i < j). let h = climbs xs rising i j before (omega (arith, within)) in omega (arith, h, next))
    (λ (here : j ≤ i). let same : i ≡ j = omega arith in
    let e : get_or xs i 0 ≡ get_or xs j 0 = ap (λ m. get_or xs m 0) same in omega (arith, e, next))
    (cases_lt i j)

take_few : (n : ℕ) (xs : State) → length (take n xs) ≡ n → n ≤ length xs
take_few zero xs e = omega arith
take_few (suc n) [] e = absurd (omega (arith, e))
take_few (suc n) (x ∷ xs) e = let h = take_few n xs (omega (arith, e)) in omega (arith, h)

-- what is left of the settled accounts is below what was put in place
pub lower-left : (ns : List ℕ) (all cur new : State) (w : AccountValue) (until : ℕ) → IsRising (numbers all)
    → cur ≡ take (length cur) all → cur ≡ new ++ w ∷ []
    → AreHigher ns until w.number → HigherThanEach ns until new
lower-left ns all cur new w until rising front parts higher j lt k le within =
    let size : length cur ≡ length new + 1 = ap length parts ∙ length-append new (w ∷ []) in
    let few : length cur ≤ length all = take_few (length cur) all (sym (ap length front)) in
    let all_at : (m : ℕ) → m < length cur → get_or (numbers cur) m 0 ≡ get_or (numbers all) m 0 =
    λ m below. number_at cur m w below
    ∙ ap (λ (o : AccountValue). o.number) (ap (λ (s : State). get_or s m w) front
    ∙ get_or-take (length cur) all m w below) ∙ sym (number_at all m w (omega (arith, few, below))) in
    let here : get_or (numbers new) j 0 ≡ get_or (numbers all) j 0 =
    number_at new j w lt ∙ ap (λ (o : AccountValue). o.number) (sym (get_or_append_left new (w ∷ []) w j lt)
    ∙ ap (λ (s : State). get_or s j w) (sym parts)) ∙ sym (number_at cur j w (omega (arith, size, lt)))
    ∙ all_at j (omega (arith, size, lt)) in
    let last : w.number ≡ get_or (numbers all) (length new) 0 =
    ap (λ (o : AccountValue). o.number) (sym (get_or-append_seam new w [] w)
    ∙ ap (λ (s : State). get_or s (length new) w) (sym parts))
    ∙ sym (number_at cur (length new) w (omega (arith, size))) ∙ all_at (length new) (omega (arith, size)) in
    let rise : get_or (numbers all) j 0 < get_or (numbers all) (length new) 0 =
    climbs (numbers all) rising j (length new) lt (omega (arith, few, size, length-numbers all)) in
    let above = higher k le within in
    omega (arith, here, last, rise, above)

-- the number before an index is not above
abbrev pub numbers_below : State → ℕ → ℕ → Type 0
numbers_below s count a = get_or (numbers s) (count - 1) 0 ≤ a

pub lower_than : (xs : State) (w : AccountValue) (count : ℕ) (v : AccountValue) (x a : ℕ) → 0 < count
    → count ≤ length xs → v ≡ get_or xs (count - 1) v → x ≡ v.number → a ≡ w.number
    → eqb x a ≡ false → numbers_below xs count a → get_or (numbers xs) (count - 1) 0 < w.number
lower_than xs w count v x a some within at is named differs below =
    let here : get_or (numbers xs) (count - 1) 0 ≡ x =
    number_at xs (count - 1) v (omega arith) ∙ ap (λ (o : AccountValue). o.number) (sym at) ∙ sym is in
    let not_same : x ≢ a = eqb-false x a differs in
    omega (arith, here, not_same, named, below)

-- the number after those of the settled day's log is one that a book may go on with
pub next_fits : (settled : SettledValue) (next count : ℕ) → IsNext next → settled.base + 1 ≡ next
    → count ≡ length settled.rows
    → (0 < length settled.rows → settled.base + length settled.rows ≤ MOST_RECORD) → IsNext (next + count)
next_fits settled next count fits begins counted numbered = record {
  from_one = omega (arith, fits.from_one);
  to_the_end = ⊎_elim
      (λ (some : 0 < length settled.rows). let h = numbered some in omega (arith, h, begins, counted))
      (λ (none : length settled.rows ≤ 0). let h = fits.to_the_end in omega (arith, h, none, counted))
      (cases_lt 0 (length settled.rows));
}
