-- The directory of accounts answers as the accounts do, whatever their order.
use Rattle.std.proofs.Common.{◌≡◌, ℕ, zero, suc, ◌-◌, ◌<◌, ◌≤◌, Bool, true, false, cond, eqb, leb, ◌||◌, List, [], ◌∷◌}
use Rattle.std.proofs.Common.{◌++◌, map, length, get_or, Option, Some, None, refl, sym, ap, ◌∙◌, arith, tests, inl, inr}
use Rattle.std.proofs.Common.{◌⊎◌}
use Rattle.std.specs.Prelude.{option_map, is_some, is_none, nat_le, slice_get, Contains, IsPermutation}
use Rattle.std.specs.List.{IsDistinct, list_any}
use Rattle.std.specs.Ordering.{nat_cmp, eq_by_cmp}
use Rattle.std.specs.Cmp.{nat_cmp_total, nat_eq_equiv, unsigned_tied}
use Rattle.std.specs.FinMap as fin
use Rattle.std.specs.Bool.{then_some}
use Rattle.std.proofs.lemmas.Bool.{eq-eqb, eqb-true, le-leb, leb-true, leb-false, or_parts}
use Rattle.std.proofs.Math.Bool.{or-false}
use Rattle.std.proofs.lemmas.List.{map-append, get_or-map, length-append}
use Rattle.std.proofs.lemmas.List.Sorted.{Contains-permutation, IsPermutation-map, IsPermutation-sym}
use Rattle.std.proofs.lemmas.List.Elements.{All-from_recursion, All-push}
use Rattle.std.proofs.lemmas.Map.Keys.{IsDistinct-push, IsDistinct-IsPermutation, IsDistinct-tail, apart_from_distinct}
use Rattle.reg_base.specs.declared.kinds.AccountKind.{AccountKind}
use Rattle.reg_base.specs.Directory.{DirectoryValue, entry_numbers}
use Rattle.reg_base.specs.declared.limits.TheConstants.{MOST_ACCOUNTS}
use Rattle.reg_base.specs.Footprint.{is_among}
use Rattle.reg_account.specs.declared.rows.RetirementRow.{RetirementRow}
use Rattle.reg_account.specs.Rows.{row_numbers, AreBelow}
use Rattle.reg_account.specs.Account.{AccountValue, IsAccount}
use Rattle.std.proofs.lemmas.Option.{same_Some, none-some}
use Rattle.reg_base.specs.Rising.{IsRising}
use Rattle.reg_base.proofs.lemmas.RisesFrom.{RisesFrom, rises_from}
use Rattle.reg_account.proofs.lemmas.Rows.{none_ahead}
use Rattle.reg_rules.specs.State.{State, account, numbers}
use Rattle.reg_rules.proofs.lemmas.Accounts.{length-numbers, found-among, found_in}
use Rattle.reg_rules.proofs.lemmas.Accounts.{account-permutation}
use Rattle.reg_book.specs.declared.draft.BookFault.{BookFault}
use Rattle.reg_book.specs.declared.draft.BookFault.TheVariants.{Repeated, RowAhead, Full}
use Rattle.reg_rules.specs.Effect.{IsBehind}
use Rattle.reg_book.specs.Book.{BookValue, entry_of, directory_of, IsNext, IsBookDraft, has_row_ahead, first_fault}
use Rattle.reg_book.proofs.lemmas.Listings.{listing, find_listing, get-directory_of, known-among}

-- the numbers of the entries of accounts are theirs
pub entry-numbers : (xs : State) → entry_numbers (map entry_of xs) ≡ numbers xs
entry-numbers [] = refl
entry-numbers (v ∷ vs) = ap (λ (ns : List ℕ). v.number ∷ ns) (entry-numbers vs)

-- the number at an index is that of the account there
pub number_at : (xs : State) (k : ℕ) (d : AccountValue) → k < length xs
    → get_or (numbers xs) k 0 ≡ (get_or xs k d).number
number_at xs k d lt = get_or-map (λ (o : AccountValue). o.number) xs k d 0 lt

-- the directory of accounts in another order is the same
pub directory_of-permutation : (xs ys : State) → IsDistinct eqb (numbers xs) → IsPermutation xs ys
    → directory_of xs ≡ directory_of ys
directory_of-permutation xs ys distinct same =
    fin.same_map nat_cmp_total fin.nat_cmp-IsAntisymmetric _ _ (λ a.
    get-directory_of xs a ∙ ap (λ (o : Option AccountValue). option_map listing o)
    (account-permutation xs ys distinct same a) ∙ sym (get-directory_of ys a))

-- a number that the directory knows is an account's, and one that it doesn't know is none's
known_by : (xs : State) (a : ℕ) (o : Option AccountValue) → account xs a ≡ o → is_some (option_map listing o) ≡ true
    → Contains (numbers xs) a
known_by xs a None e h = absurd cc
known_by xs a (Some v) e h =
    let (there, number) = found_in xs a v e in
    let (k, lt, is) = there in (
      k,
      omega (arith, length-numbers xs),
      get_or-map (λ (o : AccountValue). o.number) xs k v a lt
          ∙ ap (λ (o : AccountValue). o.number) is ∙ number,
    )

pub known : (xs : State) (a : ℕ) → is_some (fin.get (directory_of xs) a) ≡ true → Contains (numbers xs) a
known xs a h = known_by xs a (account xs a) refl (ap is_some (sym (get-directory_of xs a)) ∙ h)

pub none-absent : (xs : State) (a : ℕ) → is_among (numbers xs) a ≡ false → account xs a ≡ None
none-absent xs a absent = by (account xs a) (found-among xs a ∙ absent)
  where
    by : (o : Option AccountValue) → is_some o ≡ false → o ≡ None
    by None h = refl
    by (Some v) h = absurd cc

-- the directory of one account more
pub directory_of-push : (xs : State) (v : AccountValue) → account xs v.number ≡ None
    → fin.insert (directory_of xs) v.number (v.kind, v.holder) ≡ directory_of (xs ++ v ∷ [])
directory_of-push xs v none =
    sym (ap (λ (es : List (ℕ × (AccountKind × ℕ))). fin.from_entries es) (map-append entry_of xs (v ∷ []))
    ∙ fin.from_entries_push nat_cmp_total fin.nat_cmp-IsAntisymmetric (map entry_of xs) v.number (v.kind, v.holder)
    (find_listing v.number xs ∙ ap (λ (o : Option AccountValue). option_map listing o) none))

pub pushed_at : (xs : State) (v : AccountValue) (directory new : DirectoryValue) (n : ℕ) (k : AccountKind) (h : ℕ)
    (b : Bool)
    → directory ≡ directory_of xs → n ≡ v.number → k ≡ v.kind → h ≡ v.holder → is_among (numbers xs) v.number ≡ false
    → b ≡ is_none (fin.get directory n) → new ≡ cond b (fin.insert directory n (k, h)) directory
    → new ≡ directory_of (xs ++ v ∷ [])
pushed_at xs v directory new n k h b listed same kind holder absent answer made =
    let none = none-absent xs v.number absent in
    let added : b ≡ true = answer ∙ ap (λ d. is_none (fin.get d n)) listed
    ∙ ap (λ m. is_none (fin.get (directory_of xs) m)) same
    ∙ ap is_none (get-directory_of xs v.number ∙ ap (λ (o : Option AccountValue). option_map listing o) none) in
    made
    ∙ ap (λ c. cond c (fin.insert directory n (k, h)) directory) added
    ∙ ap (λ d. fin.insert d n (k, h)) listed
    ∙ ap (λ m. fin.insert (directory_of xs) m (k, h)) same
    ∙ ap (λ x. fin.insert (directory_of xs) v.number (x, h)) kind
    ∙ ap (λ x. fin.insert (directory_of xs) v.number (v.kind, x)) holder
    ∙ directory_of-push xs v none

-- a number that no account has makes the numbers differ still
pub distinct_push : (xs : State) (v : AccountValue) → IsDistinct eqb (numbers xs)
    → is_among (numbers xs) v.number ≡ false → IsDistinct eqb (numbers (xs ++ v ∷ []))
distinct_push xs v distinct absent =
    rw (map-append (λ (o : AccountValue). o.number) xs (v ∷ []))
    (IsDistinct-push nat_eq_equiv (numbers xs) v.number distinct (list_any_same (numbers xs) ∙ absent))
  where
    list_any_same : (ns : List ℕ) → list_any (eqb v.number) ns ≡ is_among ns v.number
    list_any_same [] = refl
    list_any_same (n ∷ ns) = ap (λ b. b || list_any (eqb v.number) ns) (nat_eq_equiv.symm v.number n)
        ∙ ap (λ b. eqb n v.number || b) (list_any_same ns)

-- a draft of no account
pub empty_draft : (xs : State) (directory : DirectoryValue) (next : ℕ) → xs ≡ [] → directory ≡ fin.empty → IsNext next
    → IsBookDraft xs directory next
unfolding IsDistinct
empty_draft xs directory next none empty fits =
    rw (none, empty) (record {
      distinct = tt;
      few = omega arith;
      within_limits = All-from_recursion IsAccount [] tt;
      next_fits = fits;
      behind = All-from_recursion (IsBehind next) [] tt;
      listed = fin.same_map nat_cmp_total fin.nat_cmp-IsAntisymmetric _ _ (λ a. fin.get-empty nat_cmp a
          ∙ sym (get-directory_of [] a));
    })

-- the last of several rows
abbrev pub last_of : RetirementRow → List RetirementRow → RetirementRow
last_of row [] = row
last_of row (r ∷ rs) = last_of r rs

last_low : (low : ℕ) (row : RetirementRow) (rows : List RetirementRow) → RisesFrom low (row_numbers (row ∷ rows))
    → low ≤ (last_of row rows).number
last_low low row [] rises = rises.0
last_low low row (r ∷ rs) rises = let h = last_low (suc row.number) r rs rises.1 in omega (arith, h, rises.0)

-- the last row has the highest number, so it is ahead if one is
last_ahead : (next low : ℕ) (row : RetirementRow) (rows : List RetirementRow) → RisesFrom low (row_numbers (row ∷ rows))
    → list_any (λ (r : RetirementRow). leb next r.number) (row ∷ rows) ≡ leb next (last_of row rows).number
last_ahead next low row [] rises = or-false (leb next row.number)
last_ahead next low row (r ∷ rs) rises =
    ap (λ b. leb next row.number || b) (last_ahead next (suc row.number) r rs rises.1)
    ∙ go (leb next row.number) refl where
      lower : row.number < (last_of r rs).number
      lower = last_low (suc row.number) r rs rises.1

      go : (b : Bool) → leb next row.number ≡ b → (b || leb next (last_of r rs).number) ≡ leb next (last_of r rs).number
      go true early = sym (le-leb next (last_of r rs).number (omega (arith, leb-true next row.number early, lower)))
      go false late = refl

last_get : (row : RetirementRow) (rows : List RetirementRow) → slice_get (row ∷ rows) (length rows)
    ≡ Some (last_of row rows)
last_get row [] = refl
last_get row (r ∷ rs) = last_get r rs

pub ahead_by_last : (next : ℕ) (rows : List RetirementRow) (row : RetirementRow) → IsRising (row_numbers rows)
    → Some row ≡ slice_get rows (length rows - 1) → list_any (λ (r : RetirementRow). leb next r.number) rows
    ≡ leb next row.number
ahead_by_last next [] row rising at = absurd cc
ahead_by_last next (r ∷ rs) row rising at =
    let index : length (r ∷ rs) - 1 ≡ length rs = omega arith in
    let same : row ≡ last_of r rs = same_Some row (last_of r rs) (at ∙ ap (slice_get (r ∷ rs)) index ∙ last_get r rs) in
    last_ahead next 0 r rs (rises_from 0 (row_numbers (r ∷ rs)) rising (λ some. omega arith))
    ∙ ap (λ (x : RetirementRow). leb next x.number) (sym same)

pub ahead_of_none : (next : ℕ) (rows : List RetirementRow) → None ≡ slice_get rows (length rows - 1)
    → list_any (λ (r : RetirementRow). leb next r.number) rows ≡ false
ahead_of_none next [] at = refl
ahead_of_none next (r ∷ rs) at =
    let index : length (r ∷ rs) - 1 ≡ length rs = omega arith in
    absurd (none-some (last_of r rs) (at ∙ ap (slice_get (r ∷ rs)) index ∙ last_get r rs))

-- the faults in their order
abbrev pub fault_by : Bool → Bool → Bool → Option BookFault
fault_by repeated ahead full = cond repeated (Some Repeated) (cond ahead (Some RowAhead) (cond full (Some Full) None))

-- an account with which nothing is wrong is new, has no row ahead, and there is space for it
pub record CanTake (b : BookValue) (v : AccountValue) : Type 0 where
  pub is_new : is_among (numbers b.accounts) v.number ≡ false
  pub behind : IsBehind b.next v
  pub space : length b.accounts < MOST_ACCOUNTS

pub can_take : (b : BookValue) (v : AccountValue) → first_fault b v ≡ None → CanTake b v
can_take b v none = by (is_among (numbers b.accounts) v.number) (has_row_ahead b.next v)
    (nat_le MOST_ACCOUNTS (length b.accounts)) refl refl refl none
  where
    by : (repeated ahead full : Bool) → is_among (numbers b.accounts) v.number ≡ repeated
        → has_row_ahead b.next v ≡ ahead → nat_le MOST_ACCOUNTS (length b.accounts) ≡ full
        → fault_by repeated ahead full ≡ None → CanTake b v
    by true ahead full r a f e = absurd cc
    by false true full r a f e = absurd cc
    by false false true r a f e = absurd cc
    by false false false r a f e =
        record { is_new = r; behind = none_ahead b.next v.rows a; space = grind (arith, tests, f) }

-- what a look-up says of whether the account is there
pub found-at : (xs : State) (directory : DirectoryValue) (a n : ℕ) (r : Option (AccountKind × ℕ)) (b : Bool)
    → directory ≡ directory_of xs → n ≡ a → r ≡ fin.get directory n → b ≡ is_some r → b ≡ is_among (numbers xs) a
found-at xs directory a n r b listed same found answer =
    answer ∙ ap is_some (found ∙ ap (λ d. fin.get d n) listed ∙ ap (λ m. fin.get (directory_of xs) m) same)
    ∙ known-among xs a

pub repeated_fault : (b : BookValue) (v : AccountValue) → is_among (numbers b.accounts) v.number ≡ true
    → Some Repeated ≡ first_fault b v
repeated_fault b v h = sym (ap (λ r. fault_by r (has_row_ahead b.next v) (nat_le MOST_ACCOUNTS (length b.accounts))) h)

pub ahead_fault : (b : BookValue) (v : AccountValue) → is_among (numbers b.accounts) v.number ≡ false
    → has_row_ahead b.next v ≡ true → Some RowAhead ≡ first_fault b v
ahead_fault b v h a =
    sym (ap (λ r. fault_by r (has_row_ahead b.next v) (nat_le MOST_ACCOUNTS (length b.accounts))) h
    ∙ ap (λ r. fault_by false r (nat_le MOST_ACCOUNTS (length b.accounts))) a)

full_by : (b : Bool) → then_some b Full ≡ cond b (Some Full) None
full_by true = refl
full_by false = refl

pub full_fault : (b : BookValue) (v : AccountValue) → is_among (numbers b.accounts) v.number ≡ false
    → has_row_ahead b.next v ≡ false → then_some (nat_le MOST_ACCOUNTS (length b.accounts)) Full ≡ first_fault b v
full_fault b v h a =
    full_by (nat_le MOST_ACCOUNTS (length b.accounts))
    ∙ sym (ap (λ r. fault_by r (has_row_ahead b.next v) (nat_le MOST_ACCOUNTS (length b.accounts))) h
    ∙ ap (λ r. fault_by false r (nat_le MOST_ACCOUNTS (length b.accounts))) a)

-- a draft of one account more
pub more_draft : (xs ys : State) (v : AccountValue) (directory new : DirectoryValue) (next : ℕ)
    → IsBookDraft xs directory next → ys ≡ xs ++ v ∷ [] → new ≡ directory_of (xs ++ v ∷ [])
    → first_fault (record { accounts = xs; next = next }) v ≡ None → IsAccount v → IsBookDraft ys new next
more_draft xs ys v directory new next draft more listed none fits =
    let can = can_take (record { accounts = xs; next = next }) v none in
    rw more (record {
      distinct = distinct_push xs v draft.distinct can.is_new;
      few = omega (arith, length-append xs (v ∷ []), can.space);
      within_limits = All-push IsAccount xs v draft.within_limits fits;
      next_fits = draft.next_fits;
      behind = All-push (IsBehind next) xs v draft.behind can.behind;
      listed = listed;
    })
