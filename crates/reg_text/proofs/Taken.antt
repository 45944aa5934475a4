-- What is spelled is taken: the rows of a day text read as its day.
use Rattle.std.proofs.Common.{◌≡◌, ℕ, ◌+◌, ◌-◌, ◌^◌, ◌<◌, ◌≤◌, Bool, true, false, List, [], ◌∷◌, ◌++◌, map, length}
use Rattle.std.proofs.Common.{drop, Option, Some, None, Ok, refl, sym, ap, subst, ◌∙◌, arith, length-append}
use Rattle.std.proofs.Common.{append_assoc}
use mathlib.Core.List.{map-id}
use Rattle.std.specs.List.{AllByRecursion, flat_map}
use Rattle.std.proofs.lemmas.List.Elements.{recursion_from_All}
use Rattle.std.proofs.lemmas.Bool.{le-leb, lt-ltb}
use Rattle.std.proofs.lemmas.List.{append-nil, map-append}
use Rattle.reg_facts.proofs.lemmas.Lists.{all-rest, all-weaker}
use Rattle.reg_text.proofs.Names.{MOST_ACCOUNTS, MOST_ROWS, Instruction, IsShared, MOST_RECORD, IsUserNo, IsDayNo}
use Rattle.reg_text.proofs.Names.{IsInstruction, IsRising, AccountValue, IsAccount, IsBehind, AreBelow, RetiredFits}
use Rattle.reg_text.proofs.Names.{RetirementRow, ListsValue, row_numbers, no_lists, AccountHead, IsWithin, IsYearNo}
use Rattle.reg_text.proofs.Names.{Fits, IsOfPeriods, Correction, Version, One, Two, Scope, widest, Tag, TextRow}
use Rattle.reg_text.proofs.Names.{tag_word, last_item, option_to_list, Said, row, account_head, lists_of, account_with}
use Rattle.reg_text.proofs.Names.{account_block, list_tags, each_row, section_rows, all_rows, key, follows, IsOrdered}
use Rattle.reg_text.proofs.Names.{most, is_space, AreAtMost, stages, Section, IsSection, DraftValue, items_said}
use Rattle.reg_text.proofs.Names.{accounts_in, account_count, no_heading, nothing_read, scope_of, DayValue}
use Rattle.reg_text.proofs.Names.{lags_in, heading, saying, current_rows, day_text, current_said, IsPair, CanBeSaid}
use Rattle.reg_text.proofs.Names.{IsVersionOf, with, in_order, has_space, with_row, next_in, next_draft, after_rows}
use Rattle.reg_text.specs.declared.reading.tag.Tag.TheVariants as tag
use Rattle.reg_account.specs.Corrections.{LaterFits}
use Rattle.reg_text.specs.Grammar.{row_text}
use Rattle.reg_text.specs.Faults.{has_row_space}
use Rattle.reg_text.proofs.ListFacts.{all-both}
use Rattle.reg_text.proofs.GrammarLaws.{each-row, same-spelling}
use Rattle.reg_text.proofs.RowLaws.{ArePeriodsOf, fit-lags, fit-account, fit-lists, fit-instruction}
use Rattle.reg_text.proofs.Retirements.{below-at, sum-left}
use Rattle.reg_text.proofs.RisingFacts.{rising-above, last_of-append}
use Rattle.reg_text.proofs.SectionLaws.{ordered-at, space-at}
use Rattle.reg_text.proofs.DraftSteps.{count-accounts, rows_then, lists_in, list-rows}
use Rattle.reg_text.proofs.TagLaws.{MayFollow, tag-again, goes_on, later}

-- whatever the number of the first row, these rows say this day after the draft
abbrev pub Reach : DraftValue → List TextRow → DayValue → Type 0
Reach d rows v = (number : ℕ) → after_rows number d rows ≡ Ok v

reach-row : (d e : DraftValue) (r : TextRow) (rows : List TextRow) (v : DayValue) → next_draft d r ≡ Ok e
    → Reach e rows v
    → Reach d (r ∷ rows) v
reach-row d e r rows v step more number = rw step (more (number + 1))

by_row : (t : Tag) (d : DraftValue) (x : Said t) → (row (scope_of d) t).Fits x → in_order t d x ≡ true
    → has_space t d x ≡ true → with_row t d (row_text t x) ≡ Ok (with t d x)
unfolding with_row
by_row t d x fits ordered space =
    let again = ap (λ (fields : TextRow). (row (scope_of d) t).read (tag_word t ∷ fields))
    (sym (same-spelling (scope_of d) t x)) ∙ (each-row (scope_of d) t).again (tag_word t) x fits in
    rw (again, ordered, space) refl

-- a row that may stand here, is in order and has space is taken
pub taken : (t : Tag) (d : DraftValue) (x : Said t) → MayFollow (scope_of d).version d.last t
    → (row (scope_of d) t).Fits x → in_order t d x ≡ true → has_space t d x ≡ true
    → next_draft d (row_text t x) ≡ Ok (with t d x)
taken t d x may fits ordered space =
    rw (goes_on (scope_of d).version d.last t may, tag-again (scope_of d).version d.last t may)
    (by_row t d x fits ordered space)

-- ---- a section: rows of a list, each of which is taken while the whole list is as it should be

-- a draft as a function of its last tag and of the section of a tag
pub record Grown (version : Version) (t : Tag) (state : Option Tag → List (Said t) → DraftValue) : Type 0 where
  pub version_is : (last : Option Tag) (xs : List (Said t)) → (scope_of (state last xs)).version ≡ version
  pub last : (last : Option Tag) (xs : List (Said t)) → (state last xs).last ≡ last
  pub list : (last : Option Tag) (xs : List (Said t)) → items_said t (state last xs) ≡ xs
  pub more : (last : Option Tag) (xs : List (Said t)) (x : Said t)
      → with t (state last xs) x ≡ state (Some t) (xs ++ x ∷ [])

-- one row of such a list fits, and there is space for it
pub record IsNext (t : Tag) (d : DraftValue) (x : Said t) : Type 0 where
  pub fits : (row (scope_of d) t).Fits x
  pub space : has_space t d x ≡ true

section-step : (version : Version) (t : Tag) (state : Option Tag → List (Said t) → DraftValue) → Grown version t state
    → (last : Option Tag) (xs : List (Said t)) (x : Said t) (others : List (Said t)) → MayFollow version last t
    → IsOrdered (key t) (xs ++ x ∷ others)
    → IsNext t (state last xs) x → next_draft (state last xs) (row_text t x) ≡ Ok (state (Some t) (xs ++ x ∷ []))
section-step version t state g last xs x others may ordered one =
    let order : in_order t (state last xs) x
    ≡ true = ap (λ (l : List (Said t)). follows (key t) (last_item l) x) (g.list last xs)
    ∙ ordered-at (key t) xs x others ordered in
    let may_here = subst (λ (v : Version). MayFollow v (state last xs).last t) (sym (g.version_is last xs))
    (subst (λ (l : Option Tag). MayFollow version l t) (sym (g.last last xs)) may) in
    taken t (state last xs) x may_here one.fits order one.space ∙ ap (λ (d : DraftValue). Ok d) (g.more last xs x)

pub section-taken : (version : Version) (t : Tag) (state : Option Tag → List (Said t) → DraftValue)
    → Grown version t state
    → (Stands : Option Tag → Type 0) → ((last : Option Tag) → Stands last → MayFollow version last t) → Stands (Some t)
    → (Whole : List (Said t) → Type 0) → ((l : List (Said t)) → Whole l → IsOrdered (key t) l)
    → ((last : Option Tag) (xs : List (Said t)) (x : Said t) (others : List (Said t)) → Whole (xs ++ x ∷ others)
    → IsNext t (state last xs) x)
    → (others : List (Said t)) (last : Option Tag) (xs : List (Said t)) (rest : List TextRow) (v : DayValue)
    → Stands last
    → Whole (xs ++ others)
    → ((after : Option Tag) → Stands after → Reach (state after (xs ++ others)) rest v)
    → Reach (state last xs) (section_rows (Some t, others) ++ rest) v
section-taken version t state g Stands may again Whole is next [] last xs rest v stands whole more = let then =
    more last stands in rw append-nil at then
section-taken version t state g Stands may again Whole is next (x ∷ others) last xs rest v stands whole more =
    let same : (xs ++ x ∷ []) ++ others ≡ xs ++ x ∷ others = append_assoc xs (x ∷ []) others in
    reach-row (state last xs) (state (Some t) (xs ++ x ∷ [])) (row_text t x) (section_rows (Some t, others) ++ rest) v
    (section-step version t state g last xs x others (may last stands) (is (xs ++ x ∷ others) whole)
    (next last xs x others whole))
    (section-taken version t state g Stands may again Whole is next others (Some t) (xs ++ x ∷ []) rest v again
    (subst Whole (sym same) whole)
    (λ after there. subst (λ (l : List (Said t)). Reach (state after l) rest v) (sym same) (more after there)))

-- the same of a section in a scope that its rows do not change
pub list-taken : (scope : Scope) (t : Tag) (state : Option Tag → List (Said t) → DraftValue)
    → Grown scope.version t state → ((last : Option Tag) (xs : List (Said t)) → scope_of (state last xs) ≡ scope)
    → MayFollow scope.version (Some t) t
    → (Whole : List (Said t) → Type 0) → ((l : List (Said t)) → Whole l → IsSection scope (Some t, l))
    → ((last : Option Tag) (xs : List (Said t)) (x : Said t) (others : List (Said t)) → Whole (xs ++ x ∷ others)
    → has_space t (state last xs) x ≡ true)
    → (others : List (Said t)) (last : Option Tag) (xs : List (Said t)) (rest : List TextRow) (v : DayValue)
    → MayFollow scope.version last t → Whole (xs ++ others)
    → ((after : Option Tag) → MayFollow scope.version after t → Reach (state after (xs ++ others)) rest v)
    → Reach (state last xs) (section_rows (Some t, others) ++ rest) v
list-taken scope t state g here again Whole is space others last xs rest v may whole more =
    section-taken scope.version t state g (λ l. MayFollow scope.version l t) (λ l m. m) again Whole
    (λ l w. (is l w).listed.ordered) (λ last' ys x zs w. record {
      fits = subst (λ (s : Scope). (row s t).Fits x) (sym (here last' ys))
          (all-rest (row scope t).Fits ys (x ∷ zs) (is (ys ++ x ∷ zs) w).fits).0;
      space = space last' ys x zs w;
    }) others last xs rest v may whole more

-- ---- lists one after another, each behind the one before it

-- the draft after a row with this tag, in which the rows of another tag say these
abbrev pub after : (t : Tag) → DraftValue → Option Tag → List (Said t) → DraftValue
after t d last xs = record (saying t d xs) { last = last }

-- such a list is taken row by row, and behind it rows with the next tag may stand
pub record IsTaken (scope : Scope) (d : DraftValue) (t next : Tag) (xs : List (Said t)) : Type 0 where
  pub grown : Grown scope.version t (after t d)
  pub here : (last : Option Tag) (l : List (Said t)) → scope_of (after t d last l) ≡ scope
  pub none : (last : Option Tag) → after t d last [] ≡ record d { last = last }
  pub again : MayFollow scope.version (Some t) t
  pub fits : IsSection scope (Some t, xs)
  pub space : (last : Option Tag) (l : List (Said t)) (x : Said t) (others : List (Said t)) → l ++ x ∷ others ≡ xs
      → has_space t (after t d last l) x ≡ true
  pub low : (stages scope.version next).from ≤ (stages scope.version t).from
  pub high : (stages scope.version t).to ≤ (stages scope.version next).to

-- rows of which only the length of the list says whether there is space for one more
abbrev is_plain : Tag → Bool
is_plain tag.Format = false
is_plain tag.Period = false
is_plain tag.Account = false
is_plain tag.Retired = false
is_plain tag.Do = false
is_plain tag.End = false
is_plain t = true

plain-grown : (t : Tag) (d : DraftValue) → is_plain t ≡ true → Grown (scope_of d).version t (after t d)
plain-grown tag.Format d e = absurd cc
plain-grown tag.Period d e = absurd cc
plain-grown tag.Account d e = absurd cc
plain-grown tag.End d e = absurd cc
plain-grown t d e = record {
  version_is = λ last xs. refl;
  last = λ last xs. refl;
  list = λ last xs. refl;
  more = λ last xs x. refl;
}

plain-here : (t : Tag) (d : DraftValue) (last : Option Tag) (l : List (Said t)) → is_plain t ≡ true
    → scope_of (after t d last l) ≡ scope_of d
plain-here tag.Format d last l e = absurd cc
plain-here tag.Period d last l e = absurd cc
plain-here t d last l e = refl

plain-space : (t : Tag) (d : DraftValue) (last : Option Tag) (l : List (Said t)) (x : Said t) → is_plain t ≡ true
    → is_space (most t) (length l) ≡ true → has_space t (after t d last l) x ≡ true
plain-space tag.Account d last l x e space = absurd cc
plain-space tag.Retired d last l x e space = absurd cc
plain-space tag.Do d last l x e space = absurd cc
plain-space tag.End d last l x e space = absurd cc
plain-space t d last l x e space = space

plain : (d : DraftValue) (t next : Tag) (xs : List (Said t)) → is_plain t ≡ true
    → ((last : Option Tag) → after t d last [] ≡ record d { last = last }) → MayFollow (scope_of d).version (Some t) t
    → (stages (scope_of d).version next).from ≤ (stages (scope_of d).version t).from
    → (stages (scope_of d).version t).to ≤ (stages (scope_of d).version next).to → IsSection (scope_of d) (Some t, xs)
    → IsTaken (scope_of d) d t next xs
plain d t next xs e none again low high fits = record {
  grown = plain-grown t d e;
  here = λ last l. plain-here t d last l e;
  none = none;
  again = again;
  fits = fits;
  space = λ last l x others is.
      plain-space t d last l x e
      (space-at (most t) l x others
      (subst (λ (ys : List (Said t)). AreAtMost (most t) (length ys)) (sym is) fits.listed.few));
  low = low;
  high = high;
}

-- the tag of the first of these lists, or the one behind them
abbrev pub first_of : List Section → Tag → Tag
first_of [] next = next
first_of ((None, xs) ∷ ss) next = next
first_of ((Some t, xs) ∷ ss) next = t

-- the draft that says these lists
abbrev pub saying_all : DraftValue → List Section → DraftValue
saying_all d [] = d
saying_all d ((None, xs) ∷ ss) = saying_all d ss
saying_all d ((Some t, xs) ∷ ss) = saying_all (saying t d xs) ss

abbrev pub AreTaken : Scope → DraftValue → List Section → Tag → Type 0
AreTaken scope d [] next = Unit {0}
AreTaken scope d ((None, xs) ∷ ss) next = ⊥
AreTaken scope d ((Some t, xs) ∷ ss) next =
    IsTaken scope d t (first_of ss next) xs × AreTaken scope (saying t d xs) ss next

all-taken : (scope : Scope) (d : DraftValue) (ss : List Section) (next : Tag) (last : Option Tag) (rest : List TextRow)
    (v : DayValue) → AreTaken scope d ss next → MayFollow scope.version last (first_of ss next)
    → ((behind : Option Tag) → MayFollow scope.version behind next
    → Reach (record (saying_all d ss) { last = behind }) rest v)
    → Reach (record d { last = last }) (rows_then ss rest) v
all-taken scope d [] next last rest v h may more = more last may
all-taken scope d ((None, xs) ∷ ss) next last rest v h may more = absurd h
all-taken scope d ((Some t, xs) ∷ ss) next last rest v h may more =
    let one = h.0 in
    subst (λ (e : DraftValue). Reach e (rows_then ((Some t, xs) ∷ ss) rest) v) (one.none last)
    (list-taken scope t (after t d) one.grown one.here one.again (λ l. l ≡ xs)
    (λ l is. subst (λ (ys : List (Said t)). IsSection scope (Some t, ys)) (sym is) one.fits) one.space xs last []
    (rows_then ss rest) v may refl (λ behind may'.
    all-taken scope (saying t d xs) ss next behind rest v h.1
    (later scope.version behind t (first_of ss next) one.low one.high may') more))

-- ---- the blocks of accounts

abbrev account_number : AccountValue → ℕ
account_number a = a.number

-- there is space for the surrenders and deletions of an account, which are recorded under numbers below the next one
retired-space : (next : ℕ) (days : List (ℕ × ℕ)) (l : List RetirementRow) (x : RetirementRow)
    (others : List RetirementRow) → next_in days ≡ Some next → length (l ++ x ∷ others) ≤ MOST_ROWS
    → AreBelow next (row_numbers (l ++ x ∷ others)) → RetiredFits (l ++ x ∷ others)
    → has_row_space (next_in days) l x ≡ true
retired-space next days l x others is few behind sums =
    rw (space-at (Some MOST_ROWS) l x others few, is, below-at next l x others behind, sum-left l x others sums) refl

-- the first version has no correction factors of later periods
no-corrections : (count : ℕ) (xs : List Correction) → AllByRecursion LaterFits xs
    → AllByRecursion (λ (c : Correction). c.period ≤ count) xs → count ≤ 1 → xs ≡ []
no-corrections count [] fits of few = refl
no-corrections count (c ∷ xs) fits of few = absurd (omega (arith, fits.0.later.low, of.0))

corrections-taken : (version : Version) (d : DraftValue) (next : Tag) (a : AccountValue) (rest : List TextRow)
    (v : DayValue)
    → (scope_of d).version ≡ version → ((w : Version) → (stages w next).from ≤ 80)
    → ((w : Version) → 81 ≤ (stages w next).to) → ArePeriodsOf (scope_of d) → Fits (scope_of d) None a
    → ((last : Option Tag) → MayFollow (scope_of d).version last next
    → Reach (record d { last = last; lists = record no_lists { corrections = a.corrections } }) rest v)
    → Reach (record d { last = Some tag.Account; lists = no_lists }) (each_row tag.Correction a.corrections ++ rest) v
corrections-taken One d next a rest v is low high p h more =
    let none = no-corrections (scope_of d).periods a.corrections h.0.corrections_fit.each h.1.corrections (p.one is) in
    let from = low (scope_of d).version in
    let to = high (scope_of d).version in
    let then = more (Some tag.Account)
    (rw (
      le-leb (stages (scope_of d).version next).from 80 from,
      le-leb 80 (stages (scope_of d).version next).to (omega (arith, to)),
    ) refl) in
    rw none (rw none at then)
corrections-taken Two d next a rest v is low high p h more =
    let scope = scope_of d in
    list-taken scope tag.Correction (λ last l. record d { last = last; lists = record no_lists { corrections = l } })
    (record {
      version_is = λ last xs. refl;
      last = λ last xs. refl;
      list = λ last xs. refl;
      more = λ last xs x. refl;
    }) (λ last xs. refl) (rw is refl) (λ l. IsSection scope (Some tag.Correction, l))
    (λ l whole. whole) (λ last xs x others whole. refl)
    a.corrections (Some tag.Account) [] rest v (rw is refl) (fit-lists scope p a h tag.Correction)
    (λ last may. more last (behind-correction scope.version last is may)) where
      behind-correction : (version : Version) (last : Option Tag) → version ≡ Two
          → MayFollow version last tag.Correction → MayFollow version last next
      behind-correction One last is may = absurd cc
      behind-correction Two last is may = later Two last tag.Correction next (low Two) (high Two) may

-- behind the row of an account the rows of its lists are taken
lists-taken : (d : DraftValue) (next : ℕ) (a : AccountValue) (rest : List TextRow) (v : DayValue)
    → next_in d.heading.days
    ≡ Some next
    → ArePeriodsOf (scope_of d) → Fits (scope_of d) None a → IsBehind next a
    → ((last : Option Tag) → MayFollow (scope_of d).version last tag.Account
    → Reach (record d { last = last; lists = lists_of a }) rest v)
    → Reach (record d { last = Some tag.Account; lists = no_lists }) (rows_then (lists_in (lists_of a) list_tags) rest)
    v
lists-taken d next a rest v is p h behind more =
    let scope = scope_of d in
    let fit = fit-lists scope p a h in
    let lists = drop 1 (lists_in (lists_of a) list_tags) in
    let corrected : DraftValue = record d { lists = record no_lists { corrections = a.corrections } } in
    corrections-taken scope.version d (first_of lists tag.Account) a (rows_then lists rest) v refl (λ w. omega arith)
    (λ w. omega arith) p h (λ last may.
    all-taken scope corrected lists tag.Account last rest v (
      plain _ tag.User _ _ refl (λ last. refl) refl (omega arith) (omega arith) (fit tag.User),
      (
        plain _ tag.Trusted _ _ refl (λ last. refl) refl (omega arith) (omega arith) (fit tag.Trusted),
        (
          record {
            grown = record {
              version_is = λ last xs. refl;
              last = λ last xs. refl;
              list = λ last xs. refl;
              more = λ last xs x. refl;
            };
            here = λ last l. refl;
            none = λ last. refl;
            again = refl;
            fits = fit tag.Retired;
            space = λ last l x others same.
                retired-space next d.heading.days l x others is (rw same (fit tag.Retired).listed.few) (rw same behind)
                (rw same h.0.retired_fits);
            low = omega arith;
            high = omega arith;
          },
          (
            plain _ tag.Emissions _ _ refl (λ last. refl) refl (omega arith) (omega arith) (fit tag.Emissions),
            (plain _ tag.Figure _ _ refl (λ last. refl) refl (omega arith) (omega arith) (fit tag.Figure), tt),
          ),
        ),
      ),
    ) may more)

-- an account that is above the ones before it comes after the begun one
next-account : (accounts : List AccountValue) (head : Option AccountHead) (l : ListsValue) (a : AccountValue)
    (others : List AccountValue)
    → IsRising (map account_number ((accounts ++ map (account_with l) (option_to_list head)) ++ a ∷ others))
    → follows (key tag.Account) (last_item (option_to_list head)) (account_head a) ≡ true
next-account accounts None l a others rises = refl
next-account accounts (Some h) l a others rises =
    let all = rising-above (map account_number (accounts ++ account_with l h ∷ [])) a.number (map account_number others)
    (rw map-append at rises) in
    rw (
      map-append account_number accounts (account_with l h ∷ []),
      last_of-append (map account_number accounts) h.number,
    ) at all

pub blocks-taken : (d : DraftValue) (next : ℕ) (others : List AccountValue) (last : Option Tag)
    (accounts : List AccountValue) (head : Option AccountHead) (l : ListsValue) (rest : List TextRow) (v : DayValue)
    → next_in d.heading.days ≡ Some next → MayFollow (scope_of d).version last tag.Account
    → ArePeriodsOf (scope_of d) → AllByRecursion (Fits (scope_of d) None) others → AllByRecursion (IsBehind next) others
    → IsRising (map account_number ((accounts ++ map (account_with l) (option_to_list head)) ++ others))
    → length ((accounts ++ map (account_with l) (option_to_list head)) ++ others) ≤ MOST_ACCOUNTS
    → ((after : Option Tag) (all : List AccountValue) (begun : Option AccountHead) (m : ListsValue)
    → MayFollow (scope_of d).version after tag.Account → all ++ map (account_with m) (option_to_list begun)
    ≡ (accounts ++ map (account_with l) (option_to_list head)) ++ others
    → Reach (record d { last = after; accounts = all; head = begun; lists = m }) rest v)
    → Reach (record d { last = last; accounts = accounts; head = head; lists = l })
    (flat_map account_block others ++ rest) v
blocks-taken d next [] last accounts head l rest v is may p fit behind rises few more =
    more last accounts head l may (sym (append-nil (accounts ++ map (account_with l) (option_to_list head))))
blocks-taken d next (a ∷ others) last accounts head l rest v is may p fit behind rises few more =
    let scope = scope_of d in
    let now = record d { last = last; accounts = accounts; head = head; lists = l } in
    let all = accounts_in now in
    let same : (all ++ a ∷ []) ++ others ≡ all ++ a ∷ others = append_assoc all (a ∷ []) others in
    let space : account_count now < MOST_ACCOUNTS =
    omega (arith, few, length-append all (a ∷ others), count-accounts accounts head l) in
    let behind_it : List TextRow = flat_map account_block others ++ rest in
    let lists : List TextRow = rows_then (lists_in (lists_of a) list_tags) behind_it in
    let split : flat_map account_block (a ∷ others) ++ rest ≡ row_text tag.Account (account_head a) ∷ lists =
    append_assoc (account_block a) (flat_map account_block others) rest
    ∙ ap (λ (rs : List TextRow). row_text tag.Account (account_head a) ∷ rs)
    (list-rows (lists_of a) list_tags behind_it) in
    subst (λ (rs : List TextRow). Reach now rs v) (sym split)
    (reach-row now (with tag.Account now (account_head a)) (row_text tag.Account (account_head a)) lists v
    (taken tag.Account now (account_head a) may (fit-account scope a fit.0.0)
    (next-account accounts head l a others rises) (lt-ltb _ _ space))
    (lists-taken (record d { accounts = all; head = Some (account_head a) }) next a behind_it v is p fit.0 behind.0
    (λ last1 may1.
    blocks-taken d next others last1 all (Some (account_head a)) (lists_of a) rest v is may1 p fit.1 behind.1
    (rw same rises) (rw same few) (λ after ones begun m may' equal. more after ones begun m may' (equal ∙ same)))))

-- ---- the sections of a day

surrender-section : (scope : Scope) (v : DayValue) → CanBeSaid v
    → IsSection scope (Some tag.Surrender, v.rules.surrender)
surrender-section scope v h =
    record {
      fits = all-weaker IsPair (row scope tag.Surrender).Fits (λ p is. ((tt, tt), is)) v.rules.surrender
          (recursion_from_All IsPair v.rules.surrender h.pairs);
      listed = record { ordered = h.pairs_rise; few = tt };
    }

admin-section : (scope : Scope) (v : DayValue) → CanBeSaid v → IsSection scope (Some tag.Admin, v.rules.admins)
admin-section scope v h = record {
  fits = recursion_from_All IsUserNo v.rules.admins h.day.rules.each_admin;
  listed = record {
    ordered = subst IsRising (sym (map-id v.rules.admins)) h.day.rules.fit.admins_rise;
    few = h.day.rules.fit.few_admins;
  };
}

work-section : (scope : Scope) (v : DayValue) → CanBeSaid v → IsSection scope (Some tag.Work, v.rules.calendar)
work-section scope v h = let days = h.day.rules.working_days in
    record {
      fits = recursion_from_All IsDayNo v.rules.calendar days.each_day;
      listed = record { ordered = subst IsRising (sym (map-id v.rules.calendar)) days.rising; few = tt };
    }

do-section : (scope : Scope) (v : DayValue) → CanBeSaid v → IsSection scope (Some tag.Do, v.batch.instructions)
do-section scope v h = record {
  fits = all-both IsInstruction (λ (i : Instruction). IsShared i.act) (row scope tag.Do).Fits fit-instruction
      v.batch.instructions (recursion_from_All IsInstruction v.batch.instructions h.day.batch.each)
      (recursion_from_All (λ (i : Instruction). IsShared i.act) v.batch.instructions h.shares);
  listed =
      record { ordered = tt; few = h.day.batch.few };
}

both : (scope : Scope) (xs : List AccountValue) → AllByRecursion IsAccount xs
    → AllByRecursion (IsOfPeriods scope.periods) xs → AllByRecursion (Fits scope None) xs
both scope [] h k = tt
both scope (a ∷ xs) h k = ((h.0, k.0), both scope xs h.1 k.1)

accounts : (scope : Scope) (v : DayValue) → scope.periods ≡ length v.rules.periods → CanBeSaid v
    → AllByRecursion (Fits scope None) v.book.accounts
accounts scope v is h = both scope v.book.accounts
    (recursion_from_All IsAccount v.book.accounts h.day.book.within_limits)
    (rw is (recursion_from_All (IsOfPeriods (length v.rules.periods)) v.book.accounts h.periods))

period-section : (scope : Scope) (v : DayValue) → CanBeSaid v → IsSection scope (Some tag.Period, v.rules.periods)
period-section scope v h =
    let periods = h.day.rules.fit.periods_fit in
    record {
      fits = all-both (λ (p : ℕ × ℕ). IsYearNo p.0 × IsYearNo p.1) (λ (p : ℕ × ℕ). p.0 ≤ p.1)
          (row scope tag.Period).Fits (λ p years le. (years, le-leb p.0 p.1 le)) v.rules.periods
          (recursion_from_All (λ (p : ℕ × ℕ). IsYearNo p.0 × IsYearNo p.1) v.rules.periods h.day.rules.each_year)
          periods.each;
      listed = record { ordered = periods.rise; few = periods.few };
    }

-- a draft with these periods
abbrev with_periods : DraftValue → Option Tag → List (ℕ × ℕ) → DraftValue
with_periods d last periods = record d { last = last; heading = record d.heading { periods = periods } }

-- in the first version one row of a period is taken, and in the second one or more
periods-taken : (version : Version) (d : DraftValue) (periods : List (ℕ × ℕ)) (rest : List TextRow) (v : DayValue)
    → (scope_of d).version ≡ version → (version ≡ One → length periods ≡ 1) → 1 ≤ length periods
    → IsSection (scope_of d) (Some tag.Period, periods)
    → Reach (with_periods d (Some tag.Period) periods) rest v
    → Reach (with_periods d (Some tag.Day) []) (section_rows (Some tag.Period, periods) ++ rest) v
periods-taken version d [] rest v is one some within more = absurd (omega arith)
periods-taken One d (p ∷ []) rest v is one some within more =
    reach-row (with_periods d (Some tag.Day) []) (with_periods d (Some tag.Period) (p ∷ []))
    (row_text tag.Period p) rest v
    (taken tag.Period (with_periods d (Some tag.Day) []) p (rw is refl) within.fits.0 refl refl) more
periods-taken One d (p ∷ q ∷ ps) rest v is one some within more = let size = one refl in absurd (omega arith)
periods-taken Two d (p ∷ ps) rest v is one some within more =
    let state : Option Tag → List (ℕ × ℕ) → DraftValue = with_periods d in
    reach-row (state (Some tag.Day) []) (state (Some tag.Period) (p ∷ [])) (row_text tag.Period p)
    (section_rows (Some tag.Period, ps) ++ rest) v
    (taken tag.Period (state (Some tag.Day) []) p (rw is refl) within.fits.0 refl refl)
    (section-taken Two tag.Period state
    (record {
      version_is = λ last xs. is;
      last = λ last xs. refl;
      list = λ last xs. refl;
      more = λ last xs x. refl;
    }) (λ last. last ≡ Some tag.Period) (λ last e. rw e refl) refl
    (λ l. IsSection (scope_of d) (Some tag.Period, l)) (λ l whole. whole.listed.ordered)
    (λ last xs x others whole. record {
      fits = (all-rest (row widest tag.Period).Fits xs (x ∷ others) whole.fits).0;
      space = space-at (most tag.Period) xs x others whole.listed.few;
    })
    ps (Some tag.Period) (p ∷ []) rest v refl within
    (λ after e. subst (λ (l : Option Tag). Reach (state l (p ∷ ps)) rest v) (sym e) more))

-- the row of the current period, where the version has one, and that of the lags
lags-taken : (version : Version) (d : DraftValue) (current : ℕ) (lags : Said tag.Lags) (rest : List TextRow)
    (v : DayValue)
    → (scope_of d).version ≡ version → d.heading.current ≡ [] → d.heading.lags ≡ [] → IsWithin 1 (length
    d.heading.periods) current
    → current < 2 ^ 64 → (row widest tag.Lags).Fits lags
    → Reach (record d {
      last = Some tag.Lags;
      heading = record d.heading { current = current_rows version current; lags = lags ∷ [] };
    }) rest v
    → Reach (record d { last = Some tag.Period }) (section_rows (Some tag.Current, current_rows version current)
    ++ row_text tag.Lags lags ∷ rest) v
lags-taken One d current lags rest v is none no_lags fit small fits more =
    let from = record d { last = Some tag.Period } in
    reach-row from
    (record d { last = Some tag.Lags; heading = record d.heading { lags = d.heading.lags ++ lags ∷ [] } })
    (row_text tag.Lags lags) rest v
    (taken tag.Lags from lags (rw is refl) fits refl refl) (rw (no_lags, none) more)
lags-taken Two d current lags rest v is none no_lags fit small fits more =
    let from = record d { last = Some tag.Period } in
    let then : DraftValue =
    record d { last = Some tag.Current; heading = record d.heading { current = d.heading.current ++ current ∷ [] } } in
    reach-row from then (row_text tag.Current current) (row_text tag.Lags lags ∷ rest) v
    (taken tag.Current from current (rw is refl) (fit, small) refl refl)
    (reach-row then
    (record then { last = Some tag.Lags; heading = record then.heading { lags = d.heading.lags ++ lags ∷ [] } })
    (row_text tag.Lags lags) rest v
    (taken tag.Lags then lags (rw is refl) fits refl refl) (rw (no_lags, none) more))

-- the drafts on the way
abbrev headed : Version → DayValue → DraftValue
headed version v = record nothing_read {
  last = Some tag.Lags;
  heading = record no_heading {
    versions = version ∷ [];
    days = (v.batch.day, v.book.next) ∷ [];
    periods = v.rules.periods;
    current = current_rows version v.rules.current;
    lags = lags_in v.rules ∷ [];
  };
}

-- the lists behind the row of the lags
abbrev lists_behind : Version → DayValue → List Section
lists_behind version v = drop 5 (heading version v)

one-period : (version : Version) (v : DayValue) → IsVersionOf v version → version ≡ One → length (v.rules.periods) ≡ 1
one-period One v known e = known
one-period Two v known e = absurd cc

head-taken : (version : Version) (v : DayValue) (rest : List TextRow) → IsVersionOf v version → CanBeSaid v
    → Reach (headed version v) rest v
    → Reach nothing_read (row_text tag.Format version ∷ row_text tag.Day (v.batch.day, v.book.next)
    ∷ section_rows (Some tag.Period, v.rules.periods)
    ++ (section_rows (Some tag.Current, current_rows version v.rules.current) ++ row_text tag.Lags (lags_in v.rules)
    ∷ rest)) v
head-taken version v rest known h more =
    let lags = h.day.rules.fit.lags_fit in
    let next_in = h.day.book.next in
    let fits = fit-lags (lags_in v.rules)
    (record { trusted = lags.trusted; other = lags.other; listed = lags.listed; reversal = lags.reversal }) in
    let day : ℕ × ℕ = (v.batch.day, v.book.next) in
    let d1 = with tag.Format nothing_read version in
    let d2 = with tag.Day d1 day in
    let d3 = with_periods d2 (Some tag.Period) v.rules.periods in
    let rows3 : List TextRow = section_rows (Some tag.Current, current_rows version v.rules.current)
    ++ row_text tag.Lags (lags_in v.rules) ∷ rest in
    let rows2 : List TextRow = section_rows (Some tag.Period, v.rules.periods) ++ rows3 in
    let rows1 : List TextRow = row_text tag.Day day ∷ rows2 in
    reach-row nothing_read d1 (row_text tag.Format version) rows1 v
    (taken tag.Format nothing_read version refl tt refl refl)
    (reach-row d1 d2 (row_text tag.Day day) rows2 v
    (taken tag.Day d1 day refl (
      h.day.batch.settlement_day,
      record { low = next_in.from_one; high = next_in.to_the_end },
    ) refl refl)
    (periods-taken version d2 (v.rules.periods) rows3 v refl
    (one-period version v known) h.day.rules.fit.periods_fit.some (period-section (scope_of d2) v h)
    (lags-taken version d3 v.rules.current (lags_in v.rules) rest v refl refl refl h.day.rules.fit.current_fits
    (omega (arith, h.day.rules.fit.current_fits.high, h.day.rules.fit.periods_fit.few)) fits more)))

-- the instructions, each with a record number
abbrev AreNumbered : Scope → DayValue → List (Said tag.Do) → Type 0
AreNumbered scope v l = IsSection scope (Some tag.Do, l) × (v.book.next + length l ≤ MOST_RECORD + 1)

-- what was said of the current period
said-again : (version : Version) (v : DayValue) → IsVersionOf v version → CanBeSaid v
    → current_said version (current_rows version v.rules.current) ≡ Some v.rules.current
said-again One v known h =
    let fit = h.day.rules.fit.current_fits in
    let one : 1 ≡ v.rules.current = omega (arith, known, fit.low, fit.high) in
    ap (λ (n : ℕ). Some n) one
said-again Two v known h = refl

whole : (version : Version) (v : DayValue) (accounts : List AccountValue) (head : Option AccountHead) (l : ListsValue)
    → IsVersionOf v version → CanBeSaid v → v.book.next - 1 ≡ v.batch.base
    → accounts ++ map (account_with l) (option_to_list head) ≡ v.book.accounts
    → Reach (record (saying_all (headed version v) (lists_behind version v)) {
      last = Some tag.End;
      accounts = accounts;
      head = head;
      lists = l;
      instructions = v.batch.instructions;
    }) [] v
whole version v accounts head l known h base all number =
    rw (said-again version v known h, all) (ap (λ (n : ℕ). Ok (record v { batch = record v.batch { base = n } })) base)

periods-of : (version : Version) (v : DayValue) → IsVersionOf v version → CanBeSaid v
    → ArePeriodsOf (scope_of (headed version v))
periods-of version v known h = let periods = h.day.rules.fit.periods_fit in
    record {
      some = periods.some;
      few = periods.few;
      one = λ is. let one = one-period version v known is in
          omega (arith, one);
    }

pub text-taken : (version : Version) (v : DayValue) → IsVersionOf v version → CanBeSaid v
    → Reach nothing_read (day_text version v) v
text-taken version v known h =
    let base : v.book.next - 1 ≡ v.batch.base = omega (arith, h.day.follows) in
    let d0 = headed version v in
    let scope = scope_of d0 in
    let lists = lists_behind version v in
    let d3 = saying_all d0 lists in
    let rows5 : List TextRow = all_rows ((Some tag.End, tt ∷ []) ∷ []) in
    let rows4 : List TextRow = section_rows (Some tag.Do, v.batch.instructions) ++ rows5 in
    let rows3 : List TextRow = flat_map account_block v.book.accounts ++ rows4 in
    head-taken version v (rows_then lists rows3) known h
    (all-taken scope d0 lists tag.Account (Some tag.Lags) rows3 v (
      plain _ tag.Surrender _ _ refl (λ last. refl) refl (omega arith) (omega arith) (surrender-section scope v h),
      (
        plain _ tag.Admin _ _ refl (λ last. refl) refl (omega arith) (omega arith) (admin-section scope v h),
        (plain _ tag.Work _ _ refl (λ last. refl) refl (omega arith) (omega arith) (work-section scope v h), tt),
      ),
    ) refl (λ last3 may3.
    blocks-taken d3 v.book.next v.book.accounts last3 [] None no_lists rows4 v refl may3 (periods-of version v known h)
    (accounts scope v refl h) (recursion_from_All (IsBehind v.book.next) v.book.accounts h.day.book.behind)
    h.day.book.rising h.day.book.few (λ last4 accounts head lists may4 all.
    let d4 = record d3 { accounts = accounts; head = head; lists = lists } in
    let d5 = record d4 { instructions = v.batch.instructions } in
    list-taken scope tag.Do (λ last l. record d4 { last = last; instructions = l })
    (record {
      version_is = λ last xs. refl;
      last = λ last xs. refl;
      list = λ last xs. refl;
      more = λ last xs x. refl;
    }) (λ last xs. refl) refl (AreNumbered scope v) (λ l whole. whole.0)
    (λ last xs x others whole.
    rw (
      space-at (most tag.Do) xs x others whole.0.listed.few,
      le-leb (v.book.next + length xs) MOST_RECORD (omega (arith, length-append xs (x ∷ others), whole.1)),
    ) refl)
    v.batch.instructions last4 [] rows5 v
    (later scope.version last4 tag.Account tag.Do (omega arith) (omega arith) may4) (
      do-section scope v h,
      omega (arith, h.day.follows, h.day.batch.numbered),
    ) (λ last5 may5.
    reach-row (record d5 { last = last5 }) (record d5 { last = Some tag.End }) (row_text tag.End tt) [] v
    (taken tag.End (record d5 { last = last5 }) tt
    (later scope.version last5 tag.Do tag.End (omega arith) (omega arith) may5) tt refl refl)
    (whole version v accounts head lists known h base all)))))
