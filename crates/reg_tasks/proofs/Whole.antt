-- What the tests of a settled day say.
use Rattle.std.proofs.Common.{◌≡◌, ℕ, zero, suc, ◌+◌, ◌<◌, ◌≤◌, inl, true, false, eqb, leb, List, [], ◌∷◌, length}
use Rattle.std.proofs.Common.{get_or, refl, ap, subst, ◌∙◌, arith, add-one}
use Rattle.std.specs.Prelude.{Some}
use Rattle.std.specs.FinMap as fin
use Rattle.std.specs.List.{AllByRecursion}
use Rattle.std.proofs.lemmas.Bool.{eq-eqb, eqb-true, le-leb, leb-true, and_parts, and_from}
use Rattle.reg_facts.proofs.lemmas.Members.{In}
use Rattle.reg_facts.proofs.lemmas.Numbers.{clash}
use Rattle.reg_base.specs.Batch.{BatchValue, IsBatch}
use Rattle.reg_base.specs.Directory.{DirectoryValue}
use Rattle.reg_base.specs.Rising.{IsRising, is_rising_from, count_up}
use Rattle.reg_account.specs.Account.{AccountValue}
use Rattle.reg_rules.specs.declared.reply.LogRow.{LogRow}
use Rattle.reg_rules.specs.State.{State, numbers}
use Rattle.reg_rules.specs.Effect.{IsBehind}
use Rattle.reg_book.specs.Book.{BookValue, directory_of}
use Rattle.reg_book.specs.Settled.{record_numbers}
use Rattle.reg_tasks.specs.Gathering.{IsWhole, IsCommittable, are_counted}
use Rattle.reg_tasks.proofs.Rising.{Up, up_rising}

-- rows that are counted
pub counted_of : (first : ℕ) (rows : List LogRow) → are_counted first rows ≡ true
    → record_numbers rows ≡ count_up first (length rows)
counted_of first [] e = refl
counted_of first (row ∷ rows) e =
    let both = and_parts (eqb row.number first) (are_counted (first + 1) rows) e in
    ap (λ n. n ∷ record_numbers rows) (eqb-true row.number first both.0)
    ∙ ap (λ ns. first ∷ ns) (counted_of (first + 1) rows both.1)

pub counted_from : (first : ℕ) (rows : List LogRow) → record_numbers rows ≡ count_up first (length rows)
    → are_counted first rows ≡ true
counted_from first [] e = refl
counted_from first (row ∷ rows) e =
    let head : row.number ≡ first = cc in
    let tail : record_numbers rows ≡ count_up (first + 1) (length rows) = cc in
    and_from (eqb row.number first) (are_counted (first + 1) rows) (eq-eqb row.number first head)
    (counted_from (first + 1) rows tail)

-- numbers that rise
pub rising_of : (low : ℕ) (ns : List ℕ) → is_rising_from low ns ≡ true → IsRising ns
rising_of low [] e k lt = absurd (omega arith)
rising_of low (x ∷ []) e k lt = absurd (omega arith)
rising_of low (x ∷ y ∷ ys) e zero lt =
    let tail = (and_parts (leb low x) (is_rising_from (x + 1) (y ∷ ys)) e).1 in
    let le : x + 1 ≤ y = leb-true (x + 1) y (and_parts (leb (x + 1) y) (is_rising_from (y + 1) ys) tail).0 in
    omega (arith, le)
rising_of low (x ∷ y ∷ ys) e (suc k) lt =
    let tail = (and_parts (leb low x) (is_rising_from (x + 1) (y ∷ ys)) e).1 in
    let more : get_or (y ∷ ys) k 0 < get_or (y ∷ ys) (k + 1) 0 =
    rising_of (x + 1) (y ∷ ys) tail k (omega (arith, lt)) in
    rw add-one (rw add-one at more)

up_counts : (low : ℕ) (s : State) → Up (λ (v : AccountValue). v.number) s
    → ((v : AccountValue) → In v s → low ≤ v.number) → is_rising_from low (numbers s) ≡ true
up_counts low [] up above = refl
up_counts low (v ∷ vs) up above =
    and_from (leb low v.number) (is_rising_from (v.number + 1) (numbers vs)) (le-leb low v.number (above v (inl refl)))
    (up_counts (v.number + 1) vs up.1 (λ w m. omega (arith, up.0 w m)))

pub rising_from : (s : State) → IsRising (numbers s) → is_rising_from 0 (numbers s) ≡ true
rising_from s rising = up_counts 0 s (up_rising (λ (v : AccountValue). v.number) s rising) (λ v m. omega arith)

-- accounts that may be committed
committable_from : (d : DirectoryValue) (next : ℕ) (s : State)
    → AllByRecursion (λ (v : AccountValue). fin.get d v.number ≡ Some (v.kind, v.holder)) s
    → AllByRecursion (IsBehind next) s
    → AllByRecursion (IsCommittable d next) s
committable_from d next [] listed behind = tt
committable_from d next (v ∷ vs) listed behind =
    (record { listed = listed.0; behind = behind.0 }, committable_from d next vs listed.1 behind.1)

all_listed : (d : DirectoryValue) (next : ℕ) (s : State) → AllByRecursion (IsCommittable d next) s
    → AllByRecursion (λ (v : AccountValue). fin.get d v.number ≡ Some (v.kind, v.holder)) s
all_listed d next [] all = tt
all_listed d next (v ∷ vs) all = (all.0.listed, all_listed d next vs all.1)

all_behind : (d : DirectoryValue) (next : ℕ) (s : State) → AllByRecursion (IsCommittable d next) s
    → AllByRecursion (IsBehind next) s
all_behind d next [] all = tt
all_behind d next (v ∷ vs) all = (all.0.behind, all_behind d next vs all.1)

-- the tests together: there are as many rows as instructions, and the last test, for accounts
module _ (book : BookValue) (batch : BatchValue) (rows : List LogRow) (accounts : State) (fits : IsBatch batch) where
  pub whole_counted : IsWhole book batch rows accounts → are_counted (batch.base + 1) rows ≡ true
  whole_counted w = counted_from (batch.base + 1) rows w.in_order.in_order

  pub whole_rising : IsWhole book batch rows accounts → is_rising_from 0 (numbers accounts) ≡ true
  whole_rising w = rising_from accounts w.in_order.rising

  pub whole_committable : (next : ℕ) → next ≡ batch.base + length batch.instructions + 1
      → IsWhole book batch rows accounts → AllByRecursion (IsCommittable (directory_of book.accounts) next) accounts
  whole_committable next next_is w =
      let after : batch.base + length rows + 1 ≡ next = omega (arith, next_is, w.each) in
      subst (λ n. AllByRecursion (IsCommittable (directory_of book.accounts) n) accounts) after
      (committable_from (directory_of book.accounts) (batch.base + length rows + 1) accounts w.of_book.listed
      w.of_book.behind)

  pub whole_of : (next : ℕ) → next ≡ batch.base + length batch.instructions + 1
      → length rows ≡ length batch.instructions → are_counted (batch.base + 1) rows ≡ true
      → is_rising_from 0 (numbers accounts) ≡ true
      → AllByRecursion (IsCommittable (directory_of book.accounts) next) accounts → IsWhole book batch rows accounts
  whole_of next next_is size counted rising committable =
      let after : next ≡ batch.base + length rows + 1 = omega (arith, next_is, size) in
      let all = subst (λ n. AllByRecursion (IsCommittable (directory_of book.accounts) n) accounts) after committable in
      record {
        each = size;
        in_order = record {
          rising = rising_of 0 (numbers accounts) rising;
          in_order = counted_of (batch.base + 1) rows counted;
          numbered = λ some. omega (arith, size, fits.numbered);
        };
        of_book = record {
          listed = all_listed (directory_of book.accounts) (batch.base + length rows + 1) accounts all;
          behind = all_behind (directory_of book.accounts) (batch.base + length rows + 1) accounts all;
        };
      }

  pub not_whole_counted : (first : ℕ) → first ≡ batch.base + 1 → are_counted first rows ≡ false
      → IsWhole book batch rows accounts → ⊥
  not_whole_counted first is fails w = clash (ap (λ n. are_counted n rows) is ∙ whole_counted w) fails

  pub not_whole_rising : is_rising_from 0 (numbers accounts) ≡ false → IsWhole book batch rows accounts → ⊥
  not_whole_rising fails w = clash (whole_rising w) fails
