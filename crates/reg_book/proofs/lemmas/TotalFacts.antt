-- Totals of lists of accounts, added up list by list.
use Rattle.std.proofs.Common.{◌≡◌, ℕ, ◌*◌, ◌≤◌, List, [], ◌∷◌, ◌++◌, length, sym, ap, ◌∙◌, arith}
use Rattle.std.specs.Prelude.{All, sum_by}
use Rattle.std.specs.List.{AllByRecursion}
use Rattle.std.proofs.lemmas.List.Sums.{sum_by-cons, sum_by-append}
use Rattle.std.proofs.lemmas.List.Elements.{recursion_from_All}
use Rattle.reg_base.specs.declared.kinds.AllowanceKind.{AllowanceKind}
use Rattle.reg_base.specs.declared.kinds.AllowanceKind.TheVariants.{General, Aviation}
use Rattle.reg_base.specs.declared.kinds.Retirement.{Retirement}
use Rattle.reg_base.specs.declared.kinds.Retirement.TheVariants.{Surrendered, Deleted}
use Rattle.reg_base.specs.declared.limits.TheConstants.{MOST_ACCOUNTS}
use Rattle.reg_account.specs.Account.{AccountValue, IsAccount, held_by, retired_by}
use Rattle.reg_book.specs.declared.totals.BothTotals.{BothTotals}
use Rattle.reg_book.specs.Totals.{totals_of, both_added, BothTotalsFit}

-- totals are equal if all their numbers are
pub same-totals : (one other : BothTotals) → one.general.held ≡ other.general.held
    → one.general.surrendered ≡ other.general.surrendered → one.general.deleted ≡ other.general.deleted
    → one.aviation.held ≡ other.aviation.held → one.aviation.surrendered ≡ other.aviation.surrendered
    → one.aviation.deleted ≡ other.aviation.deleted → one ≡ other
same-totals one other held surrendered deleted aviation_held aviation_surrendered aviation_deleted = λ i. record {
  general = record { held = held i; surrendered = surrendered i; deleted = deleted i };
  aviation = record { held = aviation_held i; surrendered = aviation_surrendered i; deleted = aviation_deleted i };
}

pub totals-append : (xs ys : List AccountValue) → totals_of (xs ++ ys) ≡ both_added (totals_of xs) (totals_of ys)
totals-append xs ys =
    same-totals _ _ (sum_by-append (λ v. held_by v General) xs ys)
    (sum_by-append (λ v. retired_by v Surrendered General) xs ys)
    (sum_by-append (λ v. retired_by v Deleted General) xs ys)
    (sum_by-append (λ v. held_by v Aviation) xs ys) (sum_by-append (λ v. retired_by v Surrendered Aviation) xs ys)
    (sum_by-append (λ v. retired_by v Deleted Aviation) xs ys)

pub added-assoc : (a b c : BothTotals) → both_added (both_added a b) c ≡ both_added a (both_added b c)
added-assoc a b c = same-totals _ _ (omega arith) (omega arith) (omega arith) (omega arith) (omega arith) (omega arith)

-- so far these were added up, and behind them are these accounts
abbrev pub AddUpWith : BothTotals → List AccountValue → List AccountValue → Type 0
AddUpWith totals all others = both_added totals (totals_of others) ≡ totals_of all

pub add-none : (all : List AccountValue) → AddUpWith (totals_of []) all all
add-none all = same-totals _ _ (omega arith) (omega arith) (omega arith) (omega arith) (omega arith) (omega arith)

pub add-list : (totals : BothTotals) (all one others : List AccountValue) → AddUpWith totals all (one ++ others)
    → AddUpWith (both_added totals (totals_of one)) all others
add-list totals all one others so_far = added-assoc totals (totals_of one) (totals_of others)
    ∙ ap (both_added totals) (sym (totals-append one others)) ∙ so_far

pub added-all : (totals : BothTotals) (all : List AccountValue) → AddUpWith totals all [] → totals ≡ totals_of all
added-all totals all so_far = same-totals totals (both_added totals (totals_of [])) (omega arith) (omega arith)
    (omega arith) (omega arith) (omega arith) (omega arith) ∙ so_far

-- the accounts of a book are few enough for their totals
most-of : (f : AccountValue → ℕ) → ((v : AccountValue) → IsAccount v → f v ≤ 1_000_000_000_000_000)
    → (xs : List AccountValue) → AllByRecursion IsAccount xs → sum_by f xs ≤ 1_000_000_000_000_000 * length xs
most-of f few [] all = omega arith
most-of f few (v ∷ vs) all = omega (arith, sum_by-cons f v vs, few v all.0, most-of f few vs all.1)

held-most : (kind : AllowanceKind) (v : AccountValue) → IsAccount v → held_by v kind ≤ 1_000_000_000_000_000
held-most General v fits = fits.holdings_fit.general
held-most Aviation v fits = fits.holdings_fit.aviation

-- so there is space for what was added up of some of them
pub have_space : (totals : BothTotals) (all others : List AccountValue) → All IsAccount all
    → length all ≤ MOST_ACCOUNTS → AddUpWith totals all others → BothTotalsFit totals
have_space totals all others fit few so_far =
    let each = recursion_from_All IsAccount all fit in
    let held : (kind : AllowanceKind) → sum_by (λ v. held_by v kind) all ≤ 1_000_000_000_000_000 * length all =
    λ kind. most-of (λ v. held_by v kind) (held-most kind) all each in
    let retired : (way : Retirement) (kind : AllowanceKind)
    → sum_by (λ v. retired_by v way kind) all ≤ 1_000_000_000_000_000 * length all =
    λ way kind. most-of (λ v. retired_by v way kind) (λ v fits. fits.retired_fits.at way kind) all each in
    record {
      general = record {
        held = omega (arith, few, held General, ap (λ (b : BothTotals). b.general.held) so_far);
        surrendered = omega (
          arith,
          few,
          retired Surrendered General,
          ap (λ (b : BothTotals). b.general.surrendered) so_far,
        );
        deleted = omega (arith, few, retired Deleted General, ap (λ (b : BothTotals). b.general.deleted) so_far);
      };
      aviation = record {
        held = omega (arith, few, held Aviation, ap (λ (b : BothTotals). b.aviation.held) so_far);
        surrendered = omega (
          arith,
          few,
          retired Surrendered Aviation,
          ap (λ (b : BothTotals). b.aviation.surrendered) so_far,
        );
        deleted = omega (arith, few, retired Deleted Aviation, ap (λ (b : BothTotals). b.aviation.deleted) so_far);
      };
    }
