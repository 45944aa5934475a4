-- What accounts together hold, have surrendered and have deleted.
use Rattle.std.specs.Prelude.{◌+◌, ◌^◌, ◌<◌, List, sum_by}
use Rattle.reg_base.specs.declared.kinds.AllowanceKind.{AllowanceKind}
use Rattle.reg_base.specs.declared.kinds.AllowanceKind.TheVariants.{General, Aviation}
use Rattle.reg_base.specs.declared.kinds.Retirement.TheVariants.{Surrendered, Deleted}
use Rattle.reg_account.specs.Account.{AccountValue, held_by, retired_by}
use Rattle.reg_book.specs.declared.totals.Totals.{Totals}
use Rattle.reg_book.specs.declared.totals.BothTotals.{BothTotals}

-- the totals of one kind
abbrev pub totals_in : List AccountValue → AllowanceKind → Totals
totals_in accounts kind = record {
  held = sum_by (λ v. held_by v kind) accounts;
  surrendered = sum_by (λ v. retired_by v Surrendered kind) accounts;
  deleted = sum_by (λ v. retired_by v Deleted kind) accounts;
}

-- the totals of both kinds
abbrev pub totals_of : List AccountValue → BothTotals
totals_of accounts = record { general = totals_in accounts General; aviation = totals_in accounts Aviation }

-- those of one kind among both
abbrev pub totals_for : BothTotals → AllowanceKind → Totals
totals_for both General = both.general
totals_for both Aviation = both.aviation

-- those of two lists of accounts together
abbrev pub totals_added : Totals → Totals → Totals
totals_added one other = record {
  held = one.held + other.held;
  surrendered = one.surrendered + other.surrendered;
  deleted = one.deleted + other.deleted;
}

abbrev pub both_added : BothTotals → BothTotals → BothTotals
both_added one other = record {
  general = totals_added one.general other.general;
  aviation = totals_added one.aviation other.aviation;
}

-- each of these numbers has 128 bits
pub record TotalsFit (totals : Totals) : Type 0 where
  pub held : totals.held < 2 ^ 128
  pub surrendered : totals.surrendered < 2 ^ 128
  pub deleted : totals.deleted < 2 ^ 128

pub record BothTotalsFit (both : BothTotals) : Type 0 where
  pub general : TotalsFit both.general
  pub aviation : TotalsFit both.aviation
