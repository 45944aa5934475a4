use Rattle.std.proofs.Common.{◌≡◌, ◌*◌, ◌≤◌, take}
use Rattle.std.specs.Prelude.{sum_by}
use Rattle.reg_base.specs.declared.kinds.AllowanceKind.TheVariants.{General, Aviation}
use Rattle.reg_base.specs.declared.kinds.Retirement.TheVariants.{Surrendered, Deleted}
use Rattle.reg_account.specs.Account.{held_by, retired_by}
use Rattle.reg_book.proofs.totals.add_up.Given as goal

abbrev pub invariant-loop-account : goal.invariant-loop-account
invariant-loop-account l = record {
  general_held : l.general_held ≡ sum_by (λ v. held_by v General) (take l.account-index l.accounts);
  general_surrendered : l.general_surrendered
      ≡ sum_by (λ v. retired_by v Surrendered General) (take l.account-index l.accounts);
  general_deleted : l.general_deleted ≡ sum_by (λ v. retired_by v Deleted General) (take l.account-index l.accounts);
  aviation_held : l.aviation_held ≡ sum_by (λ v. held_by v Aviation) (take l.account-index l.accounts);
  aviation_surrendered : l.aviation_surrendered
      ≡ sum_by (λ v. retired_by v Surrendered Aviation) (take l.account-index l.accounts);
  aviation_deleted : l.aviation_deleted ≡ sum_by (λ v. retired_by v Deleted Aviation) (take l.account-index l.accounts);
  bound_general_held : l.general_held ≤ 1_000_000_000_000_000 * l.account-index;
  bound_general_surrendered : l.general_surrendered ≤ 1_000_000_000_000_000 * l.account-index;
  bound_general_deleted : l.general_deleted ≤ 1_000_000_000_000_000 * l.account-index;
  bound_aviation_held : l.aviation_held ≤ 1_000_000_000_000_000 * l.account-index;
  bound_aviation_surrendered : l.aviation_surrendered ≤ 1_000_000_000_000_000 * l.account-index;
  bound_aviation_deleted : l.aviation_deleted ≤ 1_000_000_000_000_000 * l.account-index;
}
