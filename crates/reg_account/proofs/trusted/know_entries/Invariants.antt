use Rattle.std.proofs.Common.{ℕ, ◌<◌, get_or}
use Rattle.reg_account.specs.declared.trusted.TrustedEntry.{TrustedEntry}
use Rattle.reg_account.specs.Trusted.{EntryIsInRange}
use Rattle.reg_account.proofs.trusted.know_entries.Given as goal

abbrev pub invariant-loop-entry : goal.invariant-loop-entry
invariant-loop-entry l = (k : ℕ) (d : TrustedEntry) → k < l.entry-index → EntryIsInRange (get_or l.entries k d)
