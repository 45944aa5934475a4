-- A sentence for each check: why it refuses an instruction.
use Rattle.std.specs.Prelude.{ℕ, List, codes}
use Rattle.reg_base.specs.declared.refusals.Refusal.{Refusal}
use Rattle.reg_base.specs.declared.refusals.Refusal.TheVariants as check

abbrev pub refusal_sentence : Refusal → List ℕ
refusal_sentence check.UnknownAccount = codes "There is no account with a number that the instruction names."
refusal_sentence check.SameAccount = codes "The instruction names one account twice."
refusal_sentence check.WrongAccountKind = codes "The act does not exist for accounts of these kinds."
refusal_sentence check.SourceStatus =
    codes "The source account, or the account to be changed, does not have the status that the act needs."
refusal_sentence check.DestinationStatus = codes "An account that receives is closed."
refusal_sentence check.NotProposer = codes "The proposer may not propose this instruction."
refusal_sentence check.ApprovalMissing = codes "Nobody approved the instruction, and it needs an approval."
refusal_sentence check.SameRepresentative = codes "The approver is the proposer."
refusal_sentence check.NotApprover = codes "The approver may not approve this instruction."
refusal_sentence check.NotTrusted =
    codes "The source account does not trust the destination, and allows no transfers outside its list."
refusal_sentence check.OutsideCalendar =
    codes "The calendar has no day on which the instruction falls due, or none on which it takes effect."
refusal_sentence check.NotDue = codes "The due day is later than the settlement day."
refusal_sentence check.KindNotAllowed =
    codes "Allowances of this kind may not be surrendered from an account of this kind."
refusal_sentence check.ZeroAmount = codes "An amount is 0."
refusal_sentence check.UnknownTransaction = codes "The account has no surrender or deletion with this record number."
refusal_sentence check.AlreadyReversed = codes "The surrender or deletion was reversed before."
refusal_sentence check.WindowClosed = codes "The window for a reversal ended before the settlement day."
refusal_sentence check.NotEnough =
    codes "The source account holds fewer allowances of this kind than the instruction takes from it."
refusal_sentence check.HoldingTooLarge =
    codes "An account that receives would hold more allowances of this kind than its limit."
refusal_sentence check.RetiredTooLarge =
    codes "The account would have surrendered, or deleted, more allowances of this kind than its limit."
refusal_sentence check.RowsFull = codes "The account already has the most surrenders and deletions that it may have."
refusal_sentence check.WouldBecomeNonCompliant =
    codes "The latest compliance figure of the period of this surrender would fall below 0."
refusal_sentence check.AlreadyTrusted = codes "The account is on the trusted account list already."
refusal_sentence check.NotOnList = codes "The account is not on the trusted account list."
refusal_sentence check.ListFull = codes "The trusted account list already has the most entries that it may have."
refusal_sentence check.YearOutsidePeriod = codes "The year is in no period."
refusal_sentence check.AmountTooLarge = codes "The emissions are above their limit."
refusal_sentence check.EmissionsMissing =
    codes "The emissions of this year, or of an earlier year of its period, are missing."
