use Rattle.std.proofs.Common.{length}
use Rattle.reg_text.proofs.writing.log.+put_shares.Given as goal

abbrev pub decreases-put_shares : goal.decreases-put_shares
decreases-put_shares l = length l.shares.now
