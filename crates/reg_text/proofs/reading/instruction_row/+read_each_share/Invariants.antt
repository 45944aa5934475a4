use Rattle.std.proofs.Common.{length}
use Rattle.reg_text.proofs.reading.instruction_row.+read_each_share.Given as goal

abbrev pub decreases-read_each_share : goal.decreases-read_each_share
decreases-read_each_share l = length l.shares.now
