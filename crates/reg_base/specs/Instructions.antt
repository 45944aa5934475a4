-- What holds of every instruction: each number in it is within its range.
use Rattle.std.specs.Prelude.{◌<◌, ◌^◌, All, IfSome}
use Rattle.reg_base.specs.declared.instruction.Instruction.{Instruction}
use Rattle.reg_base.specs.Numbers.{IsAccountNo, IsUserNo, IsRecordNo, IsDayNo, IsYearNo}
use Rattle.reg_base.specs.Acts.{amounts, tonnes, reversed_records, years, parties, others}

pub record IsInstruction (i : Instruction) : Type 0 where
  pub proposal_day : IsDayNo i.proposed
  pub proposing_user : IsUserNo i.proposer
  pub approving_user : IfSome i.approver IsUserNo
  pub each_account : All IsAccountNo (parties i.act)
  pub each_other : All IsAccountNo (others i.act)
  pub each_amount : All (λ n. n < 2 ^ 64) (amounts i.act)
  pub each_emission : All (λ n. n < 2 ^ 64) (tonnes i.act)
  pub each_record : All IsRecordNo (reversed_records i.act)
  pub each_year : All IsYearNo (years i.act)
