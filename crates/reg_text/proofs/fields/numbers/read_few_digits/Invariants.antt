use Rattle.std.proofs.Common.{◌≡◌, ◌<◌, drop}
use Rattle.reg_text.specs.Numbers.{digits_from}
use Rattle.reg_text.proofs.NumberFacts.{power}
use Rattle.reg_text.proofs.fields.numbers.read_few_digits.Given as goal

-- what is read from here on is what the whole field reads as
abbrev pub invariant-loop-byte : goal.invariant-loop-byte
invariant-loop-byte l = record {
  so_far : digits_from l.value (drop l.byte-index l.field) ≡ digits_from 0 l.field;
  small : l.value < power l.byte-index;
}
