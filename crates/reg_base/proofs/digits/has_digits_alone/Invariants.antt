use Rattle.std.proofs.Common.{◌≡◌, drop}
use Rattle.std.specs.Str.{all_ascii_digits}
use Rattle.reg_base.proofs.digits.has_digits_alone.Given as goal

-- whether the bytes from here on are digits says it of all of them
abbrev pub invariant-loop-byte : goal.invariant-loop-byte
invariant-loop-byte l = all_ascii_digits (drop l.byte-index l.text) ≡ all_ascii_digits l.text
