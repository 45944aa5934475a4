-- How many workers may settle a day.
use Rattle.std.specs.Prelude.{ℕ, Bool, nat_le, ◌&&◌}

-- this number of workers is within its limits. The number stands here, so that a wrong constant in the code is refused
abbrev pub may_work : ℕ → Bool
may_work workers = nat_le 1 workers && nat_le workers 8
