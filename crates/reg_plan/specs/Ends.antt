-- One end of an arrow, and how arrows in the order of that end are told apart by place.
use Rattle.std.specs.Prelude.{ℕ, ◌<◌, ◌≤◌, ◌==◌, List, filter}
use Rattle.std.specs.List.Sorted.{IsPartitionPoint}
use Rattle.reg_plan.specs.declared.arrow.Arrow.{Arrow}
use Rattle.reg_plan.specs.declared.index.End.{End}
use Rattle.reg_plan.specs.declared.index.End.TheVariants.{Head, Tail}

-- the place at this end
abbrev pub end_at : End → Arrow → ℕ
end_at Head arrow = arrow.to
end_at Tail arrow = arrow.from

-- the arrows that have this end at this place
abbrev pub with_end : End → List Arrow → ℕ → List Arrow
with_end end arrows place = filter (λ arrow. end_at end arrow == place) arrows

-- so many arrows have this end before the place, and no later arrow does
abbrev pub AreBefore : End → ℕ → List Arrow → ℕ → Type 0
AreBefore end place arrows count =
    IsPartitionPoint (λ arrow. end_at end arrow < place) (λ arrow. place ≤ end_at end arrow) arrows count
