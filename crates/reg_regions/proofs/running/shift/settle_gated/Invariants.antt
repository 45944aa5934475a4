use Rattle.std.proofs.Common.{◌≡◌, ℕ, ◌+◌, ◌++◌, ◌<◌, ◌≤◌, length, take, get_or}
use Rattle.reg_rules.specs.State.{numbers}
use Rattle.reg_rules.specs.Laws.{IsReady}
use Rattle.reg_regions.specs.Settling.{kept, places_in, IsRun}
use Rattle.reg_regions.proofs.running.shift.settle_gated.Given as goal

abbrev pub invariant-loop-index : goal.invariant-loop-index
invariant-loop-index g l =
    let setting = l.setting in
    record {
      run : IsRun setting l.batch l.initial.accounts l.accounts l.replies.items;
      placed : places_in l.replies.items ≡ take l.index l.places;
      ready : (j : ℕ) → l.index ≤ j → j < length l.places → IsReady (l.batch.base + get_or l.places j 0) l.accounts;
      same_numbers : numbers l.accounts ≡ numbers l.initial.accounts;
      worker : g.N.Notes.worker l.notes ≡ g.N.Notes.worker l.initial.notes;
      noted : g.N.Notes.places l.notes
          ≡ g.N.Notes.places l.initial.notes ++ kept g.N.Notes.keeps (places_in l.replies.items);
    }
