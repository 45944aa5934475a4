use Rattle.std.proofs.Common.{◌≡◌, ◌++◌, length, rules, ◌∙◌}
use Rattle.reg_plan.specs.Touched.{moved_by}
use Rattle.reg_plan.proofs.Flat.{flat_both, parts_are, parts_flat}
use Rattle.reg_plan.proofs.touched.Touched.append.Goals as goal

pub invariant_of-result : goal.invariant_of-result
invariant_of-result c =
    let mine = c.self.inside in
    let theirs = c.more.inside in
    let flat : c.append.new.self.items ≡ mine.accounts.items ++ theirs.accounts.items = search rules in
    let ends : c.push_moved.new.ends.items
    ≡ mine.ends.items ++ moved_by (length mine.accounts.items) theirs.ends.items = search rules in
    parts_flat _ c.append.new.self.items c.push_moved.new.ends.items
    (flat_both _ _ mine.accounts.items mine.ends.items theirs.accounts.items theirs.ends.items c.append.new.self.items
    c.push_moved.new.ends.items c.self.invariant c.more.invariant flat ends)

pub returns : goal.returns
returns c =
    let mine = c.self.inside in
    let theirs = c.more.inside in
    let flat : c.append.new.self.items ≡ mine.accounts.items ++ theirs.accounts.items = search rules in
    let ends : c.push_moved.new.ends.items
    ≡ mine.ends.items ++ moved_by (length mine.accounts.items) theirs.ends.items = search rules in
    parts_are _ c.append.new.self.items c.push_moved.new.ends.items
    (flat_both _ _ mine.accounts.items mine.ends.items theirs.accounts.items theirs.ends.items c.append.new.self.items
    c.push_moved.new.ends.items c.self.invariant c.more.invariant flat ends)
    ∙ (λ i. c.self.view_is i ++ c.more.view_is i)
