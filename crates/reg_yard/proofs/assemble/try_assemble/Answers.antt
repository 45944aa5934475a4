use Rattle.std.proofs.Common.{◌≡◌, ◌<◌, ◌≤◌, length, ap, sym, arith, rules}
use Rattle.std.proofs.lemmas.List.{length-map}
use Rattle.reg_schedules.specs.Pool.{footprint_at}
use Rattle.reg_tasks.specs.Contexts.{the_day}
use Rattle.reg_tasks.specs.Parcels.{parcels_of}
use Rattle.reg_yard.specs.Held.{left_of}
use Rattle.reg_yard.proofs.Complete.{too-few, all-came}
use Rattle.reg_yard.proofs.assemble.try_assemble.Goals as goal

pub returns-then-len-awaited_accounts-clause-left : goal.returns-then-len-awaited_accounts-clause-left
returns-then-len-awaited_accounts-clause-left g c =
    let day = the_day c.args.context.now in
    let came = parcels_of c.args.parcels.items in
    let size : c.len.result ≡ length c.args.parcels.items = search rules in
    let same : length came ≡ length c.args.parcels.items = length-map c.args.parcels.items _ in
    let fewer : length came < length (footprint_at day c.args.place) =
    omega (arith, c.if-len-awaited_accounts.true, size, same, ap length c.awaited_accounts.ensures) in
    sym (ap (λ task. left_of (came, task)) (too-few day c.args.context.now.plan c.args.place came fewer))

pub of_unordered-task-requires-clause-needed : goal.of_unordered-task-requires-clause-needed
of_unordered-task-requires-clause-needed g c =
    let day = the_day c.args.context.now in
    let size : c.len.result ≡ length c.args.parcels.items = search rules in
    let all : length (footprint_at day c.args.place) ≤ length c.args.parcels.items =
    omega (arith, c.if-len-awaited_accounts.false, size, ap length c.awaited_accounts.ensures) in
    all-came day c.args.context.now.plan c.args.place c.args.parcels.items c.requires.few all
