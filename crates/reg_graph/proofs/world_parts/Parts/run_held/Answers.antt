use Rattle.std.proofs.Common.{◌≡◌, ◌+◌, ◌-◌, ◌≤◌, ◌++◌, not, length, map, Some, None, Ok, Err, vec_len, vec_capacity}
use Rattle.std.proofs.Common.{sym, ap, ◌∙◌, rules, arith}
use Rattle.std.specs.Prelude.{slice_set, filter}
use Rattle.std.specs.Option.{option_map_or}
use Rattle.std.proofs.lemmas.List.{map-set}
use Rattle.reg_book.specs.Day.{day_of}
use Rattle.reg_rules.specs.State.{State}
use Rattle.reg_schedules.specs.Pool.{leads_on, run_at}
use Rattle.reg_graph.specs.declared.hand.Hand.TheVariants as hand
use Rattle.reg_schedules.specs.World.{Holds, Carries, with_place, left_by, goes_on, after_run}
use Rattle.reg_schedules.specs.declared.event.EventFault.TheVariants.{NothingToRun}
use Rattle.reg_tasks.specs.Parcels.{values_of}
use Rattle.reg_tasks.specs.Parcels.{parcels_of}
use Rattle.reg_tasks.specs.Tasks.{task_of}
use Rattle.reg_graph.specs.WorldParts.{hand_of, world_of}
use Rattle.reg_tasks.proofs.lemmas.Values.{values-are, same-parcels}
use Rattle.reg_graph.proofs.PartFacts.{those-on, those-closing, placed}
use Rattle.reg_graph.proofs.DockRoom.{as-many}
use Rattle.reg_graph.proofs.world_parts.Parts.run_held.Goals as goal

pub returns-in_default-clause-back : goal.returns-in_default-clause-back
returns-in_default-clause-back g c = ap (λ hs. record (world_of c.args.self.now) { hands = hs })
    (map-set hand_of c.args.self.now.hands.items c.args.worker (hand.Holds c.args.task))

pub returns-then-is_err-clause-back : goal.returns-then-is_err-clause-back
returns-then-is_err-clause-back g c =
    ap (λ hs. record (world_of c.args.self.now) { hands = hs; closing = c.reserve.new.self.items })
    (map-set hand_of c.args.self.now.hands.items c.args.worker (hand.Holds c.args.task))
    ∙ ap (λ cs. record (world_of c.args.self.now) {
      hands = slice_set (world_of c.args.self.now).hands c.args.worker (Holds (task_of c.args.task));
      closing = cs;
    }) c.reserve.ensures.items

pub returns-in-Err-clause-back : goal.returns-in-Err-clause-back
returns-in-Err-clause-back g c =
    let back = c.in-Err.ensures.back in
    let parcels = same-parcels c.in-Err.task.parcels.items c.args.task.parcels.items back.1 back.2 in
    ap (λ hs. record (world_of c.args.self.now) { hands = hs; closing = c.reserve.new.self.items })
    (map-set hand_of c.args.self.now.hands.items c.args.worker (hand.Holds c.in-Err.task))
    ∙ ap (λ cs. record (world_of c.args.self.now) {
      hands = slice_set (world_of c.args.self.now).hands c.args.worker (Holds (task_of c.in-Err.task));
      closing = cs;
    }) c.reserve.ensures.items
    ∙ ap (λ t. record (world_of c.args.self.now) {
      hands = slice_set (world_of c.args.self.now).hands c.args.worker
          (Holds (record { place = t; parcels = parcels_of c.in-Err.task.parcels.items }));
    }) back.0
    ∙ ap (λ ps. record (world_of c.args.self.now) {
      hands = slice_set (world_of c.args.self.now).hands c.args.worker
          (Holds (record { place = c.args.task.place; parcels = ps }));
    }) parcels

pub returns-in-Ok-run-clause-ok : goal.returns-in-Ok-run-clause-ok
returns-in-Ok-run-clause-ok g c =
    let p = c.args.self.now in
    let w = world_of p in
    let k = c.args.worker in
    let t = c.args.task.place in
    let plan = c.args.context.now.plan in
    let day = day_of c.args.context.now.book.now c.args.context.now.rules.now c.args.context.now.batch.now in
    let vs : State = values_of c.in-Ok-run.outcome.parcels.items in
    let came = c.into_parts-row.result.2.items in
    let row = c.into_parts-row.result.1 in
    let place = c.place-place.result in
    let place_is : place ≡ t = c.place-place.ensures ∙ c.into_parts-row.ensures.ran ∙ c.in-Ok-run.ensures.place in
    let left : parcels_of came ≡ left_by t vs =
    ap parcels_of c.into_parts-row.ensures.parcels.0 ∙ c.in-Ok-run.ensures.left in
    let run : run_at day t (map (λ p. p.value) (parcels_of c.args.task.parcels.items))
    ≡ Some (vs, c.in-Ok-run.outcome.row) =
    ap (run_at day t) (values-are c.args.task.parcels.items) ∙ c.in-Ok-run.ensures.made in
    let kept : filter (goes_on plan) (left_by t vs) ≡ parcels_of c.keep_leading-kept.result.items
    = those-on plan t vs ∙ ap (filter (λ p. leads_on plan t p.value.number)) (sym left)
    ∙ ap (λ q. filter (λ p. leads_on plan q p.value.number) (parcels_of came)) (sym place_is)
    ∙ sym c.keep_leading-kept.ensures.kept in
    let others : filter (λ p. not (goes_on plan p)) (left_by t vs)
    ≡ filter (λ p. not (leads_on plan place p.value.number)) (parcels_of came)
    = those-closing plan t vs ∙ ap (filter (λ p. not (leads_on plan t p.value.number))) (sym left)
    ∙ ap (λ q. filter (λ p. not (leads_on plan q p.value.number)) (parcels_of came)) (sym place_is) in
    let hands : slice_set w.hands k (Carries None (filter (goes_on plan) (left_by t vs)))
    ≡ map hand_of (slice_set p.hands.items k (hand.Carries None c.keep_leading-kept.result))
    = ap (λ ps. slice_set w.hands k (Carries None ps)) kept
    ∙ sym (map-set hand_of p.hands.items k (hand.Carries None c.keep_leading-kept.result)) in
    let rows : with_place w.rows t (Some c.in-Ok-run.outcome.row) ≡ slice_set p.rows.items (place - 1) (Some row)
    = ap (λ r. with_place w.rows t (Some r)) (sym c.into_parts-row.ensures.row.0)
    ∙ placed w.rows t (Some row) c.requires.place.0
    ∙ ap (λ q. slice_set p.rows.items (q - 1) (Some row)) (sym place_is) in
    let closing : w.closing ++ map (λ p. p.value) (filter (λ p. not (goes_on plan p)) (left_by t vs))
    ≡ c.keep_leading-kept.new.closing.items
    = ap (λ ps. w.closing ++ map (λ p. p.value) ps) others
    ∙ ap (λ cs. cs ++ map (λ p. p.value) (filter (λ p. not (leads_on plan place p.value.number)) (parcels_of came)))
    (sym c.reserve.ensures.items) ∙ sym c.keep_leading-kept.ensures.closing in
    ap (λ o. option_map_or (λ made. Ok (after_run plan k w t made)) o (Err NothingToRun)) run
    ∙ ap (λ hs. Ok (record w {
      hands = hs;
      rows = with_place w.rows t (Some c.in-Ok-run.outcome.row);
      closing = w.closing ++ map (λ p. p.value) (filter (λ p. not (goes_on plan p)) (left_by t vs));
    })) hands
    ∙ ap (λ rs. Ok (record w {
      hands = map hand_of (slice_set p.hands.items k (hand.Carries None c.keep_leading-kept.result));
      rows = rs;
      closing = w.closing ++ map (λ p. p.value) (filter (λ p. not (goes_on plan p)) (left_by t vs));
    }))
    rows
    ∙ ap (λ cs. Ok (record w {
      hands = map hand_of (slice_set p.hands.items k (hand.Carries None c.keep_leading-kept.result));
      rows = slice_set p.rows.items (place - 1) (Some row);
      closing = cs;
    })) closing

pub keep_leading-kept-requires-clause-fits : goal.keep_leading-kept-requires-clause-fits
keep_leading-kept-requires-clause-fits g c =
    let day = day_of c.args.context.now.book.now c.args.context.now.rules.now c.args.context.now.batch.now in
    let many = as-many day c.args.task.place c.args.task.parcels.items c.in-Ok-run.outcome.parcels.items
    c.in-Ok-run.outcome.row c.in-Ok-run.ensures.made in
    omega (
      arith,
      many,
      ap length c.into_parts-row.ensures.parcels.0,
      c.parcel_count-count.ensures,
      c.in-Ok.ensures.exact,
    )

pub keep_leading-kept-requires-clause-room : goal.keep_leading-kept-requires-clause-room
keep_leading-kept-requires-clause-room g c =
    let day = day_of c.args.context.now.book.now c.args.context.now.rules.now c.args.context.now.batch.now in
    let many = as-many day c.args.task.place c.args.task.parcels.items c.in-Ok-run.outcome.parcels.items
    c.in-Ok-run.outcome.row c.in-Ok-run.ensures.made in
    let room : vec_len c.reserve.new.self + c.parcel_count-count.result ≤ vec_capacity c.reserve.new.self =
    search rules in
    omega (arith, many, ap length c.into_parts-row.ensures.parcels.0, c.parcel_count-count.ensures, room)
