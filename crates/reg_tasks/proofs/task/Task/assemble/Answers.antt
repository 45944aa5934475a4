use Rattle.std.proofs.Common.{◌≡◌, ℕ, Bool, List, refl, ap, sym, ◌∙◌}
use Rattle.reg_plan.specs.declared.arrow.Arrow.{Arrow}
use Rattle.reg_plan.specs.Plans.{inward}
use Rattle.reg_book.specs.Day.{day_of}
use Rattle.reg_schedules.specs.Pool.{footprint_at}
use Rattle.reg_schedules.specs.Docks.{names_needed}
use Rattle.reg_tasks.specs.declared.naming.Naming.{Ghosts}
use Rattle.reg_tasks.specs.declared.parcel.Parcel.{Parcel}
use Rattle.reg_tasks.specs.Names.{has_names}
use Rattle.reg_tasks.specs.Parcels.{names_of, parcels_of}
use Rattle.reg_tasks.proofs.Assembled.{names-are, incomplete}
use Rattle.reg_tasks.proofs.task.Task.assemble.Goals as goal

-- what was tested of the parcels, the arrows and the accounts that were looked up
tested : {N : Type 0} {b : Ghosts N} (test : Bool) (ps qs : List (Parcel N b)) (ws vs : List Arrow) (ns ms : List ℕ)
    → test ≡ has_names (names_of ps) (names_needed ws ns) → ps ≡ qs → ws ≡ vs → ns ≡ ms
    → has_names (names_of qs) (names_needed vs ms) ≡ test
tested test ps qs ws vs ns ms is p w n =
    sym (is ∙ ap (λ xs. has_names (names_of xs) (names_needed ws ns)) p
    ∙ ap (λ xs. has_names (names_of qs) (names_needed xs ns)) w
    ∙ ap (λ xs. has_names (names_of qs) (names_needed vs xs)) n)

pub of_unordered-requires-clause-needed : goal.of_unordered-requires-clause-needed
of_unordered-requires-clause-needed g c =
    tested _ _ _ _ _ _ _ c.if-not-are_needed.ensures c.deref.ensures.value c.arrows_to-arrows.ensures
    c.touched_at-touched.ensures.value

pub returns-then-not-are_needed : goal.returns-then-not-are_needed
returns-then-not-are_needed g c =
    let day = day_of c.args.context.now.book.now c.args.context.now.rules.now c.args.context.now.batch.now in
    let plan = c.args.context.now.plan in
    let fits = tested _ _ _ _ _ _ _ c.if-not-are_needed.ensures c.deref.ensures.value c.arrows_to-arrows.ensures
    c.touched_at-touched.ensures.value in
    record {
      fits = fits;
      back = refl;
      complete = incomplete day plan c.args.place (parcels_of c.args.parcels.items)
          (ap (λ ns. has_names ns (names_needed (inward plan.arrows c.args.place) (footprint_at day c.args.place)))
          (names-are c.args.parcels.items) ∙ fits);
    }

pub returns : goal.returns
returns g c = record {
  fits = tested _ _ _ _ _ _ _ c.if-not-are_needed.ensures c.deref.ensures.value c.arrows_to-arrows.ensures
      c.touched_at-touched.ensures.value;
  task_is = c.of_unordered.ensures;
}
