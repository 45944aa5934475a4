use Rattle.std.proofs.Common.{sym, ap, ◌∙◌, length, ◌&&◌}
use Rattle.std.specs.List.{list_all, list_any}
use Rattle.std.proofs.lemmas.Bool.{eq-eqb, ne_eqb}
use Rattle.reg_schedules.specs.Docks.{names_needed, is_name}
use Rattle.reg_tasks.specs.Parcels.{names_of}
use Rattle.reg_tasks.proofs.Names.{names_test, names_size}
use Rattle.reg_tasks.proofs.needs.are_needed.Goals as goal

pub returns-then-parcels-accounts : goal.returns-then-parcels-accounts
returns-then-parcels-accounts g c =
    c.has_each.ensures
    ∙ sym (names_test c.args.arrows.now c.args.accounts.now (names_of c.args.parcels.now) (length c.args.parcels.now)
    (names_size c.args.parcels.now)
    ∙ ap (λ b. b && list_all (λ w. list_any (λ n. is_name n w) (names_of c.args.parcels.now))
    (names_needed c.args.arrows.now c.args.accounts.now))
    (eq-eqb (length c.args.parcels.now) (length c.args.accounts.now) c.if-parcels-accounts.true))

pub returns-else-parcels-accounts : goal.returns-else-parcels-accounts
returns-else-parcels-accounts g c = let t = c.if-parcels-accounts.false in
    ne_eqb (length c.args.parcels.now) (length c.args.accounts.now) t
    ∙ sym (names_test c.args.arrows.now c.args.accounts.now (names_of c.args.parcels.now) (length c.args.parcels.now)
    (names_size c.args.parcels.now)
    ∙ ap (λ b. b && list_all (λ w. list_any (λ n. is_name n w) (names_of c.args.parcels.now))
    (names_needed c.args.arrows.now c.args.accounts.now))
    (ne_eqb (length c.args.parcels.now) (length c.args.accounts.now) t))
