use Rattle.std.proofs.Common.{◌≡◌, ℕ, zero, suc, ◌<◌, true, eqb, List, [], ◌∷◌, length, get_or, arith, sym, ap, ◌∙◌}
use Rattle.std.proofs.lemmas.Bool.{eq-eqb, or_left, or_right}
use Rattle.reg_base.specs.Footprint.{is_among}
use Rattle.reg_book.specs.Day.{day_of}
use Rattle.reg_schedules.specs.Pool.{directory, footprint_at}
use Rattle.reg_schedules.proofs.lemmas.Known.{footprint_touches}
use Rattle.reg_schedules.proofs.lemmas.Tails.{touched_from}
use Rattle.reg_graph.proofs.docks.open_dock.Goals as goal

among-at : (ns : List ℕ) (k a : ℕ) → k < length ns → a ≡ get_or ns k a → is_among ns a ≡ true
among-at [] k a lt e = absurd (omega (arith, lt))
among-at (n ∷ ns) zero a lt e = or_left (eqb n a) (is_among ns a) (eq-eqb n a (sym e))
among-at (n ∷ ns) (suc k) a lt e = or_right (eqb n a) (is_among ns a) (among-at ns k a (omega (arith, lt)) e)

pub opening-requires : goal.opening-requires
opening-requires g c =
    let day = day_of c.args.context.now.book.now c.args.context.now.rules.now c.args.context.now.batch.now in
    let a = c.account-item.result in
    let there = among-at c.touched_at-accounts.result.now c.loop-account.account-index a c.loop-account-test.true
    c.account-item.is in
    let own : is_among (footprint_at day c.args.place) a ≡ true =
    ap (λ ns. is_among ns a) (sym c.touched_at-accounts.ensures.value) ∙ there in
    record {
      touched = touched_from (directory day) day.batch.instructions a c.args.place
          (sym (footprint_touches day c.args.place a) ∙ own);
    }

pub returns-clause-room : goal.returns-clause-room
returns-clause-room g c = c.loop-account.invariant.room ∙ ap length c.touched_at-accounts.ensures.value
