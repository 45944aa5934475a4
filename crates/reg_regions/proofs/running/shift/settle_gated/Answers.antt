use Rattle.std.proofs.Common.{◌-◌, ◌<◌, ◌≤◌, ◌∷◌, ◌++◌, [], length, take, get_or, sym, ap}
use Rattle.std.proofs.Common.{subst, ◌∙◌, arith}
use Rattle.std.specs.Prelude.{All}
use Rattle.std.proofs.lemmas.List.{take_more, map-append}
use Rattle.std.proofs.lemmas.List.Elements.{All-weaker}
use Rattle.reg_rules.specs.State.{numbers}
use Rattle.reg_regions.specs.declared.instruction.Placed.{Placed}
use Rattle.reg_regions.specs.Settling.{kept, places_in}
use Rattle.reg_regions.proofs.AtHome.{rise-before, ready-next}
use Rattle.reg_regions.proofs.Keeping.{numbers-one}
use Rattle.reg_regions.proofs.CarryingOut.{run-more}
use Rattle.reg_regions.proofs.Tallied.{noted-more}
use Rattle.reg_regions.proofs.running.shift.settle_gated.Goals as goal

pub settle_noted-requires-clause-ready : goal.settle_noted-requires-clause-ready
settle_noted-requires-clause-ready g c = c.loop-index.invariant.ready c.loop-index.index (omega arith) (omega arith)

pub loop-index-preserved : goal.loop-index-preserved
loop-index-preserved g c =
    let setting = c.args.setting.now in
    let batch = c.args.batch.now in
    let before = c.loop-index.invariant in
    let k = c.loop-index.index in
    let places = c.args.places.now in
    let place = get_or places k 0 in
    let within : k < length places = omega arith in
    let one = (c.requires.home.each k within).from_one in
    let made = c.in_ok-reply.ensures.made in
    let grown = c.in_ok-push_reply.ensures in
    let lower : All (λ p. p ≤ place - 1) (take k places) =
    All-weaker (λ p. p < place) (λ p. p ≤ place - 1) (λ p lt. omega (arith, lt)) (take k places)
    (rise-before 0 places k c.requires.home.rising within) in
    record {
      run = run-more c.step_laws.ensures setting batch c.args.accounts.now c.loop-index.accounts
          c.settle_noted.new.accounts c.loop-index.replies.items c.push_reply.new.replies.items (place - 1) place
          c.in_ok-reply.reply before.same_numbers (omega (arith, one))
          (subst (All (λ p. p ≤ place - 1)) (sym before.placed) lower) before.run made grown;
      placed = ap places_in grown
          ∙ map-append (λ (p : Placed). p.place) c.loop-index.replies.items _
          ∙ ap (λ ps. ps ++ place ∷ []) before.placed
          ∙ sym (take_more places k 0 within);
      ready = ready-next batch.base places k c.settle_noted.new.accounts c.requires.home.rising within made.ready;
      same_numbers = ap numbers made.accounts
          ∙ numbers-one c.step_laws.ensures setting batch c.loop-index.accounts place ∙ before.same_numbers;
      worker = c.in_ok-reply.ensures.worker ∙ before.worker;
      noted = c.in_ok-reply.ensures.noted
          ∙ noted-more g.N.Notes.keeps (g.N.Notes.places c.args.notes.now) (places_in c.loop-index.replies.items)
          (place ∷ []) before.noted
          ∙ ap (λ ps. g.N.Notes.places c.args.notes.now ++ kept g.N.Notes.keeps ps)
          (sym (ap places_in grown ∙ map-append (λ (p : Placed). p.place) c.loop-index.replies.items _));
    }
