use Rattle.std.proofs.Common.{◌≡◌, refl, sym, subst}
use Rattle.std.specs.Prelude.{All}
use Rattle.std.proofs.lemmas.List.Elements.{All-push, All-nil}
use Rattle.reg_run.specs.declared.ran.Ran.{Ran}
use Rattle.reg_run.specs.Running.{answers_of}
use Rattle.reg_run.specs.Taking.{TakesTasks, known_by}
use Rattle.reg_run.proofs.Takings.{takes-more}
use Rattle.reg_run.proofs.worker.work.Goals as goal

pub loop-turn-init : goal.loop-turn-init
loop-turn-init g c =
    let k = known_by c.args.worker.taker in
    let none = sym c.begin-busy.ensures.none in
    let own = λ (r : Ran g.row.A.Denot). r.worker ≡ c.worker-number.result in
    let promised = λ (r : Ran g.row.A.Denot). g.D.Do.promises c.args.doing.now r.number r.answer in
    record {
      own = subst (All own) none (All-nil own);
      promised = subst (All promised) none (All-nil promised);
      noted = subst (λ rs. g.D.Do.noted c.worker-number.result (answers_of rs) c.begin-busy.result.notes) none
          c.begin-busy.ensures.noted;
      taken = subst (λ rs. TakesTasks k rs k) none refl;
    }

pub loop-turn-preserved : goal.loop-turn-preserved
loop-turn-preserved g c =
    let i = c.loop-turn.invariant in
    let k = known_by c.args.worker.taker in
    let before = c.loop-turn.busy.ran.items in
    let after = known_by c.take.new.self in
    let one = c.in_ok-busy.ensures.ran in
    let own = λ (r : Ran g.row.A.Denot). r.worker ≡ c.worker-number.result in
    let promised = λ (r : Ran g.row.A.Denot). g.D.Do.promises c.args.doing.now r.number r.answer in
    let taken = c.in-Some.taken in
    let last : Ran g.row.A.Denot = record {
      number = g.T.Numbered.number taken.task;
      worker = c.worker-number.result;
      stolen = taken.stolen;
      answer = one.answer;
    } in
    record {
      own = subst (All own) (sym one.more) (All-push own before last i.own refl);
      promised = subst (All promised) (sym one.more) (All-push promised before last i.promised one.promised);
      noted = c.in_ok-busy.ensures.noted i.noted;
      taken = subst (λ rs. TakesTasks k rs after) (sym one.more)
          (takes-more k before (known_by c.loop-turn.taker) last after i.taken c.in-Some.ensures.some);
    }

pub returns : goal.returns
returns g c =
    let i = c.loop-turn.invariant in
    record {
      took = record { after = known_by c.loop-turn.taker; taken = i.taken };
      own = subst (λ n. All (λ (r : Ran g.row.A.Denot). r.worker ≡ n) c.loop-turn.busy.ran.items)
          c.worker-number.ensures i.own;
      promised = i.promised;
      noted = subst (λ n. g.D.Do.noted n (answers_of c.loop-turn.busy.ran.items) c.loop-turn.busy.notes)
          c.worker-number.ensures i.noted;
    }
