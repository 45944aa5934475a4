use Rattle.std.proofs.Common.{◌≡◌, ◌∙◌, length, map, rules, arith, sym, ap, subst}
use Rattle.std.specs.Prelude.{All, IsPermutation}
use Rattle.std.specs.List.{flat_map}
use Rattle.std.proofs.lemmas.List.{length-map}
use Rattle.std.proofs.lemmas.List.Sorted.{All-permutation, IsPermutation-map, IsPermutation-sym}
use Rattle.reg_base.specs.Rising.{count_up}
use Rattle.reg_facts.specs.Counting.{times}
use Rattle.reg_regions.specs.Dealing.{AreInPlaces}
use Rattle.reg_regions.specs.Lists.{joined_lists}
use Rattle.reg_regions.specs.Settling.{kept}
use Rattle.reg_regions.specs.Stealing.{IsNoted, IsSettledList, settled_places}
use Rattle.reg_regions.specs.declared.running.settled_list.SettledList.{SettledList}
use Rattle.reg_run.specs.declared.ran.Ran.{Ran}
use Rattle.reg_run.specs.Running.{WereRun, answers_of, numbers_ran}
use Rattle.reg_regions.proofs.Listed.{dealt-sizes, settled-once, places-once}
use Rattle.reg_regions.proofs.Placing.{times-count}
use Rattle.reg_regions.proofs.Tallied.{ended-times, ended-workers, places-same}
use Rattle.reg_regions.proofs.Worked.{forgotten, without-notes}
use Rattle.reg_regions.proofs.running.settle_by_workers.Goals as goal

pub run-requires-clause-numbers : goal.run-requires-clause-numbers
run-requires-clause-numbers g c κs within =
    let regions = c.in_ok-regions.regions.items in
    let sorted = c.heaviest_first.new.regions.items in
    let len : c.len-count.result ≡ c.args.lists.len = search rules in
    subst (λ ns. IsPermutation ns (map (λ r. r.number) sorted)) (c.in_ok-regions.ensures ∙ ap (count_up 1) (sym len))
    (IsPermutation-map (λ r. r.number) regions sorted c.heaviest_first.ensures)

pub make_regions-requires-clause-one_each : goal.make_regions-requires-clause-one_each
make_regions-requires-clause-one_each g c =
    let lists = c.args.lists.items in
    let openings = ap length c.requires.openings in
    let deals = ap length c.requires.deals in
    let many = length-map lists (λ l. l.items) in
    let same = c.requires.ground.as_many in
    omega (arith, openings, deals, many, same, c.args.lists.ok.0, c.args.deals.ok.0)

pub with_idle-requires-clause-busy : goal.with_idle-requires-clause-busy
with_idle-requires-clause-busy g c =
    let ran = c.in_ok-ended.ensures.ran in
    let promises = IsSettledList c.args.setting.now c.args.batch.now g.C.Cutting.openings g.C.Cutting.deals in
    ended-workers promises g.N.Notes.worker g.N.Notes.keeps g.N.Notes.places ran.began ran.ran
    c.in_ok-ended.ended.notes.items ran.ends ∙ ran.workers_are

pub returns : goal.returns
returns g c =
    let openings = g.C.Cutting.openings in
    let deals = g.C.Cutting.deals in
    let setting = c.args.setting.now in
    let batch = c.args.batch.now in
    let lists = c.args.lists.items in
    let ran = c.in_ok-ended.ensures.ran in
    let done = flat_map (λ r. r) ran.ran in
    let regions = c.in_ok-ended.ended.answers.items in
    let numbers = c.in_ok-ended.ensures.numbers in
    let is = λ (r : Ran SettledList). IsSettledList setting batch openings deals r.number r.answer in
    let count : c.len-count.result ≡ length openings =
    let same = ap length c.requires.openings in
    let many = length-map lists (λ l. l.items) in
    let size = c.args.lists.ok.0 in
    let len : c.len-count.result ≡ c.args.lists.len = search rules in
    omega (arith, same, many, size, len) in
    let same : numbers_ran regions ≡ count_up 1 (length openings) = numbers ∙ ap (count_up 1) count in
    let all : All is regions = c.in_ok-ended.ensures.promised in
    let done_all : All is done = All-permutation is regions done (IsPermutation-sym done regions ran.answered) all in
    let many = c.requires.ground.as_many in
    let each = c.requires.each_once in
    let keeps = g.N.Notes.keeps in
    let new = c.in_ok-lists.lists.items in
    let closed = c.in_ok-lists.ensures.lists in
    record {
      settled = settled-once setting batch openings deals regions same many all lists new c.requires.openings closed
          each c.in_ok-replies.replies.items c.in_ok-lists.told.items c.in_ok-lists.ensures.replies
          (subst (λ n. AreInPlaces n (joined_lists c.in_ok-lists.told.items) c.in_ok-replies.replies.items)
          c.len.ensures.value c.in_ok-replies.ensures);
      sizes = dealt-sizes setting batch openings deals regions same many all lists new c.requires.openings closed
          c.step_laws.ensures;
      notes = record {
        workers_are = c.in_ok-notes.ensures.workers;
        each_once = λ all_kept p. c.in_ok-notes.ensures.times p
            ∙ ended-times (IsSettledList setting batch openings deals) g.N.Notes.worker keeps g.N.Notes.places p
            ran.began ran.ran c.in_ok-ended.ended.notes.items ran.ends
            ∙ ap (λ b. times p (kept b (settled_places (answers_of done)))) all_kept
            ∙ places-same setting batch openings deals p done regions done_all all
            (λ q. ran.ran_once q ∙ sym (ap (times q) numbers ∙ times-count c.len-count.result q))
            ∙ places-once setting batch openings deals regions same many all lists new c.requires.openings closed
            each p;
      };
      worked = record {
        setting = setting;
        openings = openings;
        deals = deals;
        each_once = each;
        busy = c.busy_workers-busy.result;
        few = c.busy_workers-busy.ensures.few;
        answers = regions;
        notes = forgotten c.in_ok-ended.ended.notes.items;
        ran = subst (λ n. WereRun (IsSettledList setting batch openings deals) (λ _ _ _. Unit {0})
            c.busy_workers-busy.result n regions (forgotten c.in_ok-ended.ended.notes.items)) count
            (without-notes (IsSettledList setting batch openings deals)
            (IsNoted g.N.Notes.worker keeps g.N.Notes.places) c.busy_workers-busy.result c.len-count.result regions
            c.in_ok-ended.ended.notes.items ran);
      };
    }
