use Rattle.std.proofs.Common.{◌++◌, refl, sym, ap, subst, ◌∙◌, ◌∷◌, drop, Result}
use Rattle.reg_base.specs.declared.directory.NoMemory.{NoMemory}
use Rattle.reg_book.specs.declared.totals.BothTotals.{BothTotals}
use Rattle.reg_facts.specs.Lists.{joined_lists}
use Rattle.reg_book.proofs.lemmas.TotalFacts.{AddUpWith, add-none, added-all}
use Rattle.reg_text.specs.declared.writing.pieces.Blocks.{Blocks}
use Rattle.reg_text.specs.Pieces.{AreBlocksOfLists, text_of_pieces}
use Rattle.reg_text.proofs.BlockFacts.{blocks_text}
use Rattle.reg_text.proofs.ListBlocks.{lists-texts, add-run_of_lists, run-of_lists-has_space}
use Rattle.reg_base.specs.Chunks.{UnlessOut}
use Rattle.reg_base.proofs.lemmas.Chunks.{ChunksOf, chunks-of}
use Rattle.reg_text.proofs.RunFacts.{IsSpelled, one-piece, all-pieces}
use Rattle.reg_text.proofs.writing.report_pieces.add_lists.Goals as goal

pub loop-run-init : goal.loop-run-init
loop-run-init g c =
    let all = joined_lists c.args.lists.now in
    let lists = c.args.lists.now in
    let size = c.lists_of_run-size.result in
    let runs = c.in_ok-run-items.run-items in
    let left = chunks-of (UnlessOut AreBlocksOfLists) size runs.items lists c.lists_of_run-size.ensures
    (sym runs.ok.0 ∙ c.in_ok-run-items.ensures.len) c.in_ok-run-items.ensures.each in
    record {
      next = record {};
      ends = record {};
      spelled = record {
        first = 0;
        others = lists;
        left = subst (ChunksOf (UnlessOut AreBlocksOfLists) 0 lists size)
            (sym c.into_iter-run-iterator.ensures.into_iter_gives.0) left;
        holds = subst (λ (t : BothTotals). AddUpWith t all all) (sym c.none-totals.ensures) (add-none all);
        all = refl;
      };
    }

pub plus-totals-requires : goal.plus-totals-requires
plus-totals-requires g c =
    let all = joined_lists c.args.lists.now in
    let whole = text_of_pieces c.args.pieces.now.items ++ blocks_text all in
    let size = c.lists_of_run-size.result in
    let behind = c.next.new.self.rest.items in
    let items = c.in-Some.ensures.steps.0 ∙ ap (λ (r : Result Blocks NoMemory). r ∷ behind) c.in_ok-blocks.was in
    run-of_lists-has_space c.loop-run.totals c.in_ok-blocks.blocks all whole size c.loop-run.pieces.items behind
    c.requires.fit c.requires.few
    (subst (IsSpelled AreBlocksOfLists (λ first lists. blocks_text (joined_lists lists)) (λ (b : Blocks). b.text)
    (λ others. AddUpWith c.loop-run.totals all (joined_lists others)) whole size c.loop-run.pieces.items) items
    c.loop-run.invariant.spelled)

pub loop-run-preserved : goal.loop-run-preserved
loop-run-preserved g c =
    let all = joined_lists c.args.lists.now in
    let whole = text_of_pieces c.args.pieces.now.items ++ blocks_text all in
    let size = c.lists_of_run-size.result in
    let behind = c.next.new.self.rest.items in
    let blocks = c.in_ok-blocks.blocks in
    let items = c.in-Some.ensures.steps.0 ∙ ap (λ (r : Result Blocks NoMemory). r ∷ behind) c.in_ok-blocks.was in
    let s = subst (IsSpelled AreBlocksOfLists (λ first lists. blocks_text (joined_lists lists)) (λ (b : Blocks). b.text)
    (λ others. AddUpWith c.loop-run.totals all (joined_lists others)) whole size c.loop-run.pieces.items) items
    c.loop-run.invariant.spelled in
    let more = one-piece AreBlocksOfLists (λ first lists. blocks_text (joined_lists lists)) (λ (b : Blocks). b.text)
    lists-texts (λ others. AddUpWith c.loop-run.totals all (joined_lists others))
    (λ others. AddUpWith c.plus-totals.result all (joined_lists others)) whole size c.loop-run.pieces.items blocks
    behind
    (λ first others is so_far. subst (λ (t : BothTotals). AddUpWith t all (joined_lists (drop size others)))
    (sym c.plus-totals.ensures) (add-run_of_lists c.loop-run.totals blocks all size first others is so_far)) s in
    record { next = record {}; ends = record {}; spelled = rw c.in_ok-push.ensures.items more }

pub returns-clause-text : goal.returns-clause-text
returns-clause-text g c =
    let all = joined_lists c.args.lists.now in
    let before = text_of_pieces c.args.pieces.now.items in
    (all-pieces AreBlocksOfLists (λ first lists. blocks_text (joined_lists lists)) (λ (b : Blocks). b.text) lists-texts
    (λ others. AddUpWith c.loop-run.totals all (joined_lists others)) (before ++ blocks_text all)
    c.lists_of_run-size.result c.loop-run.pieces.items c.loop-run.run-iterator.rest.items
    (sym c.loop-run.run-iterator.rest.ok.0 ∙ c.in-None.ensures.steps.0) c.loop-run.invariant.spelled).0

pub returns-clause-totals : goal.returns-clause-totals
returns-clause-totals g c =
    let all = joined_lists c.args.lists.now in
    let before = text_of_pieces c.args.pieces.now.items in
    added-all c.loop-run.totals all
    (all-pieces AreBlocksOfLists (λ first lists. blocks_text (joined_lists lists)) (λ (b : Blocks). b.text) lists-texts
    (λ others. AddUpWith c.loop-run.totals all (joined_lists others)) (before ++ blocks_text all)
    c.lists_of_run-size.result c.loop-run.pieces.items c.loop-run.run-iterator.rest.items
    (sym c.loop-run.run-iterator.rest.ok.0 ∙ c.in-None.ensures.steps.0) c.loop-run.invariant.spelled).1
