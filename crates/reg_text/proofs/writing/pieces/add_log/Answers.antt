use Rattle.std.proofs.Common.{◌++◌, sym, ap, subst, refl, ◌∙◌, ◌∷◌, ℕ, List, Result, Vec}
use Rattle.std.specs.Bool.{⊤}
use Rattle.std.specs.Global.{Global}
use Rattle.reg_base.specs.declared.directory.NoMemory.{NoMemory}
use Rattle.reg_rules.specs.declared.reply.Reply.{Reply}
use Rattle.reg_text.specs.Pieces.{IsLogOf, rows_after, text_of_pieces}
use Rattle.reg_text.proofs.EntryFacts.{log_text, log-texts, from-first}
use Rattle.reg_base.specs.Chunks.{UnlessOut}
use Rattle.reg_base.proofs.lemmas.Chunks.{ChunksOf, chunks-of}
use Rattle.reg_text.proofs.RunFacts.{IsSpelled, one-piece, all-pieces}
use Rattle.reg_text.proofs.writing.pieces.add_log.Goals as goal

pub loop-run-init : goal.loop-run-init
loop-run-init g c =
    let batch = c.args.batch.now in
    let all = c.args.replies.now in
    let size = c.run_size-size.result in
    let runs = c.in_ok-run-items.run-items in
    let left = chunks-of (UnlessOut (IsLogOf batch)) size runs.items all c.run_size-size.ensures
    (sym runs.ok.0 ∙ c.in_ok-run-items.ensures.len) c.in_ok-run-items.ensures.each in
    record {
      next = record {};
      ends = record {};
      spelled = record {
        first = 0;
        others = all;
        left = subst (ChunksOf (UnlessOut (IsLogOf batch)) 0 all size)
            (sym c.into_iter-run-iterator.ensures.into_iter_gives.0) left;
        holds = tt;
        all = refl;
      };
    }

pub loop-run-preserved : goal.loop-run-preserved
loop-run-preserved g c =
    let batch = c.args.batch.now in
    let whole = text_of_pieces c.args.pieces.now.items ++ log_text (rows_after batch 0 c.args.replies.now) in
    let size = c.run_size-size.result in
    let behind = c.next.new.self.rest.items in
    let items = c.in-Some.ensures.steps.0 ∙ ap (λ (r : Result (Vec ℕ Global) NoMemory). r ∷ behind) c.in_ok-run.was in
    let spelled : ℕ → List Reply → List ℕ = λ first replies. log_text (rows_after batch first replies) in
    let s = subst (IsSpelled (IsLogOf batch) spelled (λ (text : Vec ℕ Global). text)
    (λ (rest : List Reply). ⊤) whole size c.loop-run.pieces.items) items c.loop-run.invariant.spelled in
    record {
      next = record {};
      ends = record {};
      spelled = rw c.in_ok-push.ensures.items
          (one-piece (IsLogOf batch) spelled (λ (text : Vec ℕ Global). text) (log-texts batch)
          (λ (rest : List Reply). ⊤) (λ (rest : List Reply). ⊤) whole size c.loop-run.pieces.items
          c.in_ok-run.field-0 behind (λ first replies is holds. tt) s);
    }

pub returns : goal.returns
returns g c =
    let batch = c.args.batch.now in
    let before = text_of_pieces c.args.pieces.now.items in
    let spelled : ℕ → List Reply → List ℕ = λ first replies. log_text (rows_after batch first replies) in
    (all-pieces (IsLogOf batch) spelled (λ (text : Vec ℕ Global). text) (log-texts batch) (λ (rest : List Reply). ⊤)
    (before ++ log_text (rows_after batch 0 c.args.replies.now)) c.run_size-size.result
    c.loop-run.pieces.items c.loop-run.run-iterator.rest.items (sym c.loop-run.run-iterator.rest.ok.0
    ∙ c.in-None.ensures.steps.0) c.loop-run.invariant.spelled).0
    ∙ ap (λ rows. before ++ log_text rows) (from-first batch c.args.replies.now)
