use Rattle.std.proofs.Common.{◌≡◌, ◌∙◌, [], ◌∷◌, rules}
use Rattle.reg_text.proofs.Names.{draft_of, fields_of, rows_left}
use Rattle.reg_text.proofs.DraftSteps.{grows}
use Rattle.reg_text.proofs.PartFacts.{found-one, one-taken}
use Rattle.reg_text.proofs.reading.part.take_heading.Goals as goal

pub rows-preserved : goal.rows-preserved
rows-preserved c =
    let row = fields_of c.next_row.new.row in
    let before = rows_left c.rows.reader in
    let behind = rows_left c.next_row.new.reader in
    let found : before ≡ row ∷ behind = found-one c.next_row.result c.in_ok-ok.field-0 (before ≡ row ∷ behind)
    (before ≡ []) c.in_ok-ok.ensures.value c.if-branch.true c.next_row.ensures.rows in
    record {
      ready = search rules;
      fits = (grows (draft_of c.rows.draft) (draft_of c.take_row.new.draft) row c.rows.invariant.fits
          c.in-Ok.ensures).draft;
      so_far = one-taken (draft_of c.rows.draft) (draft_of c.take_row.new.draft) row before behind found c.in-Ok.ensures
          ∙ c.rows.invariant.so_far;
    }
