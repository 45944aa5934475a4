use Rattle.std.proofs.Common.{◌∙◌, ap, inr}
use Rattle.std.specs.Option.{is_some}
use Rattle.csv.specs.Machine.{ends_at_end}
use Rattle.csv.specs.Reading.{strip_bom}
use Rattle.reg_cuts.specs.Rows.{rest_of, rows_read}
use Rattle.csv.specs.declared.parser.State.TheVariants as st
use Rattle.reg_cuts.proofs.lemmas.RowsFacts.{rest-is}
use Rattle.reg_cuts.proofs.rows.start_rows.Goals as goal

pub returns-clause-between : goal.returns-clause-between
returns-clause-between c =
    let fr = c.from_reader.ensures in
    record {
      flexible = rw c.flexible.ensures at fr.flexible;
      trims_nothing = rw (c.flexible.ensures, c.has_headers.ensures) at fr.trim ∙ c.new.ensures.trim;
      ready = inr (inr (rw (c.flexible.ensures, c.has_headers.ensures) at fr.has_headers, fr.headers));
      plain = rw (c.flexible.ensures, c.has_headers.ensures) at fr.config ∙ c.new.ensures.config;
      known = ap is_some fr.source;
      between = ap ends_at_end fr.state;
    }

pub returns-clause-rows : goal.returns-clause-rows
returns-clause-rows c =
    let fr = c.from_reader.ensures in
    let bytes = rest-is c.from_reader.result (strip_bom c.args.text.now) fr.source in
    ap (λ s. rows_read s (rest_of c.from_reader.result)) fr.state ∙ ap (rows_read st.StartRecord) bytes
