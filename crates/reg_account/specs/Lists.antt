-- The lists of an account.
use Rattle.std.specs.Prelude.{List, []}
use Rattle.reg_account.specs.declared.corrections.Correction.{Correction}
use Rattle.reg_account.specs.declared.users.Representative.{Representative}
use Rattle.reg_account.specs.declared.trusted.TrustedEntry.{TrustedEntry}
use Rattle.reg_account.specs.declared.rows.RetirementRow.{RetirementRow}
use Rattle.reg_account.specs.declared.years.Emission.{Emission}
use Rattle.reg_account.specs.declared.years.Figure.{Figure}

-- the correction factors of later periods, the surrenders and deletions, the emissions and the determined figures as
-- plain data
pub record HistoryValue : Type 0 where
  pub corrections : List Correction
  pub rows : List RetirementRow
  pub emissions : List Emission
  pub figures : List Figure

-- none of them
abbrev pub no_history : HistoryValue
no_history = record { corrections = []; rows = []; emissions = []; figures = [] }

-- all lists as plain data
pub record ListsValue : Type 0 where
  pub corrections : List Correction
  pub users : List Representative
  pub trusted : List TrustedEntry
  pub rows : List RetirementRow
  pub emissions : List Emission
  pub figures : List Figure

-- no list has anything
abbrev pub no_lists : ListsValue
no_lists = record { corrections = []; users = []; trusted = []; rows = []; emissions = []; figures = [] }

-- the lists with this history
abbrev pub lists_made : List Representative → List TrustedEntry → HistoryValue → ListsValue
lists_made users trusted r = record {
  corrections = r.corrections;
  users = users;
  trusted = trusted;
  rows = r.rows;
  emissions = r.emissions;
  figures = r.figures;
}
