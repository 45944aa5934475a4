-- The grammar of a day text: of each tag its word, its stage, what its row says, its fields, its order, and how many
-- there may be.
use Rattle.std.specs.Prelude.{[], ◌∷◌, ℕ, ℤ, Bool, true, false, not, is_ok, nat_le, ◌==◌, if◌then◌else◌, List, Option}
use Rattle.std.specs.Prelude.{Some, None, Result, codes}
use Rattle.reg_base.specs.declared.limits.TheConstants.{MOST_ADMINISTRATORS, MOST_INSTRUCTIONS, MOST_PERIODS, MOST_ROWS}
use Rattle.reg_base.specs.declared.limits.TheConstants.{MOST_TRUSTED, MOST_USERS}
use Rattle.reg_base.specs.declared.kinds.AccountKind.{AccountKind}
use Rattle.reg_base.specs.declared.kinds.AccountKind.TheVariants.{Aircraft}
use Rattle.reg_base.specs.declared.kinds.AllowanceKind.{AllowanceKind}
use Rattle.reg_base.specs.declared.kinds.AllowanceKind.TheVariants.{General, Aviation}
use Rattle.reg_base.specs.declared.kinds.Status.{Status}
use Rattle.reg_base.specs.declared.instruction.Instruction.{Instruction}
use Rattle.reg_base.specs.declared.kinds.Retirement.{Retirement}
use Rattle.reg_base.specs.declared.kinds.Retirement.TheVariants.{Surrendered, Deleted}
use Rattle.reg_account.specs.declared.corrections.Correction.{Correction}
use Rattle.reg_account.specs.declared.users.Representative.{Representative}
use Rattle.reg_account.specs.declared.trusted.TrustedEntry.{TrustedEntry}
use Rattle.reg_account.specs.declared.rows.RetirementRow.{RetirementRow}
use Rattle.reg_account.specs.declared.rows.Fate.{Fate}
use Rattle.reg_account.specs.declared.rows.Fate.TheVariants as fate
use Rattle.reg_account.specs.Rows.{retirement_of}
use Rattle.reg_account.specs.declared.years.Emission.{Emission}
use Rattle.reg_account.specs.declared.years.Figure.{Figure}
use Rattle.reg_text.specs.declared.cause.Cause.{Cause}
use Rattle.reg_text.specs.declared.cause.Cause.TheVariants as cause
use Rattle.reg_text.specs.declared.reading.tag.Tag.{Tag}
use Rattle.reg_text.specs.declared.reading.tag.Tag.TheVariants as tag
use Rattle.reg_text.specs.declared.reading.account_row.AccountHead.{AccountHead}
use Rattle.reg_text.specs.declared.reading.heading_rows.Lags.{Lags}
use Rattle.reg_text.specs.declared.reading.scope.Version.{Version}
use Rattle.reg_text.specs.declared.reading.scope.Scope.{Scope}
use Rattle.reg_text.specs.Scopes.{by_version, version_word, version_of, widest}
use Rattle.reg_text.specs.TextRows.{TextRow}
use Rattle.reg_text.specs.Words.{kind_of, account_kind_of, status_of}
use Rattle.reg_text.specs.Words.{right_of, retirement_named, yes_no_word, yes_no_of}
use Rattle.reg_base.specs.Words.{account_kind_name, allowance_kind_name, retirement_name, right_name, status_name}
use Rattle.reg_rules.specs.ActRules.{is_operator_kind}
use Rattle.reg_text.specs.FieldTests.{when}
use Rattle.reg_text.specs.Acts.{instruction_row}
use Rattle.reg_text.specs.Codecs.{Codec, Fields, a_no, a_record, a_next, a_year, a_lag, a_holding, an_amount}
use Rattle.reg_text.specs.Codecs.{some_tonnes, a_period, factor, later_factor, a_figure, a_date, a_word, none, last}
use Rattle.reg_text.specs.Codecs.{maybe, ◌▸◌, made, provided, Row, row_with}

-- ---- fields of one kind of row

-- the version of the format
abbrev pub a_version : Codec Version
a_version = record {
  spell = version_word;
  read = version_of;
  tests = λ f. when (not (is_ok (version_of f))) cause.Version ∷ [];
  Fits = λ v. Unit {0};
}

abbrev pub yes_or_no : Codec Bool
yes_or_no = a_word yes_no_word yes_no_of

-- ---- the rows with several fields

-- FIRST,LAST: the last is not before the first
abbrev pub period_fields : Fields (ℕ × ℕ)
period_fields = provided (λ p. nat_le p.0 p.1) cause.Order (a_year ▸ last a_year)

-- TRUSTED,OTHER,LIST,REVERSAL
abbrev pub lags_made : ℕ × (ℕ × (ℕ × ℕ)) → Lags
lags_made (trusted, (other, (list, reversal))) =
    record { trusted = trusted; other = other; list = list; reversal = reversal }

abbrev pub lags_fields : Fields Lags
lags_fields = made lags_made (λ v. (v.trusted, (v.other, (v.list, v.reversal))))
    (a_lag ▸ a_lag ▸ a_lag ▸ last a_lag)

-- ACCOUNTKIND,KIND: one of four pairs, and any other is a wrong word
abbrev pub pair_fields : Fields (AccountKind × AllowanceKind)
pair_fields = provided (λ p. is_operator_kind p.0) cause.Word
    (a_word account_kind_name account_kind_of ▸ last (a_word allowance_kind_name kind_of))

-- NO,KIND,HOLDER,STATUS,OUTSIDE,WAIVER,CORRECTION,GENERAL,AVIATION
abbrev pub head_made : ℕ × (AccountKind × (ℕ × (Status × (Bool × (Bool × (ℤ × (ℕ × ℕ))))))) → AccountHead
head_made (number, (kind, (holder, (status, (outside, (waiver, (correction, (general, aviation)))))))) = record {
  number = number;
  kind = kind;
  holder = holder;
  status = status;
  outside = outside;
  waiver = waiver;
  correction = correction;
  held = record { general = general; aviation = aviation };
}

abbrev pub account_fields : Fields AccountHead
account_fields = made head_made
    (λ a. (
      a.number,
      (
        a.kind,
        (a.holder, (a.status, (a.outside, (a.waiver, (a.correction, (a.held.general, a.held.aviation)))))),
      ),
    ))
    (a_no ▸ a_word account_kind_name account_kind_of ▸ a_no ▸ a_word status_name
    status_of ▸ yes_or_no ▸ yes_or_no ▸ factor ▸ a_holding ▸ last a_holding)

-- USER,RIGHT
abbrev pub user_fields : Fields Representative
user_fields = made (λ p. record { user = p.0; right = p.1 }) (λ u. (u.user, u.right))
    (a_no ▸ last (a_word right_name right_of))

-- NO,DATE
abbrev pub trusted_fields : Fields TrustedEntry
trusted_fields = made (λ p. record { account = p.0; effective = p.1 }) (λ t. (t.account, t.effective))
    (a_no ▸ last a_date)

-- PERIOD,FACTOR
abbrev pub correction_fields : ℕ → Fields Correction
correction_fields periods = made (λ p. record { period = p.0; factor = p.1 }) (λ c. (c.period, c.factor))
    (a_period 2 periods ▸ last later_factor)

-- what became of allowances, by the word and by the period, which is left out where it is the first
abbrev pub fate_said : Retirement → Option ℕ → Fate
fate_said Surrendered None = fate.Surrendered 1
fate_said Surrendered (Some period) = fate.Surrendered period
fate_said Deleted period = fate.Deleted

abbrev pub period_said : Fate → Option ℕ
period_said (fate.Surrendered period) = if period == 1 then None else Some period
period_said fate.Deleted = None

-- NUMBER,WHAT,KIND,AMOUNT,DATE,REVERSED and PERIOD or none
abbrev pub RetiredSaid : Type 0
RetiredSaid = ℕ × (Retirement × (AllowanceKind × (ℕ × (ℕ × (Bool × Option ℕ)))))

-- only a surrender names a period
abbrev pub may_name : Retirement → Option ℕ → Bool
may_name Deleted (Some period) = false
may_name what period = true

-- so not every word says a fate with every period
abbrev pub says_a_fate : RetiredSaid → Bool
says_a_fate (number, (what, (kind, (amount, (day, (reversed, period)))))) = may_name what period

abbrev pub retired_made : RetiredSaid → RetirementRow
retired_made (number, (what, (kind, (amount, (day, (reversed, period)))))) = record {
  number = number;
  fate = fate_said what period;
  kind = kind;
  amount = amount;
  day = day;
  reversed = reversed;
}

abbrev pub retired_parts : RetirementRow → RetiredSaid
retired_parts r = (r.number, (retirement_of r.fate, (r.kind, (r.amount, (r.day, (r.reversed, period_said r.fate))))))

-- the period is one after the first, and the first version has no such field
abbrev pub retired_period : Scope → Fields (Option ℕ)
retired_period scope = maybe (by_version false true scope.version) (a_period 2 scope.periods)

abbrev pub retired_said : Scope → Fields RetiredSaid
retired_said scope = provided says_a_fate cause.Limit
    (a_record ▸ a_word retirement_name retirement_named ▸ a_word allowance_kind_name
    kind_of ▸ an_amount ▸ a_date ▸ yes_or_no ▸ retired_period scope)

abbrev pub retired_fields : Scope → Fields RetirementRow
retired_fields scope = made retired_made retired_parts (retired_said scope)

-- YEAR,TONNES
abbrev pub emissions_fields : Fields Emission
emissions_fields = made (λ p. record { year = p.0; tonnes = p.1 }) (λ e. (e.year, e.tonnes)) (a_year ▸ last some_tonnes)

-- YEAR,FIGURE
abbrev pub figure_fields : Fields Figure
figure_fields = made (λ p. record { year = p.0; tonnes = p.1 }) (λ f. (f.year, f.tonnes)) (a_year ▸ last a_figure)

-- ---- the order of rows

-- the numbers with which a row begins and ends
pub record Key (X : Type 0) : Type 0 where
  pub begins : X → ℕ
  pub ends : X → ℕ

abbrev pub by : {X : Type 0} → (X → ℕ) → Option (Key X)
by number = Some (record { begins = number; ends = number })

abbrev pub by_years : Option (Key (ℕ × ℕ))
by_years = Some (record { begins = λ period. period.0; ends = λ period. period.1 })

-- the index of a pair among those that may be surrendered
abbrev pub pair_index : AccountKind × AllowanceKind → ℕ
pair_index (Aircraft, General) = 2
pair_index (Aircraft, Aviation) = 3
pair_index (kind, General) = 0
pair_index (kind, Aviation) = 1

-- the same stages in each version; no stages, since the last row stands at 100
abbrev pub between : ℕ → ℕ → Version → ℕ × ℕ
between from to version = (from, to)

abbrev pub nowhere : ℕ × ℕ
nowhere = (101, 0)

-- ---- all rows

-- a row kind: its word, its stage, between which stages the row before it stands in a version, what a row says, its
-- fields by what earlier rows decided, by what such rows rise, if they do, and how many there may be, if that is
-- limited
pub record RowKind : Type 1 where
  pub word : List ℕ
  pub stage : ℕ
  pub allowed : Version → ℕ × ℕ
  pub Says : Type 0
  pub fields : Scope → Row Says
  pub key : Option (Key Says)
  pub most : Option ℕ

-- the grammar, a record each; stages leave gaps for other tags, and 80 to 89 are those of an account's block, behind
-- whose last row another block may begin. How many accounts there may be is asked of the draft (`has_space`)
abbrev pub row_kind : Tag → RowKind
row_kind tag.Format = record {
  word = codes "format";
  stage = 10;
  allowed = between 0 0;
  Says = Version;
  fields = λ scope. row_with (last a_version);
  key = None;
  most = None;
}
row_kind tag.Day = record {
  word = codes "day";
  stage = 20;
  allowed = between 10 10;
  Says = ℕ × ℕ;
  fields = λ scope. row_with (a_date ▸ last a_next);
  key = None;
  most = None;
}
row_kind tag.Period = record {
  word = codes "period";
  stage = 30;
  allowed = by_version (20, 20) (20, 30);
  Says = ℕ × ℕ;
  fields = λ scope. row_with period_fields;
  key = by_years;
  most = Some MOST_PERIODS;
}
row_kind tag.Current = record {
  word = codes "current";
  stage = 35;
  allowed = by_version nowhere (30, 30);
  Says = ℕ;
  fields = λ scope. row_with (last (a_period 1 scope.periods));
  key = None;
  most = None;
}
row_kind tag.Lags = record {
  word = codes "lags";
  stage = 40;
  allowed = by_version (30, 30) (35, 35);
  Says = Lags;
  fields = λ scope. row_with lags_fields;
  key = None;
  most = None;
}
row_kind tag.Surrender = record {
  word = codes "surrender";
  stage = 50;
  allowed = between 40 50;
  Says = AccountKind × AllowanceKind;
  fields = λ scope. row_with pair_fields;
  key = by pair_index;
  most = None;
}
row_kind tag.Admin = record {
  word = codes "admin";
  stage = 60;
  allowed = between 40 60;
  Says = ℕ;
  fields = λ scope. row_with (last a_no);
  key = by (λ n. n);
  most = Some MOST_ADMINISTRATORS;
}
row_kind tag.Work = record {
  word = codes "work";
  stage = 70;
  allowed = between 40 70;
  Says = ℕ;
  fields = λ scope. row_with (last a_date);
  key = by (λ day. day);
  most = None;
}
row_kind tag.Account = record {
  word = codes "account";
  stage = 80;
  allowed = between 40 89;
  Says = AccountHead;
  fields = λ scope. row_with account_fields;
  key = by (λ h. h.number);
  most = None;
}
row_kind tag.Correction = record {
  word = codes "correction";
  stage = 81;
  allowed = by_version nowhere (80, 81);
  Says = Correction;
  fields = λ scope. row_with (correction_fields scope.periods);
  key = by (λ c. c.period);
  most = None;
}
row_kind tag.User = record {
  word = codes "user";
  stage = 82;
  allowed = between 80 82;
  Says = Representative;
  fields = λ scope. row_with user_fields;
  key = by (λ u. u.user);
  most = Some MOST_USERS;
}
row_kind tag.Trusted = record {
  word = codes "trusted";
  stage = 83;
  allowed = between 80 83;
  Says = TrustedEntry;
  fields = λ scope. row_with trusted_fields;
  key = by (λ t. t.account);
  most = Some MOST_TRUSTED;
}
row_kind tag.Retired = record {
  word = codes "retired";
  stage = 84;
  allowed = between 80 84;
  Says = RetirementRow;
  fields = λ scope. row_with (retired_fields scope);
  key = by (λ r. r.number);
  most = Some MOST_ROWS;
}
row_kind tag.Emissions = record {
  word = codes "emissions";
  stage = 85;
  allowed = between 80 85;
  Says = Emission;
  fields = λ scope. row_with emissions_fields;
  key = by (λ e. e.year);
  most = None;
}
row_kind tag.Figure = record {
  word = codes "figure";
  stage = 86;
  allowed = between 80 86;
  Says = Figure;
  fields = λ scope. row_with figure_fields;
  key = by (λ f. f.year);
  most = None;
}
row_kind tag.Do = record {
  word = codes "do";
  stage = 90;
  allowed = between 40 90;
  Says = Instruction;
  fields = λ scope. instruction_row;
  key = None;
  most = Some MOST_INSTRUCTIONS;
}
row_kind tag.End = record {
  word = codes "end";
  stage = 100;
  allowed = between 40 90;
  Says = Unit {0};
  fields = λ scope. row_with none;
  key = None;
  most = None;
}

-- what a row with a tag says
abbrev pub Said : Tag → Type 0
Said t = (row_kind t).Says

-- its fields, by what earlier rows decided
abbrev pub row : Scope → (t : Tag) → Row (Said t)
row scope t = (row_kind t).fields scope

-- its word
abbrev pub tag_word : Tag → List ℕ
tag_word t = (row_kind t).word

-- the row that says this, whatever earlier rows decided
abbrev pub row_text : (t : Tag) → Said t → TextRow
row_text t x = tag_word t ∷ (row widest t).spell x

-- what the fields of a row with this tag say
abbrev pub row_read : Scope → (t : Tag) → TextRow → Result (Said t) Cause
row_read scope t r = (row scope t).read r
