-- The names of definitions that several proofs cite, passed on from one place. Declares nothing.
pub use Rattle.reg_base.specs.declared.kinds.AllowanceKind.{AllowanceKind}
pub use Rattle.reg_base.specs.declared.kinds.AllowanceKind.TheVariants.{Aviation, General}
pub use Rattle.reg_account.specs.Account.{AccountValue, CorrectionFits, IsAccount}
pub use Rattle.reg_account.specs.Lists.{ListsValue, no_lists}
pub use Rattle.reg_account.specs.Users.{UserIsInRange}
pub use Rattle.reg_account.specs.Trusted.{EntryIsInRange}
pub use Rattle.reg_account.specs.Rows.{AreBelow, RetiredFits, amount_in, retired_in, row_numbers}
pub use Rattle.reg_account.specs.Years.{FigureFits}
pub use Rattle.reg_account.specs.declared.rows.RetirementRow.{RetirementRow}
pub use Rattle.reg_account.specs.declared.rows.Fate.{Fate}
pub use Rattle.reg_account.specs.declared.corrections.Correction.{Correction}
pub use Rattle.reg_base.specs.declared.kinds.Retirement.{Retirement}
pub use Rattle.reg_base.specs.declared.kinds.Retirement.TheVariants.{Deleted, Surrendered}
pub use Rattle.reg_account.specs.declared.years.Figure.{Figure}
pub use Rattle.reg_rules.specs.Effect.{IsBehind}
pub use Rattle.reg_rules.specs.declared.reply.LogRow.{LogRow}
pub use Rattle.reg_book.specs.Book.{BookValue, first_fault, has_row_ahead, total_held, total_retired}
pub use Rattle.reg_text.specs.TextRows.{TextRow, field}
pub use Rattle.reg_text.specs.Sections.{AreAtMost, FateIsOf, Fits, IsOfPeriods, IsOrdered, IsSection, Item, Section}
pub use Rattle.reg_text.specs.Sections.{account_block, account_with, all_rows, each_row, follows, account_head}
pub use Rattle.reg_text.specs.Sections.{is_space, item_rows, key, list_items, lists_of, most, section_rows}
pub use Rattle.reg_text.specs.Spelling.{book_rows, closing_sections, day_sections, current_rows, day_text, end_row}
pub use Rattle.reg_text.specs.Spelling.{heading, instruction_fields, lags_in}
pub use Rattle.reg_text.specs.Log.{answer_fields, closing_fields, figure_field, holding_fields, log_row}
pub use Rattle.reg_text.specs.Report.{log_rows, report_rows, text_of, totals_row, written_book}
pub use Rattle.csv.specs.Writing.{default_writer}
unfoldable pub use Rattle.csv.specs.Writing.{fields_text, is_blank}
pub use Rattle.reg_text.specs.Numbers.{digits_from, number, value_after}
pub use Rattle.reg_base.specs.Digits.{starts_well}
unfoldable pub use Rattle.reg_text.specs.Numbers.{plain_number_of}
pub use Rattle.reg_text.specs.Dates.{date_text, day_in, is_civil, is_date_text, is_digit, is_pair_at, month_and_day}
pub use Rattle.reg_text.specs.Dates.{month_in, part_and_day, year_and_day, year_in}
unfoldable pub use Rattle.reg_text.specs.Dates.{date, date_of, day_named, in_days}
pub use Rattle.reg_text.specs.Words.{account_kinds, kinds, named, retirements, rights, statuses}
pub use Rattle.reg_text.specs.Words.{yes_and_no, yes_no_word}
pub use Rattle.reg_base.specs.Words.{account_kind_name, allowance_kind_name, retirement_name, right_name, status_name}
unfoldable pub use Rattle.reg_text.specs.Words.{word_of}
pub use Rattle.reg_text.specs.Grammar.{Key, Said, by, row, row_read, row_text, tag_word}
pub use Rattle.reg_text.specs.Plain.{IsPlain, with_commas}
pub use Rattle.reg_text.specs.Written.{EachTextSplits, HasField}
pub use Rattle.reg_base.specs.declared.limits.TheConstants.{FIRST_DAY, FIRST_YEAR, LAST_DAY, MOST_ACCOUNTS}
pub use Rattle.reg_base.specs.declared.limits.TheConstants.{MOST_INSTRUCTIONS, MOST_LAG, MOST_NUMBER, MOST_PERIODS}
pub use Rattle.reg_base.specs.declared.limits.TheConstants.{MOST_RECORD, MOST_ROWS}
pub use Rattle.reg_base.specs.Numbers.{IsAccountNo, IsWithin, IsDayNo, IsRecordNo, IsUserNo, IsYearNo}
pub use Rattle.reg_base.specs.Instructions.{IsInstruction}
pub use Rattle.reg_base.specs.Refusals.{refusal_name}
pub use Rattle.reg_base.specs.Rising.{AreAbove, IsRising}
pub use Rattle.reg_text.specs.declared.reading.account_row.AccountHead.{AccountHead}
pub use Rattle.reg_text.specs.declared.reading.tag.Tag.{Tag}
pub use Rattle.reg_text.specs.declared.reading.scope.Version.{Version}
pub use Rattle.reg_text.specs.declared.reading.scope.Version.TheVariants.{One, Two}
pub use Rattle.reg_text.specs.declared.reading.scope.Scope.{Scope}
pub use Rattle.reg_text.specs.Scopes.{by_version, widest}
pub use Rattle.reg_text.specs.Tags.{all_tags, heading_tags, later_tags, list_tags, is_in_version, is_needed, is_once}
pub use Rattle.reg_text.specs.Tags.{may_follow, stage, stages, tag_after, tag_stage}
pub use Rattle.std.specs.Prelude.{option_to_list}
pub use Rattle.reg_text.specs.Lasts.{is_above, last_item}
pub use Rattle.reg_text.specs.Drafts.{DraftValue, account_count, accounts_in, with_block_over, draft_of, ended}
pub use Rattle.reg_text.specs.Drafts.{behind_heading, heading_of, items_said, no_heading, nothing_read}
pub use Rattle.reg_text.specs.Drafts.{only_heading, read_behind, scope_of, section_of, sections}
pub use Rattle.reg_text.specs.Drafts.{sections_to, version_in}
pub use Rattle.reg_book.specs.Day.{DayValue}
pub use Rattle.reg_text.specs.Day.{current_said, day_said, day_with, is_text_over}
pub use Rattle.reg_text.specs.Reading.{Begins, CanBeSaid, IsFirstFaulty, IsPair, IsReading, IsVersionOf}
pub use Rattle.reg_text.specs.Faults.{AnswersFault, after_rows, at_end, at_row, day_of_rows, drafted, has_space}
pub use Rattle.reg_text.specs.Faults.{in_order, is_number_left, is_recorded, is_sum_left, next_draft, next_in, placed}
pub use Rattle.reg_text.specs.Faults.{ready_for, saying, with}
unfoldable pub use Rattle.reg_text.specs.Faults.{with_row}
pub use Rattle.reg_text.specs.declared.cause.Cause.{Cause}
pub use Rattle.reg_text.specs.DraftLimits.{AreRecorded, FitsSoFar, IsDraft, SectionStandsAt, comes_once, has_to_come}
pub use Rattle.reg_text.specs.DraftLimits.{may_come, stands_at}
pub use Rattle.reg_base.specs.declared.instruction.Instruction.{Instruction}
pub use Rattle.reg_text.specs.Causes.{test, ◌>>=◌}
pub use Rattle.csv.specs.Reading.{ExplainsRead, ReadRecord, default_config, is_bom, is_flexible, records, records_next}
pub use Rattle.csv.specs.Reading.{with_flexible, with_names_headers}
unfoldable pub use Rattle.csv.specs.Reading.{Reached, records_from, strip_bom}
pub use Rattle.reg_cuts.specs.Rows.{IsOfMemory, IsBetweenRows, known_rest, rows_read, rest_of, rows_left, rows_in_text}
pub use Rattle.reg_text.specs.declared.reading.instruction_row.ActName.{ActName}
pub use Rattle.reg_text.specs.declared.reading.instruction_row.ActName.TheVariants.{Transfer}
pub use Rattle.reg_text.specs.Codecs.{AreFields, Codec, Fields, IsCodec, IsRow, Row, a_date, a_figure, a_no, a_period}
pub use Rattle.reg_text.specs.Codecs.{a_word, an_approver, any_number, factor, later_factor, approver_tests}
pub use Rattle.reg_text.specs.Codecs.{approver_text, forms, holds_of, last, made, named_row, none, provided, row_with}
pub use Rattle.reg_text.specs.Codecs.{tests_then, within_limits, ◌▸◌}
pub use Rattle.reg_text.specs.Acts.{IsShared, act_fields, act_name, act_names, act_word, an_act_name, form}
pub use Rattle.reg_text.specs.Acts.{instruction_fields_of, said}
pub use Rattle.reg_text.specs.FieldTests.{correction_tests, fault_of, figure_tests, first_cause, number_tests, when}
pub use Rattle.reg_text.specs.Table.{IsCauseOf, said_tests, tagged_tests, tests_of}
pub use Rattle.reg_base.specs.declared.act.Act.{Act}
pub use Rattle.reg_text.specs.Signed.{minus, signed}
unfoldable pub use Rattle.reg_text.specs.Signed.{signed_correction_of, signed_figure_of, signed_of}
unfoldable pub use Rattle.reg_text.specs.Limits.{bounded_of}
unfoldable pub use Rattle.reg_text.specs.Codecs.{approver_of}
pub use Rattle.csv.specs.Machine.{Read, ends_at_end, field_after, fields_after, is_end, step}
unfoldable pub use Rattle.csv.specs.Machine.{next_record}
pub use Rattle.csv.specs.Records.{fields_of}
