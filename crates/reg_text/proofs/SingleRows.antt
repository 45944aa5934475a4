-- An instruction is read of its own row alone, and a log is its rows.
use Rattle.std.proofs.Common.{◌≡◌, ℕ, List, [], ◌∷◌, ◌++◌, Result, Ok, Err, codes, refl, sym, ap, subst, ◌∙◌}
use Rattle.std.specs.List.{flat_map}
use Rattle.std.specs.Str.{bytes_eq}
use Rattle.std.proofs.lemmas.List.{append-nil}
use Rattle.std.proofs.lemmas.Slice.Eq.{bytes_eq-Decides}
use Rattle.reg_text.proofs.Names.{Cause, Instruction, LogRow, TextRow, IsInstruction, IsShared, at_row, default_config}
use Rattle.reg_text.proofs.Names.{field, log_row, log_rows, number, records, row, row_read, row_text, rows_in_text}
use Rattle.reg_text.proofs.Names.{strip_bom, tag_word, text_of, widest}
use Rattle.reg_text.specs.declared.cause.Cause.TheVariants as cause
use Rattle.reg_text.specs.declared.reading.tag.Tag.TheVariants as tag
use Rattle.reg_text.specs.SingleRows.{if_alone, instruction_in, instruction_of_rows, log_row_text, LogsAreTheirRows}
use Rattle.reg_text.specs.SingleRows.{OneRowOfAnInstruction}
use Rattle.reg_text.proofs.Binds.{if_ok}
use Rattle.reg_text.proofs.GrammarLaws.{each-row}
use Rattle.reg_text.proofs.PlainRows.{plain-log_row, splits-again}
use Rattle.reg_text.proofs.RowFacts.{row-plain}
use Rattle.reg_text.proofs.RowLaws.{fit-instruction, instruction-fits, instruction-shared}

-- ---- an instruction

taken : {A B : Type 0} (n : ℕ) (read : Result A Cause) (more : A → Result B (ℕ × Cause)) (y : B)
    → at_row n read more ≡ Ok y → (x : A) × (read ≡ Ok x) × (more x ≡ Ok y)
taken n (Ok x) more y e = (x, refl, e)
taken n (Err c) more y e = absurd cc

is-alone : (rows : List TextRow) (i j : Instruction) → if_alone rows i ≡ Ok j → (rows ≡ []) × (i ≡ j)
is-alone [] i j e = (refl, cc)
is-alone (r ∷ rows) i j e = absurd cc

one-row : (r s : TextRow) (rows : List TextRow) → r ≡ s → rows ≡ [] → r ∷ rows ≡ s ∷ []
one-row r s rows e f = cc

read-of : (r : TextRow) (i j : Instruction) → instruction_in r ≡ Ok i → i ≡ j → instruction_in r ≡ Ok j
read-of r i j e same = cc

spelled : (rows : List TextRow) (i : Instruction) → instruction_of_rows rows ≡ Ok i
    → (rows ≡ row_text tag.Do i ∷ []) × IsInstruction i × IsShared i.act
spelled [] i e = absurd cc
spelled (r ∷ rows) i e =
    let t = taken 1 (instruction_in r) (if_alone rows) i e in
    let a = is-alone rows t.0 i t.2 in
    let k = if_ok (bytes_eq (field r 0) (tag_word tag.Do)) cause.Tag (row_read widest tag.Do r) i
    (read-of r t.0 i t.1 a.1) in
    let s = (each-row widest tag.Do).spelled r i k.1 in
    let tagged = (bytes_eq-Decides (field r 0) (tag_word tag.Do)).0 k.0 in
    let own : r ≡ row_text tag.Do i = s.0 ∙ ap (λ t. t ∷ (row widest tag.Do).spell i) tagged in
    (one-row r (row_text tag.Do i) rows own a.0, instruction-fits i s.1, instruction-shared i s.1)

again : (rows : List TextRow) (i : Instruction) → rows ≡ row_text tag.Do i ∷ [] → IsInstruction i → IsShared i.act
    → instruction_of_rows rows ≡ Ok i
again rows i is fits shared =
    let read = (each-row widest tag.Do).again (tag_word tag.Do) i (fit-instruction i fits shared) in
    ap instruction_of_rows is ∙ ap (λ t. at_row 1 t (if_alone [])) read

pub one-instruction : OneRowOfAnInstruction
one-instruction rows i = (spelled rows i, λ is. again rows i is.0 is.1 is.2)

-- ---- a row of a log

log-whole : (rows : List LogRow) → text_of (log_rows rows) ≡ flat_map log_row_text rows
log-whole [] = refl
log-whole (r ∷ rows) = ap (λ t. log_row_text r ++ t) (log-whole rows)

-- it begins with `l`, and so with no byte order mark
no-mark : (r : LogRow) → strip_bom (log_row_text r) ≡ log_row_text r
unfolding strip_bom
no-mark r = let text = row-plain (codes "log") (number r.number) _ (plain-log_row r) in
    subst (λ t. strip_bom t ≡ t) (sym text) refl

row-splits : (r : LogRow) → rows_in_text (log_row_text r) ≡ log_row r ∷ []
row-splits r = ap (records default_config) (no-mark r ∙ sym (append-nil (log_row_text r)))
    ∙ splits-again (log_row r ∷ []) ((tt, plain-log_row r), tt)

pub logs-rows : LogsAreTheirRows
logs-rows = record { whole = log-whole; plain = plain-log_row; split = row-splits }
