-- Behind written rows csv stands between two rows.
use Rattle.std.proofs.Common.{◌≡◌, ◌⊎◌, inl, inr, ℕ, Bool, true, false, cond, List, [], ◌∷◌, ◌++◌, length, Option, Some}
use Rattle.std.proofs.Common.{refl, ap, ◌∙◌, arith, length-append}
use Rattle.csv.specs.Machine.{Read, next_record, step, is_end, fields_after, field_after}
use Rattle.csv.specs.Reading.{default_config}
use Rattle.csv.specs.Writing.{default_writer, row_text}
use Rattle.csv.specs.declared.parser.State.{State}
use Rattle.csv.specs.declared.parser.State.TheVariants as st
use Rattle.csv.proofs.RoundTrip.{read-write}
use Rattle.reg_cuts.specs.Rows.{TextRow}
use Rattle.reg_cuts.specs.Parts.{machine_after}
use Rattle.reg_cuts.proofs.lemmas.RowsFacts.{record-advances}
use Rattle.reg_cuts.proofs.lemmas.Splits.{state-append}
use Rattle.reg_text.specs.Report.{text_of}

none-before : (a rest : List ℕ) → a ++ rest ≡ rest → a ≡ []
none-before [] rest e = refl
none-before (d ∷ a) rest e = absurd (omega (arith, ap length e, length-append a rest))

-- a read that is chosen by a test
read-chosen : (b : Bool) (x : Read) (more : Option Read) (p : Read) → cond b (Some x) more ≡ Some p
    → ((b ≡ true) × (x ≡ p)) ⊎ ((b ≡ false) × (more ≡ Some p))
read-chosen true x more p e = inl (refl, cc)
read-chosen false x more p e = inr (refl, e)

-- if a row ends exactly before a byte, the machine has made its steps up to there
record-leaves : (s : State) (fields : List (List ℕ)) (field a : List ℕ) (c : ℕ) (p : Read)
    → next_record default_config s fields field (a ++ c ∷ []) ≡ Some p → p.2 ≡ c ∷ [] → machine_after s a ≡ p.1
unfolding next_record machine_after
record-leaves s fields field [] c p e left =
    let t = step default_config s c in
    elim (read-chosen (is_end t.1) (fields_after t.1 fields field, t.0, [])
    (next_record default_config t.0 (fields_after t.1 fields field) (field_after t.1 c field) []) p e) [
      | inl h ↦ absurd (omega (arith, ap length (ap (λ (q : Read). q.2) h.1 ∙ left)))
      | inr h ↦ let more = record-advances t.0 (fields_after t.1 fields field) (field_after t.1 c field) [] p h.1 in
          absurd (omega (arith, more.no_longer, ap length left))
    ]
record-leaves s fields field (d ∷ a) c p e left =
    let t = step default_config s d in
    elim (read-chosen (is_end t.1) (fields_after t.1 fields field, t.0, a ++ c ∷ [])
    (next_record default_config t.0 (fields_after t.1 fields field) (field_after t.1 d field) (a ++ c ∷ [])) p
    e) [
      | inl h ↦ let none = none-before a (c ∷ []) (ap (λ (q : Read). q.2) h.1 ∙ left) in
          rw none (ap (λ (q : Read). q.1) h.1)
      | inr h ↦ record-leaves t.0 (fields_after t.1 fields field) (field_after t.1 d field) a c p h.1 left
    ]

row-state : (r : TextRow) → machine_after st.StartRecord (row_text default_writer r) ≡ st.StartRecord
row-state r = record-leaves st.StartRecord [] [] (row_text default_writer r) 0 _ (read-write r (0 ∷ [])) refl

-- behind written rows csv stands between two rows
pub rows-state : (rows : List TextRow) → machine_after st.StartRecord (text_of rows) ≡ st.StartRecord
unfolding machine_after
rows-state [] = refl
rows-state (r ∷ rows) = state-append st.StartRecord (row_text default_writer r) (text_of rows)
    ∙ ap (λ (s : State). machine_after s (text_of rows)) (row-state r) ∙ rows-state rows
