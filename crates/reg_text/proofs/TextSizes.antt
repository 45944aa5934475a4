-- How many bytes rows take, each field with the byte behind it, and that a text has as many.
use Rattle.std.proofs.Common.{◌≡◌, ◌⊎◌, inl, inr, ℕ, zero, suc, ◌+◌, ◌≤◌, Bool, true, false, cond, List, [], ◌∷◌, ◌++◌}
use Rattle.std.proofs.Common.{length, Option, Some, None, refl, arith, length-append}
use Rattle.csv.specs.Machine.{Read, next_record, step, is_end, ends_at_end, fields_after, field_after}
use Rattle.csv.specs.Reading.{default_config, records_next, records_from, strip_bom, is_bom}
use Rattle.csv.specs.declared.parser.State.{State}
use Rattle.csv.specs.declared.parser.State.TheVariants as st
use Rattle.csv.specs.declared.parser.Action.{Action}
use Rattle.csv.specs.declared.parser.Action.TheVariants as act
use Rattle.reg_cuts.specs.Rows.{TextRow, rows_in_text}

-- the bytes of a row, and of rows
abbrev pub row_size : TextRow → ℕ
row_size [] = 0
row_size (f ∷ fs) = length f + 1 + row_size fs

abbrev pub rows_size : List TextRow → ℕ
rows_size [] = 0
rows_size (r ∷ rs) = row_size r + rows_size rs

pub row_size-append : (xs ys : TextRow) → row_size (xs ++ ys) ≡ row_size xs + row_size ys
row_size-append [] ys = omega arith
row_size-append (x ∷ xs) ys = omega (arith, row_size-append xs ys)

pub rows_size-append : (xs ys : List TextRow) → rows_size (xs ++ ys) ≡ rows_size xs + rows_size ys
rows_size-append [] ys = omega arith
rows_size-append (x ∷ xs) ys = omega (arith, rows_size-append xs ys)

-- ---- the rows of a text

-- a byte adds at most one to what was read
after-byte : (a : Action) (c : ℕ) (fields : TextRow) (f : List ℕ)
    → row_size (fields_after a fields f) + length (field_after a c f) ≤ row_size fields + length f + 1
after-byte act.Copy c fields f = omega (arith, length-append f (c ∷ []))
after-byte act.EndField c fields f = omega (arith, row_size-append fields (f ∷ []))
after-byte act.Skip c fields f = omega arith
after-byte act.EndRecord c fields f = omega (arith, row_size-append fields (f ∷ []))

-- a row that a byte ended is no longer than the bytes that it took
abbrev IsEnded : TextRow → List ℕ → List ℕ → Read → Type 0
IsEnded fields f bytes p = row_size p.0 + length p.2 ≤ row_size fields + length f + length bytes

-- and one that the end of the text ended, with nothing behind it, by at most one
abbrev IsLast : TextRow → List ℕ → List ℕ → Read → Type 0
IsLast fields f bytes p = (p.1 ≡ st.StartRecord) × (p.2 ≡ [])
    × (row_size p.0 ≤ row_size fields + length f + length bytes + 1)

chosen : {A : Type 0} (b : Bool) (x y z : A) → cond b x y ≡ z → (x ≡ z) ⊎ (y ≡ z)
chosen true x y z e = inl e
chosen false x y z e = inr e

ended : (a : Action) (s : State) (c : ℕ) (fields : TextRow) (f rest : List ℕ) (p : Read)
    → (fields_after a fields f, s, rest) ≡ p → IsEnded fields f (c ∷ rest) p
ended a s c fields f rest p e = rw (← e) (omega (arith, after-byte a c fields f))

last : (fields : TextRow) (f : List ℕ) (p : Read) → (fields ++ f ∷ [], st.StartRecord, []) ≡ p → IsLast fields f [] p
last fields f p e = rw (← e) (refl, refl, omega (arith, row_size-append fields (f ∷ [])))

-- what holds behind a byte that ends no row holds before it
more : (a : Action) (c : ℕ) (fields : TextRow) (f rest : List ℕ) (p : Read)
    → IsEnded (fields_after a fields f) (field_after a c f) rest p
    ⊎ IsLast (fields_after a fields f) (field_after a c f) rest p
    → IsEnded fields f (c ∷ rest) p ⊎ IsLast fields f (c ∷ rest) p
more a c fields f rest p (inl h) = inl (omega (arith, h, after-byte a c fields f))
more a c fields f rest p (inr h) = inr (h.0, h.1, omega (arith, h.2, after-byte a c fields f))

record-size : (s : State) (fields : TextRow) (f bytes : List ℕ) (p : Read)
    → next_record default_config s fields f bytes ≡ Some p → IsEnded fields f bytes p ⊎ IsLast fields f bytes p
unfolding next_record
record-size s fields f [] p e =
    elim (chosen (ends_at_end s) _ _ _ e) [
      | inl h ↦ inr (last fields f p cc)
      | inr h ↦ absurd cc
    ]
record-size s fields f (c ∷ rest) p e =
    elim (chosen (is_end (step default_config s c).1) _ _ _ e) [
      | inl h ↦ inl (ended (step default_config s c).1 (step default_config s c).0 c fields f rest p cc)
      | inr h ↦ more (step default_config s c).1 c fields f rest p (record-size (step default_config s c).0
          (fields_after (step default_config s c).1 fields f) (field_after (step default_config s c).1 c f) rest p h)
    ]

-- the end of a text has no row
none-left : (n : ℕ) → rows_size (records_from default_config n st.StartRecord []) ≡ 0
unfolding records_from next_record
none-left zero = refl
none-left (suc n) = refl

next-size : (n : ℕ) (o : Option Read) (bytes : List ℕ)
    → ((p : Read) → o ≡ Some p → IsEnded [] [] bytes p ⊎ IsLast [] [] bytes p)
    → ((s : State) (rest : List ℕ) → rows_size (records_from default_config n s rest) ≤ length rest + 1)
    → rows_size (records_next (records_from default_config n) o) ≤ length bytes + 1
next-size n None bytes one less = omega arith
next-size n (Some p) bytes one less =
    elim (one p refl) [
      | inl h ↦ omega (arith, h, less p.1 p.2)
      | inr h ↦ rw (h.0, h.1, none-left n) (omega (arith, h.2))
    ]

from-size : (n : ℕ) (s : State) (bytes : List ℕ) → rows_size (records_from default_config n s bytes) ≤ length bytes + 1
unfolding records_from
from-size zero s bytes = omega arith
from-size (suc n) s bytes =
    next-size n (next_record default_config s [] [] bytes) bytes (record-size s [] [] bytes) (from-size n)

no-longer : (t : Bool) (xs ys : List ℕ) → length xs ≤ length ys → length (cond t xs ys) ≤ length ys
no-longer true xs ys h = h
no-longer false xs ys h = omega arith

mark-size : (text : List ℕ) → length (strip_bom text) ≤ length text
unfolding strip_bom
mark-size [] = omega arith
mark-size (a ∷ []) = omega arith
mark-size (a ∷ b ∷ []) = omega arith
mark-size (a ∷ b ∷ c ∷ rest) = no-longer (is_bom a b c) rest (a ∷ b ∷ c ∷ rest) (omega arith)

-- the rows of a text take at most one byte more than the text has, since its last row may have no line feed
pub text-size : (text : List ℕ) → rows_size (rows_in_text text) ≤ length text + 1
text-size text = omega (
  arith,
  from-size (length (strip_bom text) + 1) st.StartRecord (strip_bom text),
  mark-size text,
)
