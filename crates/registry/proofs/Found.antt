-- The command that was found, by its name and by the word of its number.
use Rattle.std.proofs.Common.{◌≡◌, ◌∙◌, ℕ, List, Option, Some, None, ap, arith, codes, false, nat_eq, refl, slice_index}
use Rattle.std.proofs.Common.{sym}
use Rattle.clap.specs.Words.{Row, Text, one_of, one_text, rows_of}
use Rattle.clap.specs.declared.parser.matches.Found.{Found}
use Rattle.clap.proofs.WalkLemmas.{one_text-rows}
use Rattle.reg_base.specs.Numbers.{IsAccountNo}
use Rattle.reg_front.specs.Ranges.{word_number}
use Rattle.reg_front.specs.declared.command.Command.{Command}
use Rattle.reg_front.specs.declared.command.Command.TheVariants.{Settle, Plan, Statement, Figures, Totals}
use Rattle.registry.specs.Words.{IsCommandOf, IsNumberWord, IsSpelled}

-- a number that was read is spelled by a word that was found
pub spelled : (f : Found) (argument : Text) (n : ℕ) → (one_text f argument ≡ None → Some n ≡ None)
    → ((word : Text) → one_text f argument ≡ Some word → IsNumberWord word × (n ≡ word_number word))
    → IsSpelled (rows_of f) argument n
spelled f argument n none value = go (one_text f argument) refl where
  go : (o : Option Text) → one_text f argument ≡ o → IsSpelled (rows_of f) argument n
  go None e = let bad : Some n ≡ None = none e in cc
  go (Some word) e = let read = value word e in
      record { word = word; found = sym (one_text-rows f argument) ∙ e; numeral = read.0; value = read.1 }

-- a word that was found is the text that `clap` reads
pub text_found : (f : Found) (argument word : Text) → one_of argument (rows_of f) ≡ Some word
    → one_text f argument ≡ Some word
text_found f argument word e = one_text-rows f argument ∙ e

-- words that differ in a letter are not the same
differ : {a b : Text} (i : ℕ) → a ≡ b → nat_eq (slice_index a i) (slice_index b i) ≡ false → ⊥
differ {a} {b} i e = go (ap (λ (t : Text). slice_index t i) e) where
  go : {m n : ℕ} → m ≡ n → nat_eq m n ≡ false → ⊥
  go same other = grind arith

-- of the name `settle` only that command is found
pub settle_only : (rows : List Row) (command : Command) → IsCommandOf (codes "settle") rows command
    → (n : ℕ) × (command ≡ Settle n) × IsSpelled rows (codes "workers") n
settle_only rows (Settle n) found = (n, refl, found.number)
settle_only rows Plan found = absurd (differ 0 found.name refl)
settle_only rows (Statement n) found = absurd (differ 1 found.name refl)
settle_only rows Figures found = absurd (differ 0 found.name refl)
settle_only rows Totals found = absurd (differ 0 found.name refl)

-- of the name `statement` only that command is found
pub statement_only : (rows : List Row) (command : Command) → IsCommandOf (codes "statement") rows command
    → (n : ℕ) × (command ≡ Statement n) × IsSpelled rows (codes "account") n × IsAccountNo n
statement_only rows (Settle n) found = absurd (differ 1 found.name refl)
statement_only rows Plan found = absurd (differ 0 found.name refl)
statement_only rows (Statement n) found = (n, refl, found.number.0, found.number.1)
statement_only rows Figures found = absurd (differ 0 found.name refl)
statement_only rows Totals found = absurd (differ 0 found.name refl)
