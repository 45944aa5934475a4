-- One instruction more that was applied.
use Rattle.std.proofs.Common.{◌≡◌, ℕ, ◌+◌, ◌<◌, ◌≤◌, List, [], ◌∷◌, ◌++◌, length, get_or, drop, sym, ap, ◌∙◌}
use Rattle.std.proofs.lemmas.List.{drop_more, drop_all, append-nil, append_assoc}
use Rattle.reg_base.specs.declared.instruction.Instruction.{Instruction}
use Rattle.reg_base.specs.Directory.{DirectoryValue}
use Rattle.reg_base.specs.Rules.{RulesValue}
use Rattle.reg_rules.specs.declared.reply.LogRow.{LogRow}
use Rattle.reg_rules.specs.State.{Setting}
use Rattle.reg_rules.specs.Step.{step, row_of}
use Rattle.reg_book.specs.Book.{BookValue, directory_of}
use Rattle.reg_book.specs.Fold.{rows_of}
use Rattle.reg_book.specs.Single.{applied, row_applied}

-- the setting of a day whose book has this directory
abbrev pub setting_by : RulesValue → ℕ → DirectoryValue → Setting
setting_by rules day d = record { rules = rules; day = day; directory = d }

pub rows-more : (rules : RulesValue) (day : ℕ) (d : DirectoryValue) (before after : BookValue)
    (is : List Instruction) (j : ℕ) (i : Instruction) (row : LogRow) (rows more all : List LogRow)
    → j < length is → i ≡ get_or is j i → directory_of before.accounts ≡ d
    → after ≡ applied before rules day i → row ≡ row_applied before rules day i
    → more ≡ rows ++ row ∷ []
    → rows ++ rows_of (setting_by rules day d) before.accounts before.next (drop j is) ≡ all
    → more ++ rows_of (setting_by rules day d) after.accounts after.next (drop (j + 1) is) ≡ all
rows-more rules day d before after is j i row rows more all lt at listed made logged grown so_far =
    let c = setting_by rules day d in
    let later = drop (j + 1) is in
    let rest : drop j is ≡ i ∷ later = drop_more is j i lt ∙ ap (λ x. x ∷ later) (sym at) in
    ap (λ rs. rs ++ rows_of c after.accounts after.next later) grown
    ∙ append_assoc rows (row ∷ []) (rows_of c after.accounts after.next later)
    ∙ ap (λ (b : BookValue). rows ++ row ∷ rows_of c b.accounts b.next later) made
    ∙ ap (λ (r : LogRow). rows ++ r ∷ rows_of c (applied before rules day i).accounts (before.next + 1) later) logged
    ∙ ap (λ (e : DirectoryValue). rows
    ++ row_of (setting_by rules day e) before.next i (step (setting_by rules day e) before.accounts before.next i).1
    ∷ rows_of c (step (setting_by rules day e) before.accounts before.next i).0 (before.next + 1) later) listed
    ∙ ap (λ l. rows ++ rows_of c before.accounts before.next l) (sym rest)
    ∙ so_far

-- none is left
pub rows-all : (c : Setting) (book : BookValue) (is : List Instruction) (j : ℕ) (rows all : List LogRow)
    → length is ≤ j → rows ++ rows_of c book.accounts book.next (drop j is) ≡ all → rows ≡ all
rows-all c book is j rows all ended so_far =
    sym (append-nil rows) ∙ ap (λ l. rows ++ rows_of c book.accounts book.next l) (sym (drop_all j is ended)) ∙ so_far
