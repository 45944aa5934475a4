-- The rows of a log, spelled run by run from the batch and the replies.
use Rattle.std.proofs.Common.{◌≡◌, ℕ, zero, suc, min, ◌+◌, ◌≤◌, List, [], ◌∷◌, ◌++◌, length, take, drop, Vec, refl, sym}
use Rattle.std.proofs.Common.{ap, ◌∙◌, arith}
use Rattle.std.specs.Global.{Global}
use Rattle.std.proofs.lemmas.List.{drop-drop, map-append}
use Rattle.std.proofs.lemmas.Grind.{flat_map-append}
use Rattle.csv.specs.Writing.{row_text}
use Rattle.reg_base.specs.Batch.{BatchValue}
use Rattle.reg_base.specs.declared.instruction.Instruction.{Instruction}
use Rattle.reg_rules.specs.declared.reply.LogRow.{LogRow}
use Rattle.reg_rules.specs.declared.reply.Reply.{Reply}
use Rattle.reg_book.specs.Fold.{rows_from}
use Rattle.reg_text.proofs.Names.{default_writer, text_of, log_row}
use Rattle.reg_text.specs.Report.{log_rows}
use Rattle.reg_text.specs.Pieces.{rows_after, IsLogOf}
use Rattle.reg_text.proofs.RunFacts.{AreTexts}

-- the text of log rows
abbrev pub log_text : List LogRow → List ℕ
log_text rows = text_of (log_rows rows)

log_text-append : (xs ys : List LogRow) → log_text (xs ++ ys) ≡ log_text xs ++ log_text ys
log_text-append xs ys = ap (λ rows. text_of rows) (map-append log_row xs ys)
    ∙ flat_map-append (row_text default_writer) (log_rows xs) (log_rows ys)

-- without a reply there is no row
no-reply : (day n : ℕ) (is : List Instruction) → rows_from day n is [] ≡ []
no-reply day n [] = refl
no-reply day n (i ∷ is) = refl

-- the rows of some replies, and of those behind them
rows-both : (day n k : ℕ) (is : List Instruction) (rs : List Reply)
    → rows_from day n is (take k rs) ++ rows_from day (n + k) (drop k is) (drop k rs) ≡ rows_from day n is rs
rows-both day n zero is rs =
    let here : n + 0 ≡ n = omega arith in
    ap (λ (rows : List LogRow). rows ++ rows_from day (n + 0) is rs) (no-reply day n is)
    ∙ ap (λ (m : ℕ). rows_from day m is rs) here
rows-both day n (suc k) [] rs = refl
rows-both day n (suc k) (i ∷ is) [] = no-reply day (n + suc k) (drop k is)
rows-both day n (suc k) (i ∷ is) (r ∷ rs) =
    let row : LogRow = record { number = n; day = day; instruction = i; reply = r } in
    let number : n + suc k ≡ n + 1 + k = omega arith in
    ap (λ (m : ℕ). row ∷ (rows_from day (n + 1) is (take k rs) ++ rows_from day m (drop k is) (drop k rs))) number
    ∙ ap (λ (rows : List LogRow). row ∷ rows) (rows-both day (n + 1) k is rs)

after-both : (batch : BatchValue) (first k : ℕ) (rs : List Reply)
    → rows_after batch first (take k rs) ++ rows_after batch (first + k) (drop k rs) ≡ rows_after batch first rs
after-both batch first k rs =
    let is = batch.instructions in
    let number : batch.base + (first + k) + 1 ≡ batch.base + first + 1 + k = omega arith in
    let before = rows_after batch first (take k rs) in
    ap (λ (m : ℕ). before ++ rows_from batch.day m (drop (first + k) is) (drop k rs)) number
    ∙ ap (λ (js : List Instruction). before ++ rows_from batch.day (batch.base + first + 1 + k) js (drop k rs))
    (sym (drop-drop k first is))
    ∙ rows-both batch.day (batch.base + first + 1) k (drop first is) rs

-- so the log may be spelled run by run
pub log-texts : (batch : BatchValue)
    → AreTexts (IsLogOf batch) (λ first replies. log_text (rows_after batch first replies))
    (λ (text : Vec ℕ Global). text)
log-texts batch = record {
  of_run = λ first replies text is. is;
  of_both = λ first size replies.
      sym (log_text-append (rows_after batch first (take size replies))
      (rows_after batch (first + size) (drop size replies)))
      ∙ ap log_text (after-both batch first size replies);
  of_none = λ first. ap log_text (no-reply batch.day (batch.base + first + 1) (drop first batch.instructions));
}

-- from the first place on they are the whole log
pub from-first : (batch : BatchValue) (rs : List Reply)
    → rows_after batch 0 rs ≡ rows_from batch.day (batch.base + 1) batch.instructions rs
from-first batch rs = let number : batch.base + 0 + 1 ≡ batch.base + 1 = omega arith in
    ap (λ (n : ℕ). rows_from batch.day n batch.instructions rs) number

-- at the end of the shorter list no row is left
pub none-left : (day n j : ℕ) (is : List Instruction) (rs : List Reply) → min (length is) (length rs) ≤ j
    → rows_from day n (drop j is) (drop j rs) ≡ []
none-left day n j [] rs end = by j where
  by : (k : ℕ) → rows_from day n (drop k []) (drop k rs) ≡ []
  by zero = refl
  by (suc k) = refl
none-left day n j (i ∷ is) [] end = by j where
  by : (k : ℕ) → rows_from day n (drop k (i ∷ is)) (drop k []) ≡ []
  by zero = refl
  by (suc k) = no-reply day n (drop k is)
none-left day n zero (i ∷ is) (r ∷ rs) end = absurd (omega arith)
none-left day n (suc j) (i ∷ is) (r ∷ rs) end = none-left day n j is rs (omega (arith, end))
