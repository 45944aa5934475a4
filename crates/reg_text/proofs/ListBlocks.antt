-- The blocks of accounts in lists, spelled run by run of the lists.
use Rattle.std.proofs.Common.{◌≡◌, ℕ, List, ◌∷◌, ◌++◌, length, take, drop, ◌≤◌, Result, Ok, Vec, refl, sym, ap, subst}
use Rattle.std.proofs.Common.{◌∙◌, arith, length-append}
use Rattle.std.specs.Global.{Global}
use Rattle.std.specs.Prelude.{All}
use Rattle.std.proofs.lemmas.List.{take-append-drop}
use Rattle.std.proofs.Math.Seq.{take-append_seam, drop-append_seam}
use Rattle.std.proofs.lemmas.List.Elements.{All-take, All-drop}
use Rattle.std.proofs.lemmas.Grind.{flat_map-append}
use Rattle.reg_base.specs.declared.directory.NoMemory.{NoMemory}
use Rattle.reg_base.specs.declared.limits.TheConstants.{MOST_ACCOUNTS}
use Rattle.reg_account.specs.Account.{AccountValue, IsAccount}
use Rattle.reg_book.specs.declared.totals.BothTotals.{BothTotals}
use Rattle.reg_facts.specs.Lists.{joined_lists}
use Rattle.reg_book.specs.Totals.{both_added, BothTotalsFit}
use Rattle.reg_book.proofs.lemmas.TotalFacts.{AddUpWith, add-list, have_space}
use Rattle.reg_text.specs.declared.writing.pieces.Blocks.{Blocks}
use Rattle.reg_text.specs.Pieces.{AreBlocksOfLists}
use Rattle.reg_text.proofs.BlockFacts.{blocks_text, blocks_text-append}
use Rattle.reg_base.proofs.lemmas.Chunks.{ChunksOf}
use Rattle.reg_text.proofs.RunFacts.{IsSpelled, AreTexts}

-- the accounts of lists are those of a run, and those of the lists behind it
joined-run : (size : ℕ) (lists : List (Vec AccountValue Global))
    → joined_lists lists ≡ joined_lists (take size lists) ++ joined_lists (drop size lists)
joined-run size lists = ap joined_lists (sym (take-append-drop size lists))
    ∙ flat_map-append (λ (l : Vec AccountValue Global). l.items) (take size lists) (drop size lists)

-- so lists may be spelled run by run
pub lists-texts : AreTexts AreBlocksOfLists (λ first lists. blocks_text (joined_lists lists))
    (λ (blocks : Blocks). blocks.text)
lists-texts = record {
  of_run = λ first lists blocks is. is.0;
  of_both = λ first size lists.
      sym (blocks_text-append (joined_lists (take size lists)) (joined_lists (drop size lists)))
      ∙ ap blocks_text (sym (joined-run size lists));
  of_none = λ first. refl;
}

pub add-run_of_lists : (totals : BothTotals) (blocks : Blocks) (all : List AccountValue) (size first : ℕ)
    (others : List (Vec AccountValue Global)) → AreBlocksOfLists first (take size others) blocks
    → AddUpWith totals all (joined_lists others)
    → AddUpWith (both_added totals blocks.totals) all (joined_lists (drop size others))
add-run_of_lists totals blocks all size first others is so_far =
    subst (λ (t : BothTotals). AddUpWith (both_added totals t) all (joined_lists (drop size others))) (sym is.1)
    (add-list totals all (joined_lists (take size others)) (joined_lists (drop size others))
    (subst (AddUpWith totals all) (joined-run size others) so_far))

-- there is space for the totals of one run more
pub run-of_lists-has_space : (totals : BothTotals) (blocks : Blocks) (all : List AccountValue) (whole : List ℕ)
    (size : ℕ) (pieces : List (Vec ℕ Global)) (runs : List (Result Blocks NoMemory)) → All IsAccount all
    → length all ≤ MOST_ACCOUNTS
    → IsSpelled AreBlocksOfLists (λ first lists. blocks_text (joined_lists lists)) (λ (b : Blocks). b.text)
    (λ others. AddUpWith totals all (joined_lists others)) whole size pieces (Ok blocks ∷ runs)
    → BothTotalsFit (both_added totals blocks.totals)
unfolding ChunksOf
run-of_lists-has_space totals blocks all whole size pieces runs fit few s =
    have_space (both_added totals blocks.totals) all (joined_lists (drop size s.others)) fit few
    (add-run_of_lists totals blocks all size s.first s.others s.left.0 s.holds)

-- what holds of each account of lists holds of those of some of them, which are no more
fit-left : (xs ys : List AccountValue) → All IsAccount (xs ++ ys) → All IsAccount xs
fit-left xs ys fit = subst (All IsAccount) (take-append_seam xs ys) (All-take IsAccount (length xs) (xs ++ ys) fit)

fit-right : (xs ys : List AccountValue) → All IsAccount (xs ++ ys) → All IsAccount ys
fit-right xs ys fit = subst (All IsAccount) (drop-append_seam xs ys) (All-drop IsAccount (length xs) (xs ++ ys) fit)

pub run-fit : (start size : ℕ) (lists : List (Vec AccountValue Global)) → All IsAccount (joined_lists lists)
    → All IsAccount (joined_lists (take size (drop start lists)))
run-fit start size lists fit =
    let behind = fit-right (joined_lists (take start lists)) (joined_lists (drop start lists))
    (subst (All IsAccount) (joined-run start lists) fit) in
    fit-left (joined_lists (take size (drop start lists))) (joined_lists (drop size (drop start lists)))
    (subst (All IsAccount) (joined-run size (drop start lists)) behind)

pub run-few : (start size : ℕ) (lists : List (Vec AccountValue Global)) → length (joined_lists lists) ≤ MOST_ACCOUNTS
    → length (joined_lists (take size (drop start lists))) ≤ MOST_ACCOUNTS
run-few start size lists few =
    let one : length (joined_lists lists)
    ≡ length (joined_lists (take start lists) ++ joined_lists (drop start lists)) =
    ap length (joined-run start lists) in
    let two : length (joined_lists (drop start lists))
    ≡ length (joined_lists (take size (drop start lists)) ++ joined_lists (drop size (drop start lists))) =
    ap length (joined-run size (drop start lists)) in
    omega (
      arith,
      few,
      one,
      two,
      length-append (joined_lists (take start lists)) (joined_lists (drop start lists)),
      length-append (joined_lists (take size (drop start lists))) (joined_lists (drop size (drop start lists))),
    )
