-- The blocks of accounts, spelled run by run, and the totals added up run by run.
use Rattle.std.proofs.Common.{◌≡◌, ℕ, ◌≤◌, List, ◌∷◌, ◌++◌, length, take, drop, Result, Ok, Vec, refl, sym, ap, subst}
use Rattle.std.proofs.Common.{◌∙◌}
use Rattle.std.specs.Global.{Global}
use Rattle.std.specs.Prelude.{All}
use Rattle.std.specs.List.{flat_map}
use Rattle.std.proofs.lemmas.List.{take-append-drop}
use Rattle.std.proofs.lemmas.Grind.{flat_map-append}
use Rattle.csv.specs.Writing.{row_text}
use Rattle.reg_base.specs.declared.limits.TheConstants.{MOST_ACCOUNTS}
use Rattle.reg_account.specs.Account.{AccountValue, IsAccount}
use Rattle.reg_book.specs.declared.totals.BothTotals.{BothTotals}
use Rattle.reg_book.specs.Totals.{both_added, BothTotalsFit}
use Rattle.reg_book.proofs.lemmas.TotalFacts.{AddUpWith, add-list, have_space}
use Rattle.reg_base.specs.declared.directory.NoMemory.{NoMemory}
use Rattle.reg_text.proofs.Names.{default_writer, text_of, account_block}
use Rattle.reg_text.specs.declared.writing.pieces.Blocks.{Blocks}
use Rattle.reg_text.specs.Pieces.{AreBlocksOf}
use Rattle.reg_base.proofs.lemmas.Chunks.{ChunksOf}
use Rattle.reg_text.proofs.RunFacts.{IsSpelled, AreTexts}

-- the text of the blocks of accounts
abbrev pub blocks_text : List AccountValue → List ℕ
blocks_text accounts = text_of (flat_map account_block accounts)

pub blocks_text-append : (xs ys : List AccountValue) → blocks_text (xs ++ ys) ≡ blocks_text xs ++ blocks_text ys
blocks_text-append xs ys = ap (flat_map (row_text default_writer)) (flat_map-append account_block xs ys)
    ∙ flat_map-append (row_text default_writer) (flat_map account_block xs) (flat_map account_block ys)

-- so accounts may be spelled run by run
pub blocks-texts : AreTexts AreBlocksOf (λ first accounts. blocks_text accounts) (λ (blocks : Blocks). blocks.text)
blocks-texts = record {
  of_run = λ first accounts blocks is. is.0;
  of_both = λ first size accounts. sym (blocks_text-append (take size accounts) (drop size accounts))
      ∙ ap blocks_text (take-append-drop size accounts);
  of_none = λ first. refl;
}

pub add-run : (totals : BothTotals) (blocks : Blocks) (all : List AccountValue) (size first : ℕ)
    (others : List AccountValue) → AreBlocksOf first (take size others) blocks → AddUpWith totals all others
    → AddUpWith (both_added totals blocks.totals) all (drop size others)
add-run totals blocks all size first others is so_far =
    subst (λ (t : BothTotals). AddUpWith (both_added totals t) all (drop size others)) (sym is.1)
    (add-list totals all (take size others) (drop size others)
    (subst (AddUpWith totals all) (sym (take-append-drop size others)) so_far))

-- there is space for the totals of one run more
pub run-has_space : (totals : BothTotals) (blocks : Blocks) (all : List AccountValue) (whole : List ℕ) (size : ℕ)
    (pieces : List (Vec ℕ Global)) (runs : List (Result Blocks NoMemory)) → All IsAccount all
    → length all ≤ MOST_ACCOUNTS
    → IsSpelled AreBlocksOf (λ first accounts. blocks_text accounts) (λ (b : Blocks). b.text)
    (AddUpWith totals all) whole size pieces (Ok blocks ∷ runs) → BothTotalsFit (both_added totals blocks.totals)
unfolding ChunksOf
run-has_space totals blocks all whole size pieces runs fit few s =
    have_space (both_added totals blocks.totals) all (drop size s.others) fit few
    (add-run totals blocks all size s.first s.others s.left.0 s.holds)
