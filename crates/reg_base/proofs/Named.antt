-- The accounts of the table of movements are those that the acts name.
use Rattle.std.proofs.Common.{◌≡◌, ℕ, Bool, true, false, cond, eqb, [], ◌∷◌, refl, ap, ◌∙◌}
use Rattle.std.proofs.lemmas.List.{append-nil}
use Rattle.std.specs.Prelude.{not}
use Rattle.std.specs.List.{list_all}
use Rattle.reg_base.specs.declared.act.Act.{Act}
use Rattle.reg_base.specs.declared.act.Act.TheVariants.{Transfer, Distribute, Trust}
use Rattle.reg_base.specs.Acts.{parties}
use Rattle.reg_base.specs.Directory.{is_known}
use Rattle.reg_base.specs.Footprint.{each_once, must_be_known, touched_accounts, asked_for, ActsNameTheirAccounts}

parties-named : (act : Act) → parties act ≡ touched_accounts act
parties-named (Transfer from to kind amount) = refl
parties-named act = refl

known-asked_for : (act : Act) → must_be_known act ≡ asked_for act
known-asked_for (Trust account other) = refl
known-asked_for (Distribute from kind shares) = append-nil (touched_accounts (Distribute from kind shares))
known-asked_for act = refl

once-both : (from to : ℕ) → each_once (from ∷ to ∷ []) ≡ cond (eqb to from) (from ∷ []) (from ∷ to ∷ [])
once-both from to = go (eqb to from) where
  go : (same : Bool) → from ∷ cond (not same) (to ∷ []) [] ≡ cond same (from ∷ []) (from ∷ to ∷ [])
  go true = refl
  go false = refl

pub acts_name : ActsNameTheirAccounts
acts_name = record {
  table = parties-named;
  known = known-asked_for;
  once = once-both;
  touched = λ d act.
      ap (λ ns. cond (list_all (is_known d) ns) (each_once (parties act)) []) (known-asked_for act)
      ∙ ap (λ ns. cond (list_all (is_known d) (asked_for act)) (each_once ns) []) (parties-named act);
}
