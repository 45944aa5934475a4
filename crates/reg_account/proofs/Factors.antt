-- The correction factors of later periods.
use Rattle.std.proofs.Common.{Bool, true, false, cond, eqb, ℕ, List, [], ◌∷◌, Some, arith}
use Rattle.std.specs.Prelude.{find, pos}
use Rattle.std.specs.Option.{option_map_or}
use Rattle.std.specs.List.{AllByRecursion}
use Rattle.std.proofs.lemmas.Int.{ints}
use Rattle.reg_account.specs.declared.corrections.Correction.{Correction}
use Rattle.reg_account.specs.Corrections.{CorrectionFits, LaterFits, factor_in}

-- each is within the limits, and so is 0
pub factor_fits_in : (corrections : List Correction) (period : ℕ) → AllByRecursion LaterFits corrections
    → CorrectionFits (factor_in corrections period)
factor_fits_in [] period all = record { low = omega (arith, ints); high = omega (arith, ints) }
factor_fits_in (c ∷ cs) period all = go (eqb c.period period) (factor_fits_in cs period all.1) where
  go : (b : Bool) → CorrectionFits (factor_in cs period)
      → CorrectionFits (option_map_or (λ x. x.factor) (cond b (Some c) (find (λ x. eqb x.period period) cs)) (pos 0))
  go true more = all.0.factor
  go false more = more
