-- What a change of the trusted account list makes of the look-up of each account.
use Rattle.std.proofs.Common.{◌≡◌, ℕ, Bool, true, false, cond, eqb, Some, None, refl, ap, ◌∙◌}
use Rattle.std.specs.Prelude.{Option, find}
use Rattle.std.specs.Option.{option_map}
use Rattle.reg_account.specs.declared.trusted.TrustedEntry.{TrustedEntry}
use Rattle.reg_account.specs.Laws.{TrustLaws}
use Rattle.reg_account.proofs.Keyed.{from_zero, find_put, find_without}

pub trust-laws : TrustLaws
trust-laws = record {
  trust = λ a new other is.
      ap day (find_put (λ (t : TrustedEntry). t.account) 0 a.trusted new other (from_zero _ is.trusted_fit.rise))
      ∙ put (eqb new.account other) new (find (λ t. eqb t.account other) a.trusted);
  untrust = λ a gone other.
      ap day (find_without (λ (t : TrustedEntry). t.account) gone other a.trusted)
      ∙ taken (eqb gone other) (find (λ t. eqb t.account other) a.trusted);
} where
  day : Option TrustedEntry → Option ℕ
  day o = option_map (λ t. t.effective) o

  put : (b : Bool) (new : TrustedEntry) (o : Option TrustedEntry)
      → day (cond b (Some new) o) ≡ cond b (Some new.effective) (day o)
  put true new o = refl
  put false new o = refl

  taken : (b : Bool) (o : Option TrustedEntry) → day (cond b None o) ≡ cond b None (day o)
  taken true o = refl
  taken false o = refl
