-- Parcels as plain data: they are their values and the places after which they stand.
use Rattle.std.proofs.Common.{◌≡◌, ℕ, List, [], ◌∷◌, map, refl, ap, ◌∙◌}
use Rattle.reg_schedules.specs.World.{left_by}
use Rattle.reg_tasks.specs.declared.naming.Naming.{Ghosts}
use Rattle.reg_tasks.specs.declared.parcel.Parcel.{Parcel}
use Rattle.reg_tasks.specs.Parcels.{values_of, afters_of, parcels_of}

module _ {N : Type 0} {b : Ghosts N} where
  -- parcels that all stand after one place
  pub left-of : (ps : List (Parcel N b)) (place : ℕ) → afters_of ps ≡ map (λ v. place) (values_of ps)
      → parcels_of ps ≡ left_by place (values_of ps)
  left-of [] place e = refl
  left-of (p ∷ ps) place e =
      let one : p.after ≡ place = cc in
      let rest : afters_of ps ≡ map (λ v. place) (values_of ps) = cc in
      ap (λ t. record { value = p.value; after = t } ∷ parcels_of ps) one
      ∙ ap (λ qs. record { value = p.value; after = place } ∷ qs) (left-of ps place rest)

  pub values-are : (ps : List (Parcel N b)) → map (λ p. p.value) (parcels_of ps) ≡ values_of ps
  values-are [] = refl
  values-are (p ∷ ps) = ap (λ vs. p.value ∷ vs) (values-are ps)

  pub same-parcels : (ps qs : List (Parcel N b)) → values_of ps ≡ values_of qs → afters_of ps ≡ afters_of qs
      → parcels_of ps ≡ parcels_of qs
  same-parcels [] [] v t = refl
  same-parcels [] (q ∷ qs) v t = absurd cc
  same-parcels (p ∷ ps) [] v t = absurd cc
  same-parcels (p ∷ ps) (q ∷ qs) v t =
      let value : p.value ≡ q.value = cc in
      let after : p.after ≡ q.after = cc in
      let values : values_of ps ≡ values_of qs = cc in
      let afters : afters_of ps ≡ afters_of qs = cc in
      ap (λ x. record { value = x; after = p.after } ∷ parcels_of ps) value
      ∙ ap (λ x. record { value = q.value; after = x } ∷ parcels_of ps) after
      ∙ ap (λ xs. record { value = q.value; after = q.after } ∷ xs) (same-parcels ps qs values afters)
