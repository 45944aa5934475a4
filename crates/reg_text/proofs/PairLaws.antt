-- The laws of pairs of fields, one pair after another to the end of a row.
use Rattle.std.proofs.Common.{Bool, true, false, ◌≡◌, ◌⊎◌, inl, inr, ⊎_elim, ℕ, zero, suc, ◌+◌, ◌*◌, ◌<◌, ◌≤◌, ◌==◌}
use Rattle.std.proofs.Common.{◌||◌, List, [], ◌∷◌, ◌++◌, length, drop, Ok, refl, ap, subst, arith, length-append}
use Rattle.std.specs.List.{AllByRecursion, list_any}
use Rattle.std.proofs.Math.Seq.{drop-append_seam}
use Rattle.std.proofs.lemmas.Bool.{eqb-true, eq-eqb}
use Rattle.std.proofs.lemmas.List.{length-drop}
use mathlib.Core.Logic.{dite}
use native.Mathlib.Decide.{ℕ_discrete}
use Rattle.reg_base.specs.Rising.{count_up}
use Rattle.reg_text.proofs.Names.{TextRow, first_cause, fault_of, Codec, IsCodec, AreFields, IsPlain}
use Rattle.reg_text.specs.Codecs.{pairs_spelled, pairs_read, pairs_tests, pairs}
use Rattle.reg_text.proofs.Binds.{bind_ok, ok_is}
use Rattle.reg_text.proofs.ListFacts.{cons}
use Rattle.reg_text.proofs.CauseLaws.{next, done}

pub either : (a b : Bool) → (a || b) ≡ true → (a ≡ true) ⊎ (b ≡ true)
either true b e = inl refl
either false b e = inr e

-- the row ends after so many pairs behind the column
abbrev EndsAfter : ℕ → TextRow → ℕ → Type 0
EndsAfter column r n = length r ≡ column + 2 * n

abbrev ends_after : ℕ → TextRow → ℕ → Bool
ends_after column r n = length r == column + 2 * n

ends-some : (from more column : ℕ) (r : TextRow) → list_any (ends_after column r) (count_up from more) ≡ true
    → (n : ℕ) × (from ≤ n) × (n < from + more) × EndsAfter column r n
ends-some from zero column r e = absurd cc
ends-some from (suc more) column r e = ⊎_elim
    (λ here. (from, omega arith, omega arith, eqb-true _ _ here))
    (λ later. let n = ends-some (from + 1) more column r later in (n.0, omega (arith, n.1), omega (arith, n.2), n.3))
    (either (ends_after column r from) (list_any (ends_after column r) (count_up (from + 1) more)) e)

either-of : (a b : Bool) → (a ≡ true) ⊎ (b ≡ true) → (a || b) ≡ true
either-of true b e = refl
either-of false true e = refl
either-of false false (inl e) = e
either-of false false (inr e) = e

ends-so : (from more n column : ℕ) (r : TextRow) → from ≤ n → n < from + more → EndsAfter column r n
    → list_any (ends_after column r) (count_up from more) ≡ true
ends-so from zero n column r low high e = absurd (omega arith)
ends-so from (suc more) n column r low high e = dite (ℕ_discrete from n)
    (λ same. either-of (ends_after column r from) _ (inl (eq-eqb (length r) (column + 2 * from) (omega arith))))
    (λ apart. either-of (ends_after column r from) _
    (inr (ends-so (from + 1) more n column r (omega arith) (omega arith) e)))

module _ {A B : Type 0} (c : Codec A) (d : Codec B) (h : IsCodec c) (k : IsCodec d) where
  abbrev EachFits : List (A × B) → Type 0
  EachFits = AllByRecursion (λ p. c.Fits p.0 × d.Fits p.1)

  list-spelled : (n : ℕ) (fs : TextRow) (ps : List (A × B)) → length fs ≡ 2 * n → pairs_read c d fs ≡ Ok ps
      → (fs ≡ pairs_spelled c d ps) × (length ps ≡ n) × EachFits ps
  list-spelled zero [] ps size read = subst (λ (z : List (A × B)). ([] ≡ pairs_spelled c d z) × (length z ≡ 0)
      × EachFits z) (ok_is [] ps read) (refl, refl, tt)
  list-spelled zero (f ∷ fs) ps size read = absurd (omega arith)
  list-spelled (suc n) [] ps size read = absurd (omega arith)
  list-spelled (suc n) (f ∷ []) ps size read = absurd (omega arith)
  list-spelled (suc n) (f ∷ g ∷ fs) ps size read =
      let x = bind_ok (c.read f) _ ps read in
      let y = bind_ok (d.read g) _ ps x.2 in
      let qs = bind_ok (pairs_read c d fs) _ ps y.2 in
      let s = h.spelled f x.0 x.1 in
      let t = k.spelled g y.0 y.1 in
      let rest = list-spelled n fs qs.0 (omega arith) qs.1 in
      subst (λ (z : List (A × B)). (f ∷ g ∷ fs ≡ pairs_spelled c d z) × (length z ≡ suc n) × EachFits z)
      (ok_is ((x.0, y.0) ∷ qs.0) ps qs.2)
      (cons s.0 (cons t.0 rest.0), ap suc rest.1, ((s.1, t.1), rest.2))

  list-again : (ps : List (A × B)) → EachFits ps → pairs_read c d (pairs_spelled c d ps) ≡ Ok ps
  list-again [] fits = refl
  list-again (p ∷ ps) fits = rw (h.again p.0 fits.0.0, k.again p.1 fits.0.1, list-again ps fits.1) refl

  list-fault : (fs : TextRow) → fault_of (pairs_read c d fs) ≡ first_cause (pairs_tests c d fs)
  list-fault [] = refl
  list-fault (f ∷ []) = refl
  list-fault (f ∷ g ∷ fs) =
      next (c.read f) _ (c.tests f) _ (h.fault f)
      (λ x e. next (d.read g) _ (d.tests g) _ (k.fault g)
      (λ y e2. done (pairs_read c d fs) _ (pairs_tests c d fs) (list-fault fs)))

  list-plain : (ps : List (A × B)) → AllByRecursion IsPlain (pairs_spelled c d ps)
  list-plain [] = tt
  list-plain (p ∷ ps) = (h.plain p.0, (k.plain p.1, list-plain ps))

  length-spelled : (ps : List (A × B)) → length (pairs_spelled c d ps) ≡ 2 * length ps
  length-spelled [] = refl
  length-spelled (p ∷ ps) = let rest = length-spelled ps in omega arith

  pub are_pairs : (most : ℕ) → AreFields (pairs most c d)
  are_pairs most = record {
    within = λ column r e. let n = ends-some 1 most column r e in let end = n.3 in omega arith;
    spelled = λ column r ps e read.
        let n = ends-some 1 most column r e in
        let size : length (drop column r) ≡ 2 * n.0 = omega (arith, length-drop column r, n.3) in
        let s = list-spelled n.0 (drop column r) ps size read in
        (s.0, (omega (arith, n.1, s.1), omega (arith, n.2, s.1), s.2));
    again = λ before ps fits.
        let size : EndsAfter (length before) (before ++ pairs_spelled c d ps) (length ps) =
        omega (arith, length-append before (pairs_spelled c d ps), length-spelled ps) in (
          ends-so 1 most (length ps) (length before) _ fits.0 (omega (arith, fits.1)) size,
          rw (drop-append_seam before (pairs_spelled c d ps)) (list-again ps fits.2),
        );
    fault = λ column r. list-fault (drop column r);
    plain = list-plain;
  }
