-- The laws of one more field or none.
use Rattle.std.proofs.Common.{Bool, true, false, cond, Option, Some, None, ◌≡◌, ◌⊎◌, inl, inr, ℕ, suc, ◌≤◌, ◌||◌, ◌&&◌}
use Rattle.std.proofs.Common.{eqb, List, [], ◌∷◌, ◌++◌, length, drop, Result, Ok, refl, ap, subst, ◌∙◌, arith}
use Rattle.std.proofs.Common.{length-append, append-nil}
use Rattle.std.specs.Prelude.{IfSome}
use Rattle.std.specs.List.{AllByRecursion}
use Rattle.std.proofs.Math.Seq.{get_or-append_seam}
use Rattle.std.proofs.lemmas.Bool.{and_parts, eqb-true, eq-eqb, ne_eqb}
use Rattle.std.proofs.lemmas.List.{drop_all}
use Rattle.reg_text.proofs.Names.{Cause, ◌>>=◌, TextRow, field, IsPlain, first_cause, fault_of, Codec, IsCodec}
use Rattle.reg_text.proofs.Names.{AreFields}
use Rattle.reg_text.specs.Codecs.{maybe, maybe_spelled}
use Rattle.reg_text.proofs.Binds.{bind_ok, ok_is}
use Rattle.reg_text.proofs.ListFacts.{cons}
use Rattle.reg_text.proofs.CauseLaws.{done}
use Rattle.reg_text.proofs.CodecLaws.{field-drop}
use Rattle.reg_text.proofs.PairLaws.{either}

-- the row ends here, or it has one more field where that is allowed
ends : (allowed : Bool) (column : ℕ) (r : TextRow) → (eqb (length r) column || (allowed && eqb (length r) (suc column)))
    ≡ true → (length r ≡ column) ⊎ ((allowed ≡ true) × (length r ≡ suc column))
ends allowed column r e = elim (either (eqb (length r) column) (allowed && eqb (length r) (suc column)) e) [
  | inl here ↦ inl (eqb-true _ _ here)
  | inr more ↦ let both = and_parts allowed (eqb (length r) (suc column)) more in inr (both.0, eqb-true _ _ both.1)
]

within-so : (allowed : Bool) (column : ℕ) (r : TextRow) → (length r ≡ column)
    ⊎ ((allowed ≡ true) × (length r ≡ suc column)) → column ≤ length r
within-so allowed column r (inl here) = omega arith
within-so allowed column r (inr more) = omega (arith, more.1)

module _ {A : Type 0} (allowed : Bool) (c : Codec A) (h : IsCodec c) where
  abbrev Fit : Option A → Type 0
  Fit o = IfSome o (λ x. (allowed ≡ true) × c.Fits x)

  spelled-so : (column : ℕ) (r : TextRow) (o : Option A) (here : Bool) → eqb (length r) column ≡ here
      → (length r ≡ column) ⊎ ((allowed ≡ true) × (length r ≡ suc column))
      → cond here (Ok None) (c.read (field r column) >>= λ x. Ok (Some x)) ≡ Ok o → (drop column r ≡ maybe_spelled c o)
      × Fit o
  spelled-so column r o true is e read = let size = eqb-true _ _ is in
      subst (λ (p : Option A). (drop column r ≡ maybe_spelled c p) × Fit p) (ok_is None o read)
      (drop_all column r (omega (arith, size)), tt)
  spelled-so column r o false is (inl size) read = let same = eq-eqb _ _ size in absurd cc
  spelled-so column r o false is (inr more) read =
      let x = bind_ok (c.read (field r column)) _ o read in
      let s = h.spelled (field r column) x.0 x.1 in
      let rest = drop_all (suc column) r (omega (arith, more.1)) in
      subst (λ (p : Option A). (drop column r ≡ maybe_spelled c p) × Fit p) (ok_is (Some x.0) o x.2)
      (field-drop r column (omega (arith, more.1)) ∙ cons s.0 rest, (more.0, s.1))

  again-so : (before : TextRow) (o : Option A) → Fit o
      → ((maybe allowed c).ends (length before) (before ++ maybe_spelled c o) ≡ true)
      × ((maybe allowed c).read (length before) (before ++ maybe_spelled c o) ≡ Ok o)
  again-so before None fits = let same =
      eq-eqb (length (before ++ [])) (length before) (ap length (append-nil before)) in (rw same refl, rw same refl)
  again-so before (Some x) fits =
      let size : length (before ++ c.spell x ∷ []) ≡ suc (length before) =
      omega (arith, length-append before (c.spell x ∷ [])) in
      let apart = ne_eqb (length (before ++ c.spell x ∷ [])) (length before) (λ e. omega (arith, size)) in
      let same = eq-eqb (length (before ++ c.spell x ∷ [])) (suc (length before)) size in
      (rw (apart, fits.0, same) refl, rw (apart, get_or-append_seam before (c.spell x) [] [], h.again x fits.1) refl)

  fault-so : (here : Bool) (read : Result A Cause) (tests : List (Option Cause)) → fault_of read ≡ first_cause tests
      → fault_of (cond here (Ok None) (read >>= λ x. Ok (Some x))) ≡ first_cause (cond here [] tests)
  fault-so true read tests e = refl
  fault-so false read tests e = done read (λ x. Some x) tests e

  plain-so : (o : Option A) → AllByRecursion IsPlain (maybe_spelled c o)
  plain-so None = tt
  plain-so (Some x) = (h.plain x, tt)

  pub are_maybe : AreFields (maybe allowed c)
  are_maybe = record {
    within = λ column r e. within-so allowed column r (ends allowed column r e);
    spelled = λ column r o e read. spelled-so column r o (eqb (length r) column) refl (ends allowed column r e) read;
    again = again-so;
    fault = λ column r. fault-so (eqb (length r) column) (c.read (field r column)) (c.tests (field r column))
        (h.fault (field r column));
    plain = plain-so;
  }
