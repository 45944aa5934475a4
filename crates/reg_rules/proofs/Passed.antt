-- If there is no refusal, no check fails.
use Rattle.std.proofs.Common.{◌≡◌, Bool, true, false, cond, eqb, List, [], ◌∷◌, Some, None, refl, sym, ap, ◌∙◌}
use Rattle.std.specs.Prelude.{find}
use Rattle.std.proofs.lemmas.Option.{same_Some, none-some}
use Rattle.reg_base.specs.declared.instruction.Instruction.{Instruction}
use Rattle.reg_base.specs.declared.refusals.Refusal.{Refusal}
use Rattle.reg_base.specs.Refusals.{code_of, checks}
use Rattle.reg_rules.specs.State.{State, Setting, seen}
use Rattle.reg_rules.specs.Checks.{fails, refusal}

-- what is found by one test in a list in which another test finds nothing fails that other test
none-fails : {X : Type 0} (p t : X → Bool) (xs : List X) (x : X) → find p xs ≡ None → find t xs ≡ Some x → p x ≡ false
none-fails p t [] x none found = absurd (none-some x found)
none-fails p t (y ∷ ys) x none found = go (p y) (t y) refl none found (none-fails p t ys x) where
  go : (b c : Bool) → p y ≡ b → cond b (Some y) (find p ys) ≡ None → cond c (Some y) (find t ys) ≡ Some x
      → (find p ys ≡ None → find t ys ≡ Some x → p x ≡ false) → p x ≡ false
  go true c e none' found' more = absurd (none-some y (sym none'))
  go false true e none' found' more = ap p (sym (same_Some y x found')) ∙ e
  go false false e none' found' more = more none' found'

-- the check q did not fail, for each q of the table: `passed c s i q none refl`
pub passed : (c : Setting) (s : State) (i : Instruction) (q : Refusal) → refusal c s i ≡ None
    → find (λ r. eqb (code_of r) (code_of q)) checks ≡ Some q → fails c (seen s i.act) i q ≡ false
passed c s i q none asked = none-fails (fails c (seen s i.act) i) (λ r. eqb (code_of r) (code_of q)) checks q none asked
