-- If no check fails, the first account has what its change needs.
use Rattle.std.proofs.Common.{◌≡◌, ℕ, ◌+◌, ◌<◌, ◌≤◌, Bool, true, false, ◌||◌, eqb, List, map, length, Option, Some}
use Rattle.std.proofs.Common.{None, refl, sym, ap, ◌∙◌, subst, arith}
use Rattle.std.specs.Prelude.{nat_le, nat_lt, is_none, MatchOption}
use Rattle.std.specs.Option.{option_map_or}
use Rattle.std.specs.List.{list_any}
use Rattle.std.proofs.lemmas.Bool.{ltb-false}
use Rattle.std.proofs.lemmas.List.Folds.{list_any-append}
use Rattle.reg_base.specs.declared.limits.TheConstants.{MOST_HELD, MOST_RETIRED, MOST_ROWS, MOST_TRUSTED}
use Rattle.reg_base.specs.declared.limits.TheConstants.{MOST_EMISSIONS}
use Rattle.reg_base.specs.declared.shares.Share.{Share}
use Rattle.reg_base.specs.declared.movement.Change.{Change}
use Rattle.reg_base.specs.declared.movement.Change.TheVariants.{Debit, Credit, Retire, Unretire, Trust, Untrust}
use Rattle.reg_base.specs.declared.movement.Change.TheVariants.{SetStatus, SetEmissions, Determine}
use Rattle.reg_base.specs.declared.act.Act.{Act}
use Rattle.reg_base.specs.declared.act.Act.TheVariants.{Transfer}
use Rattle.reg_base.specs.declared.instruction.Instruction.{Instruction}
use Rattle.reg_base.specs.declared.refusals.Refusal.TheVariants.{ZeroAmount, UnknownTransaction, AlreadyReversed}
use Rattle.reg_base.specs.declared.refusals.Refusal.TheVariants.{NotEnough, HoldingTooLarge, RetiredTooLarge, RowsFull}
use Rattle.reg_base.specs.declared.refusals.Refusal.TheVariants.{ListFull, AmountTooLarge}
use Rattle.reg_base.specs.declared.kinds.Retirement.{Retirement}
use Rattle.reg_base.specs.declared.kinds.Retirement.TheVariants.{Surrendered, Deleted}
use Rattle.reg_base.specs.Rules.{RulesValue}
use Rattle.reg_base.specs.Acts.{movement_of, change_of, first, shares, amounts_named}
use Rattle.reg_account.specs.declared.rows.RetirementRow.{RetirementRow}
use Rattle.reg_account.specs.Rows.{retirement_of, row_in}
use Rattle.reg_account.specs.Account.{AccountValue, held_by, retired_by, CanUnretireRow}
use Rattle.reg_rules.specs.State.{State, Setting, Seen, Receiver, account, seen}
use Rattle.reg_rules.specs.Trust.{is_list_full}
use Rattle.reg_rules.specs.Checks.{is_unknown_transaction, is_already_reversed, is_short, overfills_first}
use Rattle.reg_rules.specs.Checks.{overfills_some, is_retired_too_large, are_rows_full, enters_too_much, refusal}
use Rattle.reg_rules.specs.Effect.{fate_of, CanMake, CanFirst, IsBehind}
use Rattle.reg_rules.proofs.Passed.{passed}

pub or-left : (a b : Bool) → (a || b) ≡ false → a ≡ false
or-left true b h = absurd (let e : true ≡ false = h in cc)
or-left false b h = refl

pub or-right : (a b : Bool) → (a || b) ≡ false → b ≡ false
or-right true b h = absurd (let e : true ≡ false = h in cc)
or-right false b h = h

-- the account holds fewer allowances than leave it by the change
short_by : Change → Seen → Bool
short_by (Debit kind amount) e = nat_lt (option_map_or (λ v. held_by v kind) e.first 0) amount
short_by (Retire way kind amount) e = nat_lt (option_map_or (λ v. held_by v kind) e.first 0) amount
short_by made e = false

-- what leaves by the row of an act is what leaves by its change; the last line stands for all other acts
short-made : (act : Act) (e : Seen) → is_short (movement_of act) e ≡ false → short_by (change_of act) e ≡ false
unfolding short_by
short-made (Transfer from to kind amount) e h = search
short-made act e h = search

-- the checks of amounts and rows that passed at a first account v
record HasPassed (made : Change) (e : Seen) : Type 0 where
  some : list_any (λ n. eqb n 0) (amounts_named made) ≡ false
  known : is_unknown_transaction made e ≡ false
  stands : is_already_reversed made e ≡ false
  enough : short_by made e ≡ false
  fits : overfills_first made e ≡ false
  retired : is_retired_too_large made e ≡ false
  rows : are_rows_full made e ≡ false
  space : is_list_full made e ≡ false
  entered : enters_too_much made ≡ false

above-zero : (n : ℕ) → (eqb n 0 || false) ≡ false → 1 ≤ n
above-zero n h = let e : eqb n 0 ≡ false = or-left (eqb n 0) false h in grind (arith, e)

below-full : (m n : ℕ) → nat_le m n ≡ false → n < m
below-full m n h = grind (arith, h)

-- the row that is to be reversed is there, not yet reversed, and there is room for its amount
can-reverse : (v : AccountValue) (o : Option RetirementRow)
    → is_none o ≡ false → option_map_or (λ row. row.reversed) o false ≡ false
    → option_map_or (λ row. nat_lt MOST_HELD (held_by v row.kind + row.amount)) o false ≡ false
    → MatchOption o ⊥ (CanUnretireRow v)
can-reverse v None known stands room = absurd (let h : true ≡ false = known in cc)
can-reverse v (Some row) known stands room =
    record { stands = stands; fits = ltb-false MOST_HELD (held_by v row.kind + row.amount) room }

-- what becomes of the allowances is what the act does with them
retirement-of : (rules : RulesValue) (way : Retirement) → retirement_of (fate_of rules way) ≡ way
retirement-of rules Surrendered = refl
retirement-of rules Deleted = refl

first-can : (c : Setting) (n : ℕ) (made : Change) (v : AccountValue) (rs : List Receiver)
    → HasPassed made (record { first = Some v; receivers = rs }) → IsBehind n v → CanMake c n made v
unfolding short_by
first-can c n (Debit kind amount) v rs p behind = ltb-false (held_by v kind) amount p.enough
first-can c n (Credit kind amount) v rs p behind = ltb-false MOST_HELD (held_by v kind + amount) p.fits
first-can c n (Retire way kind amount) v rs p behind = record {
  fresh = refl;
  some = above-zero amount p.some;
  later = behind;
  space = below-full MOST_ROWS (length v.rows) p.rows;
  enough = ltb-false (held_by v kind) amount p.enough;
  fits = subst (λ w. retired_by v w kind + amount ≤ MOST_RETIRED) (sym (retirement-of c.rules way))
      (ltb-false MOST_RETIRED (retired_by v way kind + amount) p.retired);
}
first-can c n (Unretire number) v rs p behind = can-reverse v (row_in v.rows number) p.known p.stands p.fits
first-can c n (Trust other) v rs p behind = below-full MOST_TRUSTED (length v.trusted) p.space
first-can c n (Untrust other) v rs p behind = tt
first-can c n (SetStatus status) v rs p behind = tt
first-can c n (SetEmissions year tonnes) v rs p behind =
    ltb-false MOST_EMISSIONS tonnes (or-left (nat_lt MOST_EMISSIONS tonnes) false p.entered)
first-can c n (Determine year) v rs p behind = tt

-- the first account of an act that no check refuses
pub can-first : (c : Setting) (s : State) (n : ℕ) (i : Instruction) (v : AccountValue) → refusal c s i ≡ None
    → account s (first i.act) ≡ Some v → IsBehind n v → CanFirst c n i.act v
can-first c s n i v none found behind = first-can c n (change_of i.act) v (seen s i.act).receivers (record {
  some = or-right (list_any (λ n. eqb n 0) (map (λ (share : Share). share.amount) (shares i.act)))
      (list_any (λ n. eqb n 0) (amounts_named (change_of i.act)))
      (sym (list_any-append (λ n. eqb n 0) (map (λ (share : Share). share.amount) (shares i.act))
      (amounts_named (change_of i.act))) ∙ passed c s i ZeroAmount none refl);
  known = at (λ e. is_unknown_transaction (change_of i.act) e) (passed c s i UnknownTransaction none refl);
  stands = at (λ e. is_already_reversed (change_of i.act) e) (passed c s i AlreadyReversed none refl);
  enough = short-made i.act _ (at (λ e. is_short (movement_of i.act) e) (passed c s i NotEnough none refl));
  fits = at (λ e. overfills_first (change_of i.act) e)
      (or-left (overfills_first (change_of i.act) (seen s i.act)) (overfills_some (movement_of i.act) (seen s i.act))
      (passed c s i HoldingTooLarge none refl));
  retired = at (λ e. is_retired_too_large (change_of i.act) e) (passed c s i RetiredTooLarge none refl);
  rows = at (λ e. are_rows_full (change_of i.act) e) (passed c s i RowsFull none refl);
  space = at (λ e. is_list_full (change_of i.act) e) (passed c s i ListFull none refl);
  entered = passed c s i AmountTooLarge none refl;
}) behind where
  at : (test : Seen → Bool) → test (seen s i.act) ≡ false
      → test (record { first = Some v; receivers = (seen s i.act).receivers }) ≡ false
  at test h = ap (λ o. test (record { first = o; receivers = (seen s i.act).receivers })) (sym found) ∙ h
