-- What each act of one account makes of the state, entry by entry.
use Rattle.std.proofs.Common.{◌≡◌, ℕ, ◌+◌, ◌-◌, ◌≤◌, Bool, true, false, cond, ◌||◌, eqb, ℤ, [], Option, Some, None, Ok}
use Rattle.std.proofs.Common.{Err, refl, sym, ap, subst, ◌∙◌, arith}
use Rattle.std.specs.Prelude.{◌≢◌, not, MatchOption}
use Rattle.std.specs.Option.{option_map, option_map_or}
use Rattle.std.proofs.lemmas.Bool.{eq-eqb, ne_eqb}
use Rattle.reg_base.specs.declared.kinds.AllowanceKind.{AllowanceKind}
use Rattle.reg_base.specs.declared.act.Act.TheVariants.{Surrender, Delete, Reverse, Create, EnterEmissions, Assess}
use Rattle.reg_base.specs.declared.instruction.Instruction.{Instruction}
use Rattle.reg_base.specs.declared.refusals.Refusal.TheVariants.{YearOutsidePeriod, EmissionsMissing}
use Rattle.reg_base.specs.Acts.{change_of}
use Rattle.reg_base.specs.Rules.{RulesValue, is_in_period}
use Rattle.reg_base.proofs.lemmas.RisesFrom.{rises_from}
use Rattle.reg_base.specs.declared.kinds.Retirement.TheVariants.{Surrendered, Deleted}
use Rattle.reg_account.specs.declared.rows.RetirementRow.{RetirementRow}
use Rattle.reg_account.specs.declared.years.Emission.{Emission}
use Rattle.reg_account.specs.declared.years.Figure.{Figure}
use Rattle.reg_account.specs.declared.figure.FigureFault.TheVariants.{YearOutsidePeriod as OutsidePeriod}
use Rattle.reg_account.specs.Rows.{amount_in, retired_in, row_numbers, row_in}
use Rattle.reg_account.specs.Trusted.{effective_in}
use Rattle.reg_account.specs.Years.{emissions_in, figure_in}
use Rattle.reg_account.specs.Account.{AccountValue, IsAccount, held_by, credited, retired, unretired_row}
use Rattle.reg_account.specs.Account.{with_emissions, with_determined, CanRetire, CanUnretireRow}
use Rattle.reg_account.specs.Figure.{figure_of, figure_by, emitted_unless, first_missing, years_counted}
use Rattle.reg_account.specs.Laws.{YearLaws}
use Rattle.reg_account.proofs.lemmas.Rows.{retired_pushed}
use Rattle.reg_rules.specs.State.{State, Setting, account, seen}
use Rattle.reg_rules.specs.Checks.{is_missing, lacks_emissions, names_year_outside, refusal}
use Rattle.reg_rules.specs.Effect.{new_row, assessed, with_changes}
use Rattle.reg_rules.specs.Laws.{set_aside, after_step, IsReady}
use Rattle.reg_rules.specs.ActLaws.{IsRetired, IsReversed, Creates, Reverses, Enters, Assesses}
use Rattle.reg_rules.proofs.Moves.{amount-with, amount-without}
use Rattle.reg_rules.proofs.Passed.{passed}
use Rattle.reg_rules.proofs.Rows.{row-number, finds-added, finds-other, finds-mark, finds-unmarked}
use Rattle.reg_rules.proofs.Rows.{sum-marked}
use Rattle.reg_rules.proofs.Singles.{single, single-can, stays, found-all}

pub creates : Creates
creates c s n i to kind amount is none =
    let one = single c s n i (Create to kind amount) is refl none in
    let t = after_step c s n i in
    let v = one.0 in
    let w = credited v kind amount in
    let at = one.1 in
    record {
      raised =
          ap (λ o. option_map_or (λ (u : AccountValue). held_by u kind) o 0) at.now
          ∙ amount-with v.held kind (held_by v kind + amount)
          ∙ sym (ap (λ o. option_map_or (λ (u : AccountValue). held_by u kind) o 0 + amount) at.was);
      other_kinds = λ other apart.
          ap (λ o. option_map_or (λ (u : AccountValue). held_by u other) o 0) at.now
          ∙ amount-without v.held kind other (held_by v kind + amount) apart
          ∙ sym (ap (λ o. option_map_or (λ (u : AccountValue). held_by u other) o 0) at.was);
      other_accounts = at.others;
      rows_stay = stays s t to v w (λ o. option_map_or (λ (u : AccountValue). u.rows) o []) at.was at.now at.others
          refl;
      emissions_stay = λ a year.
          stays s t to v w (λ o. option_map_or (λ (u : AccountValue). emissions_in u.emissions year) o None) at.was
          at.now at.others refl a;
      figures_stay = λ a year. stays s t to v w
          (λ o. option_map_or (λ (u : AccountValue). figure_in u.figures year) o None) at.was at.now at.others refl a;
      lists_stay = λ b other. stays s t to v w
          (λ o. option_map_or (λ (u : AccountValue). effective_in u.trusted other) o None) at.was at.now at.others refl
          b;
      statuses_stay = stays s t to v w (λ o. option_map (λ (u : AccountValue). u.status) o) at.was at.now at.others
          refl;
      rest_stays = stays s t to v w (λ o. option_map set_aside o) at.was at.now at.others refl;
    }

-- an account that retires this row, in two states that differ in nothing else
retired-state : (s t : State) (from : ℕ) (v : AccountValue) (new : RetirementRow) → CanRetire v new
    → account s from ≡ Some v → account t from ≡ Some (retired v new)
    → ((b : ℕ) → b ≢ from → account t b ≡ account s b) → IsRetired s t from new
retired-state s t from v new can was now others = record {
  enough = subst (λ o. new.amount ≤ option_map_or (λ (u : AccountValue). held_by u new.kind) o 0) (sym was) can.enough;
  lowered =
      ap (λ o. option_map_or (λ (u : AccountValue). held_by u new.kind) o 0) now
      ∙ amount-with v.held new.kind (held_by v new.kind - new.amount)
      ∙ sym (ap (λ o. option_map_or (λ (u : AccountValue). held_by u new.kind) o 0 - new.amount) was);
  other_kinds = λ other apart.
      ap (λ o. option_map_or (λ (u : AccountValue). held_by u other) o 0) now
      ∙ amount-without v.held new.kind other (held_by v new.kind - new.amount) apart
      ∙ sym (ap (λ o. option_map_or (λ (u : AccountValue). held_by u other) o 0) was);
  recorded = ap (λ o. row_in (option_map_or (λ (u : AccountValue). u.rows) o []) new.number) now
      ∙ finds-added v.rows new can.later;
  other_rows = λ number apart.
      ap (λ o. row_in (option_map_or (λ (u : AccountValue). u.rows) o []) number) now
      ∙ finds-other v.rows new number apart
      ∙ sym (ap (λ o. row_in (option_map_or (λ (u : AccountValue). u.rows) o []) number) was);
  sums = λ way kind.
      ap (λ o. retired_in way kind (option_map_or (λ (u : AccountValue). u.rows) o [])) now
      ∙ retired_pushed way kind v.rows new
      ∙ sym (ap (λ o. retired_in way kind (option_map_or (λ (u : AccountValue). u.rows) o []) + amount_in way kind new)
      was);
  other_accounts = others;
  emissions_stay = λ a year.
      stays s t from v (retired v new) (λ o. option_map_or (λ (u : AccountValue). emissions_in u.emissions year) o None)
      was now others refl a;
  figures_stay = λ a year. stays s t from v (retired v new)
      (λ o. option_map_or (λ (u : AccountValue). figure_in u.figures year) o None) was now others refl a;
  lists_stay = λ b other. stays s t from v (retired v new)
      (λ o. option_map_or (λ (u : AccountValue). effective_in u.trusted other) o None) was now others refl b;
  statuses_stay = stays s t from v (retired v new) (λ o. option_map (λ (u : AccountValue). u.status) o) was now others
      refl;
  rest_stays = stays s t from v (retired v new) (λ o. option_map set_aside o) was now others refl;
}

pub surrenders : (c : Setting) (s : State) (n : ℕ) (i : Instruction) (from : ℕ) (kind : AllowanceKind) (amount : ℕ)
    → i.act ≡ Surrender from kind amount → IsReady n s → refusal c s i ≡ None
    → IsRetired s (after_step c s n i) from (new_row c n Surrendered kind amount)
surrenders c s n i from kind amount is ready none =
    let one = single c s n i (Surrender from kind amount) is refl none in
    retired-state s (after_step c s n i) from one.0 (new_row c n Surrendered kind amount)
    (single-can c s n i (Surrender from kind amount) one.0 is ready none one.1.was) one.1.was one.1.now one.1.others

pub deletes : (c : Setting) (s : State) (n : ℕ) (i : Instruction) (from : ℕ) (kind : AllowanceKind) (amount : ℕ)
    → i.act ≡ Delete from kind amount → IsReady n s → refusal c s i ≡ None
    → IsRetired s (after_step c s n i) from (new_row c n Deleted kind amount)
deletes c s n i from kind amount is ready none =
    let one = single c s n i (Delete from kind amount) is refl none in
    retired-state s (after_step c s n i) from one.0 (new_row c n Deleted kind amount)
    (single-can c s n i (Delete from kind amount) one.0 is ready none one.1.was) one.1.was one.1.now one.1.others

-- an account that gets the allowances of this row back, in two states that differ in nothing else
reversed-state : (s t : State) (a reversed : ℕ) (v : AccountValue) (old : RetirementRow) → IsAccount v
    → CanUnretireRow v old → row_in v.rows reversed ≡ Some old → account s a ≡ Some v
    → account t a ≡ Some (unretired_row reversed v old) → ((b : ℕ) → b ≢ a → account t b ≡ account s b)
    → (old.number ≡ reversed) × IsReversed s t a old
reversed-state s t a reversed v old is can found was now others = (
  named,
  record {
    recorded = ap (λ o. row_in (option_map_or (λ (u : AccountValue). u.rows) o []) old.number) was
        ∙ ap (row_in v.rows) named ∙ found;
    stood = can.stands;
    raised =
        ap (λ o. option_map_or (λ (u : AccountValue). held_by u old.kind) o 0) now
        ∙ amount-with v.held old.kind (held_by v old.kind + old.amount)
        ∙ sym (ap (λ o. option_map_or (λ (u : AccountValue). held_by u old.kind) o 0 + old.amount) was);
    other_kinds = λ other apart.
        ap (λ o. option_map_or (λ (u : AccountValue). held_by u other) o 0) now
        ∙ amount-without v.held old.kind other (held_by v old.kind + old.amount) apart
        ∙ sym (ap (λ o. option_map_or (λ (u : AccountValue). held_by u other) o 0) was);
    marked = ap (λ o. row_in (option_map_or (λ (u : AccountValue). u.rows) o []) old.number) now
        ∙ ap (row_in (unretired_row reversed v old).rows) named ∙ finds-mark v.rows reversed old found;
    other_rows = λ number apart.
        ap (λ o. row_in (option_map_or (λ (u : AccountValue). u.rows) o []) number) now
        ∙ finds-unmarked v.rows reversed number (λ same. apart (same ∙ sym named))
        ∙ sym (ap (λ o. row_in (option_map_or (λ (u : AccountValue). u.rows) o []) number) was);
    sums = λ way kind.
        ap (λ o. retired_in way kind (option_map_or (λ (u : AccountValue). u.rows) o []) + amount_in way kind old) now
        ∙ sum-marked way kind 0 v.rows reversed old
        (rises_from 0 (row_numbers v.rows) is.rows_fit.rise (λ some. omega arith)) found
        ∙ sym (ap (λ o. retired_in way kind (option_map_or (λ (u : AccountValue). u.rows) o [])) was);
    other_accounts = others;
    emissions_stay = λ b year.
        stays s t a v (unretired_row reversed v old)
        (λ o. option_map_or (λ (u : AccountValue). emissions_in u.emissions year) o None) was now others refl b;
    figures_stay = λ b year. stays s t a v (unretired_row reversed v old)
        (λ o. option_map_or (λ (u : AccountValue). figure_in u.figures year) o None) was now others refl b;
    lists_stay = λ b other. stays s t a v (unretired_row reversed v old)
        (λ o. option_map_or (λ (u : AccountValue). effective_in u.trusted other) o None) was now others refl b;
    statuses_stay = stays s t a v (unretired_row reversed v old) (λ o. option_map (λ (u : AccountValue). u.status) o)
        was now others refl;
    rest_stays = stays s t a v (unretired_row reversed v old) (λ o. option_map set_aside o) was now others refl;
  },
) where
  named : old.number ≡ reversed
  named = row-number v.rows reversed old found

row-there : (v : AccountValue) (o : Option RetirementRow) → MatchOption o ⊥ (CanUnretireRow v) → (old : RetirementRow)
    × ((o ≡ Some old) × CanUnretireRow v old)
row-there v None can = absurd can
row-there v (Some old) can = (old, (refl, can))

pub reverses : Reverses
reverses c s n i a reversed is ready none =
    let one = single c s n i (Reverse a reversed) is refl none in
    let v = one.0 in
    let old = row-there v (row_in v.rows reversed)
    (single-can c s n i (Reverse a reversed) v is ready none one.1.was) in (
      old.0,
      reversed-state s (after_step c s n i) a reversed v old.0 (found-all IsAccount s a v ready.fit one.1.was) old.1.1
          old.1.0 one.1.was
          (one.1.now ∙ ap (λ o. Some (with_changes v (option_map_or (unretired_row reversed v) o v))) old.1.0)
          one.1.others,
    )

-- a list of years in which one year was set shows it, and all others as before
pub set-here : {Y : Type 0} (year : ℕ) (new old : Y) → cond (eqb year year) new old ≡ new
set-here year new old = ap (λ b. cond b new old) (eq-eqb year year refl)

pub set-elsewhere : {Y : Type 0} (year other : ℕ) (new old : Y) → other ≢ year → cond (eqb year other) new old ≡ old
set-elsewhere year other new old apart = ap (λ b. cond b new old) (ne_eqb year other (λ same. apart (sym same)))

pub enters : YearLaws → Enters
enters laws c s n i a year tonnes is ready none =
    let one = single c s n i (EnterEmissions a year tonnes) is refl none in
    let t = after_step c s n i in
    let v = one.0 in
    let at = one.1 in
    let new : Emission = record { year = year; tonnes = tonnes } in
    let w = with_emissions v new in
    let own = found-all IsAccount s a v ready.fit at.was in
    record {
      entered = ap (λ o. option_map_or (λ (u : AccountValue). emissions_in u.emissions year) o None) at.now
          ∙ laws.set_emissions v new year own ∙ set-here year (Some tonnes) (emissions_in v.emissions year);
      other_years = λ other apart.
          ap (λ o. option_map_or (λ (u : AccountValue). emissions_in u.emissions other) o None) at.now
          ∙ laws.set_emissions v new other own
          ∙ set-elsewhere year other (Some tonnes) (emissions_in v.emissions other) apart
          ∙ sym (ap (λ o. option_map_or (λ (u : AccountValue). emissions_in u.emissions other) o None) at.was);
      other_accounts = at.others;
      holdings_stay = λ b kind.
          stays s t a v w (λ o. option_map_or (λ (u : AccountValue). held_by u kind) o 0) at.was at.now at.others refl
          b;
      rows_stay = stays s t a v w (λ o. option_map_or (λ (u : AccountValue). u.rows) o []) at.was at.now at.others refl;
      figures_stay = λ b other.
          stays s t a v w (λ o. option_map_or (λ (u : AccountValue). figure_in u.figures other) o None) at.was at.now
          at.others refl b;
      lists_stay = λ b other. stays s t a v w
          (λ o. option_map_or (λ (u : AccountValue). effective_in u.trusted other) o None) at.was at.now at.others refl
          b;
      statuses_stay = stays s t a v w (λ o. option_map (λ (u : AccountValue). u.status) o) at.was at.now at.others refl;
      rest_stays = stays s t a v w (λ o. option_map set_aside o) at.was at.now at.others refl;
    }

-- a year in the period for which no emissions are missing has a figure
has-figure : (rules : RulesValue) (v : AccountValue) (year : ℕ) → is_in_period rules year ≡ true
    → is_missing (figure_of rules v year) ≡ false → (figure : ℤ) × (figure_of rules v year ≡ Ok figure)
has-figure rules v year inside there =
    go (is_in_period rules year) (first_missing v (years_counted rules year)) inside there where
      go : (b : Bool) (o : Option ℕ) → b ≡ true
          → is_missing (cond b (figure_by rules v year (emitted_unless v (years_counted rules year) o))
          (Err OutsidePeriod))
          ≡ false
          → (figure : ℤ) × (cond b (figure_by rules v year (emitted_unless v (years_counted rules year) o))
          (Err OutsidePeriod) ≡ Ok figure)
      go true None inside there = (_, refl)
      go true (Some missing) inside there = absurd (let e : true ≡ false = there in cc)
      go false o inside there = absurd (let e : false ≡ true = inside in cc)

not-outside : (b : Bool) → (not b || false) ≡ false → b ≡ true
not-outside true h = refl
not-outside false h = absurd (let e : true ≡ false = h in cc)

pub assesses : YearLaws → Assesses
assesses laws c s n i a year is ready none =
    let one = single c s n i (Assess a year) is refl none in
    let t = after_step c s n i in
    let v = one.0 in
    let at = one.1 in
    let own = found-all IsAccount s a v ready.fit at.was in
    let inside = not-outside (is_in_period c.rules year)
    (ap (λ act. names_year_outside c.rules (change_of act)) (sym is) ∙ passed c s i YearOutsidePeriod none refl) in
    let there : is_missing (figure_of c.rules v year) ≡ false =
    ap (λ o. lacks_emissions c.rules (change_of (Assess a year)) (record { first = o; receivers = [] })) (sym at.was)
    ∙ ap (λ act. lacks_emissions c.rules (change_of act) (seen s act)) (sym is)
    ∙ passed c s i EmissionsMissing none refl in
    let found = has-figure c.rules v year inside there in
    let figure = found.0 in
    let new : Figure = record { year = year; tonnes = figure } in
    let w = with_determined v new in
    let now : account t a ≡ Some w = at.now ∙ ap (λ r. Some (with_changes v (assessed v year r))) found.1 in (
      v,
      (
        figure,
        (
          at.was,
          (
            found.1,
            record {
              determined_now = ap (λ o. option_map_or (λ (u : AccountValue). figure_in u.figures year) o None) now
                  ∙ laws.determine v new year own ∙ set-here year (Some figure) (figure_in v.figures year);
              other_years = λ other apart.
                  ap (λ o. option_map_or (λ (u : AccountValue). figure_in u.figures other) o None) now
                  ∙ laws.determine v new other own
                  ∙ set-elsewhere year other (Some figure) (figure_in v.figures other) apart
                  ∙ sym (ap (λ o. option_map_or (λ (u : AccountValue). figure_in u.figures other) o None) at.was);
              other_accounts = at.others;
              holdings_stay = λ b kind.
                  stays s t a v w (λ o. option_map_or (λ (u : AccountValue). held_by u kind) o 0) at.was now at.others
                  refl b;
              rows_stay = stays s t a v w (λ o. option_map_or (λ (u : AccountValue). u.rows) o []) at.was now at.others
                  refl;
              emissions_stay = λ b other.
                  stays s t a v w (λ o. option_map_or (λ (u : AccountValue). emissions_in u.emissions other) o None)
                  at.was now at.others refl b;
              lists_stay = λ b other. stays s t a v w
                  (λ o. option_map_or (λ (u : AccountValue). effective_in u.trusted other) o None) at.was now at.others
                  refl b;
              statuses_stay = stays s t a v w (λ o. option_map (λ (u : AccountValue). u.status) o) at.was now at.others
                  refl;
              rest_stays = stays s t a v w (λ o. option_map set_aside o) at.was now at.others refl;
            },
          ),
        ),
      ),
    )
