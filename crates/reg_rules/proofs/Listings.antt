-- What the acts on trusted lists and statuses make of the state, entry by entry.
use Rattle.std.proofs.Common.{◌≡◌, true, false, [], Option, Some, None, refl, sym, ap, ◌∙◌}
use Rattle.std.specs.Prelude.{is_none, is_some}
use Rattle.std.specs.Option.{option_map, option_map_or}
use Rattle.reg_base.specs.declared.act.Act.TheVariants.{Trust, Untrust, SetStatus}
use Rattle.reg_base.specs.declared.refusals.Refusal.TheVariants.{OutsideCalendar, AlreadyTrusted, NotOnList}
use Rattle.reg_base.specs.Acts.{change_of}
use Rattle.reg_account.specs.declared.trusted.TrustedEntry.{TrustedEntry}
use Rattle.reg_account.specs.Trusted.{effective_in}
use Rattle.reg_account.specs.Years.{emissions_in, figure_in}
use Rattle.reg_account.specs.Account.{AccountValue, IsAccount, held_by, with_trusted, without_trusted, with_status}
use Rattle.reg_account.specs.Laws.{TrustLaws}
use Rattle.reg_rules.specs.State.{account, seen}
use Rattle.reg_rules.specs.Trust.{due_day, effective_day, has_no_effective_day, is_already_trusted, is_not_on_list}
use Rattle.reg_rules.specs.Effect.{listed_from, with_changes}
use Rattle.reg_rules.specs.Laws.{set_aside, after_step}
use Rattle.reg_rules.specs.ActLaws.{Trusts, Untrusts, Sets}
use Rattle.reg_rules.proofs.Firsts.{or-right}
use Rattle.reg_rules.proofs.Acts.{set-here, set-elsewhere}
use Rattle.reg_rules.proofs.Passed.{passed}
use Rattle.reg_rules.proofs.Singles.{single, stays, found-all}

-- what is there, and what is not
is-there : {X : Type 0} (o : Option X) → is_none o ≡ false → (x : X) × (o ≡ Some x)
is-there None h = absurd (let e : true ≡ false = h in cc)
is-there (Some x) h = (x, refl)

is-absent : {X : Type 0} (o : Option X) → is_some o ≡ false → o ≡ None
is-absent None h = refl
is-absent (Some x) h = absurd (let e : true ≡ false = h in cc)

pub trusts : TrustLaws → Trusts
trusts laws c s n i a other is ready none =
    let one = single c s n i (Trust a other) is refl none in
    let t = after_step c s n i in
    let v = one.0 in
    let at = one.1 in
    let own = found-all IsAccount s a v ready.fit at.was in
    let dated = is-there (effective_day c)
    (ap (λ act. has_no_effective_day c (change_of act)) (sym is)
    ∙ or-right (is_none (due_day c (seen s i.act) i)) (has_no_effective_day c (change_of i.act))
    (passed c s i OutsideCalendar none refl)) in
    let missing : effective_in v.trusted other ≡ None = is-absent (effective_in v.trusted other)
    (ap (λ o. is_already_trusted (change_of (Trust a other)) (record { first = o; receivers = [] })) (sym at.was)
    ∙ ap (λ act. is_already_trusted (change_of act) (seen s act)) (sym is) ∙ passed c s i AlreadyTrusted none refl) in
    let day = dated.0 in
    let new : TrustedEntry = record { account = other; effective = day } in
    let w = with_trusted v new in
    let now : account t a ≡ Some w = at.now ∙ ap (λ o. Some (with_changes v (listed_from v other o))) dated.1 in (
      day,
      (
        dated.1,
        record {
          absent = ap (λ o. option_map_or (λ (u : AccountValue). effective_in u.trusted other) o None) at.was ∙ missing;
          added = ap (λ o. option_map_or (λ (u : AccountValue). effective_in u.trusted other) o None) now
              ∙ laws.trust v new other own ∙ set-here other (Some day) (effective_in v.trusted other);
          other_entries = λ b apart.
              ap (λ o. option_map_or (λ (u : AccountValue). effective_in u.trusted b) o None) now
              ∙ laws.trust v new b own ∙ set-elsewhere other b (Some day) (effective_in v.trusted b) apart
              ∙ sym (ap (λ o. option_map_or (λ (u : AccountValue). effective_in u.trusted b) o None) at.was);
          other_accounts = at.others;
          holdings_stay = λ b kind.
              stays s t a v w (λ o. option_map_or (λ (u : AccountValue). held_by u kind) o 0) at.was now at.others refl
              b;
          rows_stay = stays s t a v w (λ o. option_map_or (λ (u : AccountValue). u.rows) o []) at.was now at.others
              refl;
          emissions_stay = λ b year.
              stays s t a v w (λ o. option_map_or (λ (u : AccountValue). emissions_in u.emissions year) o None) at.was
              now at.others refl b;
          figures_stay = λ b year. stays s t a v w
              (λ o. option_map_or (λ (u : AccountValue). figure_in u.figures year) o None) at.was now at.others refl b;
          statuses_stay = stays s t a v w (λ o. option_map (λ (u : AccountValue). u.status) o) at.was now at.others
              refl;
          rest_stays = stays s t a v w (λ o. option_map set_aside o) at.was now at.others refl;
        },
      ),
    )

pub untrusts : TrustLaws → Untrusts
untrusts laws c s n i a other is none =
    let one = single c s n i (Untrust a other) is refl none in
    let t = after_step c s n i in
    let v = one.0 in
    let at = one.1 in
    let found = is-there (effective_in v.trusted other)
    (ap (λ o. is_not_on_list (change_of (Untrust a other)) (record { first = o; receivers = [] })) (sym at.was)
    ∙ ap (λ act. is_not_on_list (change_of act) (seen s act)) (sym is) ∙ passed c s i NotOnList none refl) in
    let w = without_trusted v other in
    let now : account t a ≡ Some w = at.now in
    record {
      present = (
        found.0,
        ap (λ o. option_map_or (λ (u : AccountValue). effective_in u.trusted other) o None) at.was
            ∙ found.1,
      );
      removed = ap (λ o. option_map_or (λ (u : AccountValue). effective_in u.trusted other) o None) now
          ∙ laws.untrust v other other ∙ set-here other None (effective_in v.trusted other);
      other_entries = λ b apart.
          ap (λ o. option_map_or (λ (u : AccountValue). effective_in u.trusted b) o None) now ∙ laws.untrust v other b
          ∙ set-elsewhere other b None (effective_in v.trusted b) apart
          ∙ sym (ap (λ o. option_map_or (λ (u : AccountValue). effective_in u.trusted b) o None) at.was);
      other_accounts = at.others;
      holdings_stay = λ b kind.
          stays s t a v w (λ o. option_map_or (λ (u : AccountValue). held_by u kind) o 0) at.was now at.others refl b;
      rows_stay = stays s t a v w (λ o. option_map_or (λ (u : AccountValue). u.rows) o []) at.was now at.others refl;
      emissions_stay = λ b year.
          stays s t a v w (λ o. option_map_or (λ (u : AccountValue). emissions_in u.emissions year) o None) at.was now
          at.others refl b;
      figures_stay = λ b year. stays s t a v w
          (λ o. option_map_or (λ (u : AccountValue). figure_in u.figures year) o None) at.was now at.others refl b;
      statuses_stay = stays s t a v w (λ o. option_map (λ (u : AccountValue). u.status) o) at.was now at.others refl;
      rest_stays = stays s t a v w (λ o. option_map set_aside o) at.was now at.others refl;
    }

pub sets : Sets
sets c s n i a new is none =
    let one = single c s n i (SetStatus a new) is refl none in
    let t = after_step c s n i in
    let v = one.0 in
    let at = one.1 in
    let w = with_status v new in
    let now : account t a ≡ Some w = at.now in
    record {
      now_set = ap (λ o. option_map (λ (u : AccountValue). u.status) o) now;
      other_accounts = at.others;
      holdings_stay = λ b kind.
          stays s t a v w (λ o. option_map_or (λ (u : AccountValue). held_by u kind) o 0) at.was now at.others refl b;
      rows_stay = stays s t a v w (λ o. option_map_or (λ (u : AccountValue). u.rows) o []) at.was now at.others refl;
      emissions_stay = λ b year.
          stays s t a v w (λ o. option_map_or (λ (u : AccountValue). emissions_in u.emissions year) o None) at.was now
          at.others refl b;
      figures_stay = λ b year. stays s t a v w
          (λ o. option_map_or (λ (u : AccountValue). figure_in u.figures year) o None) at.was now at.others refl b;
      lists_stay = λ b other. stays s t a v w
          (λ o. option_map_or (λ (u : AccountValue). effective_in u.trusted other) o None) at.was now at.others refl b;
      rest_stays = stays s t a v w (λ o. option_map set_aside o) at.was now at.others refl;
    }
