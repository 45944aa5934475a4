use Rattle.std.proofs.Common.{◌≡◌, ◌≤◌, false, sym, ap, ◌∙◌, Some, subst, drop, length, List, ℕ}
use Rattle.std.proofs.lemmas.List.{length-map}
use Rattle.reg_account.specs.declared.rows.RetirementRow.{RetirementRow}
use Rattle.std.specs.Prelude.{MatchOption}
use Rattle.reg_base.specs.Rising.{IsRising}
use Rattle.reg_account.specs.Lists.{HistoryValue}
use Rattle.reg_account.specs.Rows.{retirement_of, amount_for, row_in, row_numbers, marked_reversed, with_mark}
use Rattle.reg_account.proofs.RowFacts.{sums_marked, own_counted, own_counted_for}
use Rattle.reg_account.proofs.Changes.{of_found, written_back}
use Rattle.reg_account.proofs.kept.Kept.reverse.Goals as goal

pub uncount_row-requires-clause-counted : goal.uncount_row-requires-clause-counted
uncount_row-requires-clause-counted c =
    let rows = c.self.inside.rows.items in
    let row = c.mark_reversed-row.result in
    let same : c.deref.result.now ≡ c.deref_mut.result.now = c.deref.ensures.value ∙ sym c.deref_mut.ensures.value in
    let named = rw same at c.in-Some.ensures.has_number in
    let found : row_in rows c.args.number ≡ Some row =
    ap (λ (rs : List RetirementRow). row_in rs c.args.number) (sym c.deref_mut.ensures.value)
    ∙ ap (row_in c.deref_mut.result.now) (sym named) ∙ c.mark_reversed-row.ensures.row in
    of_found (λ (r : RetirementRow). r.reversed ≡ false) (row_in rows c.args.number) row found
    (subst (λ (v : HistoryValue).
    MatchOption (row_in v.rows c.args.number) ⊥ (λ (r : RetirementRow). r.reversed ≡ false))
    (sym c.self.view_is) c.requires.stands)

pub uncount_row-requires-clause-enough : goal.uncount_row-requires-clause-enough
uncount_row-requires-clause-enough c =
    let rows = c.self.inside.rows.items in
    let row = c.mark_reversed-row.result in
    let same : c.deref.result.now ≡ c.deref_mut.result.now = c.deref.ensures.value ∙ sym c.deref_mut.ensures.value in
    let named = rw same at c.in-Some.ensures.has_number in
    let found : row_in rows c.args.number ≡ Some row =
    ap (λ (rs : List RetirementRow). row_in rs c.args.number) (sym c.deref_mut.ensures.value)
    ∙ ap (row_in c.deref_mut.result.now) (sym named) ∙ c.mark_reversed-row.ensures.row in
    let stands = of_found (λ (r : RetirementRow). r.reversed ≡ false) (row_in rows c.args.number) row found
    (subst (λ (v : HistoryValue).
    MatchOption (row_in v.rows c.args.number) ⊥ (λ (r : RetirementRow). r.reversed ≡ false))
    (sym c.self.view_is) c.requires.stands) in
    subst (λ n. row.amount ≤ n) (sym (c.self.invariant.at (retirement_of row.fate) row.kind))
    (own_counted rows c.args.number row
    (subst (λ (v : HistoryValue). IsRising (row_numbers v.rows)) (sym c.self.view_is) c.requires.rising) found
    stands)

pub uncount_row-requires-clause-enough_for : goal.uncount_row-requires-clause-enough_for
uncount_row-requires-clause-enough_for c period within =
    let rows = c.self.inside.rows.items in
    let row = c.mark_reversed-row.result in
    let same : c.deref.result.now ≡ c.deref_mut.result.now = c.deref.ensures.value ∙ sym c.deref_mut.ensures.value in
    let named = rw same at c.in-Some.ensures.has_number in
    let found : row_in rows c.args.number ≡ Some row =
    ap (λ (rs : List RetirementRow). row_in rs c.args.number) (sym c.deref_mut.ensures.value)
    ∙ ap (row_in c.deref_mut.result.now) (sym named) ∙ c.mark_reversed-row.ensures.row in
    subst (λ n. amount_for period row ≤ n) (sym (c.self.invariant.for period within))
    (own_counted_for rows c.args.number row period
    (subst (λ (v : HistoryValue). IsRising (row_numbers v.rows)) (sym c.self.view_is) c.requires.rising) found)

pub invariant_of-self : goal.invariant_of-self
invariant_of-self c =
    let rows = c.self.inside.rows.items in
    let row = c.mark_reversed-row.result in
    let number = c.args.number in
    let same : c.deref.result.now ≡ c.deref_mut.result.now = c.deref.ensures.value ∙ sym c.deref_mut.ensures.value in
    let named = rw same at c.in-Some.ensures.has_number in
    let found : row_in rows number ≡ Some row =
    ap (λ (rs : List RetirementRow). row_in rs number) (sym c.deref_mut.ensures.value)
    ∙ ap (row_in c.deref_mut.result.now) (sym named) ∙ c.mark_reversed-row.ensures.row in
    let marks : c.mark_reversed-row.new.rows ≡ with_mark number rows =
    c.mark_reversed-row.ensures.marked ∙ ap (λ (n : ℕ). with_mark n c.deref_mut.result.now) named
    ∙ ap (with_mark number) c.deref_mut.ensures.value in
    let size : length c.mark_reversed-row.new.rows ≡ c.self.inside.rows.len =
    ap length marks ∙ length-map rows (marked_reversed number) ∙ sym (ap length c.deref_mut.ensures.value)
    ∙ c.deref_mut.ensures.len in
    let back = written_back c.mark_reversed-row.new.rows (drop (length c.mark_reversed-row.new.rows) rows)
    c.self.inside.rows.len size in
    rw (back, marks) (sums_marked c.self.inside.sums c.uncount_row.new.sums rows number row
    (subst (λ (v : HistoryValue). IsRising (row_numbers v.rows)) (sym c.self.view_is) c.requires.rising) found
    c.self.invariant c.uncount_row.ensures.counted c.uncount_row.ensures.counted_for
    c.uncount_row.ensures.eight)
