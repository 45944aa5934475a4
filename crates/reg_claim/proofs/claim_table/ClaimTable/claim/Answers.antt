use Rattle.std.proofs.Common.{◌≡◌, ◌≢◌, ℕ, Bool, true, false, nat_eq, refl, arith, subst, sym, Contains, MatchBool}
use Rattle.std.proofs.lemmas.Bool.Decides.{nat_tests}
use Rattle.std.proofs.lemmas.List.Elements.{Contains-push}
use Rattle.reg_claim.specs.declared.views.SeatView.{SeatView}
use Rattle.reg_claim.proofs.Keeps.{claim-allowed}
use Rattle.reg_claim.proofs.claim_table.ClaimTable.claim.Goals as goal

pub swap-found-requires : goal.swap-found-requires
swap-found-requires c = (
  c.requires.own,
  omega (arith, c.args.self.now.wide, c.requires.within),
  claim-allowed _ _ _ _ _ c.args.seat.now.lives c.requires.place c.requires.within,
)

by_answer : (answer : Bool) {P Q : Type 0} → (answer ≡ true → P) → (answer ≡ false → Q) → MatchBool answer P Q
by_answer true gets taken = gets refl
by_answer false gets taken = taken refl

zero-found : (found : ℕ) → nat_eq found 0 ≡ true → found ≡ 0
zero-found found h = grind (arith, nat_tests)

set-found : (found : ℕ) → nat_eq found 0 ≡ false → found ≢ 0
set-found found h = grind (arith, nat_tests)

pub returns-clause-answer : goal.returns-clause-answer
returns-clause-answer c =
    let found = c.swap-found.result in
    let step = c.swap-found.ensures.2 in
    by_answer (nat_eq found 0) (λ zero. let told = step.1 (zero-found found zero) in record {
      view = told.0;
      first = told.1;
      claimed = subst (λ (v : SeatView). Contains v.claimed c.args.place) (sym told.0)
          (Contains-push c.args.seat.now.seat.me.0.claimed c.args.place);
      unfinished = subst (λ (v : SeatView). ¬ Contains v.finished c.args.place) (sym told.0) told.2;
    }) (λ set. (step.2 (set-found found set)).0)
