-- An arrow's tail is the last toucher of its account before the head.
use Rattle.std.proofs.Common.{◌≡◌, ℕ, zero, suc, ◌-◌, ◌≤◌, inl, inr, true, List, arith, sym, ap, subst}
use Rattle.std.proofs.Common.{◌∙◌}
use Rattle.std.proofs.lemmas.Bool.{cases_lt}
use Rattle.reg_facts.proofs.lemmas.Numbers.{clash}
use Rattle.reg_base.specs.declared.instruction.Instruction.{Instruction}
use Rattle.reg_base.specs.Directory.{DirectoryValue}
use Rattle.reg_base.specs.Touches.{touches_at, last_toucher, IsLastToucher, LastToucherIsLast}
use Rattle.reg_plan.specs.declared.arrow.Arrow.{Arrow}
use Rattle.reg_plan.specs.Arrows.{IsArrow, touches_place}
use Rattle.reg_plan.specs.Laws.{LeadsFromLastToucher, TailsAreLastTouchers}
use Rattle.reg_plan.proofs.Results.{place_within}

module _ (d : DirectoryValue) (is : List Instruction) where
  -- a place from 1, as one counted from 0
  before_of : (a place : ℕ) → 1 ≤ place → touches_place d is a place ≡ touches_at d is a (place - 1)
  before_of a zero le = absurd (omega arith)
  before_of a (suc k) le = let same : k ≡ suc k - 1 = omega arith in ap (touches_at d is a) same

  same_place : (w : Arrow) (last : ℕ) → IsArrow d is w → IsLastToucher d is w.account (w.to - 1) last → w.from ≡ last
  same_place w last h l = elim (cases_lt last w.from) [
    | inl early ↦ absurd (clash (sym (before_of w.account w.from one) ∙ h.tail)
        (l.none_later (w.from - 1) (omega arith) (omega (arith, h.forward, one))))
    | inr le ↦ elim (cases_lt w.from last) [
      | inr same ↦ omega arith
      | inl late ↦
          let k : last ≡ suc (last - 1) = omega arith in
          let on : touches_place d is w.account last ≡ true =
          before_of w.account last (omega arith) ∙ l.toucher (last - 1) k in
          absurd (clash on (h.none_between last late (omega (arith, l.among, h.forward, one))))
    ]
  ] where
    one : 1 ≤ w.from
    one = (place_within d is w.account w.from h.tail).0

  arrow_from_last : (w : Arrow) → LeadsFromLastToucher d is w → IsLastToucher d is w.account (w.to - 1) w.from
      → IsArrow d is w
  arrow_from_last w h l = record {
    forward = omega (arith, l.among, to_one);
    tail = let k : w.from ≡ suc (w.from - 1) = omega (arith, h.is_one) in
        before_of w.account w.from h.is_one ∙ l.toucher (w.from - 1) k;
    head = h.head;
    none_between = λ place after before.
        before_of w.account place (omega arith) ∙ l.none_later (place - 1) (omega arith) (omega (arith, before, after));
  } where
    to_one : 1 ≤ w.to
    to_one = (place_within d is w.account w.to h.head).0

pub tails_are_last : LastToucherIsLast → TailsAreLastTouchers
tails_are_last last d is w = (
  (λ h. record {
    head = h.head;
    tail = same_place d is w (last_toucher d is w.account (w.to - 1)) h (last d is w.account (w.to - 1));
    is_one = (place_within d is w.account w.from h.tail).0;
  }),
  (λ h. arrow_from_last d is w h
      (subst (IsLastToucher d is w.account (w.to - 1)) (sym h.tail) (last d is w.account (w.to - 1)))),
)
