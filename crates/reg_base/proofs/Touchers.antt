-- The last toucher of an account is the last instruction that touches it.
use Rattle.std.proofs.Common.{◌≡◌, zero, suc, Bool, true, false, cond, refl, ap, ◌∙◌, inl, inr, arith}
use Rattle.std.proofs.lemmas.Bool.{cases_lt}
use Rattle.reg_base.specs.Touches.{touches_at, last_toucher, IsLastToucher, LastToucherIsLast}

pub last_toucher-last : LastToucherIsLast
last_toucher-last d is a zero = record {
  among = omega arith;
  toucher = λ k e. absurd (omega (arith, e));
  none_later = λ k le lt. absurd (omega arith);
}
last_toucher-last d is a (suc j) = by (touches_at d is a j) refl (last_toucher-last d is a j)
  where
    by : (b : Bool) → touches_at d is a j ≡ b → IsLastToucher d is a j (last_toucher d is a j)
        → IsLastToucher d is a (suc j) (cond b (suc j) (last_toucher d is a j))
    by true touched before = record {
      among = omega arith;
      toucher = λ k e. ap (touches_at d is a) (omega (arith, e)) ∙ touched;
      none_later = λ k le lt. absurd (omega arith);
    }
    by false apart before = record {
      among = omega (arith, before.among);
      toucher = before.toucher;
      none_later = λ k le lt. elim (cases_lt k j) [
        | inl early ↦ before.none_later k le early
        | inr late ↦ let e : k ≡ j = omega arith in ap (touches_at d is a) e ∙ apart
      ];
    }
