-- The arrows and openings of sorted touches are those of the batch.
use Rattle.std.proofs.Common.{◌≡◌, ℕ, zero, suc, ◌≤◌, inl, inr, true, List, length, arith, sym}
use Rattle.std.proofs.Common.{subst, ◌&&◌, [], ◌∷◌}
use Rattle.std.specs.Prelude.{All}
use Rattle.std.specs.Cmp.{nat_eq_equiv}
use Rattle.std.proofs.lemmas.Bool.{cases_lt, false_from_ne_true}
use Rattle.std.proofs.lemmas.List.Elements.{All-from_recursion}
use Rattle.std.proofs.lemmas.Map.Keys.{IsDistinct-IsPermutation}
use Rattle.reg_facts.proofs.lemmas.Members.{In, in_from, contains_from, in_permuted, in_permuted_back, of_each_member}
use Rattle.reg_facts.proofs.lemmas.Numbers.{clash}
use Rattle.reg_base.specs.declared.instruction.Instruction.{Instruction}
use Rattle.reg_base.specs.Directory.{DirectoryValue}
use Rattle.reg_base.specs.Footprint.{EachFootprintIsSound}
use Rattle.reg_base.specs.Touches.{touches_at}
use Rattle.reg_plan.specs.declared.arrow.Arrow.{Arrow}
use Rattle.reg_plan.specs.declared.arrow.Opening.{Opening}
use Rattle.reg_plan.specs.declared.arrow.Touch.{Touch}
use Rattle.reg_plan.specs.Arrows.{touches_place, IsArrow, IsOpening, AreArrows, same_arrow}
use Rattle.reg_plan.specs.Plans.{AreOpenings, IsBetween}
use Rattle.reg_plan.specs.TouchList.{arrows_of, openings_of, AreSorted}
use Rattle.reg_plan.proofs.SortedTouches.{touches_from, same_touch, AreTouches}
use Rattle.reg_base.specs.Footprints.{footprints}
use Rattle.reg_plan.proofs.Links.{touch, Rises, IsLink, IsFirst, links_of_are, each_link_of, openings_of_are}
use Rattle.reg_plan.proofs.Links.{each_opening_of, distinct_arrows, openings_of_rise, rises-sorted}
use Rattle.reg_plan.proofs.Touchings.{touched-place, place-touched, distinct_touches}

same_touch-sym : (x y : Touch) → same_touch x y ≡ same_touch y x
same_touch-sym x y = λ i. (nat_eq_equiv.symm x.account y.account i) && (nat_eq_equiv.symm x.place y.place i)

same_arrow-sym : (x y : Arrow) → same_arrow x y ≡ same_arrow y x
same_arrow-sym x y = λ i. (nat_eq_equiv.symm x.account y.account i)
    && ((nat_eq_equiv.symm x.from y.from i) && (nat_eq_equiv.symm x.to y.to i))

-- a place that touches an account is one of the batch
pub place_within : (d : DirectoryValue) (is : List Instruction) (a place : ℕ) → touches_place d is a place ≡ true
    → (1 ≤ place) × (place ≤ length is)
place_within d is a zero e = absurd cc
place_within d is a (suc k) e = (omega arith, go is k e) where
  go : (js : List Instruction) (k : ℕ) → touches_at d js a k ≡ true → suc k ≤ length js
  go [] k e = absurd cc
  go (j ∷ js) zero e = omega arith
  go (j ∷ js) (suc k) e = omega (arith, go js k e)

pub arrow_between_places : (d : DirectoryValue) (is : List Instruction) (w : Arrow) → IsArrow d is w
    → IsBetween (length is) w
arrow_between_places d is w h = record {
  from_one = (place_within d is w.account w.from h.tail).0;
  forward = h.forward;
  within = (place_within d is w.account w.to h.head).1;
}

module _ (sound : EachFootprintIsSound) (d : DirectoryValue) (is : List Instruction) (ts : List Touch)
    (touches : AreTouches (footprints d is) ts) where
  rises : Rises ts
  rises = rises-sorted ts touches.sorted
      (IsDistinct-IsPermutation same_touch same_touch-sym (touches_from d 1 is) ts touches.each
      (distinct_touches sound d 1 is))

  touched : (t : Touch) → In t ts → touches_place d is t.account t.place ≡ true
  touched t m = touched-place d is t (in_permuted_back (touches_from d 1 is) ts t touches.each m)

  is_there : (a k : ℕ) → touches_place d is a k ≡ true → In (touch a k) ts
  is_there a k e = in_permuted (touches_from d 1 is) ts (touch a k) touches.each (place-touched d is a k e)

  arrow_of_link : (w : Arrow) → IsLink ts w → IsArrow d is w
  arrow_of_link w h = record {
    forward = h.forward;
    tail = touched (touch w.account w.from) h.tail;
    head = touched (touch w.account w.to) h.head;
    none_between = λ place after before.
        false_from_ne_true (touches_place d is w.account place)
        (λ e. elim (h.apart place (is_there w.account place e)) [
          | inl early ↦ omega arith
          | inr late ↦ omega arith
        ]);
  }

  link_of_arrow : (w : Arrow) → IsArrow d is w → IsLink ts w
  link_of_arrow w h = record {
    tail = is_there w.account w.from h.tail;
    head = is_there w.account w.to h.head;
    forward = h.forward;
    apart = λ k m. elim (cases_lt w.from k) [
      | inr early ↦ inl early
      | inl after ↦ elim (cases_lt k w.to) [
        | inr late ↦ inr late
        | inl before ↦ absurd (clash (touched (touch w.account k) m) (h.none_between k after before))
      ]
    ];
  }

  pub are_arrows : (arrows : List Arrow) → AreSorted ts arrows → AreArrows d is arrows
  are_arrows arrows made = record {
    exactly = λ w. (
      (λ c. arrow_of_link w (links_of_are ts rises w
          (in_permuted_back (arrows_of ts) arrows w made.each (in_from arrows w c)))),
      (λ h. contains_from arrows w
          (in_permuted (arrows_of ts) arrows w made.each (each_link_of ts rises w (link_of_arrow w h)))),
    );
    sorted = made.sorted;
    once = IsDistinct-IsPermutation same_arrow same_arrow-sym (arrows_of ts) arrows made.each
        (distinct_arrows ts rises);
  }

  opening_of_first : (o : Opening) → IsFirst ts o → IsOpening d is o
  opening_of_first o h = record {
    toucher = touched (touch o.account o.first) h.at;
    none_before = λ place before.
        false_from_ne_true (touches_place d is o.account place)
        (λ e. omega (arith, before, h.least place (is_there o.account place e)));
  }

  first_of_opening : (o : Opening) → IsOpening d is o → IsFirst ts o
  first_of_opening o h = record {
    at = is_there o.account o.first h.toucher;
    least = λ k m. elim (cases_lt k o.first) [
      | inr le ↦ le
      | inl before ↦ absurd (clash (touched (touch o.account k) m) (h.none_before k before))
    ];
  }

  pub are_openings : (openings : List Opening) → openings ≡ openings_of ts → AreOpenings d is openings
  are_openings openings made = subst (AreOpenings d is) (sym made) (record {
    exactly = λ o. (
      (λ c. opening_of_first o (openings_of_are ts rises o (in_from (openings_of ts) o c))),
      (λ h. contains_from (openings_of ts) o (each_opening_of ts rises o (first_of_opening o h))),
    );
    rising = openings_of_rise ts rises;
  })

  pub all_between : (arrows : List Arrow) → AreSorted ts arrows → All (IsBetween (length is)) arrows
  all_between arrows made =
      All-from_recursion (IsBetween (length is)) arrows (of_each_member (IsBetween (length is)) arrows (λ w m.
      arrow_between_places d is w
      (arrow_of_link w (links_of_are ts rises w (in_permuted_back (arrows_of ts) arrows w made.each m)))))
