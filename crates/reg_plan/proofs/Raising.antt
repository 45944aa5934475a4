-- Levels, raised arrow by arrow in the order of their heads.
use Rattle.std.proofs.Common.{◌≡◌, ℕ, ◌+◌, ◌-◌, ◌<◌, ◌≤◌, inl, inr, cond, eqb, max, List, [], ◌∷◌, ◌++◌, length}
use Rattle.std.proofs.Common.{get_or, set, take, arith, refl, sym, ap, subst, ◌∙◌}
use Rattle.std.specs.Prelude.{All}
use Rattle.std.specs.List.{AllByRecursion}
use Rattle.std.specs.List.Sorted.{IsNonDecreasingBy}
use Rattle.std.proofs.lemmas.Bool.{cases_lt, cases_eq, eq-eqb, ne_eqb}
use Rattle.std.proofs.lemmas.List.{length-set, get_or-set_same, get_or-set_other, get_or_past, length-take, get_or-take}
use Rattle.std.proofs.lemmas.List.{append-nil}
use Rattle.std.proofs.lemmas.List.Elements.{filter_more, recursion_from_All, All-from_get_or}
use Rattle.reg_facts.proofs.lemmas.Lists.{all-filter}
use Rattle.reg_plan.specs.declared.arrow.Arrow.{Arrow}
use Rattle.reg_plan.specs.Plans.{inward, level_at, greatest_tail, AreLevels, IsBetween}

-- these are the levels by these arrows, and no level is above its place
pub record AreRaised (arrows : List Arrow) (levels : List ℕ) : Type 0 where
  pub levels_are : AreLevels arrows levels
  pub low : (place : ℕ) → 1 ≤ place → level_at levels place ≤ place

pub raised_none : (levels : List ℕ) → All (λ level. level ≡ 1) levels → AreRaised [] levels
raised_none levels one = record {
  levels_are = λ place le within. one (place - 1) 0 (omega arith);
  low = λ place le. elim (cases_lt (place - 1) (length levels)) [
    | inl within ↦ omega (arith, one (place - 1) 0 within)
    | inr past ↦ omega (arith, get_or_past levels (place - 1) 0 past)
  ];
}

greatest-append : (levels : List ℕ) (xs : List Arrow) (w : Arrow) → greatest_tail levels (xs ++ w ∷ [])
    ≡ max (greatest_tail levels xs) (level_at levels w.from)
greatest-append levels [] w = omega arith
greatest-append levels (x ∷ xs) w = omega (arith, greatest-append levels xs w)

-- another place's level changes
greatest-set : (levels : List ℕ) (j v : ℕ) (xs : List Arrow) → AllByRecursion (λ (w : Arrow). w.from - 1 ≡ j → ⊥) xs
    → greatest_tail (set levels j v) xs ≡ greatest_tail levels xs
greatest-set levels j v [] apart = refl
greatest-set levels j v (x ∷ xs) apart =
    ap (λ n. max n (greatest_tail (set levels j v) xs)) (get_or-set_other levels j (x.from - 1) v 0 apart.0)
    ∙ ap (λ n. max (level_at levels x.from) n) (greatest-set levels j v xs apart.1)

module _ (arrows : List Arrow) (k : ℕ) (w : Arrow) (levels : List ℕ) (here : k < length arrows)
    (is : w ≡ get_or arrows k w)
    (by_head : IsNonDecreasingBy (λ (x : Arrow). x.to) arrows) (between : All (IsBetween (length levels)) arrows)
    (old : AreRaised (take k arrows) levels) where
  fits : IsBetween (length levels) w
  fits = subst (IsBetween (length levels)) (sym is) (between k w here)

  abbrev value : ℕ
  value = max (level_at levels w.to) (level_at levels w.from + 1)

  abbrev now : List ℕ
  now = set levels (w.to - 1) (max (level_at levels w.to) (level_at levels w.from + 1))

  -- no arrow so far leaves the head
  apart : (x : Arrow) (n : ℕ) → IsBetween n x → x.to ≤ w.to → x.from - 1 ≡ w.to - 1 → ⊥
  apart x n b le e = omega (arith, b.from_one, b.forward, le, e, fits.from_one, fits.forward)

  all_apart : AllByRecursion (λ (x : Arrow). x.from - 1 ≡ w.to - 1 → ⊥) (take k arrows)
  all_apart = recursion_from_All (λ (x : Arrow). x.from - 1 ≡ w.to - 1 → ⊥) (take k arrows)
      (All-from_get_or (λ (x : Arrow). x.from - 1 ≡ w.to - 1 → ⊥) (take k arrows) w (λ i lt.
      let before : i < k = omega (arith, length-take k arrows, lt) in
      let same : get_or (take k arrows) i w ≡ get_or arrows i w = get_or-take k arrows i w before in
      let below : (get_or arrows i w).to ≤ (get_or arrows k w).to = by_head i k w (omega arith) here in
      let b : IsBetween (length levels) (get_or arrows i w) = between i w (omega arith) in
      λ e. apart (get_or arrows i w) (length levels) b (omega (arith, below, ap (λ (x : Arrow). x.to) is))
      (ap (λ (x : Arrow). x.from - 1) (sym same) ∙ e)))

  same_greatest : (p : ℕ) → greatest_tail now (inward (take k arrows) p)
      ≡ greatest_tail levels (inward (take k arrows) p)
  same_greatest p = greatest-set levels (w.to - 1) value (inward (take k arrows) p)
      (all-filter (λ (x : Arrow). x.from - 1 ≡ w.to - 1 → ⊥) (λ (x : Arrow). eqb x.to p) (take k arrows) all_apart)

  grown : (p : ℕ) → inward (take (k + 1) arrows) p ≡ inward (take k arrows) p ++ cond (eqb w.to p) (w ∷ []) []
  grown p =
      filter_more (λ (x : Arrow). eqb x.to p) arrows k w here
      ∙ ap (λ (x : Arrow). inward (take k arrows) p ++ cond (eqb x.to p) (x ∷ []) []) (sym is)

  tail_level : level_at now w.from ≡ level_at levels w.from
  tail_level = get_or-set_other levels (w.to - 1) (w.from - 1) value 0
      (λ e. apart w (length levels) fits (omega arith) e)

  head_level : level_at now w.to ≡ value
  head_level = get_or-set_same levels (w.to - 1) value 0 (omega (arith, fits.from_one, fits.forward, fits.within))

  other_level : (p : ℕ) → 1 ≤ p → (p ≡ w.to → ⊥) → level_at now p ≡ level_at levels p
  other_level p le ne = get_or-set_other levels (w.to - 1) (p - 1) value 0
      (λ e. ne (omega (arith, e, fits.from_one, fits.forward)))

  at_head : level_at now w.to ≡ 1 + greatest_tail now (inward (take (k + 1) arrows) w.to)
  at_head =
      let was : level_at levels w.to ≡ 1 + greatest_tail levels (inward (take k arrows) w.to) =
      old.levels_are w.to (omega (arith, fits.from_one, fits.forward)) fits.within in
      let more : greatest_tail now (inward (take (k + 1) arrows) w.to)
      ≡ max (greatest_tail now (inward (take k arrows) w.to)) (level_at now w.from)
      = ap (greatest_tail now) (grown w.to
      ∙ ap (λ b. inward (take k arrows) w.to ++ cond b (w ∷ []) []) (eq-eqb w.to w.to refl))
      ∙ greatest-append now (inward (take k arrows) w.to) w in
      omega (arith, head_level, was, more, same_greatest w.to, tail_level)

  elsewhere : (p : ℕ) → 1 ≤ p → p ≤ length levels → (p ≡ w.to → ⊥)
      → level_at now p ≡ 1 + greatest_tail now (inward (take (k + 1) arrows) p)
  elsewhere p le within ne =
      other_level p le ne
      ∙ old.levels_are p le within
      ∙ ap (λ n. 1 + n) (sym (same_greatest p))
      ∙ ap (λ (xs : List Arrow). 1 + greatest_tail now xs) (sym (append-nil (inward (take k arrows) p))
      ∙ ap (λ b. inward (take k arrows) p ++ cond b (w ∷ []) []) (sym (ne_eqb w.to p (λ e. ne (sym e))))
      ∙ sym (grown p))

  pub raised_more : AreRaised (take (k + 1) arrows) now
  raised_more = record {
    levels_are = λ p le within. elim (cases_eq p w.to) [
      | inl e ↦ subst (λ n. level_at now n ≡ 1 + greatest_tail now (inward (take (k + 1) arrows) n)) (sym e) at_head
      | inr ne ↦ elsewhere p le (omega (arith, within, length-set levels (w.to - 1) value)) ne
    ];
    low = λ p le. elim (cases_eq p w.to) [
      | inl e ↦ omega (
        arith,
        ap (level_at now) e,
        head_level,
        e,
        old.low w.to (omega (arith, e)),
        old.low w.from fits.from_one,
        fits.forward,
      )
      | inr ne ↦ omega (arith, other_level p le ne, old.low p le)
    ];
  }
