-- All instructions as those of one region, which has all accounts.
use Rattle.std.proofs.Common.{◌≡◌, ℕ, zero, suc, ◌+◌, ◌-◌, ◌<◌, ◌≤◌, eqb, List, [], ◌∷◌, ◌++◌, map, length}
use Rattle.std.proofs.Common.{get_or, refl, sym, ap, subst, ◌∙◌, inl, inr, arith, Result, Ok, Err}
use Rattle.std.specs.Prelude.{slice_get, IfOk}
use Rattle.std.specs.List.{AllByRecursion}
use Rattle.std.specs.Option.{option_map_or}
use Rattle.std.proofs.lemmas.Bool.{cases_eq, cases_lt, eq-eqb, ne_eqb}
use Rattle.std.proofs.lemmas.List.{length-map}
use Rattle.std.proofs.lemmas.List.Elements.{All-nil}
use Rattle.reg_facts.proofs.lemmas.Times.{once-yes, once-past, once-zero}
use Rattle.reg_base.specs.declared.instruction.Instruction.{Instruction}
use Rattle.reg_base.specs.Batch.{BatchValue}
use Rattle.reg_base.specs.Directory.{DirectoryValue}
use Rattle.reg_base.specs.Footprint.{footprint}
use Rattle.reg_base.specs.Footprints.{footprints}
use Rattle.reg_base.specs.Rising.{count_up}
use Rattle.reg_facts.specs.Counting.{times, once, one_if}
use Rattle.reg_base.proofs.lemmas.Rising.{length-count_up, count_up-more, get_or-count_up}
use Rattle.reg_rules.specs.declared.reply.Reply.{Reply}
use Rattle.reg_rules.specs.State.{State, Setting}
use Rattle.reg_book.specs.Indexes.{StandAt, AllStandAt, each_at}
use Rattle.reg_regions.specs.Dealing.{AreSettledOnce, AreTurned}
use Rattle.reg_regions.specs.Regions.{RiseAbove}
use Rattle.reg_regions.specs.Homes.{IsHome, AreHome}
use Rattle.reg_regions.specs.Swaps.{IsSwapWithin}

rise-count : (low a n : ℕ) → low < a → RiseAbove low (count_up a n)
rise-count low a zero lt = tt
rise-count low a (suc n) lt = (lt, rise-count a (a + 1) n (omega arith))

count-below : (p a n : ℕ) → p < a → times p (count_up a n) ≡ 0
count-below p a zero lt = refl
count-below p a (suc n) lt =
    let none : one_if (eqb a p) ≡ 0 = ap one_if (ne_eqb a p (λ e. omega (arith, lt, e))) in
    let later = count-below p (a + 1) n (omega (arith, lt)) in
    omega (arith, none, later)

count-in : (p a n : ℕ) → a ≤ p → p < a + n → times p (count_up a n) ≡ 1
count-in p a zero low high = absurd (omega (arith, low, high))
count-in p a (suc n) low high = elim (cases_eq a p) [
  | inl at ↦
      let here : one_if (eqb a p) ≡ 1 = ap one_if (eq-eqb a p at) in
      let later = count-below p (a + 1) n (omega (arith, at)) in
      omega (arith, here, later)
  | inr other ↦
      let none : one_if (eqb a p) ≡ 0 = ap one_if (ne_eqb a p other) in
      let above : a + 1 ≤ p = elim (cases_lt p (a + 1)) [
        | inl lt ↦ absurd (other (omega (arith, low, lt)))
        | inr le ↦ le
      ] in
      let later = count-in p (a + 1) n above (omega (arith, high)) in
      omega (arith, none, later)
]

count-beyond : (p a n : ℕ) → a + n ≤ p → times p (count_up a n) ≡ 0
count-beyond p a zero le = refl
count-beyond p a (suc n) le =
    let none : one_if (eqb a p) ≡ 0 = ap one_if (ne_eqb a p (λ e. omega (arith, le, e))) in
    let later = count-beyond p (a + 1) n (omega (arith, le)) in
    omega (arith, none, later)

-- the places from 1 on, each once
pub times-count : (n p : ℕ) → times p (count_up 1 n) ≡ once n p
times-count n p = elim (cases_lt p 1) [
  | inl low ↦
      let none : p ≡ 0 = omega (arith, low) in
      count-below p 1 n low ∙ sym (once-zero n) ∙ ap (once n) (sym none)
  | inr one ↦ elim (cases_lt n p) [
    | inl high ↦ count-beyond p 1 n (omega (arith, high)) ∙ sym (once-past n p high)
    | inr le ↦ count-in p 1 n one (omega (arith, le)) ∙ sym (once-yes n p one le)
  ]
]

-- one place more
pub count-more : (n : ℕ) → count_up 1 (n + 1) ≡ count_up 1 n ++ (n + 1) ∷ []
count-more n =
    let next : n + 1 ≡ suc n = omega arith in
    let e : 1 + n ≡ n + 1 = omega arith in
    ap (count_up 1) next ∙ count_up-more 1 n ∙ ap (λ x. count_up 1 n ++ x ∷ []) e

-- where the accounts of one instruction stand
stand-at : (d : DirectoryValue) (ns : List ℕ) (indexes : List (List ℕ)) (is : List Instruction) (k : ℕ)
    → AllByRecursion (AllByRecursion (λ p. p < length ns)) indexes → map (each_at ns) indexes ≡ footprints d is
    → k < length is
    → StandAt ns (get_or indexes k []) (option_map_or (λ i. footprint d i.act) (slice_get is k) [])
stand-at d ns indexes [] k within same lt = absurd (omega (arith, lt))
stand-at d ns [] (i ∷ is) k within same lt = absurd cc
stand-at d ns (own ∷ indexes) (i ∷ is) zero within same lt =
    record { within = within.0; are_there = let e : each_at ns own ≡ footprint d i.act = cc in e }
stand-at d ns (own ∷ indexes) (i ∷ is) (suc k) within same lt =
    stand-at d ns indexes is k within.1 (let e : map (each_at ns) indexes ≡ footprints d is = cc in e)
    (omega (arith, lt))

-- all instructions have their accounts at hand, if these stand where they were found
pub home-whole : (c : Setting) (b : BatchValue) (ns : List ℕ) (indexes : List (List ℕ))
    → AllStandAt c.directory ns indexes b.instructions
    → AreHome c b ns (count_up 1 (length b.instructions)) indexes
home-whole c b ns indexes found =
    let n = length b.instructions in
    record {
      rising = rise-count 0 1 n (omega arith);
      each = λ k lt.
          let inside : k < n = omega (arith, lt, length-count_up 1 n) in
          subst (λ p. IsHome c b ns p (get_or indexes k [])) (sym (get_or-count_up 1 n k inside))
          (at k inside);
      as_many =
          let many : length (map (each_at ns) indexes) ≡ length (footprints c.directory b.instructions) =
          ap length found.are_there in
          let one = length-map indexes (each_at ns) in
          let other = length-map b.instructions (λ (i : Instruction). footprint c.directory i.act) in
          let size = length-count_up 1 n in
          omega (arith, many, one, other, size);
    }
  where
    at : (k : ℕ) → k < length b.instructions → IsHome c b ns (1 + k) (get_or indexes k [])
    at k inside = record {
      from_one = omega arith;
      within = omega (arith, inside);
      there =
          let less : 1 + k - 1 ≡ k = omega arith in
          subst (λ j. StandAt ns (get_or indexes k [])
          (option_map_or (λ i. footprint c.directory i.act) (slice_get b.instructions j) [])) (sym less)
          (stand-at c.directory ns indexes b.instructions k found.within found.are_there inside);
    }

-- what came of one region that has all accounts and instructions
pub whole-turned : {V E : Type 0} (c : Setting) (b : BatchValue) (r : Result V E) (after : V → State)
    (replies : V → List Reply) (old given : State) → given ≡ old
    → IfOk r (λ v. AreSettledOnce c b given (after v) (replies v))
    → IfOk r (λ v. AreTurned c b old (after v) (replies v))
whole-turned c b (Ok v) after replies old given same settled = record {
  swaps = [];
  within = All-nil (IsSwapWithin (length old));
  after = after v;
  settled = subst (λ (s : State). AreSettledOnce c b s (after v) (replies v)) same settled;
  back = refl;
}
whole-turned c b (Err e) after replies old given same settled = tt
