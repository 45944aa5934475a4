-- What was found of instructions, and of those behind them, is found of both.
use Rattle.std.proofs.Common.{◌≡◌, ◌⊎◌, inl, inr, ℕ, ◌+◌, ◌<◌, ◌≤◌, List, [], ◌∷◌, ◌++◌, length, take, drop, Result, Ok}
use Rattle.std.proofs.Common.{append_assoc, arith, refl, sym, ap, subst, ◌∙◌}
use Rattle.std.proofs.Math.Seq.{take-nil, drop-nil}
use Rattle.std.proofs.lemmas.Bool.{cases_lt}
use Rattle.std.proofs.lemmas.List.{append-nil, drop_all, length-append, length-take-le, take-append-drop}
use Rattle.std.specs.List.Sorted.{IsPermutation, IsSorted}
use Rattle.std.proofs.lemmas.List.{length-map, map-append}
use Rattle.std.proofs.lemmas.List.Sorted.{IsPermutation-append, IsPermutation-trans}
use Rattle.reg_base.specs.declared.instruction.Instruction.{Instruction}
use Rattle.reg_base.specs.Directory.{DirectoryValue}
use Rattle.reg_base.specs.declared.directory.NoMemory.{NoMemory}
use Rattle.reg_base.specs.Chunks.{UnlessOut}
use Rattle.reg_base.specs.Footprints.{footprints}
use Rattle.reg_base.proofs.lemmas.Chunks.{ChunksOf}
use Rattle.reg_plan.specs.declared.runs.Found.{Found}
use Rattle.reg_plan.specs.declared.arrow.Touch.{Touch}
use Rattle.reg_plan.specs.Touched.{AreFew}
use Rattle.reg_plan.specs.TouchList.{touched_at, touches_of, touch_cmp}
use Rattle.reg_plan.proofs.SortedTouches.{AreTouches}
use Rattle.reg_plan.specs.Runs.{IsFound, IsFoundFrom}
use Rattle.reg_plan.proofs.Fewness.{few_both}

-- the touches of lists, and of those behind them
touches_both : (place : ℕ) (front back : List (List ℕ)) → touches_of place (front ++ back) ≡ touches_of place front
    ++ touches_of (place + length front) back
touches_both place [] back = let none : place ≡ place + 0 = omega arith in ap (λ n. touches_of n back) none
touches_both place (xs ∷ front) back =
    let next : place + 1 + length front ≡ place + length (xs ∷ front) = omega arith in
    ap (λ ts. touched_at place xs ++ ts) (touches_both (place + 1) front back
    ∙ ap (λ n. touches_of (place + 1) front ++ touches_of n back) next)
    ∙ sym (append_assoc (touched_at place xs) (touches_of (place + 1) front)
    (touches_of (place + length (xs ∷ front)) back))

pub found_both : (d : DirectoryValue) (place size : ℕ) (is js : List Instruction) (front back both : Found)
    → size ≡ length is → IsFound d place is front → IsFound d (place + size) js back
    → both.touched ≡ front.touched ++ back.touched → both.touches.items ≡ front.touches.items ++ back.touches.items
    → IsFound d place (is ++ js) both
found_both d place size is js front back both count first behind lists touches =
    let here : length front.touched ≡ size = ap length first.lists ∙ length-map is _ ∙ sym count in
    let all : IsPermutation (touches_of place front.touched ++ touches_of (place + size) back.touched)
    (front.touches.items ++ back.touches.items)
    = IsPermutation-append (touches_of place front.touched) front.touches.items (touches_of (place + size) back.touched)
    back.touches.items first.each behind.each in
    let order : touches_of place both.touched ≡ touches_of place front.touched ++ touches_of (place + size) back.touched
    = ap (touches_of place) lists ∙ touches_both place front.touched back.touched
    ∙ ap (λ n. touches_of place front.touched ++ touches_of (place + n) back.touched) here in
    record {
      lists = lists ∙ (λ i. first.lists i ++ behind.lists i) ∙ sym (map-append _ is js);
      few = subst AreFew (sym lists) (few_both front.touched back.touched first.few behind.few);
      each = subst (λ (ts : List Touch). IsPermutation ts both.touches.items) (sym order)
          (subst (λ (ts : List Touch).
          IsPermutation (touches_of place front.touched ++ touches_of (place + size) back.touched) ts)
          (sym touches) all);
    }

-- what is found of no instruction is found so at any place
found-anywhere : (d : DirectoryValue) (p q : ℕ) (found : Found) → IsFound d p [] found → IsFound d q [] found
found-anywhere d p q found none = record {
  lists = none.lists;
  few = none.few;
  each = subst (λ (ls : List (List ℕ)). IsPermutation (touches_of q ls) found.touches.items) (sym none.lists)
      (subst (λ (ls : List (List ℕ)). IsPermutation (touches_of p ls) found.touches.items) none.lists none.each);
}

-- what was found so far, and the instructions behind these, whose runs are left
pub record IsFoundSoFar (d : DirectoryValue) (whole : List Instruction) (size : ℕ) (all : Found)
    (runs : List (Result Found NoMemory)) : Type 0 where
  pub index : ℕ
  pub front : List Instruction
  pub others : List Instruction
  pub left : ChunksOf (UnlessOut (IsFoundFrom d)) index others size runs
  pub found : IsFound d 1 front all
  pub reached : (others ≡ []) ⊎ (index ≡ length front)
  pub both : front ++ others ≡ whole

-- what is found of a run is found of it behind those so far
run-behind : (d : DirectoryValue) (index size : ℕ) (front others : List Instruction) (run : Found)
    → (others ≡ []) ⊎ (index ≡ length front) → IsFound d (index + 1) (take size others) run
    → IsFound d (1 + length front) (take size others) run
run-behind d index size front others run (inl none) found =
    let nothing : take size others ≡ [] = ap (take size) none ∙ take-nil size in
    subst (λ (is : List Instruction). IsFound d (1 + length front) is run) (sym nothing)
    (found-anywhere d (index + 1) (1 + length front) run
    (subst (λ (is : List Instruction). IsFound d (index + 1) is run) nothing found))
run-behind d index size front others run (inr is) found =
    let place : index + 1 ≡ 1 + length front = omega (arith, is) in
    subst (λ (p : ℕ). IsFound d p (take size others) run) place found

reached-next : (index size : ℕ) (front others : List Instruction) → (others ≡ []) ⊎ (index ≡ length front)
    → (drop size others ≡ []) ⊎ (index + size ≡ length (front ++ take size others))
reached-next index size front others (inl none) = inl (ap (drop size) none ∙ drop-nil size)
reached-next index size front others (inr is) = by (cases_lt size (length others)) where
  by : (size < length others) ⊎ (length others ≤ size)
      → (drop size others ≡ []) ⊎ (index + size ≡ length (front ++ take size others))
  by (inr few) = inl (drop_all size others few)
  by (inl more) = inr (omega (
    arith,
    is,
    length-append front (take size others),
    length-take-le size others (omega (arith, more)),
  ))

pub found-next : (d : DirectoryValue) (whole : List Instruction) (size : ℕ) (all run both : Found)
    (runs : List (Result Found NoMemory)) → both.touched ≡ all.touched ++ run.touched
    → both.touches.items ≡ all.touches.items ++ run.touches.items
    → IsFoundSoFar d whole size all (Ok run ∷ runs) → IsFoundSoFar d whole size both runs
unfolding ChunksOf
found-next d whole size all run both runs lists touches s =
    let here = take size s.others in
    record {
      index = s.index + size;
      front = s.front ++ here;
      others = drop size s.others;
      left = s.left.1;
      found = found_both d 1 (length s.front) s.front here all run both refl s.found
          (run-behind d s.index size s.front s.others run s.reached s.left.0) lists touches;
      reached = reached-next s.index size s.front s.others s.reached;
      both = append_assoc s.front here (drop size s.others)
          ∙ ap (λ (is : List Instruction). s.front ++ is) (take-append-drop size s.others) ∙ s.both;
    }

pub found-all : (d : DirectoryValue) (whole : List Instruction) (size : ℕ) (all : Found)
    (runs : List (Result Found NoMemory)) → length runs ≡ 0 → IsFoundSoFar d whole size all runs → IsFound d 1 whole all
unfolding ChunksOf
found-all d whole size all [] none s =
    let front : s.front ≡ whole = sym (append-nil s.front)
    ∙ ap (λ (is : List Instruction). s.front ++ is) (sym s.left) ∙ s.both in
    subst (λ (is : List Instruction). IsFound d 1 is all) front s.found
found-all d whole size all (r ∷ runs) none s = absurd (omega (arith, none))

-- found touches in order are those of the batch
pub are_touches : (d : DirectoryValue) (is : List Instruction) (found : Found) (touches : List Touch)
    → IsFound d 1 is found → IsPermutation found.touches.items touches → IsSorted touch_cmp touches
    → AreTouches (footprints d is) touches
are_touches d is found touches first each sorted = record {
  each = subst (λ (lists : List (List ℕ)). IsPermutation (touches_of 1 lists) touches) first.lists
      (IsPermutation-trans (touches_of 1 found.touched) found.touches.items touches first.each each);
  sorted = sorted;
}
