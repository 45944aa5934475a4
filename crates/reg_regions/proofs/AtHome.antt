-- Places that rise, and regions whose instructions have their accounts at hand.
use Rattle.std.proofs.Common.{◌≡◌, ℕ, zero, suc, ◌+◌, ◌<◌, ◌≤◌, List, [], ◌∷◌, length, take, get_or}
use Rattle.std.proofs.Common.{sym, ap, subst, ◌∙◌, arith}
use Rattle.std.specs.Prelude.{All}
use Rattle.std.proofs.lemmas.List.{get_or-map, take_more}
use Rattle.std.proofs.lemmas.List.Elements.{All-nil, All-cons, All-push, All-weaker, Contains-get_or}
use Rattle.arrayvec.specs.ArrayVec.{ArrayVec}
use Rattle.reg_rules.specs.State.{State}
use Rattle.reg_rules.specs.Laws.{IsReady}
use Rattle.reg_book.specs.Indexes.{index_lists}
use Rattle.reg_regions.specs.Regions.{RiseAbove}
use Rattle.reg_regions.proofs.Membership.{above}
use Rattle.reg_regions.proofs.CarryingOut.{rise-more, ready-later}

-- each place before one is lower
pub rise-before : (low : ℕ) (ps : List ℕ) (k : ℕ) → RiseAbove low ps → k < length ps
    → All (λ p. p < get_or ps k 0) (take k ps)
rise-before low [] k rising lt = absurd (omega arith)
rise-before low (p ∷ ps) zero rising lt = All-nil (λ q. q < p)
rise-before low (p ∷ ps) (suc k) rising lt =
    All-cons (λ q. q < get_or ps k 0) p (take k ps)
    (above p (get_or ps k 0) ps rising.1 (Contains-get_or ps k 0 (omega arith)))
    (rise-before p ps k rising.1 (omega arith))

pub rise-between : (low : ℕ) (ps : List ℕ) (j k : ℕ) → RiseAbove low ps → j < k → k < length ps
    → get_or ps j 0 < get_or ps k 0
rise-between low [] j k rising less lt = absurd (omega arith)
rise-between low (p ∷ ps) j zero rising less lt = absurd (omega arith)
rise-between low (p ∷ ps) zero (suc k) rising less lt =
    above p (get_or ps k 0) ps rising.1 (Contains-get_or ps k 0 (omega arith))
rise-between low (p ∷ ps) (suc j) (suc k) rising less lt =
    rise-between p ps j k rising.1 (omega arith) (omega arith)

-- one place more
pub rising-more : (places : List ℕ) (k last : ℕ) → k < length places → last < get_or places k 0
    → RiseAbove 0 (take k places) → All (λ p. p ≤ last) (take k places)
    → RiseAbove 0 (take (k + 1) places) × All (λ p. p ≤ get_or places k 0) (take (k + 1) places)
rising-more places k last within lt rising low =
    let more = take_more places k 0 within in (
      subst (RiseAbove 0) (sym more)
          (rise-more 0 last (take k places) (get_or places k 0) (omega arith) lt rising low),
      subst (All (λ p. p ≤ get_or places k 0)) (sym more)
          (All-push (λ p. p ≤ get_or places k 0) (take k places) (get_or places k 0)
          (All-weaker (λ p. p ≤ last) (λ p. p ≤ get_or places k 0) (λ p le. omega (arith, le, lt)) (take k places) low)
          (omega arith)),
    )

-- the indexes of one instruction
pub indexes-at : (indexes : List (ArrayVec ℕ)) (k : ℕ) (own : ArrayVec ℕ) → k < length indexes
    → own ≡ get_or indexes k own → own.items ≡ get_or (index_lists indexes) k []
indexes-at indexes k own lt is =
    ap (λ (x : ArrayVec ℕ). x.items) is
    ∙ sym (get_or-map (λ (x : ArrayVec ℕ). x.items) indexes k own [] lt)

-- what is ready for the first place that is left is ready, one place later, for each that is left then
pub ready-next : (base : ℕ) (places : List ℕ) (k : ℕ) (s : State) → RiseAbove 0 places → k < length places
    → IsReady (base + get_or places k 0 + 1) s
    → (j : ℕ) → k + 1 ≤ j → j < length places → IsReady (base + get_or places j 0) s
ready-next base places k s rising within ready j low lt =
    let less = rise-between 0 places k j rising (omega (arith, low)) lt in
    ready-later (base + get_or places k 0 + 1) (base + get_or places j 0) s (omega (arith, less)) ready
