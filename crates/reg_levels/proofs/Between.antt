-- What stands in the slots while a level runs: one more task taken, one more outcome laid.
use Rattle.std.proofs.Common.{◌≡◌, ℕ, zero, suc, ◌+◌, ◌-◌, ◌<◌, ◌≤◌, inl, inr, Bool, true, false, cond, ◌||◌, List, []}
use Rattle.std.proofs.Common.{◌∷◌, ◌++◌, length, take, drop, get_or, Some, None, arith, refl, sym, ap, ◌∙◌}
use Rattle.std.specs.List.{list_any}
use Rattle.std.proofs.lemmas.List.{take_more, drop_more, get_or-take, get_or-drop}
use Rattle.std.proofs.lemmas.Bool.{cases_lt}
use Rattle.std.proofs.Math.Seq.{take-add}
use Rattle.std.proofs.lemmas.List.Folds.{list_any-append}
use Rattle.reg_base.specs.Footprint.{is_among}
use Rattle.reg_plan.specs.Arrows.{touches_place}
use Rattle.reg_book.specs.Day.{DayValue}
use Rattle.reg_schedules.specs.Pool.{directory, footprint_at}
use Rattle.reg_schedules.proofs.lemmas.Known.{footprint_touches}
use Rattle.reg_tasks.specs.Slots.{last_of, StandAfter, AreTaken}
use Rattle.reg_tasks.proofs.lemmas.Slotting.{Name}
use Rattle.reg_tasks.proofs.lemmas.Standing.{last_push}
use Rattle.reg_levels.specs.Levels.{touched_by, StandsBetween, places_between}

-- positions of an order
size_drop : (xs : List ℕ) (k m : ℕ) → k + m < length xs → m < length (drop k xs)
size_drop xs zero m lt = omega (arith, lt)
size_drop [] (suc k) m lt = absurd (omega (arith, lt))
size_drop (x ∷ xs) (suc k) m lt = size_drop xs k m (omega (arith, lt))

pub none_between : (order : List ℕ) (from to : ℕ) → to ≤ from → places_between order from to ≡ []
none_between order from to le = ap (λ n. take n (drop from order)) (let e : to - from ≡ 0 = omega (arith, le) in e)

pub between_more : (order : List ℕ) (from k : ℕ) → from ≤ k → k < length order
    → places_between order from (k + 1) ≡ places_between order from k ++ get_or order k 0 ∷ []
between_more order from k le lt =
    let one : k + 1 - from ≡ k - from + 1 = omega (arith, le) in
    let at : from + (k - from) ≡ k = omega (arith, le) in
    ap (λ n. take n (drop from order)) one
    ∙ take_more (drop from order) (k - from) 0 (size_drop order from (k - from) (omega (arith, at, lt)))
    ∙ ap (λ x. take (k - from) (drop from order) ++ x ∷ []) (get_or-drop from order (k - from) 0
    ∙ ap (λ n. get_or order n 0) at)

pub between_first : (order : List ℕ) (j to : ℕ) → j < to → to ≤ length order
    → places_between order j to ≡ get_or order j 0 ∷ places_between order (j + 1) to
between_first order j to lt le =
    let one : to - j ≡ suc (to - (j + 1)) = omega (arith, lt) in
    ap (λ n. take n (drop j order)) one ∙ ap (take (suc (to - (j + 1)))) (drop_more order j 0 (omega (arith, lt, le)))

-- the first of those that are left
pub next_is : (order : List ℕ) (j to p : ℕ) (ps : List ℕ) → to ≤ length order → p ∷ ps ≡ places_between order j to
    → (j < to) × (p ≡ get_or order j 0) × (ps ≡ places_between order (j + 1) to)
next_is order j to p ps le e = elim (cases_lt j to) [
  | inl lt ↦ let whole : p ∷ ps ≡ get_or order j 0 ∷ places_between order (j + 1) to =
      e ∙ between_first order j to lt le in (lt, cc, cc)
  | inr over ↦ let none : p ∷ ps ≡ [] = e ∙ none_between order j to over in absurd cc
]

pub none_left : (order : List ℕ) (j to : ℕ) → j ≤ to → to ≤ length order → [] ≡ places_between order j to → j ≡ to
none_left order j to up le e = elim (cases_lt j to) [
  | inl lt ↦ let some : [] ≡ get_or order j 0 ∷ places_between order (j + 1) to = e ∙ between_first order j to lt le in
      absurd cc
  | inr over ↦ omega (arith, up, over)
]

pub between_at : (order : List ℕ) (from to j : ℕ) → from + j < to → get_or (places_between order from to) j 0
    ≡ get_or order (from + j) 0
between_at order from to j lt =
    get_or-take (to - from) (drop from order) j 0 (omega (arith, lt)) ∙ get_or-drop from order j 0

pub take_between : (order : List ℕ) (from to : ℕ) → from ≤ to
    → take to order ≡ take from order ++ places_between order from to
take_between order from to le =
    let sum : to ≡ from + (to - from) = omega (arith, le) in
    ap (λ n. take n order) sum ∙ take-add from (to - from) order

-- a list in which no element passes a test
pub none_passes : (test : ℕ → Bool) (xs : List ℕ) → ((j : ℕ) → j < length xs → test (get_or xs j 0) ≡ false)
    → list_any test xs ≡ false
none_passes test [] none = refl
none_passes test (x ∷ xs) none = ap (λ b. b || list_any test xs) (none 0 (omega arith))
    ∙ none_passes test xs (λ j lt. none (suc j) (omega (arith, lt)))

pub size_take : (xs : List ℕ) (n j : ℕ) → j < length (take n xs) → j < n
size_take xs zero j lt = absurd (omega (arith, lt))
size_take [] (suc n) j lt = absurd (omega (arith, lt))
size_take (x ∷ xs) (suc n) zero lt = omega arith
size_take (x ∷ xs) (suc n) (suc j) lt = let more = size_take xs n j (omega (arith, lt)) in omega (arith, more)

module _ (day : DayValue) where
  -- what the last of some instructions left, if none of those after them touches the account
  pub last_untouched : (a before : ℕ) (places : List ℕ) → touched_by day places a ≡ false
      → last_of day a before places ≡ before
  last_untouched a before [] none = refl
  last_untouched a before (p ∷ places) none =
      by (touches_place (directory day) day.batch.instructions a p) refl none (last_untouched a before places) where
        by : (b : Bool) → touches_place (directory day) day.batch.instructions a p ≡ b
            → (b || touched_by day places a) ≡ false
            → (touched_by day places a ≡ false → last_of day a before places ≡ before)
            → last_of day a (cond (touches_place (directory day) day.batch.instructions a p) p before) places ≡ before
        by true e h more = absurd cc
        by false e h more = ap (λ c. last_of day a (cond c p before) places) e ∙ more h

  pub last_append : (a before : ℕ) (xs ys : List ℕ)
      → last_of day a before (xs ++ ys) ≡ last_of day a (last_of day a before xs) ys
  last_append a before [] ys = refl
  last_append a before (x ∷ xs) ys =
      last_append a (cond (touches_place (directory day) day.batch.instructions a x) x before) xs ys

  -- if none runs, what stands is what the last ones left
  pub stands_after : (done : List ℕ) (standing : ℕ → Name) → StandsBetween day done [] standing
      → StandAfter day done standing
  stands_after done standing stand a touched = stand a touched

  -- one more task is taken
  pub taken_more : (done running : List ℕ) (x : ℕ) (before after : ℕ → Name) → StandsBetween day done running before
      → AreTaken day x before after → StandsBetween day done (running ++ x ∷ []) after
  taken_more done running x before after stand taken a touched =
      taken a
      ∙ ap (λ b. cond b None (before a)) (footprint_touches day x a)
      ∙ ap (λ o. cond (touches_place (directory day) day.batch.instructions a x) None o) (stand a touched)
      ∙ by (touches_place (directory day) day.batch.instructions a x) (touched_by day running a)
      ∙ ap (λ b. cond b None (Some (a, last_of day a 0 done)))
      (sym (list_any-append (λ place. touches_place (directory day) day.batch.instructions a place) running
      (x ∷ [])))
    where
      by : (b c : Bool) → cond {A = Name} b None (cond c None (Some (a, last_of day a 0 done)))
          ≡ cond (c || (b || false)) None (Some (a, last_of day a 0 done))
      by true true = refl
      by true false = refl
      by false true = refl
      by false false = refl

  -- one more outcome is laid, and none of those that still run touches an account of it
  pub laid_more : (done running : List ℕ) (x : ℕ) (before after : ℕ → Name)
      → ((a : ℕ) → touches_place (directory day) day.batch.instructions a x ≡ true → touched_by day running a ≡ false)
      → StandsBetween day done (x ∷ running) before
      → ((a : ℕ) → after a ≡ cond (is_among (footprint_at day x) a) (Some (a, x)) (before a))
      → StandsBetween day (done ++ x ∷ []) running after
  laid_more done running x before after apart stand laid a touched =
      laid a
      ∙ ap (λ b. cond b (Some (a, x)) (before a)) (footprint_touches day x a)
      ∙ ap (λ o. cond (touches_place (directory day) day.batch.instructions a x) (Some (a, x)) o) (stand a touched)
      ∙ by (touches_place (directory day) day.batch.instructions a x) refl
      ∙ ap (λ t. cond (touched_by day running a) None (Some (a, t))) (sym (last_push day a 0 done x))
    where
      by : (b : Bool) → touches_place (directory day) day.batch.instructions a x ≡ b
          → cond {A = Name} b (Some (a, x)) (cond (b || touched_by day running a) None (Some (a, last_of day a 0 done)))
          ≡ cond (touched_by day running a) None (Some (a, cond b x (last_of day a 0 done)))
      by true e = ap (λ c. cond {A = Name} c None (Some (a, x))) (sym (apart a e))
      by false e = refl
