-- Marks of places, each of which stands in a list once.
use Rattle.std.proofs.Common.{◌≡◌, ℕ, zero, suc, ◌-◌, ◌<◌, ◌≤◌, Bool, true, false, List, [], ◌∷◌, ◌++◌, eqb}
use Rattle.std.proofs.Common.{length, set, get_or}
use Rattle.std.proofs.Common.{refl, sym, ap, subst, ◌∙◌, inl, inr, arith, ◌+◌, take, replicate, append-nil}
use Rattle.std.specs.Prelude.{All, Contains, IsTrue}
use Rattle.std.proofs.lemmas.Bool.{cases_eq, cases_lt, eq-eqb, ne_eqb}
use Rattle.std.proofs.lemmas.Grind.{flat_map-append}
use Rattle.std.proofs.lemmas.List.{get_or-set_other, get_or-set_same, take_more}
use Rattle.reg_facts.specs.Counting.{times, once, one_if}
use Rattle.reg_facts.proofs.lemmas.Times.{once-yes, once-past, once-zero, times-append}
use Rattle.reg_advice.specs.declared.dealing.Deal.{Deal}
use Rattle.reg_regions.specs.Homes.{AreMarked, set_mark, dealt_places}
use Rattle.reg_regions.proofs.Membership.{contains_first, contains_later}

-- one place more was marked, whose mark was not set
pub marked-one : (done : List ℕ) (marks : List Bool) (place index : ℕ) → 1 ≤ place → index ≡ place - 1
    → index < length marks → get_or marks index false ≡ false → AreMarked done marks
    → AreMarked (done ++ place ∷ []) (set marks index true)
marked-one done marks place index one is lt unset marked zero =
    let more = times-append 0 done (place ∷ []) in
    let other : eqb place 0 ≡ false = ne_eqb place 0 (λ e. omega (arith, one, e)) in
    let none : one_if (eqb place 0) ≡ 0 = ap one_if other in
    omega (arith, more, marked 0, none)
marked-one done marks place index one is lt unset marked (suc k) =
    let more = times-append (suc k) done (place ∷ []) in
    elim (cases_eq k index) [
      | inl at ↦
          let same : eqb place (suc k) ≡ true = eq-eqb place (suc k) (omega (arith, one, is, at)) in
          let here : one_if (eqb place (suc k)) ≡ 1 = ap one_if same in
          let before : set_mark marks (suc k) ≡ 0 = ap one_if (ap (λ j. get_or marks j false) at ∙ unset) in
          let after : set_mark (set marks index true) (suc k) ≡ 1 =
          ap one_if (ap (λ j. get_or (set marks index true) j false) at ∙ get_or-set_same marks index true false lt) in
          omega (arith, more, marked (suc k), here, before, after)
      | inr other ↦
          let differ : eqb place (suc k) ≡ false =
          ne_eqb place (suc k) (λ e. other (omega (arith, one, is, e))) in
          let none : one_if (eqb place (suc k)) ≡ 0 = ap one_if differ in
          let same : set_mark (set marks index true) (suc k) ≡ set_mark marks (suc k) =
          ap one_if (get_or-set_other marks index k true false other) in
          omega (arith, more, marked (suc k), none, same)
    ]

-- no mark is set at first
unset : (n k : ℕ) → get_or (replicate n false) k false ≡ false
unset zero k = refl
unset (suc n) zero = refl
unset (suc n) (suc k) = unset n k

-- beyond the marks none is set
beyond : (marks : List Bool) (k : ℕ) → length marks ≤ k → get_or marks k false ≡ false
beyond [] k le = refl
beyond (m ∷ marks) zero le = absurd (omega (arith, le))
beyond (m ∷ marks) (suc k) le = beyond marks k (omega (arith, le))

-- if each mark is set, each place stands there once
pub all-marked : (places : List ℕ) (marks : List Bool) → AreMarked places marks → All (λ mark. IsTrue mark) marks
    → (place : ℕ) → times place places ≡ once (length marks) place
all-marked places marks marked set zero = marked 0 ∙ sym (once-zero (length marks))
all-marked places marks marked set (suc k) = elim (cases_lt k (length marks)) [
  | inl lt ↦ marked (suc k) ∙ ap one_if (set k false lt)
      ∙ sym (once-yes (length marks) (suc k) (omega arith) (omega (arith, lt)))
  | inr le ↦ marked (suc k) ∙ ap one_if (beyond marks k le)
      ∙ sym (once-past (length marks) (suc k) (omega (arith, le)))
]

-- what stands in a list at all is contained in it
pub contained : (p : ℕ) (ps : List ℕ) → 1 ≤ times p ps → Contains ps p
contained p [] one = absurd (omega (arith, one))
contained p (q ∷ ps) one = elim (cases_eq q p) [
  | inl at ↦ subst (λ r. Contains (q ∷ ps) r) at (contains_first q ps)
  | inr other ↦
      let none : one_if (eqb q p) ≡ 0 = ap one_if (ne_eqb q p other) in
      contains_later q p ps (contained p ps (omega (arith, one, none)))
]

-- each place of a batch is among those that are there once
pub once-contained : (n : ℕ) (ps : List ℕ) → ((p : ℕ) → times p ps ≡ once n p) → (p : ℕ) → 1 ≤ p → p ≤ n
    → Contains ps p
once-contained n ps all p one le = contained p ps (let e = all p ∙ once-yes n p one le in omega (arith, e))

-- the places of one region more
pub one-more : (deals : List Deal) (k : ℕ) (d : Deal) → k < length deals → d ≡ get_or deals k d
    → dealt_places (take (k + 1) deals) ≡ dealt_places (take k deals) ++ d.places.items
one-more deals k d lt is =
    ap dealt_places (take_more deals k d lt)
    ∙ ap (λ e. dealt_places (take k deals ++ e ∷ [])) (sym is)
    ∙ flat_map-append (λ (e : Deal). e.places.items) (take k deals) (d ∷ [])
    ∙ ap (λ ps. dealt_places (take k deals) ++ ps) (append-nil d.places.items)
