-- Running one instruction: its parcels come out of the slots, and what it leaves is laid back.
use Rattle.std.proofs.Common.{◌≡◌, ℕ, Bool, true, false, cond, ◌||◌, eqb, List, [], ◌∷◌, length, map, Some, None}
use Rattle.std.proofs.Common.{Result, Ok, Err, refl, ap, subst, ◌∙◌}
use Rattle.std.specs.Prelude.{is_some, IfErr}
use Rattle.std.specs.Result.{IsErrAnd}
use Rattle.std.specs.List.{list_all, list_any}
use Rattle.std.proofs.lemmas.Bool.{eq-eqb, eqb-true, and_from, and_parts, or_left, or_right}
use Rattle.reg_base.specs.Footprint.{is_among}
use Rattle.reg_plan.specs.declared.arrow.Arrow.{Arrow}
use Rattle.reg_schedules.specs.Pool.{tail_in}
use Rattle.reg_schedules.specs.Docks.{names_needed, is_name}
use Rattle.reg_schedules.proofs.lemmas.WorldFits.{name_itself, same_name}
use Rattle.reg_tasks.specs.Names.{has_names}
use Rattle.reg_tasks.specs.Slots.{laid_at, LacksFor, is_that, is_there}
use Rattle.reg_tasks.specs.declared.lack.Lack.{Lack}
use Rattle.reg_tasks.specs.declared.lack.Lack.TheVariants.{Memory, Foreign}
use Rattle.reg_tasks.proofs.lemmas.Slotting.{Name}

pub lack_from : {P Q : Type 0} (l : Lack) → LacksFor P l → (P → Q) → LacksFor Q l
lack_from Memory lack more = tt
lack_from Foreign lack more = more lack

pub err_from : {X : Type 0} (r : Result X Lack) (P Q : Lack → Type 0) → IsErrAnd r P → ((l : Lack) → P l → Q l)
    → IfErr r Q
err_from (Ok x) P Q e more = tt
err_from (Err l) P Q e more = more l e

pub err_more : {X : Type 0} (r : Result X Lack) (P Q : Lack → Type 0) → IfErr r P → ((l : Lack) → P l → Q l) → IfErr r Q
err_more (Ok x) P Q e more = tt
err_more (Err l) P Q e more = more l e

-- what stands for each account of a footprint is there
pub all_there : (st : ℕ → Name) (accounts : List ℕ) (want : ℕ → ℕ × ℕ)
    → ((a : ℕ) → is_among accounts a ≡ true → st a ≡ Some (want a)) → list_all (λ a. is_some (st a)) accounts ≡ true
all_there st [] want there = refl
all_there st (a ∷ more) want there =
    and_from (is_some (st a)) (list_all (λ a. is_some (st a)) more)
    (ap is_some (there a (or_left (eqb a a) (is_among more a) (eq-eqb a a refl))))
    (all_there st more want (λ b e. there b (or_right (eqb a b) (is_among more b) e)))

-- the names taken are those that are needed
pub taken_needed : (arrows : List Arrow) (st : ℕ → Name) (accounts : List ℕ) (names : List (ℕ × ℕ))
    → ((a : ℕ) → is_among accounts a ≡ true → st a ≡ Some (a, tail_in arrows a))
    → map Some names ≡ map st accounts → names ≡ names_needed arrows accounts
taken_needed arrows st [] [] there e = refl
taken_needed arrows st [] (n ∷ names) there e = absurd cc
taken_needed arrows st (a ∷ more) [] there e = absurd cc
taken_needed arrows st (a ∷ more) (n ∷ names) there e =
    let head : Some n ≡ st a = cc in
    let tail : map Some names ≡ map st more = cc in
    let both : Some n ≡ Some (a, tail_in arrows a) =
    head ∙ there a (or_left (eqb a a) (is_among more a) (eq-eqb a a refl)) in
    let is : n ≡ (a, tail_in arrows a) = cc in
    ap (λ m. m ∷ names) is ∙ ap (λ ms. (a, tail_in arrows a) ∷ ms)
    (taken_needed arrows st more names (λ b e. there b (or_right (eqb a b) (is_among more b) e)) tail)

-- what is there
there_is : (n : ℕ × ℕ) (o : Name) → is_that n o ≡ true → o ≡ Some n
there_is n None e = absurd cc
there_is n (Some m) e = ap Some (same_name m n e)

is_there_from : (n : ℕ × ℕ) (o : Name) → o ≡ Some n → is_that n o ≡ true
is_there_from n o e = ap (is_that n) e ∙ name_itself n

-- the parcels that are needed stand, and what stands is what is needed
pub ready_stands : (arrows : List Arrow) (st : ℕ → Name) (accounts : List ℕ)
    → list_all (λ name. is_there st name) (names_needed arrows accounts) ≡ true
    → (a : ℕ) → is_among accounts a ≡ true → st a ≡ Some (a, tail_in arrows a)
ready_stands arrows st [] ready a among = absurd cc
ready_stands arrows st (x ∷ more) ready a among =
    let both = and_parts (is_there st (x, tail_in arrows x))
    (list_all (λ name. is_there st name) (names_needed arrows more)) ready in
    by (eqb x a) refl among (there_is (x, tail_in arrows x) (st x) both.0) (ready_stands arrows st more both.1 a)
  where
    by : (b : Bool) → eqb x a ≡ b → (b || is_among more a) ≡ true → st x ≡ Some (x, tail_in arrows x)
        → (is_among more a ≡ true → st a ≡ Some (a, tail_in arrows a)) → st a ≡ Some (a, tail_in arrows a)
    by true e h here later = subst (λ y. st y ≡ Some (y, tail_in arrows y)) (eqb-true x a e) here
    by false e h here later = later h

pub stands_ready : (arrows : List Arrow) (st : ℕ → Name) (accounts : List ℕ)
    → ((a : ℕ) → is_among accounts a ≡ true → st a ≡ Some (a, tail_in arrows a))
    → list_all (λ name. is_there st name) (names_needed arrows accounts) ≡ true
stands_ready arrows st [] stand = refl
stands_ready arrows st (x ∷ more) stand =
    and_from (is_there st (x, tail_in arrows x)) (list_all (λ name. is_there st name) (names_needed arrows more))
    (is_there_from (x, tail_in arrows x) (st x) (stand x (or_left (eqb x x) (is_among more x) (eq-eqb x x refl))))
    (stands_ready arrows st more (λ b e. stand b (or_right (eqb x b) (is_among more b) e)))

-- what is laid back
pub laid_left : (place : ℕ) (accounts : List ℕ) (before : Name) (b : ℕ)
    → laid_at (map (λ a. (a, place)) accounts) before b ≡ cond (is_among accounts b) (Some (b, place)) before
laid_left place [] before b = refl
laid_left place (a ∷ more) before b =
    laid_left place more (cond (eqb a b) (Some (a, place)) before) b ∙ by (eqb a b) refl (is_among more b) where
      by : (c : Bool) → eqb a b ≡ c → (d : Bool) → cond d (Some (b, place)) (cond c (Some (a, place)) before)
          ≡ cond (c || d) (Some (b, place)) before
      by true e true = refl
      by true e false = ap (λ n. Some (n, place)) (eqb-true a b e)
      by false e d = refl

pub laid_over : (fs : Bool) (one old : Name) → cond fs one (cond fs None old) ≡ cond fs one old
laid_over true one old = refl
laid_over false one old = refl
