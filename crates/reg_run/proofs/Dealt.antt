-- Numbers that were put into deques.
use Rattle.std.proofs.Common.{◌≡◌, ℕ, zero, suc, ◌+◌, true, List, [], ◌∷◌, ◌++◌, Some, drop, refl, sym, ap, subst}
use Rattle.std.proofs.Common.{◌∙◌, arith, Result, Ok, Err}
use Rattle.std.specs.Prelude.{All, OnOk, slice_get, slice_set}
use Rattle.std.specs.List.{range_with_len}
use Rattle.std.proofs.lemmas.List.Elements.{All-set, All-head, All-tail}
use Rattle.std.proofs.lemmas.Option.{same_Some}
use Rattle.reg_deques.specs.declared.views.DequeView.{DequeView}
use Rattle.reg_deques.specs.Views.{view, table_of, with_put}
use Rattle.reg_deques.specs.Yards.{IsNew}
use Rattle.reg_facts.specs.Counting.{times}
use Rattle.reg_facts.proofs.lemmas.Times.{times-append}
use Rattle.reg_run.specs.Taking.{HasOnlyPut, all_put}

put-more : (n : ℕ) (v w : DequeView) → w ≡ with_put (n ∷ []) v → HasOnlyPut v → HasOnlyPut w
put-more n v w is only = subst HasOnlyPut (sym is) (ap (with_put (n ∷ [])) only)

pub only-new : (v : DequeView) → IsNew v → HasOnlyPut v
only-new v new = new ∙ ap (λ ps. view true ps [] [] (table_of v)) (sym (ap (λ (u : DequeView). u.put) new))

-- new owners put nothing
pub none-put : (vs : List DequeView) → All IsNew vs → all_put vs ≡ []
none-put [] new = refl
none-put (v ∷ vs) new =
    ap (λ ns. ns ++ all_put vs) (ap (λ (u : DequeView). u.put) (All-head IsNew v vs new))
    ∙ none-put vs (All-tail IsNew v vs new)

all-at : {X : Type 0} (P : X → Type 0) (xs : List X) (k : ℕ) (x : X) → slice_get xs k ≡ Some x → All P xs → P x
all-at P [] k x at all = absurd cc
all-at P (y ∷ ys) zero x at all = subst P (same_Some y x at) (All-head P y ys all)
all-at P (y ∷ ys) (suc k) x at all = all-at P ys k x at (All-tail P y ys all)

times-put : (p n : ℕ) (vs : List DequeView) (k : ℕ) (v w : DequeView) → slice_get vs k ≡ Some v
    → w ≡ with_put (n ∷ []) v → times p (all_put (slice_set vs k w)) ≡ times p (all_put vs) + times p (n ∷ [])
times-put p n [] k v w at is = absurd cc
times-put p n (x ∷ vs) zero v w at is =
    let same : x ≡ v = cc in
    let put : w.put ≡ x.put ++ n ∷ [] = ap (λ (u : DequeView). u.put) is
    ∙ ap (λ (u : DequeView). u.put ++ n ∷ []) (sym same) in
    let new = times-append p w.put (all_put vs) in
    let old = times-append p x.put (all_put vs) in
    let more = ap (times p) put ∙ times-append p x.put (n ∷ []) in
    omega (arith, new, old, more)
times-put p n (x ∷ vs) (suc k) v w at is =
    let rest = times-put p n vs k v w at is in
    let new = times-append p x.put (all_put (slice_set vs k w)) in
    let old = times-append p x.put (all_put vs) in
    omega (arith, rest, new, old)

-- an owner puts a task, if it has memory
pub put-one : {E : Type 0} (r : Result (Unit {0}) E) (n : ℕ) (vs : List DequeView) (k : ℕ) (v w : DequeView)
    → slice_get vs k ≡ Some v → All HasOnlyPut vs → OnOk r (w ≡ with_put (n ∷ []) v)
    → OnOk r (All HasOnlyPut (slice_set vs k w))
    × OnOk r ((p : ℕ) → times p (all_put (slice_set vs k w)) ≡ times p (all_put vs) + times p (n ∷ []))
put-one (Ok u) n vs k v w at all is = (
  All-set HasOnlyPut vs k w (put-more n v w is (all-at HasOnlyPut vs k v at all)) all,
  λ p. times-put p n vs k v w at is,
)
put-one (Err e) n vs k v w at all is = (tt, tt)

-- ---- one worker more

-- the first of what is left of a list
pub next-of : {X : Type 0} (xs : List X) (k : ℕ) (x : X) (left : List X) → x ∷ left ≡ drop k xs
    → (slice_get xs k ≡ Some x) × (left ≡ drop (suc k) xs)
next-of [] zero x left e = absurd cc
next-of [] (suc k) x left e = absurd cc
next-of (y ∷ xs) zero x left e = (cc, cc)
next-of (y ∷ xs) (suc k) x left e = next-of xs k x left e

pub numbers-on : (k m n : ℕ) (ns : List ℕ) → n ∷ ns ≡ range_with_len k (suc m)
    → (n ≡ k) × (ns ≡ range_with_len (k + 1) m)
numbers-on k m n ns e = (cc, cc)
