-- Settled regions counted: each number once, and each place as often as it was dealt out.
use Rattle.std.proofs.Common.{◌≡◌, ℕ, ◌+◌, ◌<◌, ◌==◌, Bool, true, false, cond, List, [], ◌∷◌, ◌++◌}
use Rattle.std.proofs.Common.{append-nil, append_assoc, map, refl, sym, ap, ◌∙◌, arith, add-one}
use Rattle.std.specs.List.{flat_map}
use Rattle.std.proofs.lemmas.Grind.{flat_map-append}
use Rattle.std.proofs.lemmas.List.{map-append}
use Rattle.std.proofs.lemmas.Bool.{eqb-true}
use Rattle.std.proofs.lemmas.List.Elements.{All-head, All-tail}
use Rattle.reg_facts.proofs.lemmas.Times.{equal-one, times-append}
use Rattle.reg_facts.specs.Counting.{one_if, total, times}
use Rattle.reg_facts.specs.Lists.{first_numbers}
use Rattle.reg_facts.proofs.lemmas.Totals.{total-append}
use Rattle.reg_base.specs.Batch.{BatchValue}
use Rattle.reg_rules.specs.State.{State, Setting}
use Rattle.reg_advice.specs.declared.dealing.Deal.{Deal}
use Rattle.reg_regions.specs.declared.running.settled_list.SettledList.{SettledList}
use Rattle.reg_run.specs.declared.ran.Ran.{Ran}
use Rattle.reg_run.specs.Running.{AreEnds, answers_of, numbers_ran}
use Rattle.reg_run.specs.Taking.{WorkerView}
use Rattle.reg_regions.specs.Settling.{kept, places_in}
use Rattle.reg_regions.specs.Stealing.{IsSettledList, AreSettled, IsNoted, places_at, settled_places, times_noted}

-- a list without the first of its numbers that is this one
without : ℕ → List ℕ → List ℕ
without x [] = []
without x (y ∷ ys) = cond (y == x) ys (y ∷ without x ys)

removed : (g : ℕ → ℕ) (x : ℕ) (ys : List ℕ) → 0 < times x ys → total g ys ≡ g x + total g (without x ys)
unfolding without
removed g x [] some = absurd (omega (arith, some))
removed g x (y ∷ ys) some = by (y == x) refl (removed g x ys)
  where
    by : (b : Bool) → (y == x) ≡ b → (0 < times x ys → total g ys ≡ g x + total g (without x ys))
        → g y + total g ys ≡ g x + total g (cond b ys (y ∷ without x ys))
    by true same rest = ap (λ z. g z + total g ys) (eqb-true y x same)
    by false other rest =
        let none : one_if (y == x) ≡ 0 = ap one_if other in
        let more = rest (omega (arith, some, none)) in
        omega (arith, more)

-- a sum over numbers is the same, if each stands as often in both
pub total-same : (g : ℕ → ℕ) (xs ys : List ℕ) → ((p : ℕ) → times p xs ≡ times p ys) → total g xs ≡ total g ys
total-same g [] [] same = refl
total-same g [] (y ∷ ys) same =
    let here = same y in let one = equal-one y y refl in absurd (omega (arith, here, one))
total-same g (x ∷ xs) ys same =
    let here = same x in
    let one = equal-one x x refl in
    let some : 0 < times x ys = omega (arith, here, one) in
    let rest = total-same g xs (without x ys) (λ p.
    let both = same p in let less = removed (λ y. one_if (y == p)) x ys some in omega (arith, both, less)) in
    let all = removed g x ys some in
    omega (arith, rest, all)

-- the places of settled regions, by their numbers
pub times-places : (c : Setting) (b : BatchValue) (openings : List State) (deals : List Deal) (p : ℕ)
    (ss : List (Ran SettledList)) → AreSettled c b openings deals ss
    → times p (settled_places (answers_of ss)) ≡ total (λ n. times p (places_at deals n)) (numbers_ran ss)
times-places c b openings deals p [] all = refl
times-places c b openings deals p (s ∷ ss) all =
    times-append p (places_in s.answer.replies.items) (settled_places (answers_of ss))
    ∙ ap (λ ps. times p ps + times p (settled_places (answers_of ss)))
    (All-head (λ r. IsSettledList c b openings deals r.number r.answer) s ss all).places
    ∙ ap (λ n. times p (places_at deals s.number) + n)
    (times-places c b openings deals p ss (All-tail (λ r. IsSettledList c b openings deals r.number r.answer) s ss all))

-- regions in another order have the same places
pub places-same : (c : Setting) (b : BatchValue) (openings : List State) (deals : List Deal) (p : ℕ)
    (ss ts : List (Ran SettledList)) → AreSettled c b openings deals ss → AreSettled c b openings deals ts
    → ((q : ℕ) → times q (numbers_ran ss) ≡ times q (numbers_ran ts))
    → times p (settled_places (answers_of ss)) ≡ times p (settled_places (answers_of ts))
places-same c b openings deals p ss ts all each same =
    times-places c b openings deals p ss all
    ∙ total-same (λ n. times p (places_at deals n)) (numbers_ran ss) (numbers_ran ts) same
    ∙ sym (times-places c b openings deals p ts each)

-- ---- what workers noted

-- the notes of one worker more
pub noted-times : {N : Type 0} (places : N → List ℕ) (p : ℕ) (all : List N) (n : N)
    → times_noted places p (all ++ n ∷ []) ≡ times_noted places p all + times p (places n)
noted-times places p all n = omega (arith, total-append (λ x. times p (places x)) all (n ∷ []))

kept-none : (keeps : Bool) → kept keeps [] ≡ []
kept-none true = refl
kept-none false = refl

kept-append : (keeps : Bool) (ps qs : List ℕ) → kept keeps (ps ++ qs) ≡ kept keeps ps ++ kept keeps qs
kept-append true ps qs = refl
kept-append false ps qs = refl

-- a worker noted places behind others
pub noted-more : (keeps : Bool) {noted : List ℕ} (old ps qs : List ℕ) → noted ≡ old ++ kept keeps ps
    → noted ++ kept keeps qs ≡ old ++ kept keeps (ps ++ qs)
noted-more keeps old ps qs before =
    ap (λ ns. ns ++ kept keeps qs) before ∙ append_assoc old (kept keeps ps) (kept keeps qs)
    ∙ ap (λ ns. old ++ ns) (sym (kept-append keeps ps qs))

-- how often a place stands in what is kept of places
kept-times : (keeps : Bool) (p : ℕ) (ps qs : List ℕ)
    → times p (kept keeps (ps ++ qs)) ≡ times p (kept keeps ps) + times p (kept keeps qs)
kept-times keeps p ps qs =
    ap (times p) (kept-append keeps ps qs) ∙ times-append p (kept keeps ps) (kept keeps qs)

pub numbers-next : (n : ℕ) → first_numbers (n + 1) ≡ first_numbers n ++ n ∷ []
numbers-next n = rw add-one refl

-- what workers noted that settled these regions, worker by worker: all numbers and all places
module _ {N : Type 0} (promises : ℕ → SettledList → Type 0) (worker_of : N → ℕ) (keeps : Bool) (places : N → List ℕ)
  where
    pub ended-workers : (ks : List WorkerView) (rans : List (List (Ran SettledList))) (ns : List N)
        → AreEnds promises (IsNoted worker_of keeps places) ks rans ns → map worker_of ns ≡ map (λ k. k.worker) ks
    ended-workers [] [] [] ends = refl
    ended-workers [] [] (n ∷ ns) ends = absurd ends
    ended-workers [] (r ∷ rs) ns ends = absurd ends
    ended-workers (k ∷ ks) [] ns ends = absurd ends
    ended-workers (k ∷ ks) (r ∷ rs) [] ends = absurd ends
    ended-workers (k ∷ ks) (r ∷ rs) (n ∷ ns) ends =
        ap (λ w. w ∷ map worker_of ns) ends.0.noted.worker_is
        ∙ ap (λ ws. k.worker ∷ ws) (ended-workers ks rs ns ends.1)

    pub ended-times : (p : ℕ) (ks : List WorkerView) (rans : List (List (Ran SettledList))) (ns : List N)
        → AreEnds promises (IsNoted worker_of keeps places) ks rans ns
        → times_noted places p ns ≡ times p (kept keeps (settled_places (answers_of (flat_map (λ r. r) rans))))
    ended-times p [] [] [] ends = ap (times p) (sym (kept-none keeps))
    ended-times p [] [] (n ∷ ns) ends = absurd ends
    ended-times p [] (r ∷ rs) ns ends = absurd ends
    ended-times p (k ∷ ks) [] ns ends = absurd ends
    ended-times p (k ∷ ks) (r ∷ rs) [] ends = absurd ends
    ended-times p (k ∷ ks) (r ∷ rs) (n ∷ ns) ends =
        let own = settled_places (answers_of r) in
        let rest = flat_map (λ x. x) rs in
        let others = settled_places (answers_of rest) in
        let all : settled_places (answers_of (r ++ rest)) ≡ own ++ others =
        ap settled_places (map-append (λ (x : Ran SettledList). x.answer) r rest)
        ∙ flat_map-append (λ (s : SettledList). places_in s.replies.items) (answers_of r) (answers_of rest) in
        ap (λ ps. times p ps + times_noted places p ns) ends.0.noted.places_are
        ∙ ap (λ m. times p (kept keeps own) + m) (ended-times p ks rs ns ends.1)
        ∙ sym (ap (λ ps. times p (kept keeps ps)) all ∙ kept-times keeps p own others)

-- one region more is noted
pub noted-on : {N : Type 0} (worker_of : N → ℕ) (keeps : Bool) (places : N → List ℕ) (worker : ℕ)
    (before : List SettledList) (s : SettledList) (old new : N) → worker_of new ≡ worker_of old
    → places new ≡ places old ++ kept keeps (places_in s.replies.items)
    → IsNoted worker_of keeps places worker before old → IsNoted worker_of keeps places worker (before ++ s ∷ []) new
noted-on worker_of keeps places worker before s old new same more noted =
    let own = places_in s.replies.items in
    let all : settled_places (before ++ s ∷ []) ≡ settled_places before ++ own =
    flat_map-append (λ (t : SettledList). places_in t.replies.items) before (s ∷ [])
    ∙ ap (λ ps. settled_places before ++ ps) (append-nil own) in
    record {
      worker_is = same ∙ noted.worker_is;
      places_are = more ∙ ap (λ ps. ps ++ kept keeps own) noted.places_are
          ∙ sym (kept-append keeps (settled_places before) own) ∙ ap (kept keeps) (sym all);
    }
