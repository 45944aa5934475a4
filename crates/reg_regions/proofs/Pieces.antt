-- Accounts that are ready for a day are so in another order, and in parts.
use Rattle.std.proofs.Common.{◌≡◌, ℕ, List, [], ◌∷◌, ◌++◌, take, drop, sym, ap, subst, ◌∙◌, false, eqb}
use Rattle.std.specs.Prelude.{IsPermutation}
use Rattle.std.specs.List.{IsDistinct}
use Rattle.std.proofs.lemmas.List.{map-append, take-append-drop}
use Rattle.std.proofs.lemmas.Map.Keys.{IsDistinct-head, IsDistinct-tail, IsDistinct-cons}
use Rattle.std.proofs.lemmas.List.Elements.{All-take, All-drop}
use Rattle.std.proofs.lemmas.List.Sorted.{All-permutation}
use Rattle.reg_facts.proofs.lemmas.Lists.{all-first}
use Rattle.reg_account.specs.Account.{AccountValue, IsAccount}
use Rattle.reg_rules.specs.State.{State, numbers}
use Rattle.reg_rules.specs.Effect.{IsBehind}
use Rattle.reg_rules.specs.Laws.{IsReady}
use Rattle.reg_rules.proofs.lemmas.Accounts.{distinct-permutation}

distinct-front : (xs ys : List ℕ) → IsDistinct eqb (xs ++ ys) → IsDistinct eqb xs
unfolding IsDistinct
distinct-front [] ys distinct = tt
distinct-front (x ∷ xs) ys distinct =
    IsDistinct-cons eqb x xs (all-first (λ y. eqb x y ≡ false) xs ys (IsDistinct-head eqb x (xs ++ ys) distinct))
    (distinct-front xs ys (IsDistinct-tail eqb x (xs ++ ys) distinct))

distinct-behind : (xs ys : List ℕ) → IsDistinct eqb (xs ++ ys) → IsDistinct eqb ys
distinct-behind [] ys distinct = distinct
distinct-behind (x ∷ xs) ys distinct = distinct-behind xs ys (IsDistinct-tail eqb x (xs ++ ys) distinct)

-- accounts that are ready are so in another order
pub ready-permuted : (n : ℕ) (s t : State) → IsPermutation s t → IsReady n s → IsReady n t
ready-permuted n s t same ready = record {
  once = distinct-permutation s t ready.once same;
  fit = All-permutation IsAccount s t same ready.fit;
  behind = All-permutation (IsBehind n) s t same ready.behind;
}

-- accounts that are ready are so in front of a cut and behind it
pub ready-cut : (n k : ℕ) (s : State) → IsReady n s → IsReady n (take k s) × IsReady n (drop k s)
ready-cut n k s ready =
    let whole : numbers s ≡ numbers (take k s) ++ numbers (drop k s) =
    ap numbers (sym (take-append-drop k s)) ∙ map-append (λ (v : AccountValue). v.number) (take k s) (drop k s) in
    let distinct = subst (IsDistinct eqb) whole ready.once in (
      record {
        once = distinct-front (numbers (take k s)) (numbers (drop k s)) distinct;
        fit = All-take IsAccount k s ready.fit;
        behind = All-take (IsBehind n) k s ready.behind;
      },
      record {
        once = distinct-behind (numbers (take k s)) (numbers (drop k s)) distinct;
        fit = All-drop IsAccount k s ready.fit;
        behind = All-drop (IsBehind n) k s ready.behind;
      },
    )
