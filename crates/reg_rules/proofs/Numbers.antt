-- Accounts by their numbers: where each number stands once, it leads to its account.
use Rattle.std.proofs.Common.{◌≡◌, ℕ, eqb, List, [], ◌∷◌, map, Option, Some, refl, sym, ap}
use Rattle.std.proofs.Common.{◌∙◌, subst}
use Rattle.std.specs.List.{IsDistinct, AllByRecursion}
use Rattle.std.proofs.lemmas.Option.{same_Some}
use Rattle.reg_account.specs.Account.{AccountValue}
use Rattle.reg_rules.specs.State.{State, numbers, account}
use Rattle.reg_rules.proofs.lemmas.Accounts.{found-by_number}

-- what is said of a state by its numbers is said of its accounts
pub map-by_number : {Y : Type 0} (f : ℕ → Option AccountValue → Y) (g : AccountValue → Y)
    → ((v : AccountValue) → f v.number (Some v) ≡ g v)
    → (s : State) → IsDistinct eqb (numbers s) → map (λ a. f a (account s a)) (numbers s) ≡ map g s
map-by_number {Y} f g same s d = go s (found-by_number s d) where
  go : (ys : State) → AllByRecursion (λ v. account s v.number ≡ Some v) ys → map (λ a. f a (account s a)) (numbers ys)
      ≡ map g ys
  go [] found = refl
  go (y ∷ ys) found = let here : f y.number (account s y.number) ≡ g y = ap (f y.number) found.0 ∙ same y in
      ap (λ z. z ∷ map (λ a. f a (account s a)) (numbers ys)) here ∙ ap (λ zs. g y ∷ zs) (go ys found.1)

pub numbers-map : (f : AccountValue → AccountValue) → ((v : AccountValue) → (f v).number ≡ v.number) → (s : State)
    → numbers (map f s) ≡ numbers s
numbers-map f keeps [] = refl
numbers-map f keeps (x ∷ xs) =
    ap (λ n. n ∷ numbers (map f xs)) (keeps x) ∙ ap (λ ns. x.number ∷ ns) (numbers-map f keeps xs)

some-each : (xs ys : State) → map (λ v. Some v) xs ≡ map (λ v. Some v) ys → xs ≡ ys
some-each [] [] same = refl
some-each [] (y ∷ ys) same = absurd (cc)
some-each (x ∷ xs) [] same = absurd (cc)
some-each (x ∷ xs) (y ∷ ys) same =
    let more : map (λ v. Some v) xs ≡ map (λ v. Some v) ys = cc in
    let here : Some x ≡ Some y = cc in
    ap (λ v. v ∷ xs) (same_Some x y here) ∙ ap (λ vs. y ∷ vs) (some-each xs ys more)

map-agree : (s t : State) (ns : List ℕ) → AllByRecursion (λ a. account s a ≡ account t a) ns
    → map (account s) ns ≡ map (account t) ns
map-agree s t [] same = refl
map-agree s t (n ∷ ns) same =
    ap (λ o. o ∷ map (account s) ns) same.0 ∙ ap (λ os. account t n ∷ os) (map-agree s t ns same.1)

-- a state is known by its numbers and by what they lead to
pub one-state : (s t : State) → IsDistinct eqb (numbers s) → numbers s ≡ numbers t
    → AllByRecursion (λ a. account s a ≡ account t a) (numbers s) → s ≡ t
one-state s t d same agree =
    some-each s t
    (sym (map-by_number (λ a o. o) (λ v. Some v) (λ v. refl) s d)
    ∙ map-agree s t (numbers s) agree
    ∙ ap (map (account t)) same
    ∙ map-by_number (λ a o. o) (λ v. Some v) (λ v. refl) t (subst (IsDistinct eqb) same d))
