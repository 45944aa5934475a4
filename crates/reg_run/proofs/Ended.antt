-- What workers answered, none of whom lacked memory.
use Rattle.std.proofs.Common.{◌≡◌, ℕ, suc, ◌<◌, List, [], ◌∷◌, Result, Ok, map, length, get_or, refl, sym}
use Rattle.std.proofs.Common.{ap, subst, ◌∙◌, arith}
use Rattle.std.specs.Prelude.{All, IfOk}
use Rattle.std.specs.List.{flat_map}
use Rattle.std.proofs.lemmas.List.{get_or-map, length-map}
use Rattle.std.proofs.lemmas.List.Elements.{All-append, All-cons, All-head, All-nil, All-tail}
use Rattle.reg_deques.specs.Tickets.{empty_ticket_view}
use Rattle.reg_run.specs.declared.ran.Ran.{Ran}
use Rattle.reg_run.specs.Running.{IsEnd, AreEnds}
use Rattle.reg_run.specs.Taking.{WorkerView, HasOnlyPut, IsUnbegun}

-- each has answered
pub as-many : {W E : Type 0} (ws : List W) (rs : List (Result W E)) → map Ok ws ≡ rs → length ws ≡ length rs
as-many ws rs is = sym (length-map ws Ok) ∙ ap length is

-- what holds of a good answer holds of what it gave
pub answered : {W E : Type 0} (ws : List W) (rs : List (Result W E)) (P : W → Type 0) → map Ok ws ≡ rs → (i : ℕ)
    → (w : W) → i < length ws → IfOk (get_or rs i (Ok w)) P → P (get_or ws i w)
answered {W} {E} ws rs P is i w lt holds =
    let at : get_or rs i (Ok w) ≡ Ok (get_or ws i w) =
    ap (λ (xs : List (Result W E)). get_or xs i (Ok w)) (sym is) ∙ get_or-map Ok ws i w (Ok w) lt in
    subst (λ (r : Result W E). IfOk r P) at holds

module _ {A N J W : Type 0} (promises : ℕ → A → Type 0) (noted : ℕ → List A → N → Type 0) (began : J → WorkerView)
    (ran : W → List (Ran A)) (notes : W → N) where
  -- what came of each job came of all
  pub ends-each : (js : List J) (ws : List W) → length ws ≡ length js
      → ((i : ℕ) (w : W) → i < length ws → (j : J) × (((d : J) → get_or js i d ≡ j)
      × IsEnd promises noted (began j) (ran (get_or ws i w)) (notes (get_or ws i w))))
      → AreEnds promises noted (map began js) (map ran ws) (map notes ws)
  ends-each [] [] len each = tt
  ends-each [] (w ∷ ws) len each = absurd (omega arith)
  ends-each (j ∷ js) [] len each = absurd (omega arith)
  ends-each (j ∷ js) (w ∷ ws) len each =
      let one = each 0 w (omega arith) in (
        subst (λ k. IsEnd promises noted (began k) (ran w) (notes w)) (sym (one.1.0 j)) one.1.1,
        ends-each js ws (omega (arith, len)) (λ i v lt. each (suc i) v (omega (arith, lt))),
      )

-- what is promised holds of all that was run
pub all-promised : {A N : Type 0} (promises : ℕ → A → Type 0) (noted : ℕ → List A → N → Type 0)
    (ks : List WorkerView) (rans : List (List (Ran A))) (ns : List N) → AreEnds promises noted ks rans ns
    → All (λ r. promises r.number r.answer) (flat_map (λ r. r) rans)
all-promised promises noted [] [] [] ends = All-nil (λ r. promises r.number r.answer)
all-promised promises noted [] [] (n ∷ ns) ends = absurd ends
all-promised promises noted [] (r ∷ rs) ns ends = absurd ends
all-promised promises noted (k ∷ ks) [] ns ends = absurd ends
all-promised promises noted (k ∷ ks) (r ∷ rs) [] ends = absurd ends
all-promised promises noted (k ∷ ks) (ran ∷ rans) (n ∷ ns) ends =
    All-append (λ r. promises r.number r.answer) ran (flat_map (λ r. r) rans) ends.0.promised
    (all-promised promises noted ks rans ns ends.1)

-- each worker has ended
pub ends-many : {A N : Type 0} (promises : ℕ → A → Type 0) (noted : ℕ → List A → N → Type 0)
    (ks : List WorkerView) (rans : List (List (Ran A))) (ns : List N) → AreEnds promises noted ks rans ns
    → length rans ≡ length ks
ends-many promises noted [] [] [] ends = refl
ends-many promises noted [] [] (n ∷ ns) ends = absurd ends
ends-many promises noted [] (r ∷ rs) ns ends = absurd ends
ends-many promises noted (k ∷ ks) [] ns ends = absurd ends
ends-many promises noted (k ∷ ks) (r ∷ rs) [] ends = absurd ends
ends-many promises noted (k ∷ ks) (r ∷ rs) (n ∷ ns) ends = ap suc (ends-many promises noted ks rs ns ends.1)

-- ---- workers that have not begun

pub unbegun-each : {J : Type 0} (known : J → WorkerView) (js : List J) → All HasOnlyPut (map (λ j. (known j).own) js)
    → All (λ j. All (λ v. v ≡ empty_ticket_view) (known j).others) js → All IsUnbegun (map known js)
unbegun-each known [] put blank = All-nil IsUnbegun
unbegun-each {J} known (j ∷ js) put blank =
    let is = λ (i : J). All (λ v. v ≡ empty_ticket_view) (known i).others in
    All-cons IsUnbegun (known j) (map known js) (record {
      own = All-head HasOnlyPut (known j).own (map (λ i. (known i).own) js) put;
      others = All-head is j js blank;
    }) (unbegun-each known js (All-tail HasOnlyPut (known j).own (map (λ i. (known i).own) js) put)
    (All-tail is j js blank))

pub map-view : {X Y Z : Type 0} (f : Y → Z) (g : X → Y) (xs : List X) → map f (map g xs) ≡ map (λ x. f (g x)) xs
map-view f g [] = refl
map-view f g (x ∷ xs) = ap (λ zs. f (g x) ∷ zs) (map-view f g xs)
