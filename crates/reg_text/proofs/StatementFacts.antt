-- The statements of all accounts: each account of a book is found by its number, and each row is noted at those that it
-- touches.
use Rattle.std.proofs.Common.{◌≡◌, ◌∙◌, ℕ, zero, suc, ◌<◌, Bool, true, false, ◌||◌, cond, eqb, List, [], ◌∷◌, ◌++◌}
use Rattle.std.proofs.Common.{length, take, get_or, ◌+◌, Option, Some, refl, sym, subst, ap, arith}
use Rattle.std.specs.Prelude.{is_some}
use Rattle.std.specs.List.{AllByRecursion, IsDistinct, flat_map}
use Rattle.std.proofs.lemmas.Bool.{eq-eqb, eqb-true}
use Rattle.std.proofs.lemmas.Grind.{flat_map-append}
use Rattle.std.proofs.lemmas.List.{append-nil, take_more}
use Rattle.reg_facts.proofs.lemmas.Numbers.{clash}
use Rattle.reg_account.specs.Account.{AccountValue}
use Rattle.reg_base.specs.Footprint.{is_among}
use Rattle.reg_base.proofs.lemmas.Among.{among_push}
use Rattle.reg_rules.specs.State.{State, account}
use Rattle.reg_rules.specs.Step.{held_now}
use Rattle.reg_rules.specs.declared.reply.LogRow.{LogRow}
use Rattle.reg_book.specs.Book.{BookValue, directory_of}
use Rattle.reg_text.specs.Report.{text_of}
use Rattle.reg_text.specs.Statement.{rows_about, statement_of, statement_rows}

found-either : (b : Bool) (v : AccountValue) (others : Option AccountValue) → is_some others ≡ true
    → is_some (cond b (Some v) others) ≡ true
found-either true v others found = refl
found-either false v others found = found

pub own-found : (s : State) (i : ℕ) (v : AccountValue) → i < length s → v ≡ get_or s i v
    → is_some (account s v.number) ≡ true
own-found [] i v lt e = absurd (omega (arith, lt))
own-found (w ∷ s) zero v lt e =
    ap (λ (b : Bool). is_some (cond b (Some w) (account s v.number)))
    (eq-eqb w.number v.number (ap (λ (a : AccountValue). a.number) (sym e)))
own-found (w ∷ s) (suc i) v lt e =
    found-either (eqb w.number v.number) w (account s v.number) (own-found s i v (omega (arith, lt)) e)

apart-at : (y : ℕ) (xs : List ℕ) (i x : ℕ) → AllByRecursion (λ z. eqb y z ≡ false) xs → i < length xs
    → x ≡ get_or xs i x → eqb y x ≡ false
apart-at y [] i x apart lt e = absurd (omega (arith, lt))
apart-at y (z ∷ xs) zero x apart lt e = subst (λ (n : ℕ). eqb y n ≡ false) (sym e) apart.0
apart-at y (z ∷ xs) (suc i) x apart lt e = apart-at y xs i x apart.1 (omega (arith, lt)) e

-- a number of a list without repetitions is not among those in front of it
pub is-new : (xs : List ℕ) (i x : ℕ) → IsDistinct eqb xs → i < length xs → x ≡ get_or xs i x
    → is_among (take i xs) x ≡ false
unfolding IsDistinct
is-new [] i x distinct lt e = absurd (omega (arith, lt))
is-new (y ∷ xs) zero x distinct lt e = refl
is-new (y ∷ xs) (suc i) x distinct lt e =
    rw (apart-at y xs i x distinct.0 (omega (arith, lt)) e) (is-new xs i x distinct.1 (omega (arith, lt)) e)

-- a row that was noted at the accounts so far is noted at one more
pub noted-more : (first old new : List LogRow) (log : LogRow) (so_far : List ℕ) (x a : ℕ) → is_among so_far x ≡ false
    → old ≡ first ++ cond (is_among so_far a) (log ∷ []) [] → new ≡ cond (eqb x a) (old ++ log ∷ []) old
    → new ≡ first ++ cond (is_among (so_far ++ x ∷ []) a) (log ∷ []) []
noted-more first old new log so_far x a fresh eo en =
    rw (among_push so_far x a) (by (is_among so_far a) (eqb x a) not_both eo en) where
      not_both : eqb x a ≡ true → is_among so_far a ≡ false
      not_both e = subst (λ (n : ℕ). is_among so_far n ≡ false) (eqb-true x a e) fresh

      by : (m b : Bool) → (b ≡ true → m ≡ false) → old ≡ first ++ cond m (log ∷ []) []
          → new ≡ cond b (old ++ log ∷ []) old → new ≡ first ++ cond (m || b) (log ∷ []) []
      by false true h eo en = en ∙ ap (λ (rows : List LogRow). rows ++ log ∷ []) (eo ∙ append-nil first)
      by true true h eo en = absurd (clash refl (h refl))
      by false false h eo en = en ∙ eo
      by true false h eo en = en ∙ eo

-- the statements of the first accounts, and of one more
pub statements-more : (b : BookValue) (rows about : List LogRow) (s t : List ℕ) (vs : List AccountValue) (k n : ℕ)
    (v : AccountValue) → k < length vs → v ≡ get_or vs k v → n ≡ v.number
    → about ≡ rows_about (directory_of b.accounts) n rows
    → s ≡ flat_map (λ w. text_of (statement_of b rows w.number)) (take k vs)
    → t ≡ s ++ text_of (statement_rows (held_now b.accounts n) about)
    → t ≡ flat_map (λ w. text_of (statement_of b rows w.number)) (take (k + 1) vs)
statements-more b rows about s t vs k n v lt e en ea es et =
    let text = λ (w : AccountValue). text_of (statement_of b rows w.number) in
    let more : take (k + 1) vs ≡ take k vs ++ v ∷ [] =
    take_more vs k v lt ∙ ap (λ (w : AccountValue). take k vs ++ w ∷ []) (sym e) in
    let own : text_of (statement_rows (held_now b.accounts n) about) ≡ text v =
    ap (λ (rows : List LogRow). text_of (statement_rows (held_now b.accounts n) rows)) ea
    ∙ ap (λ (m : ℕ). text_of (statement_of b rows m)) en in
    rw (more, flat_map-append text (take k vs) (v ∷ []), append-nil (text v))
    (et ∙ ap (λ (xs : List ℕ). xs ++ text_of (statement_rows (held_now b.accounts n) about)) es
    ∙ ap (λ (xs : List ℕ). flat_map text (take k vs) ++ xs) own)
