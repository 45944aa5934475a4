-- An accepted act on the accounts of its footprint: how its parts make the whole.
use Rattle.std.proofs.Common.{◌≡◌, ℕ, ◌+◌, ◌≤◌, Bool, true, false, cond, eqb, List, [], ◌∷◌, map, Option}
use Rattle.std.proofs.Common.{Some, None, refl, sym, ap, subst, ◌∙◌}
use Rattle.std.specs.Prelude.{find, filter, not, nat_lt, MatchOption}
use Rattle.std.specs.Option.{option_map_or, option_to_list}
use Rattle.std.specs.List.{AllByRecursion, IsDistinct, list_any}
use Rattle.std.proofs.lemmas.Bool.{eqb-true, eq-eqb, not-false, ltb-false}
use Rattle.reg_base.specs.declared.limits.TheConstants.{MOST_HELD}
use Rattle.reg_base.specs.declared.kinds.AllowanceKind.{AllowanceKind}
use Rattle.reg_base.specs.declared.shares.Share.{Share}
use Rattle.reg_base.specs.declared.movement.Movement.{Movement}
use Rattle.reg_base.specs.declared.act.Act.{Act}
use Rattle.reg_base.specs.declared.instruction.Instruction.{Instruction}
use Rattle.reg_base.specs.declared.refusals.Refusal.TheVariants.{UnknownAccount, SameAccount, HoldingTooLarge}
use Rattle.reg_base.specs.Acts.{movement_of, change_of, shares, parties, also_known}
use Rattle.reg_base.specs.Footprint.{all_known, each_once, footprint}
use Rattle.reg_account.specs.Account.{AccountValue, held_by, credited}
use Rattle.reg_rules.specs.State.{State, Setting, Receiver, numbers, account, seen}
use Rattle.reg_rules.specs.Checks.{has_repeat, overfills, overfills_first, overfills_some, refusal}
use Rattle.reg_rules.specs.Effect.{share_of, with_changes}
use Rattle.reg_rules.specs.Effect.{CanReceive, HasSpaceEach, CanChange, IsBehind}
use Rattle.reg_rules.proofs.lemmas.Accounts.{found-by_number}
use Rattle.reg_rules.proofs.Passed.{passed}
use Rattle.reg_rules.proofs.Repeats.{repeats-none}
use Rattle.reg_rules.proofs.Firsts.{or-left, or-right, can-first}

-- numbers of which none stands twice are each where it first stands
kept-all : (x : ℕ) (ys : List ℕ) → list_any (λ y. eqb y x) ys ≡ false → filter (λ y. not (eqb y x)) ys ≡ ys
kept-all x [] none = refl
kept-all x (y ∷ ys) none =
    ap (λ b. cond (not b) (y ∷ filter (λ z. not (eqb z x)) ys) (filter (λ z. not (eqb z x)) ys))
    (or-left (eqb y x) (list_any (λ z. eqb z x) ys) none)
    ∙ ap (λ zs. y ∷ zs) (kept-all x ys (or-right (eqb y x) (list_any (λ z. eqb z x) ys) none))

pub once-distinct : (xs : List ℕ) → has_repeat xs ≡ false → each_once xs ≡ xs
once-distinct [] none = refl
once-distinct (x ∷ xs) none =
    ap (λ ys. x ∷ filter (λ y. not (eqb y x)) ys)
    (once-distinct xs (or-right (list_any (λ y. eqb y x) xs) (has_repeat xs) none))
    ∙ ap (λ ys. x ∷ ys) (kept-all x xs (or-left (list_any (λ y. eqb y x) xs) (has_repeat xs) none))

-- the footprint of an act that no check refuses: its parties
pub footprint-passed : (c : Setting) (s : State) (i : Instruction) → refusal c s i ≡ None
    → footprint c.directory i.act ≡ parties i.act
footprint-passed c s i none =
    ap (λ b. cond b (each_once (parties i.act)) [])
    (not-false (all_known c.directory i.act) (passed c s i UnknownAccount none refl))
    ∙ once-distinct (parties i.act)
    (repeats-none (parties i.act) (option_to_list (also_known i.act)) (passed c s i SameAccount none refl))

-- each account that receives has space for its share
space-found : (s : State) (kind : AllowanceKind) (v : AccountValue) → account s v.number ≡ Some v
    → (shared : List Share)
    → list_any (overfills kind) (map (λ share. record { account = account s share.to; amount = share.amount }) shared)
    ≡ false → CanReceive kind shared v
space-found s kind v found [] room = tt
space-found s kind v found (x ∷ xs) room =
    let at : Receiver = record { account = account s x.to; amount = x.amount } in
    let here = or-left (overfills kind at)
    (list_any (overfills kind) (map (λ share. record { account = account s share.to; amount = share.amount }) xs))
    room in
    go (eqb x.to v.number) refl here
    (space-found s kind v found xs
    (or-right (overfills kind at)
    (list_any (overfills kind) (map (λ share. record { account = account s share.to; amount = share.amount }) xs))
    room)) where
      go : (b : Bool) → eqb x.to v.number ≡ b
          → nat_lt MOST_HELD (option_map_or (λ w. held_by w kind) (account s x.to) 0 + x.amount) ≡ false
          → MatchOption (find (λ share. eqb share.to v.number) xs) (Unit {0})
          (λ share. held_by v kind + share.amount ≤ MOST_HELD)
          → MatchOption (cond b (Some x) (find (λ share. eqb share.to v.number) xs)) (Unit {0})
          (λ share. held_by v kind + share.amount ≤ MOST_HELD)
      go true same here more =
          let at : account s x.to ≡ Some v = ap (account s) (eqb-true x.to v.number same) ∙ found in
          ltb-false MOST_HELD (held_by v kind + x.amount)
          (ap (λ o. nat_lt MOST_HELD (option_map_or (λ w. held_by w kind) o 0 + x.amount)) (sym at) ∙ here)
      go false other here more = more

-- each account that receives has space for its share
pub can-receive : (c : Setting) (s : State) (i : Instruction) (v : AccountValue) → refusal c s i ≡ None
    → account s v.number ≡ Some v → CanReceive (movement_of i.act).kind (shares i.act) v
can-receive c s i v none found =
    space-found s (movement_of i.act).kind v found (shares i.act)
    (or-right (overfills_first (change_of i.act) (seen s i.act)) (overfills_some (movement_of i.act) (seen s i.act))
    (passed c s i HoldingTooLarge none refl))

-- an account of a state in which nothing refuses has what the act needs of it
pub can-change : (c : Setting) (s : State) (n : ℕ) (i : Instruction) (v : AccountValue) → refusal c s i ≡ None
    → account s v.number ≡ Some v → IsBehind n v → CanChange c n i.act v
can-change c s n i v none found behind = record {
  as_first = λ is_first. can-first c s n i v none (ap (account s) (sym is_first) ∙ found) behind;
  space = can-receive c s i v none found;
}

pub can-change-each : (c : Setting) (s : State) (n : ℕ) (i : Instruction) → refusal c s i ≡ None
    → IsDistinct eqb (numbers s) → AllByRecursion (IsBehind n) s → AllByRecursion (CanChange c n i.act) s
can-change-each c s n i none distinct late = go s (found-by_number s distinct) late where
  go : (ys : State) → AllByRecursion (λ v. account s v.number ≡ Some v) ys → AllByRecursion (IsBehind n) ys
      → AllByRecursion (CanChange c n i.act) ys
  go [] found behind = tt
  go (y ∷ ys) found behind = (can-change c s n i y none found.0 behind.0, go ys found.1 behind.1)

-- accounts of other numbers than this share's have the share that they have of the others
other-shares : (x : Share) (rest : List Share) (a : ℕ) (ys : State) → x.to ≡ a
    → AllByRecursion (λ b. eqb a b ≡ false) (numbers ys)
    → AllByRecursion (λ (y : AccountValue). share_of (x ∷ rest) y.number ≡ share_of rest y.number) ys
other-shares x rest a [] at all = tt
other-shares x rest a (y ∷ ys) at all = (
  ap (λ b. cond b (Some x) (share_of rest y.number)) (ap (λ n. eqb n y.number) at ∙ all.0),
  other-shares x rest a ys at all.1,
)

others-receive : (kind : AllowanceKind) (x : Share) (rest : List Share) (ys : State)
    → AllByRecursion (λ (y : AccountValue). share_of (x ∷ rest) y.number ≡ share_of rest y.number) ys
    → AllByRecursion (CanReceive kind (x ∷ rest)) ys → AllByRecursion (CanReceive kind rest) ys
others-receive kind x rest [] same can = tt
others-receive kind x rest (y ∷ ys) same can = (
  subst (λ o. MatchOption o (Unit {0}) (λ share. held_by y kind + share.amount ≤ MOST_HELD)) same.0 can.0,
  others-receive kind x rest ys same.1 can.1,
)

space-by_number : (kind : AllowanceKind) (vs : State) (shared : List Share)
    → numbers vs ≡ map (λ share. share.to) shared → IsDistinct eqb (numbers vs)
    → AllByRecursion (CanReceive kind shared) vs → HasSpaceEach kind vs shared
unfolding IsDistinct
space-by_number kind [] shared same d can = tt
space-by_number kind (v ∷ vs) [] same d can = tt
space-by_number kind (v ∷ vs) (x ∷ rest) same d can =
    let at : x.to ≡ v.number = cc in
    let more : numbers vs ≡ map (λ share. share.to) rest = cc in (
      subst (λ b. MatchOption (cond b (Some x) (share_of rest v.number)) (Unit {0})
          (λ share. held_by v kind + share.amount ≤ MOST_HELD))
          (eq-eqb x.to v.number at) can.0,
      space-by_number kind vs rest more d.1
          (others-receive kind x rest vs (other-shares x rest v.number vs at d.0) can.1),
    )

-- a share changes of an account what acts may change
pub given-changes : (kind : AllowanceKind) (v : AccountValue) (o : Option Share)
    → option_map_or (λ share. credited v kind share.amount) o v
    ≡ with_changes v (option_map_or (λ share. credited v kind share.amount) o v)
given-changes kind v None = refl
given-changes kind v (Some share) = refl

module _ (c : Setting) (n : ℕ) (act : Act) (x : AccountValue) (xs : State) (own : numbers (x ∷ xs) ≡ parties act)
    (distinct : IsDistinct eqb (numbers (x ∷ xs))) where
  others : AllByRecursion (λ b. eqb x.number b ≡ false) (numbers xs)
  unfolding IsDistinct
  others = distinct.0

  apart : IsDistinct eqb (numbers xs)
  unfolding IsDistinct
  apart = distinct.1

  in-order : numbers xs ≡ map (λ (share : Share). share.to) (shares act)
  in-order = cc own

  -- each other one has space for its share
  have-space : AllByRecursion (CanChange c n act) xs → HasSpaceEach (movement_of act).kind xs (shares act)
  have-space can = space-by_number (movement_of act).kind xs (shares act) in-order apart (go xs can) where
    go : (ys : State) → AllByRecursion (CanChange c n act) ys
        → AllByRecursion (CanReceive (movement_of act).kind (shares act)) ys
    go [] all = tt
    go (y ∷ ys) all = (all.0.space, go ys all.1)

-- the same, of all accounts as one list, and of what the act does
pub rest-can : (c : Setting) (n : ℕ) (act : Act) (m : Movement) (s : State) (x : AccountValue) (xs : State)
    (shared : List Share) → s ≡ x ∷ xs → m ≡ movement_of act → shared ≡ m.shares
    → numbers s ≡ parties act → IsDistinct eqb (numbers s) → AllByRecursion (CanChange c n act) s
    → HasSpaceEach m.kind xs shared
rest-can c n act m s x xs shared split moved listed own distinct can =
    let all = subst (AllByRecursion (CanChange c n act)) split can in
    let room = have-space c n act x xs (ap numbers (sym split) ∙ own)
    (subst (λ (t : State). IsDistinct eqb (numbers t)) split distinct) all.1 in
    subst (HasSpaceEach m.kind xs) (sym listed)
    (subst (λ (k : Movement). HasSpaceEach k.kind xs k.shares) (sym moved) room)
