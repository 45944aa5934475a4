-- A step reads and changes the accounts of its footprint alone.
use Rattle.std.proofs.Common.{◌≡◌, ℕ, Bool, true, false, cond, eqb, List, [], ◌∷◌, get_or, map, drop, Option, Some}
use Rattle.std.proofs.Common.{None, refl, sym, ap, subst, ◌∙◌}
use Rattle.std.specs.Prelude.{find, filter, not}
use Rattle.std.specs.Option.{option_map, option_map_or}
use Rattle.std.specs.List.{AllByRecursion}
use Rattle.std.proofs.lemmas.Bool.{eqb-true, eqb-false, ne_eqb, not-false}
use Rattle.std.proofs.lemmas.List.{get_or_default}
use Rattle.std.proofs.lemmas.List.Elements.{recursion_from_All}
use Rattle.reg_facts.proofs.lemmas.Lists.{all-weaker}
use Rattle.reg_base.specs.declared.shares.Share.{Share}
use Rattle.reg_base.specs.declared.act.Act.{Act}
use Rattle.reg_base.specs.declared.act.Act.TheVariants.{Assess}
use Rattle.reg_base.specs.declared.instruction.Instruction.{Instruction}
use Rattle.reg_base.specs.declared.refusals.Refusal.{Refusal}
use Rattle.reg_base.specs.declared.refusals.Refusal.TheVariants.{UnknownAccount}
use Rattle.reg_base.specs.Refusals.{checks}
use Rattle.reg_base.specs.Acts.{movement_of, first, shares, parties}
use Rattle.reg_base.specs.Footprint.{all_known, each_once, footprint}
use Rattle.reg_account.specs.Years.{figure_in}
use Rattle.reg_account.specs.Account.{AccountValue, credited}
use Rattle.reg_rules.specs.declared.reply.HeldNow.{HeldNow}
use Rattle.reg_rules.specs.declared.reply.Reply.TheVariants.{Done}
use Rattle.reg_rules.specs.State.{State, Setting, Seen, Receiver, seen, numbers, account}
use Rattle.reg_rules.specs.Checks.{fails, refusal}
use Rattle.reg_rules.specs.Effect.{first_after, given, with_changes, changed_by, effect}
use Rattle.reg_rules.specs.Step.{step, step_by, held_now, closing, figure_now}
use Rattle.reg_rules.specs.Laws.{StepIsLocal, OthersStay, NumbersStayInStep, RefusedChangesNothing}
use Rattle.reg_rules.proofs.lemmas.Accounts.{account-number}
use Rattle.reg_rules.proofs.Effects.{account-effect, numbers-effect}
use Rattle.reg_rules.proofs.Passed.{passed}
use Rattle.reg_rules.proofs.Steps.{now-of}

-- what holds at each number where it first stands holds at each
at-each : (P : ℕ → Type 0) (x : ℕ) (ys : List ℕ) → P x → AllByRecursion P (filter (λ y. not (eqb y x)) ys)
    → AllByRecursion P ys
at-each P x [] here all = tt
at-each P x (y ∷ ys) here all = go (eqb y x) refl all (at-each P x ys here) where
  go : (b : Bool) → eqb y x ≡ b
      → AllByRecursion P (cond (not b) (y ∷ filter (λ z. not (eqb z x)) ys) (filter (λ z. not (eqb z x)) ys))
      → (AllByRecursion P (filter (λ z. not (eqb z x)) ys) → AllByRecursion P ys) → P y × AllByRecursion P ys
  go true same kept more = (subst P (sym (eqb-true y x same)) here, more kept)
  go false other kept more = (kept.0, more kept.1)

at-all : (P : ℕ → Type 0) (xs : List ℕ) → AllByRecursion P (each_once xs) → AllByRecursion P xs
at-all P [] all = tt
at-all P (x ∷ xs) all = (all.0, at-all P xs (at-each P x (each_once xs) all.0 all.1))

-- states that agree on an act's accounts look the same to it
receivers-same : (s t : State) (shared : List Share)
    → AllByRecursion (λ a. account s a ≡ account t a) (map (λ share. share.to) shared)
    → ◌≡◌ {A = List Receiver} (map (λ share. record { account = account s share.to; amount = share.amount }) shared)
    (map (λ share. record { account = account t share.to; amount = share.amount }) shared)
receivers-same s t [] same = refl
receivers-same s t (x ∷ xs) same =
    λ i. record { account = same.0 i; amount = x.amount } ∷ receivers-same s t xs same.1 i

seen-same : (s t : State) (act : Act) → AllByRecursion (λ a. account s a ≡ account t a) (parties act)
    → ◌≡◌ {A = Seen} (seen s act) (seen t act)
seen-same s t act same = λ i. record { first = same.0 i; receivers = receivers-same s t (shares act) same.1 i }

-- the accounts of the footprint decide the refusal: where one that the act names is unknown that alone, else what the
-- act sees
pub refusal-local : (c : Setting) (s t : State) (i : Instruction)
    → AllByRecursion (λ a. account s a ≡ account t a) (footprint c.directory i.act) → refusal c s i ≡ refusal c t i
refusal-local c s t i same = go (all_known c.directory i.act) refl where
  go : (b : Bool) → all_known c.directory i.act ≡ b → refusal c s i ≡ refusal c t i
  go true known =
      let at = at-all (λ a. account s a ≡ account t a) (parties i.act)
      (subst (λ b. AllByRecursion (λ a. account s a ≡ account t a) (cond b (each_once (parties i.act)) [])) known
      same) in
      ap (λ (e : Seen). find (fails c e i) checks) (seen-same s t i.act at)
  go false unknown =
      ap (λ b. cond (not b) (Some UnknownAccount) (find (fails c (seen s i.act) i) (drop 1 checks))) unknown
      ∙ sym (ap (λ b. cond (not b) (Some UnknownAccount) (find (fails c (seen t i.act) i) (drop 1 checks))) unknown)

-- an effect reads no other account
pub effect-local : (c : Setting) (s t : State) (n : ℕ) (i : Instruction) (a : ℕ) → account s a ≡ account t a
    → account (effect c s n i) a ≡ account (effect c t n i) a
effect-local c s t n i a same =
    account-effect c s n i a ∙ ap (option_map (changed_by c n i.act)) same ∙ sym (account-effect c t n i a)

map-same : {X Y : Type 0} (f g : X → Y) (xs : List X) → AllByRecursion (λ x. f x ≡ g x) xs → map f xs ≡ map g xs
map-same f g [] same = refl
map-same f g (x ∷ xs) same = ap (λ y. y ∷ map f xs) same.0 ∙ ap (λ ys. g x ∷ ys) (map-same f g xs same.1)

closing-local : (c : Setting) (s t : State) (i : Instruction)
    → AllByRecursion (λ a. account s a ≡ account t a) (footprint c.directory i.act) → closing c s i ≡ closing c t i
closing-local c s t i same =
    map-same (held_now s) (held_now t) (footprint c.directory i.act)
    (all-weaker (λ a. account s a ≡ account t a) (λ a. held_now s a ≡ held_now t a) (λ a e. ap (now-of a) e)
    (footprint c.directory i.act) same)

-- a figure is that of the act's first account
figure-local : (s t : State) (act : Act) → account s (first act) ≡ account t (first act)
    → figure_now s act ≡ figure_now t act
figure-local s t (Assess account year) same =
    ap (λ o. option_map_or (λ (v : AccountValue). figure_in v.figures year) o None) same
figure-local s t act same = refl

-- the first account of an act is in its footprint, if the directory has all that must be known
at-first : (c : Setting) (i : Instruction) (P : ℕ → Type 0) → all_known c.directory i.act ≡ true
    → AllByRecursion P (footprint c.directory i.act) → P (first i.act)
at-first c i P known all =
    (at-all P (parties i.act) (subst (λ b. AllByRecursion P (cond b (each_once (parties i.act)) [])) known all)).0

reply-by-local : (c : Setting) (s t : State) (n : ℕ) (i : Instruction) (r : Option Refusal) → refusal c s i ≡ r
    → AllByRecursion (λ a. account s a ≡ account t a) (footprint c.directory i.act)
    → (step_by c s n i r).1 ≡ (step_by c t n i r).1
reply-by-local c s t n i None none same =
    let known = not-false (all_known c.directory i.act) (passed c s i UnknownAccount none refl) in
    ap (λ (now : List HeldNow). Done now (figure_now (effect c s n i) i.act))
    (closing-local c (effect c s n i) (effect c t n i) i
    (all-weaker (λ a. account s a ≡ account t a) (λ a. account (effect c s n i) a ≡ account (effect c t n i) a)
    (effect-local c s t n i) (footprint c.directory i.act) same))
    ∙ ap (λ f. Done (closing c (effect c t n i) i) f)
    (figure-local (effect c s n i) (effect c t n i) i.act
    (effect-local c s t n i (first i.act) (at-first c i (λ a. account s a ≡ account t a) known same)))
reply-by-local c s t n i (Some q) refused same = refl

after-by-local : (c : Setting) (s t : State) (n : ℕ) (i : Instruction) (r : Option Refusal) (a : ℕ)
    → account s a ≡ account t a → account (step_by c s n i r).0 a ≡ account (step_by c t n i r).0 a
after-by-local c s t n i None a same = effect-local c s t n i a same
after-by-local c s t n i (Some q) a same = same

pub reply-local : (c : Setting) (s t : State) (n : ℕ) (i : Instruction)
    → AllByRecursion (λ a. account s a ≡ account t a) (footprint c.directory i.act)
    → (step c s n i).1 ≡ (step c t n i).1
reply-local c s t n i same =
    reply-by-local c s t n i (refusal c s i) refl same ∙ ap (λ r. (step_by c t n i r).1) (refusal-local c s t i same)

pub after-local : (c : Setting) (s t : State) (n : ℕ) (i : Instruction)
    → AllByRecursion (λ a. account s a ≡ account t a) (footprint c.directory i.act)
    → (a : ℕ) → account s a ≡ account t a → account (step c s n i).0 a ≡ account (step c t n i).0 a
after-local c s t n i same a here =
    after-by-local c s t n i (refusal c s i) a here
    ∙ ap (λ r. account (step_by c t n i r).0 a) (refusal-local c s t i same)

-- the step is local
pub step-local : StepIsLocal
step-local c s t n i agree =
    let same = recursion_from_All (λ a. account s a ≡ account t a) (footprint c.directory i.act) agree in
    (reply-local c s t n i same, after-local c s t n i same)

-- an act leaves an account that has no part in it
pub not-named : (c : Setting) (n : ℕ) (act : Act) (v : AccountValue)
    → AllByRecursion (λ a. eqb a v.number ≡ false) (parties act) → changed_by c n act v ≡ v
not-named c n act v others =
    ap (λ b. with_changes v (cond b (first_after c n act v) (given (movement_of act).kind (shares act) v)))
    (ne_eqb v.number (first act) (λ same. eqb-false (first act) v.number others.0 (sym same)))
    ∙ ap (λ o. with_changes v (option_map_or (λ share. credited v (movement_of act).kind share.amount) o v))
    (no-share (shares act) others.1) where
      no-share : (shared : List Share) → AllByRecursion (λ a. eqb a v.number ≡ false) (map (λ share. share.to) shared)
          → find (λ share. eqb share.to v.number) shared ≡ None
      no-share [] all = refl
      no-share (x ∷ xs) all = ap (λ b. cond b (Some x) (find (λ share. eqb share.to v.number) xs)) all.0
          ∙ no-share xs all.1

-- an account that is not touched stays
pub other-stays : OthersStay
other-stays c s n i a absent = go (refusal c s i) refl where
  apart : AllByRecursion (λ m. eqb m a ≡ false) (footprint c.directory i.act)
  apart = recursion_from_All (λ m. eqb m a ≡ false) (footprint c.directory i.act)
      (λ k d lt. ne_eqb (get_or (footprint c.directory i.act) k d) a
      (λ same. absent (k, lt, get_or_default (footprint c.directory i.act) k a d lt ∙ same)))

  stays : AllByRecursion (λ m. eqb m a ≡ false) (parties i.act) → (o : Option AccountValue)
      → ((v : AccountValue) → o ≡ Some v → v.number ≡ a) → option_map (changed_by c n i.act) o ≡ o
  stays others None named = refl
  stays others (Some v) named =
      ap Some (not-named c n i.act v
      (subst (λ b. AllByRecursion (λ m. eqb m b ≡ false) (parties i.act)) (sym (named v refl)) others))

  go : (r : Option Refusal) → refusal c s i ≡ r → account (step_by c s n i r).0 a ≡ account s a
  go None none =
      let known : all_known c.directory i.act ≡ true =
      not-false (all_known c.directory i.act) (passed c s i UnknownAccount none refl) in
      account-effect c s n i a
      ∙ stays (at-all (λ m. eqb m a ≡ false) (parties i.act)
      (subst (λ b. AllByRecursion (λ m. eqb m a ≡ false) (cond b (each_once (parties i.act)) [])) known apart))
      (account s a) (account-number s a)
  go (Some q) refused = refl

pub numbers-stay : NumbersStayInStep
numbers-stay c s n i = go (refusal c s i) where
  go : (r : Option Refusal) → numbers (step_by c s n i r).0 ≡ numbers s
  go None = numbers-effect c s n i
  go (Some q) = refl

pub refused-stays : RefusedChangesNothing
refused-stays c s n i q refused = ap (step_by c s n i) refused
