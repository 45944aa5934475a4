-- The instructions of a region one after another, on its own accounts.
use Rattle.std.proofs.Common.{◌≡◌, ℕ, zero, suc, ◌+◌, ◌-◌, ◌<◌, ◌≤◌, Bool, true, false, eqb, ◌||◌, List, [], ◌∷◌}
use Rattle.std.proofs.Common.{◌++◌, length, get_or, Some, refl, sym, ap, subst, ◌∙◌, arith}
use Rattle.std.specs.Prelude.{All, Contains, slice_get}
use Rattle.std.specs.List.{AllByRecursion}
use Rattle.std.specs.Option.{option_map, option_map_or}
use Rattle.std.proofs.lemmas.Bool.{eqb-true}
use Rattle.std.proofs.lemmas.List.{map-append}
use Rattle.std.proofs.lemmas.Grind.{get_or_default_zero}
use Rattle.std.proofs.lemmas.List.Elements.{All-push, All-weaker, All-head, All-tail}
use Rattle.reg_base.specs.declared.instruction.Instruction.{Instruction}
use Rattle.reg_base.specs.Batch.{BatchValue}
use Rattle.reg_base.specs.Footprint.{footprint, is_among}
use Rattle.reg_base.specs.Touches.{touches}
use Rattle.reg_base.specs.Instructions.{IsInstruction}
use Rattle.reg_base.specs.Numbers.{IsDayNo, IsRecordNo}
use Rattle.reg_base.specs.Rules.{AreRules}
use Rattle.reg_account.specs.Rows.{row_numbers}
use Rattle.reg_account.proofs.lemmas.Rows.{below_higher}
use Rattle.reg_rules.specs.declared.reply.Reply.{Reply}
use Rattle.reg_rules.specs.State.{State, Setting, numbers}
use Rattle.reg_rules.specs.Effect.{IsBehind}
use Rattle.reg_rules.specs.Step.{step}
use Rattle.reg_rules.specs.Laws.{StepLaws, IsReady, after_step, reply_to}
use Rattle.reg_book.specs.Indexes.{each_at, StandAt}
use Rattle.reg_regions.specs.declared.instruction.Placed.{Placed}
use Rattle.reg_regions.specs.Regions.{accounts_after, reply_for, accounts_after_all, replies_for, RiseAbove}
use Rattle.reg_regions.specs.Settling.{places_in, IsInside, IsCarriedOut, IsRun}

-- what was recorded under lower numbers than one is so for each later one
pub ready-later : (m n : ℕ) (s : State) → m ≤ n → IsReady m s → IsReady n s
ready-later m n s le ready =
    record {
      once = ready.once;
      fit = ready.fit;
      behind = All-weaker (IsBehind m) (IsBehind n)
          (λ v below. below_higher m n (row_numbers v.rows) le below) s ready.behind;
    }

-- one place more
places-more : (c : Setting) (b : BatchValue) (s : State) (ps : List ℕ) (p : ℕ)
    → accounts_after_all c b s (ps ++ p ∷ []) ≡ accounts_after c b (accounts_after_all c b s ps) p
places-more c b s [] p = refl
places-more c b s (q ∷ ps) p = places-more c b (accounts_after c b s q) ps p

replies-more : (c : Setting) (b : BatchValue) (s : State) (ps : List ℕ) (p : ℕ)
    → replies_for c b s (ps ++ p ∷ []) ≡ replies_for c b s ps ++ reply_for c b (accounts_after_all c b s ps) p ∷ []
replies-more c b s [] p = refl
replies-more c b s (q ∷ ps) p = ap (λ rs. reply_for c b s q ∷ rs) (replies-more c b (accounts_after c b s q) ps p)

pub rise-more : (low last : ℕ) (ps : List ℕ) (p : ℕ) → low ≤ last → last < p → RiseAbove low ps
    → All (λ q. q ≤ last) ps → RiseAbove low (ps ++ p ∷ [])
rise-more low last [] p le lt rising all = (omega (arith, le, lt), tt)
rise-more low last (q ∷ ps) p le lt rising all = (
  rising.0,
  rise-more q last ps p (All-head (λ x. x ≤ last) q ps all) lt rising.1
      (All-tail (λ x. x ≤ last) q ps all),
)

-- what stands at indexes of a list stands in the list
in-each : (ns indexes : List ℕ) (a : ℕ) → AllByRecursion (λ p. p < length ns) indexes
    → is_among (each_at ns indexes) a ≡ true → Contains ns a
in-each ns [] a within among = absurd cc
in-each ns (p ∷ indexes) a within among = by (eqb (get_or ns p 0) a) refl among (in-each ns indexes a within.1)
  where
    by : (b : Bool) → eqb (get_or ns p 0) a ≡ b → (b || is_among (each_at ns indexes) a) ≡ true
        → (is_among (each_at ns indexes) a ≡ true → Contains ns a) → Contains ns a
    by true is h more = (p, within.0, get_or_default_zero ns p a within.0 ∙ eqb-true (get_or ns p 0) a is)
    by false is h more = more h

-- an instruction that was carried out is a turn
carried-out : StepLaws → (c : Setting) (b : BatchValue) (k : ℕ) (i : Instruction) (old new : State) (reply : Reply)
    (indexes : List ℕ)
    → slice_get b.instructions k ≡ Some i → k < length b.instructions → AreRules c.rules → IsDayNo c.day
    → IsRecordNo (b.base + suc k) → IsInstruction i → IsReady (b.base + suc k) old
    → StandAt (numbers old) indexes (footprint c.directory i.act)
    → ◌≡◌ {A = State × Reply} (new, reply) (step c old (b.base + suc k) i)
    → IsCarriedOut c b (suc k) old new reply
carried-out laws c b k i old new reply indexes at lt rules day number fits ready there stepped =
    let new_is : new ≡ after_step c old (b.base + suc k) i = ap (λ (r : State × Reply). r.0) stepped in
    let reply_is : reply ≡ reply_to c old (b.base + suc k) i = ap (λ (r : State × Reply). r.1) stepped in
    record {
      within = omega (arith, lt);
      accounts = new_is ∙ sym (ap (λ r. option_map_or (λ x. after_step c old (b.base + suc k) x) r old) at);
      replied = ap (option_map (λ x. reply_to c old (b.base + suc k) x)) at ∙ ap Some (sym reply_is);
      inside = λ a touched.
          in-each (numbers old) indexes a there.within
          (ap (λ ns. is_among ns a) there.are_there
          ∙ sym (ap (λ r. option_map_or (λ x. touches c.directory x a) r false) at) ∙ touched);
      ready = subst (IsReady (b.base + suc k + 1)) (sym new_is)
          (laws.stays_ready c old (b.base + suc k) i rules day number fits ready);
    }

-- the same for a place that is known to be one
pub carried-out_at : StepLaws → (c : Setting) (b : BatchValue) (place number : ℕ) (i : Instruction) (old new : State)
    (reply : Reply) (indexes : List ℕ)
    → 1 ≤ place → slice_get b.instructions (place - 1) ≡ Some i → place - 1 < length b.instructions
    → number ≡ b.base + place → AreRules c.rules → IsDayNo c.day → IsRecordNo number → IsInstruction i
    → IsReady (b.base + place) old → StandAt (numbers old) indexes (footprint c.directory i.act)
    → ◌≡◌ {A = State × Reply} (new, reply) (step c old number i)
    → IsCarriedOut c b place old new reply
carried-out_at laws c b zero number i old new reply indexes one at lt counted rules day is_number fits ready there
    stepped =
    absurd (omega arith)
carried-out_at laws c b (suc k) number i old new reply indexes one at lt counted rules day is_number fits ready there
    stepped =
    let less : suc k - 1 ≡ k = omega arith in
    carried-out laws c b k i old new reply indexes (ap (slice_get b.instructions) (sym less) ∙ at)
    (omega (arith, lt, less)) rules day (subst IsRecordNo counted is_number) fits ready there
    (stepped ∙ ap (λ n. step c old n i) counted)

-- one turn more
pub run-more : StepLaws → (c : Setting) (b : BatchValue) (old mid new : State) (replies more : List Placed)
    (last place : ℕ) (reply : Reply)
    → numbers mid ≡ numbers old → last < place → All (λ p. p ≤ last) (places_in replies)
    → IsRun c b old mid replies → IsCarriedOut c b place mid new reply
    → more ≡ replies ++ record { place = place; reply = reply } ∷ []
    → IsRun c b old new more
run-more laws c b old mid new replies more last place reply same lt all run turn grown =
    subst (IsRun c b old new) (sym grown) (record {
      rising = subst (RiseAbove 0) (sym placed)
          (rise-more 0 last (places_in replies) place (omega arith) lt run.rising all);
      within = subst (All (λ p. p ≤ length b.instructions)) (sym placed)
          (All-push (λ p. p ≤ length b.instructions) (places_in replies) place run.within turn.within);
      inside = subst (All (IsInside c b (numbers old))) (sym placed)
          (All-push (IsInside c b (numbers old)) (places_in replies) place run.inside
          (subst (λ ns. IsInside c b ns place) same turn.inside));
      accounts = turn.accounts ∙ ap (λ s. accounts_after c b s place) run.accounts
          ∙ sym (places-more c b old (places_in replies) place) ∙ ap (accounts_after_all c b old) (sym placed);
      replied = ap (replies_for c b old) placed ∙ replies-more c b old (places_in replies) place
          ∙ ap (λ s. replies_for c b old (places_in replies) ++ reply_for c b s place ∷ []) (sym run.accounts)
          ∙ ap (λ r. replies_for c b old (places_in replies) ++ r ∷ []) turn.replied
          ∙ ap (λ rs. rs ++ Some reply ∷ []) run.replied
          ∙ sym (map-append (λ (p : Placed). Some p.reply) replies (one ∷ []));
    })
  where
    one : Placed
    one = record { place = place; reply = reply }

    placed : places_in (replies ++ one ∷ []) ≡ places_in replies ++ place ∷ []
    placed = map-append (λ (p : Placed). p.place) replies (one ∷ [])

-- what stands at an index
pub got-at : {X : Type 0} (xs : List X) (k : ℕ) (x : X) → k < length xs → x ≡ get_or xs k x → slice_get xs k ≡ Some x
got-at [] k x lt is = absurd (omega arith)
got-at (y ∷ xs) zero x lt is = ap (λ z. Some z) (sym is)
got-at (y ∷ xs) (suc k) x lt is = got-at xs k x (omega arith) is
