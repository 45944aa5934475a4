-- How many bytes the row of an instruction in the log takes, with the row that it may add to an account: at most eight
-- times those of its own row.
use Rattle.std.proofs.Common.{ℕ, ◌+◌, ◌*◌, ◌≤◌, Bool, true, false, cond, eqb, List, [], ◌∷◌, ◌++◌, map}
use Rattle.std.proofs.Common.{length, Some, None, arith}
use Rattle.std.specs.Prelude.{find, not}
use Rattle.std.specs.Option.{option_map, option_map_or}
use Rattle.std.specs.List.{AllByRecursion, flat_map}
use Rattle.reg_facts.proofs.lemmas.Lists.{all-filter}
use Rattle.reg_base.specs.declared.limits.TheConstants.{MOST_HELD, MOST_RECORD}
use Rattle.reg_base.specs.declared.kinds.AllowanceKind.{AllowanceKind}
use Rattle.reg_base.specs.declared.kinds.AllowanceKind.TheVariants.{General, Aviation}
use Rattle.reg_base.specs.declared.movement.Change.{Change}
use Rattle.reg_base.specs.declared.movement.Change.TheVariants.{Determine}
use Rattle.reg_base.specs.declared.refusals.Refusal.{Refusal}
use Rattle.reg_base.specs.declared.shares.Share.{Share}
use Rattle.reg_base.specs.declared.act.Act.{Act}
use Rattle.reg_base.specs.declared.act.Act.TheVariants as act
use Rattle.reg_base.specs.declared.instruction.Instruction.{Instruction}
use Rattle.reg_base.specs.Acts.{change_of, first, parties, shares}
use Rattle.reg_base.specs.Footprint.{EachFootprintIsSound, all_known, each_once, footprint}
use Rattle.reg_base.specs.Numbers.{IsAccountNo}
use Rattle.reg_account.specs.Account.{AccountValue, IsAccount, held_by}
use Rattle.reg_account.specs.declared.years.Figure.{Figure}
use Rattle.reg_account.specs.Years.{FigureFits, figure_in}
use Rattle.reg_rules.specs.State.{Setting, State, account, determined, held}
use Rattle.reg_rules.specs.Step.{closing, figure_made, figure_now, held_now, row_of}
use Rattle.reg_rules.specs.declared.reply.Reply.{Reply}
use Rattle.reg_rules.specs.declared.reply.Reply.TheVariants.{Done, Refused}
use Rattle.reg_text.specs.declared.reading.tag.Tag.TheVariants as tag
use Rattle.reg_text.specs.Acts.{IsShared, act_fields, share_parts}
use Rattle.reg_text.specs.Codecs.{a_no, any_number, pairs_spelled}
use Rattle.reg_text.specs.Grammar.{row_text as tagged}
use Rattle.reg_text.proofs.Names.{answer_fields, closing_fields, figure_field, holding_fields, instruction_fields}
use Rattle.reg_text.proofs.Names.{log_row}
use Rattle.reg_text.proofs.TextSizes.{row_size, row_size-append}
use Rattle.reg_text.proofs.FieldSizes.{code-most, date-size, kind-size, name-most, no-most, number-some, amount-most}
use Rattle.reg_text.proofs.FieldSizes.{figure-most}
use Rattle.reg_text.proofs.BookSizes.{each}
use Rattle.reg_text.proofs.StepSizes.{grown}

-- ---- lists of known lengths

each-few : {X Y : Type 0} (k : ℕ) (xs : List X) (ys : List Y) → length xs ≤ 1 + length ys
    → each k xs ≤ k + each k ys
each-few k [] ys h = omega arith
each-few k (x ∷ []) [] h = omega arith
each-few k (x ∷ y ∷ xs) [] h = absurd (omega arith)
each-few k (x ∷ xs) (y ∷ ys) h = omega (arith, each-few k xs ys (omega arith))

each-le : {X Y : Type 0} (k : ℕ) (xs : List X) (ys : List Y) → length xs ≤ length ys → each k xs ≤ each k ys
each-le k [] ys h = omega arith
each-le k (x ∷ xs) [] h = absurd (omega arith)
each-le k (x ∷ xs) (y ∷ ys) h = omega (arith, each-le k xs ys (omega arith))

-- ---- what an account holds, and its figure

held-most : (s : State) (a : ℕ) (kind : AllowanceKind) → AllByRecursion IsAccount s → held s a kind ≤ MOST_HELD
held-most [] a kind h = omega arith
held-most (v ∷ vs) a kind h = by (eqb v.number a) (held-most vs a kind h.1)
  where
    own : (k : AllowanceKind) → held_by v k ≤ MOST_HELD
    own General = h.0.holdings_fit.general
    own Aviation = h.0.holdings_fit.aviation

    by : (b : Bool) → held vs a kind ≤ MOST_HELD
        → option_map_or (λ (w : AccountValue). held_by w kind) (cond b (Some v) (account vs a)) 0 ≤ MOST_HELD
    by true more = own kind
    by false more = more

figure-short : (figures : List Figure) (year : ℕ) → AllByRecursion (λ (f : Figure). FigureFits f.tonnes) figures
    → length (figure_field (figure_in figures year)) ≤ 17
figure-short [] year h = omega arith
figure-short (f ∷ figures) year h = by (eqb f.year year) (figure-short figures year h.1)
  where
    by : (b : Bool) → length (figure_field (figure_in figures year)) ≤ 17
        → length (figure_field (option_map (λ (g : Figure). g.tonnes)
        (cond b (Some f) (find (λ (g : Figure). eqb g.year year) figures)))) ≤ 17
    by true more = figure-most f.tonnes h.0
    by false more = more

determined-short : (s : State) (a year : ℕ) → AllByRecursion IsAccount s
    → length (figure_field (determined s a year)) ≤ 17
determined-short [] a year h = omega arith
determined-short (v ∷ vs) a year h = by (eqb v.number a) (determined-short vs a year h.1)
  where
    by : (b : Bool) → length (figure_field (determined vs a year)) ≤ 17
        → length (figure_field (option_map_or (λ (w : AccountValue). figure_in w.figures year)
        (cond b (Some v) (account vs a)) None)) ≤ 17
    by true more = figure-short v.figures year h.0.figures_fit.each
    by false more = more

figure_made-short : (s : State) (a : ℕ) (made : Change) → AllByRecursion IsAccount s
    → length (figure_field (figure_made s a made)) ≤ 17
figure_made-short s a (Determine year) h = determined-short s a year h
figure_made-short s a made h = omega arith

-- ---- the accounts that an instruction touches

once-all : (P : ℕ → Type 0) (xs : List ℕ) → AllByRecursion P xs → AllByRecursion P (each_once xs)
once-all P [] h = tt
once-all P (x ∷ xs) h = (h.0, all-filter P (λ y. not (eqb y x)) (each_once xs) (once-all P xs h.1))

all-or-none : (P : ℕ → Type 0) (b : Bool) (xs : List ℕ) → AllByRecursion P xs → AllByRecursion P (cond b xs [])
all-or-none P true xs h = h
all-or-none P false xs h = tt

holding-most : (s : State) (a : ℕ) → AllByRecursion IsAccount s → IsAccountNo a
    → row_size (holding_fields (held_now s a)) ≤ 44
holding-most s a h k = omega (
  arith,
  no-most a k,
  amount-most (held s a General) (held-most s a General h),
  amount-most (held s a Aviation) (held-most s a Aviation h),
)

holdings-most : (s : State) (accounts : List ℕ) → AllByRecursion IsAccount s → AllByRecursion IsAccountNo accounts
    → row_size (flat_map holding_fields (map (held_now s) accounts)) ≤ each 44 accounts
holdings-most s [] h k = omega arith
holdings-most s (a ∷ accounts) h k = omega (
  arith,
  holding-most s a h k.0,
  holdings-most s accounts h k.1,
  row_size-append (holding_fields (held_now s a)) (flat_map holding_fields (map (held_now s) accounts)),
)

-- ---- the row of an instruction

-- what the shares of a distribution take in the log, against what they take in their own row
pairs-least : (xs : List Share)
    → each 44 xs ≤ 7 * row_size (pairs_spelled a_no any_number (map share_parts xs)) + each 16 xs
pairs-least [] = omega arith
pairs-least (x ∷ xs) = omega (arith, number-some x.to, number-some x.amount, pairs-least xs)

-- the same of the accounts that receive, with the row that is added
act-least : (a : Act) → IsShared a → each 44 (shares a) + grown (change_of a) ≤ 16 + 7 * row_size (act_fields.spell a)
act-least (act.Distribute from kind xs) h = omega (
  arith,
  pairs-least xs,
  (kind-size kind).low,
  each-le {Y = ℕ} 16 xs (0 ∷ 0 ∷ 0 ∷ 0 ∷ 0 ∷ 0 ∷ 0 ∷ 0 ∷ []) (omega (arith, h.high)),
)
act-least (act.Transfer from to kind amount) h = omega arith
act-least a h = omega arith

-- ---- the row of the log

refused-most : (q : Refusal) → row_size (answer_fields (Refused q)) ≤ 35
refused-most q = omega (arith, code-most q, name-most q)

-- a row of the log, by what it has of its reply
row-size : (c : Setting) (number : ℕ) (i : Instruction) (reply : Reply) → number ≤ MOST_RECORD
    → row_size (log_row (row_of c number i reply))
    ≤ 32 + row_size (instruction_fields i) + row_size (answer_fields reply) + row_size (closing_fields reply)
row-size c number i reply h = omega (
  arith,
  amount-most number h,
  date-size c.day,
  row_size-append (instruction_fields i) (answer_fields reply ++ closing_fields reply),
  row_size-append (answer_fields reply) (closing_fields reply),
)

instruction-size : (i : Instruction) → 13 + row_size (act_fields.spell i.act) ≤ row_size (instruction_fields i)
instruction-size i = omega (arith, date-size i.proposed)

-- a refused instruction adds nothing
pub refused-row : (c : Setting) (number : ℕ) (i : Instruction) (q : Refusal) → number ≤ MOST_RECORD
    → row_size (log_row (row_of c number i (Refused q))) ≤ 8 * row_size (tagged tag.Do i)
refused-row c number i q h =
    omega (arith, row-size c number i (Refused q) h, refused-most q, instruction-size i)

-- and one that is done adds at most a row of its first account
pub done-row : EachFootprintIsSound → (c : Setting) (number : ℕ) (s : State) (i : Instruction) → number ≤ MOST_RECORD
    → AllByRecursion IsAccount s → AllByRecursion IsAccountNo (parties i.act) → IsShared i.act
    → row_size (log_row (row_of c number i (Done (closing c s i) (figure_now s i.act)))) + grown (change_of i.act)
    ≤ 8 * row_size (tagged tag.Do i)
done-row sound c number s i h all known shared =
    let reply = Done (closing c s i) (figure_now s i.act) in
    let touched = footprint c.directory i.act in
    let once = once-all IsAccountNo (parties i.act) known in
    let own = all-or-none IsAccountNo (all_known c.directory i.act) (each_once (parties i.act)) once in
    omega (
      arith,
      row-size c number i reply h,
      figure_made-short s (first i.act) (change_of i.act) all,
      holdings-most s touched all own,
      each-few 44 touched (shares i.act) (sound c.directory i.act).few,
      act-least i.act shared,
      instruction-size i,
    )
