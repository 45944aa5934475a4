-- Lists that are regions, and what comes of them, put together.
use Rattle.std.proofs.Common.{◌≡◌, ℕ, zero, suc, ◌+◌, ◌-◌, ◌<◌, List, [], ◌∷◌, ◌++◌, length, map, drop}
use Rattle.std.proofs.Common.{get_or, Some, Vec, Global, refl, sym, ap, subst, ◌∙◌, arith}
use Rattle.std.specs.Prelude.{slice_get}
use Rattle.std.specs.List.{flat_map}
use Rattle.std.specs.Option.{option_map_or}
use Rattle.std.proofs.Math.Seq.{take-append_seam, drop-append_seam}
use Rattle.std.proofs.lemmas.List.{map-append}
use Rattle.std.proofs.lemmas.List.Folds.{flat_map-map}
use Rattle.std.proofs.lemmas.List.Elements.{All-head, All-tail}
use Rattle.reg_base.specs.Batch.{BatchValue}
use Rattle.reg_base.specs.Rising.{count_up}
use Rattle.reg_base.specs.Rules.{AreRules}
use Rattle.reg_account.specs.Account.{AccountValue}
use Rattle.reg_facts.specs.Counting.{times, once}
use Rattle.reg_rules.specs.declared.reply.Reply.{Reply}
use Rattle.reg_rules.specs.State.{State, Setting, numbers}
use Rattle.reg_rules.specs.Laws.{StepLaws, IsReady}
use Rattle.reg_rules.proofs.lemmas.Accounts.{length-numbers}
use Rattle.reg_book.specs.Indexes.{index_lists}
use Rattle.reg_advice.specs.declared.dealing.Deal.{Deal}
use Rattle.reg_regions.specs.declared.instruction.Placed.{Placed}
use Rattle.reg_regions.specs.declared.running.settled_list.SettledList.{SettledList}
use Rattle.reg_run.specs.declared.ran.Ran.{Ran}
use Rattle.reg_run.specs.Running.{answers_of, numbers_ran}
use Rattle.reg_regions.specs.Days.{Run, all_opening, AreRuns}
use Rattle.reg_regions.specs.Dealing.{AreDealt, AreDealtOnce, AreInPlaces, AreSettledOnce}
use Rattle.reg_regions.specs.Homes.{AreHome, AreAllHome, dealt_places}
use Rattle.reg_regions.specs.Settling.{IsRun, places_in}
use Rattle.reg_regions.specs.Lists.{joined_lists, sizes_of}
use Rattle.reg_regions.specs.Stealing.{region_openings, region_opening, places_at, IsGround}
use Rattle.reg_regions.specs.Stealing.{IsSettledList, AreSettled, settled_places}
use Rattle.reg_regions.proofs.Keeping.{numbers-all}
use Rattle.reg_regions.proofs.Pieces.{ready-cut}

-- the first of what is left of a list
pub next-opening : (os : List State) (k : ℕ) (a : State) (left : List State) → a ∷ left ≡ drop k os
    → (k < length os) × (a ≡ get_or os k []) × (left ≡ drop (suc k) os)
next-opening [] zero a left e = absurd cc
next-opening [] (suc k) a left e = absurd cc
next-opening (o ∷ os) zero a left e = (omega arith, cc, cc)
next-opening (o ∷ os) (suc k) a left e =
    let (lt, here, rest) = next-opening os k a left e in (omega (arith, lt), here, rest)

pub next-deal : (ds : List Deal) (k : ℕ) (d : Deal) (left : List Deal) → d ∷ left ≡ drop k ds
    → (slice_get ds k ≡ Some d) × (left ≡ drop (suc k) ds)
next-deal [] zero d left e = absurd cc
next-deal [] (suc k) d left e = absurd cc
next-deal (x ∷ ds) zero d left e = (cc, cc)
next-deal (x ∷ ds) (suc k) d left e = next-deal ds k d left e

-- what came of a region
abbrev pub run_of : Ran SettledList → Run
run_of s = record { afterwards = s.answer.accounts.items; replies = s.answer.replies.items }

places-flat : (ss : List (Ran SettledList))
    → places_in (flat_map (λ s. s.answer.replies.items) ss) ≡ settled_places (answers_of ss)
places-flat [] = refl
places-flat (s ∷ ss) =
    map-append (λ (p : Placed). p.place) s.answer.replies.items (flat_map (λ t. t.answer.replies.items) ss)
    ∙ ap (λ ps. places_in s.answer.replies.items ++ ps) (places-flat ss)

sizes-openings : (lists : List (Vec AccountValue Global)) → map length (region_openings lists) ≡ sizes_of lists
sizes-openings [] = refl
sizes-openings (l ∷ lists) = ap (λ ns. length l.items ∷ ns) (sizes-openings lists)

module _ (c : Setting) (b : BatchValue) (openings : List State) (deals : List Deal) where
  -- settled regions with the numbers from one on are what came of the regions that are left
  runs-from : (ss : List (Ran SettledList)) (k : ℕ) (os : List State) (ds : List Deal)
      → numbers_ran ss ≡ count_up (suc k) (length os) → os ≡ drop k openings → ds ≡ drop k deals
      → length os ≡ length ds → AreSettled c b openings deals ss
      → AreRuns c b os (map run_of ss) × (settled_places (answers_of ss) ≡ dealt_places ds)
  runs-from [] k [] [] same at at_deals many all = (tt, refl)
  runs-from [] k [] (d ∷ ds) same at at_deals many all = absurd (omega (arith, many))
  runs-from [] k (o ∷ os) ds same at at_deals many all = absurd cc
  runs-from (s ∷ ss) k [] ds same at at_deals many all = absurd cc
  runs-from (s ∷ ss) k (o ∷ os) [] same at at_deals many all = absurd (omega (arith, many))
  runs-from (s ∷ ss) k (o ∷ os) (d ∷ ds) same at at_deals many all =
      let number : s.number ≡ suc k = cc in
      let later : numbers_ran ss ≡ count_up (suc k + 1) (length os) = cc in
      let next : suc k + 1 ≡ suc (suc k) = omega arith in
      let before : s.number - 1 ≡ k = omega (arith, number) in
      let here : IsSettledList c b openings deals s.number s.answer =
      All-head (λ r. IsSettledList c b openings deals r.number r.answer) s ss all in
      let front = next-opening openings k o os at in
      let front_deal = next-deal deals k d ds at_deals in
      let mine : region_opening openings s.number ≡ o = ap (λ j. get_or openings j []) before ∙ sym front.1 in
      let own : places_at deals s.number ≡ d.places.items =
      ap (λ j. option_map_or (λ (e : Deal). e.places.items) (slice_get deals j) []) before
      ∙ ap (λ r. option_map_or (λ (e : Deal). e.places.items) r []) front_deal.0 in
      let rest = runs-from ss (suc k) os ds (later ∙ ap (λ j. count_up j (length os)) next) front.2 front_deal.1
      (omega (arith, many)) (All-tail (λ r. IsSettledList c b openings deals r.number r.answer) s ss all) in (
        (subst (λ x. IsRun c b x s.answer.accounts.items s.answer.replies.items) mine here.run, rest.0),
        ap (λ ps. ps ++ settled_places (answers_of ss)) (here.places ∙ own) ∙ ap (λ ps. d.places.items ++ ps) rest.1,
      )

  sizes-after : StepLaws → (os : List State) (ss : List (Ran SettledList)) → AreRuns c b os (map run_of ss)
      → sizes_of (map (λ s. s.answer.accounts) ss) ≡ map length os
  sizes-after laws [] [] runs = refl
  sizes-after laws [] (s ∷ ss) runs = absurd runs
  sizes-after laws (o ∷ os) [] runs = absurd runs
  sizes-after laws (o ∷ os) (s ∷ ss) runs =
      let kept = ap numbers runs.0.accounts ∙ numbers-all laws c b o (places_in s.answer.replies.items) in
      let size : length s.answer.accounts.items ≡ length o =
      sym (length-numbers s.answer.accounts.items) ∙ ap length kept ∙ length-numbers o in
      ap (λ n. n ∷ sizes_of (map (λ t. t.answer.accounts) ss)) size
      ∙ ap (λ ns. length o ∷ ns) (sizes-after laws os ss runs.1)

  module _ (ss : List (Ran SettledList)) (same : numbers_ran ss ≡ count_up 1 (length openings))
      (many : length openings ≡ length deals) (all : AreSettled c b openings deals ss)
      (lists new : List (Vec AccountValue Global)) (opened : openings ≡ region_openings lists)
      (closed : new ≡ map (λ s. s.answer.accounts) ss) where
    runs-whole : AreRuns c b openings (map run_of ss) × (settled_places (answers_of ss) ≡ dealt_places deals)
    runs-whole = runs-from ss 0 openings deals same refl refl many all

    -- the lists were dealt out, and this is what came of them
    dealt-lists : AreDealt c b (joined_lists lists) (joined_lists new) (flat_map (λ s. s.answer.replies.items) ss)
    dealt-lists = record {
      openings = openings;
      runs = map run_of ss;
      cut = ap all_opening opened ∙ flat_map-map (λ (s : State). s) (λ l. l.items) lists;
      joined = flat_map-map (λ (r : Run). r.afterwards) run_of ss
          ∙ sym (flat_map-map (λ l. l.items) (λ s. s.answer.accounts) ss) ∙ ap joined_lists (sym closed);
      told = flat_map-map (λ (r : Run). r.replies) run_of ss;
      are = runs-whole.0;
    }

    pub dealt-sizes : StepLaws → sizes_of new ≡ sizes_of lists
    dealt-sizes laws =
        ap sizes_of closed ∙ sizes-after laws openings ss runs-whole.0 ∙ ap (map length) opened
        ∙ sizes-openings lists

    module _ (each : AreDealtOnce b deals) where
      -- each place was settled once
      pub places-once : (p : ℕ) → times p (settled_places (answers_of ss)) ≡ once (length b.instructions) p
      places-once p = ap (times p) runs-whole.1 ∙ each p

      -- and the replies stand at their places
      pub settled-once : (replies : List Reply) (own : List (Vec Placed Global)) → own ≡ map (λ s. s.answer.replies) ss
          → AreInPlaces (length b.instructions) (joined_lists own) replies
          → AreSettledOnce c b (joined_lists lists) (joined_lists new) replies
      settled-once replies own is in_places = record {
        told = flat_map (λ s. s.answer.replies.items) ss;
        dealt = dealt-lists;
        each_once = λ p. ap (times p) (places-flat ss) ∙ places-once p;
        in_places = subst (λ told. AreInPlaces (length b.instructions) told replies)
            (ap joined_lists is
            ∙ flat_map-map (λ (v : Vec Placed Global). v.items) (λ (s : Ran SettledList). s.answer.replies) ss)
            in_places;
      }

module _ (c : Setting) (b : BatchValue) where
  ready-front : (n : ℕ) (s t : State) → IsReady n (s ++ t) → IsReady n s × IsReady n t
  ready-front n s t ready =
      let cut = ready-cut n (length s) (s ++ t) ready in
      (subst (IsReady n) (take-append_seam s t) cut.0, subst (IsReady n) (drop-append_seam s t) cut.1)

  each-ready : (n : ℕ) (lists : List (Vec AccountValue Global)) → IsReady n (joined_lists lists) → (k : ℕ)
      → k < length (region_openings lists) → IsReady n (get_or (region_openings lists) k [])
  each-ready n [] ready k lt = absurd (omega (arith, lt))
  each-ready n (l ∷ lists) ready zero lt = (ready-front n l.items (joined_lists lists) ready).0
  each-ready n (l ∷ lists) ready (suc k) lt =
      each-ready n lists (ready-front n l.items (joined_lists lists) ready).1 k (omega (arith, lt))

  as-many : (lists : List (Vec AccountValue Global)) (deals : List Deal) → AreAllHome c b lists deals
      → length (region_openings lists) ≡ length deals
  as-many [] [] home = refl
  as-many [] (d ∷ deals) home = absurd home
  as-many (l ∷ lists) [] home = absurd home
  as-many (l ∷ lists) (d ∷ deals) home = ap suc (as-many lists deals home.1)

  each-home : (lists : List (Vec AccountValue Global)) (deals : List Deal) → AreAllHome c b lists deals
      → (k : ℕ) (d : Deal) → slice_get deals k ≡ Some d
      → AreHome c b (numbers (get_or (region_openings lists) k [])) d.places.items (index_lists d.indexes.items)
  each-home lists [] home k d at = absurd cc
  each-home [] (e ∷ deals) home k d at = absurd home
  each-home (l ∷ lists) (e ∷ deals) home zero d at =
      let same : e ≡ d = cc in
      subst (λ (x : Deal). AreHome c b (numbers l.items) x.places.items (index_lists x.indexes.items)) same home.0
  each-home (l ∷ lists) (e ∷ deals) home (suc k) d at = each-home lists deals home.1 k d at

  -- lists that are ready, and have the accounts of what they have to do, are regions
  pub ground-of : (lists : List (Vec AccountValue Global)) (deals : List Deal) → AreRules c.rules
      → IsReady (b.base + 1) (joined_lists lists) → AreAllHome c b lists deals
      → IsGround c b (region_openings lists) deals
  ground-of lists deals rules ready home = record {
    rules = rules;
    as_many = as-many lists deals home;
    ready = each-ready (b.base + 1) lists ready;
    home = each-home lists deals home;
  }
