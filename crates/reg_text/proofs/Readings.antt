-- The laws of reading: the rows read as a day exactly where they are its spelling.
use Rattle.std.proofs.Common.{◌≡◌, ℕ, ◌+◌, ◌^◌, ◌<◌, ◌≤◌, length, Bool, true, false, cond, List, [], ◌∷◌, ◌++◌, Option}
use Rattle.std.proofs.Common.{Some, None, Result, Ok, Err, refl, sym, ap, subst, ◌∙◌, arith, append_assoc}
use Rattle.std.proofs.lemmas.Bool.{leb-true}
use Rattle.std.proofs.lemmas.List.{append-nil}
use mathlib.Core.List.{map-id}
use Rattle.std.specs.Prelude.{All, unwrap_or, if◌then◌else◌}
use Rattle.std.proofs.lemmas.List.Elements.{All-from_recursion}
use Rattle.std.specs.List.{AllByRecursion}
use Rattle.reg_facts.proofs.lemmas.Lists.{all-weaker}
use Rattle.reg_text.proofs.Names.{IsRising, IsWithin, IsSection, SectionStandsAt, Instruction, IsShared, Cause, Tag}
use Rattle.reg_text.proofs.Names.{Version, One, Two, TextRow, stage, is_in_version, Said, row, option_to_list}
use Rattle.reg_text.proofs.Names.{items_said, scope_of, version_in, current_said, current_rows, Fits, IsOfPeriods}
use Rattle.reg_text.proofs.Names.{IsYearNo, IsVersionOf, DraftValue, accounts_in, with_block_over, nothing_read}
use Rattle.reg_text.proofs.Names.{DayValue}
use Rattle.reg_text.proofs.Names.{day_with, is_text_over, day_said, day_text, IsUserNo, IsDayNo, IsInstruction}
use Rattle.reg_text.proofs.Names.{AccountValue, IsAccount, IsBehind, IsPair, CanBeSaid, IsReading, FitsSoFar, IsDraft}
use Rattle.reg_text.proofs.Names.{next_draft, at_row, at_end, after_rows}
use Rattle.reg_text.proofs.Names.{day_of_rows}
use Rattle.reg_book.specs.Book.{IsBook}
use Rattle.reg_text.specs.Day.{day_headed}
use Rattle.reg_text.specs.declared.reading.tag.Tag.TheVariants as tag
use Rattle.reg_text.proofs.RowLaws.{lags-fit, instruction-fits, instruction-shared}
use Rattle.reg_text.proofs.DraftSteps.{rows_so_far, at-tag, at-blocks, over-rows, over-fits, grows, nothing-fits}
use Rattle.reg_text.proofs.Taken.{text-taken}

-- ---- what a draft that is over says

pub over-last : (last : Option Tag) → is_text_over last ≡ true → last ≡ Some tag.End
over-last (Some tag.End) e = refl
over-last last e = absurd cc

-- a list of one
pub the-one : {X : Type 0} (xs : List X) → 1 ≤ length xs → length xs ≤ 1 → (x : X) × (xs ≡ x ∷ [])
the-one [] some few = absurd (omega arith)
the-one (x ∷ []) some few = (x, refl)
the-one (x ∷ y ∷ xs) some few = absurd (omega arith)

-- the row of the current period has come if the version has one
current-came : (version : Version) (current : List ℕ)
    → (is_in_version version tag.Current ≡ true → (n : ℕ) × (current ≡ n ∷ []))
    → (is_in_version version tag.Current ≡ false → current ≡ []) → (n : ℕ) × (current_said version current ≡ Some n)
    × (current ≡ current_rows version n)
current-came One current come none = (1, refl, none refl)
current-came Two current come none = let one = come refl in (one.0, rw one.1 refl, one.1)

-- the rows of the heading of a draft that is over, each of which has come once, and those of the periods
pub record IsHeaded (d : DraftValue) : Type 0 where
  pub version : Version
  pub day : ℕ × ℕ
  pub current : ℕ
  pub lags : Said tag.Lags
  pub one_version : d.heading.versions ≡ version ∷ []
  pub one_day : d.heading.days ≡ day ∷ []
  pub one_lags : d.heading.lags ≡ lags ∷ []
  pub some_periods : 1 ≤ length d.heading.periods
  pub one_period : version ≡ One → length d.heading.periods ≡ 1
  pub said : current_said version d.heading.current ≡ Some current
  pub current_is : d.heading.current ≡ current_rows version current

pub headed : (d : DraftValue) → FitsSoFar d → is_text_over d.last ≡ true → IsHeaded d
headed d h over =
    let at : stage d.last ≡ 100 = ap stage (over-last d.last over) in
    let of : (t : Tag) → SectionStandsAt (scope_of d).version (stage d.last) (Some t, items_said t d) =
    λ t. at-tag (SectionStandsAt (scope_of d).version (stage d.last)) d t h.stand in
    let f = the-one d.heading.versions ((of tag.Format).come (omega (arith, at)) refl) ((of tag.Format).once refl) in
    let a = the-one d.heading.days ((of tag.Day).come (omega (arith, at)) refl) ((of tag.Day).once refl) in
    let p = (of tag.Period).come (omega (arith, at)) refl in
    let l = the-one d.heading.lags ((of tag.Lags).come (omega (arith, at)) refl)
    (once-lags (scope_of d).version d (of tag.Lags)) in
    let same : (scope_of d).version ≡ f.0 = ap version_in f.1 in
    let c = current-came (scope_of d).version d.heading.current
    (λ known. the-one d.heading.current ((of tag.Current).come (omega (arith, at)) known)
    (once-current (scope_of d).version d known (of tag.Current))) (of tag.Current).known in
    record {
      version = f.0;
      day = a.0;
      current = c.0;
      lags = l.0;
      one_version = f.1;
      one_day = a.1;
      one_lags = l.1;
      some_periods = p;
      one_period = λ one. omega (arith, p, once-period (scope_of d).version d (same ∙ one) (of tag.Period));
      said = rw (sym same) c.1;
      current_is = rw (sym same) c.2;
    } where
      once-lags : (version : Version) (d : DraftValue) → SectionStandsAt version (stage d.last) (
        Some tag.Lags,
        d.heading.lags,
      )
          → length d.heading.lags ≤ 1
      once-lags One d s = s.once refl
      once-lags Two d s = s.once refl

      once-current : (version : Version) (d : DraftValue) → is_in_version version tag.Current ≡ true
          → SectionStandsAt version (stage d.last) (Some tag.Current, d.heading.current) → length d.heading.current ≤ 1
      once-current One d known s = absurd cc
      once-current Two d known s = s.once refl

      once-period : (version : Version) (d : DraftValue) → version ≡ One
          → SectionStandsAt version (stage d.last) (Some tag.Period, d.heading.periods) → length d.heading.periods ≤ 1
      once-period One d is s = s.once refl
      once-period Two d is s = absurd cc

-- what is said of each value of a section is said of each in a day
each-one : {X : Type 0} (P Q : X → Type 0) → ((x : X) → P x → Q x) → (xs : List X) → AllByRecursion P xs → All Q xs
each-one P Q follow xs h = All-from_recursion Q xs (all-weaker P Q follow xs h)

-- the current period is one of so many
pub current-within : (version : Version) (current : List ℕ) (n count : ℕ) → 1 ≤ count
    → AllByRecursion (λ (m : ℕ). IsWithin 1 count m × (m < 2 ^ 64)) current → current_said version current ≡ Some n
    → IsWithin 1 count n
current-within One current n count some h e = let same : 1 ≡ n = cc in
    rw (← same) (record { low = omega arith; high = some })
current-within Two [] n count some h e = absurd cc
current-within Two (m ∷ []) n count some h e = let same : m ≡ n = cc in rw (← same) h.0.0
current-within Two (m ∷ k ∷ ms) n count some h e = absurd cc

-- it says a day within the limits
pub says-a-day : (d : DraftValue) (h : FitsSoFar d) (k : IsHeaded d)
    → CanBeSaid (day_with k.day d.heading.periods k.current k.lags (accounts_in d) d)
says-a-day d h k =
    let scope = scope_of d in
    let of : (t : Tag) → IsSection scope (Some t, items_said t d) = λ t. at-tag (IsSection scope) d t h.within in
    let day = (rw k.one_day at (of tag.Day).fits).0 in
    let periods = of tag.Period in
    let lags = lags-fit k.lags ((rw k.one_lags at (of tag.Lags).fits).0) in
    let work = of tag.Work in
    let due = of tag.Do in
    let over = over-fits d h in
    let blocks = (at-blocks (IsSection scope) (with_block_over d) over.within).fits in
    let numbered = rw k.one_day at h.numbered in
    let from = day.1.low in
    let recorded = rw k.one_day at over.recorded in
    record {
      day = record {
        book = record {
          rising = h.rising;
          few = omega (arith, over.few);
          within_limits = each-one (Fits scope None) IsAccount (λ a f. f.0) (accounts_in d) blocks;
          next = record { from_one = day.1.low; to_the_end = day.1.high };
          behind =
              All-from_recursion (IsBehind k.day.1) (accounts_in d) recorded.whole;
        };
        rules = record {
          working_days = record {
            rising = subst IsRising (map-id d.heading.work) work.listed.ordered;
            each_day = All-from_recursion IsDayNo d.heading.work work.fits;
          };
          each_admin = All-from_recursion IsUserNo d.heading.admins (of tag.Admin).fits;
          each_year = each-one (row scope tag.Period).Fits (λ (p : ℕ × ℕ). IsYearNo p.0 × IsYearNo p.1)
              (λ p f. f.0) d.heading.periods periods.fits;
          fit = record {
            few_admins = (of tag.Admin).listed.few;
            admins_rise = subst IsRising (map-id d.heading.admins) (of tag.Admin).listed.ordered;
            lags_fit = record {
              trusted = lags.trusted;
              other = lags.other;
              listed = lags.listed;
              reversal = lags.reversal;
            };
            periods_fit = record {
              some = k.some_periods;
              few = periods.listed.few;
              each = all-weaker (row scope tag.Period).Fits (λ (p : ℕ × ℕ). p.0 ≤ p.1)
                  (λ p f. leb-true p.0 p.1 f.1) d.heading.periods periods.fits;
              rise = periods.listed.ordered;
            };
            current_fits = current-within k.version d.heading.current k.current (length d.heading.periods)
                k.some_periods
                (of tag.Current).fits k.said;
          };
        };
        batch = record {
          settlement_day = day.0;
          each = each-one (row scope tag.Do).Fits IsInstruction instruction-fits d.instructions due.fits;
          few = due.listed.few;
          numbered = omega (arith, numbered, from);
        };
        follows = omega arith;
      };
      periods = each-one (Fits scope None) (IsOfPeriods (length d.heading.periods)) (λ a f. f.1) (accounts_in d) blocks;
      shares = each-one (row scope tag.Do).Fits (λ (i : Instruction). IsShared i.act) instruction-shared d.instructions
          due.fits;
      pairs = each-one (row scope tag.Surrender).Fits IsPair (λ p f. f.1) d.heading.surrender (of tag.Surrender).fits;
      pairs_rise = (of tag.Surrender).listed.ordered;
    }

-- a draft that is over says a day, and stands for the day's rows
pub record Closes (d : DraftValue) : Type 0 where
  pub day : DayValue
  pub said : day_said d ≡ Some day
  pub reading : IsReading (rows_so_far d) day

-- what a draft says whose heading is this, and what it stands for
pub said-in : (d : DraftValue) (accounts : List AccountValue) (last : Option Tag) (versions : List Version)
    (days : List (ℕ × ℕ)) (current : List ℕ) (lags : List (Said tag.Lags)) (version : Version) (day : ℕ × ℕ) (n : ℕ)
    (one : Said tag.Lags) → last ≡ Some tag.End → versions ≡ version ∷ [] → days ≡ day ∷ [] → lags ≡ one ∷ []
    → current_said version current ≡ Some n
    → (if is_text_over last then day_headed versions days (current_said (version_in versions) current) lags accounts d
    else None) ≡ Some (day_with day d.heading.periods n one accounts d)
said-in d accounts last versions days current lags version day n one over v a l said = rw (over, v, a, l, said) refl

said-by : (d : DraftValue) (k : IsHeaded d) → d.last ≡ Some tag.End
    → day_said d ≡ Some (day_with k.day d.heading.periods k.current k.lags (accounts_in d) d)
said-by d k over = said-in d (accounts_in d) d.last d.heading.versions d.heading.days d.heading.current
    d.heading.lags k.version k.day k.current k.lags
    over k.one_version k.one_day k.one_lags k.said

stands-by : (d : DraftValue) (k : IsHeaded d) → d.last ≡ Some tag.End
    → rows_so_far (with_block_over d) ≡ day_text k.version (day_with k.day d.heading.periods k.current k.lags
    (accounts_in d) d)
stands-by d k over = rw (over, k.one_version, k.one_day, k.current_is, k.one_lags) refl

-- the draft with all blocks over says the same
pub over-says : (d : DraftValue) → FitsSoFar d → is_text_over d.last ≡ true → day_said (with_block_over d) ≡ day_said d
over-says d h over =
    let k = headed d h over in
    let last = over-last d.last over in
    let all = ap (λ (l : List AccountValue). Some (day_with k.day d.heading.periods k.current k.lags l d))
    (append-nil (accounts_in d)) in
    said-in (with_block_over d) (accounts_in (with_block_over d)) d.last d.heading.versions d.heading.days
    d.heading.current d.heading.lags k.version
    k.day k.current k.lags last k.one_version k.one_day k.one_lags k.said ∙ all ∙ sym (said-by d k last)

version-of : (version : Version) (v : DayValue) → (version ≡ One → length v.rules.periods ≡ 1) → IsVersionOf v version
version-of One v one = one refl
version-of Two v one = tt

pub closes : (d : DraftValue) → FitsSoFar d → is_text_over d.last ≡ true → Closes d
closes d h over =
    let k = headed d h over in
    let last = over-last d.last over in
    let v = day_with k.day d.heading.periods k.current k.lags (accounts_in d) d in
    record {
      day = v;
      said = said-by d k last;
      reading = record {
        version = k.version;
        is_known = version-of k.version v k.one_period;
        spelled = sym (over-rows d h) ∙ stands-by d k last;
        fits = says-a-day d h k;
      };
    }

-- ---- the parts of a draft that is over

pub book-of : (xs ys : List AccountValue) (d e : ℕ × ℕ) → xs ≡ ys → d ≡ e
    → IsBook (record { accounts = xs; next = d.1 }) → IsBook (record { accounts = ys; next = e.1 })
book-of xs ys d e same day book =
    subst (λ (l : List AccountValue). IsBook (record { accounts = l; next = e.1 })) same
    (subst (λ (p : ℕ × ℕ). IsBook (record { accounts = xs; next = p.1 })) day book)

pub some-of : {X : Type 0} (o : Option X) (x : X) → option_to_list o ≡ x ∷ [] → o ≡ Some x
some-of None x e = absurd cc
some-of (Some y) x e = cc

-- the current period is that of its row, or the first where the version has no such row
pub current-or : (version : Version) (o : Option ℕ) (n : ℕ) → option_to_list o ≡ current_rows version n
    → current_said version (option_to_list o) ≡ Some (unwrap_or o 1)
current-or One None n e = refl
current-or One (Some m) n e = absurd cc
current-or Two None n e = absurd cc
current-or Two (Some m) n e = refl

-- ---- from rows to the day

taken_row : (number : ℕ) (read : Result DraftValue Cause) (more : DraftValue → Result DayValue (ℕ × Cause))
    (v : DayValue)
    → at_row number read more ≡ Ok v → (d : DraftValue) × (read ≡ Ok d) × (more d ≡ Ok v)
taken_row number (Ok d) more v h = (d, refl, h)
taken_row number (Err c) more v h = absurd cc

said_at_end : (number : ℕ) (o : Option DayValue) (v : DayValue) → at_end number o ≡ Ok v → o ≡ Some v
said_at_end number (Some w) v e = cc
said_at_end number None v e = absurd cc

said_over : (last : Bool) (o : Option DayValue) (v : DayValue) → cond last o None ≡ Some v → last ≡ true
said_over true o v e = refl
said_over false o v e = absurd cc

pub said-of : (rows : List TextRow) (number : ℕ) (d : DraftValue) (v : DayValue) → IsDraft d
    → after_rows number d rows ≡ Ok v
    → IsReading (rows_so_far d ++ rows) v
said-of [] number d v h e =
    let said = said_at_end number (day_said d) v e in
    let c = closes d h.fits (said_over (is_text_over d.last) _ v said) in
    subst (λ (rows : List TextRow). IsReading rows v) (sym (append-nil (rows_so_far d)))
    (subst (IsReading (rows_so_far d)) (cc (c.said, said)) c.reading)
said-of (r ∷ rows) number d v h e =
    let t = taken_row number (next_draft d r) (λ x. after_rows (number + 1) x rows) v e in
    let g = grows d t.0 r h t.1 in
    subst (λ (all : List TextRow). IsReading all v) (ap (λ (x : List TextRow). x ++ rows) g.rows
    ∙ append_assoc (rows_so_far d) (r ∷ []) rows) (said-of rows (number + 1) t.0 v g.draft t.2)

-- what the rows say is what they spell
pub reading-from : (rows : List TextRow) (v : DayValue) → day_of_rows rows ≡ Ok v → IsReading rows v
reading-from rows v e = said-of rows 1 nothing_read v nothing-fits e

-- and what they spell is what they say
pub reading-to : (rows : List TextRow) (v : DayValue) → IsReading rows v → day_of_rows rows ≡ Ok v
reading-to rows v h = ap day_of_rows h.spelled ∙ text-taken h.version v h.is_known h.fits 1
