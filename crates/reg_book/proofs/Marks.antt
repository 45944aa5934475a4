-- Marking the accounts that are touched, and picking the marked ones.
use Rattle.std.proofs.Common.{◌≡◌, ℕ, zero, suc, ◌<◌, Bool, true, false, cond, eqb, ◌||◌, List, [], ◌∷◌, ◌++◌, length}
use Rattle.std.proofs.Common.{map, get_or, set, take, drop, replicate, refl, sym, ap, subst, ◌∙◌, arith}
use Rattle.std.specs.List.{AllByRecursion}
use Rattle.std.proofs.lemmas.Bool.{ne_eqb, eq-eqb, or_right}
use Rattle.std.proofs.lemmas.List.{append-nil, append_assoc}
use Rattle.std.proofs.lemmas.List.Folds.{list_any-append}
use Rattle.arrayvec.specs.ArrayVec.{ArrayVec}
use Rattle.reg_facts.proofs.lemmas.Lists.{written_whole}
use Rattle.reg_base.specs.declared.instruction.Instruction.{Instruction}
use Rattle.reg_base.specs.Directory.{DirectoryValue}
use Rattle.reg_base.specs.Footprint.{footprint, is_among}
use Rattle.reg_base.specs.Rising.{IsRising}
use Rattle.reg_base.proofs.lemmas.Among.{among_push}
use Rattle.reg_base.proofs.lemmas.RisesFrom.{RisesFrom, rises_from}
use Rattle.reg_account.specs.Account.{AccountValue}
use Rattle.reg_rules.specs.State.{State, numbers}
use Rattle.reg_base.specs.Touches.{is_touched}
use Rattle.reg_rules.proofs.lemmas.Accounts.{length-numbers}
use Rattle.reg_book.specs.Fold.{touched_of}
use Rattle.reg_base.specs.Footprints.{footprints}
use Rattle.reg_book.specs.Indexes.{AllStandAt, each_at, index_lists}
use Rattle.reg_book.specs.Marks.{marked_at, all_marked_at, picked}

-- the marks of the accounts, with each account whose number is in the list marked too
abbrev marks_after : List Bool → State → List ℕ → List Bool
marks_after [] s ns = []
marks_after (m ∷ ms) [] ns = m ∷ ms
marks_after (m ∷ ms) (v ∷ vs) ns = (m || is_among ns v.number) ∷ marks_after ms vs ns

-- for each account, whether some instruction touches it
abbrev pub touched_marks : DirectoryValue → List Instruction → State → List Bool
touched_marks directory is [] = []
touched_marks directory is (v ∷ vs) = is_touched directory is v.number ∷ touched_marks directory is vs

-- no account has this number
abbrev Lacks : State → ℕ → Type 0
Lacks s a = AllByRecursion (λ (v : AccountValue). eqb a v.number ≡ false) s

lacks_above : (low a : ℕ) (s : State) → RisesFrom low (numbers s) → a < low → Lacks s a
lacks_above low a [] rises lt = tt
lacks_above low a (v ∷ vs) rises lt = (
  ne_eqb a v.number (λ e. omega (arith, rises.0, e)),
  lacks_above (suc v.number) a vs rises.1 (omega (arith, rises.0)),
)

or_assoc : (a b c : Bool) → (a || (b || c)) ≡ ((a || b) || c)
or_assoc true b c = refl
or_assoc false b c = refl

or_no : (b c : Bool) → c ≡ false → (b || c) ≡ b
or_no true c e = refl
or_no false c e = e

head_mark : (m : Bool) (ns : List ℕ) (a n : ℕ) → (m || is_among (ns ++ a ∷ []) n) ≡ ((m || is_among ns n) || eqb a n)
head_mark m ns a n = ap (λ b. m || b) (among_push ns a n) ∙ or_assoc m (is_among ns n) (eqb a n)

marked_absent : (ms : List Bool) (s : State) (ns : List ℕ) (a : ℕ) → Lacks s a
    → marks_after ms s (ns ++ a ∷ []) ≡ marks_after ms s ns
marked_absent [] s ns a lacks = refl
marked_absent (m ∷ ms) [] ns a lacks = refl
marked_absent (m ∷ ms) (v ∷ vs) ns a lacks =
    ap (λ b. b ∷ marks_after ms vs (ns ++ a ∷ [])) (head_mark m ns a v.number
    ∙ or_no (m || is_among ns v.number) (eqb a v.number) lacks.0)
    ∙ ap (λ bs. (m || is_among ns v.number) ∷ bs) (marked_absent ms vs ns a lacks.1)

marked_present : (low : ℕ) (ms : List Bool) (s : State) (ns : List ℕ) (p a : ℕ) → RisesFrom low (numbers s)
    → length ms ≡ length s → p < length s → get_or (numbers s) p 0 ≡ a
    → marks_after ms s (ns ++ a ∷ []) ≡ set (marks_after ms s ns) p true
marked_present low ms [] ns p a rises size lt at = absurd (omega arith)
marked_present low [] (v ∷ vs) ns p a rises size lt at = absurd (omega arith)
marked_present low (m ∷ ms) (v ∷ vs) ns zero a rises size lt at =
    ap (λ b. b ∷ marks_after ms vs (ns ++ a ∷ [])) (head_mark m ns a v.number
    ∙ or_right (m || is_among ns v.number) (eqb a v.number) (eq-eqb a v.number (sym at)))
    ∙ ap (λ bs. true ∷ bs) (marked_absent ms vs ns a
    (subst (Lacks vs) at (lacks_above (suc v.number) v.number vs rises.1 (omega arith))))
marked_present low (m ∷ ms) (v ∷ vs) ns (suc p) a rises size lt at =
    let differs : eqb a v.number ≡ false =
    ne_eqb a v.number (λ e. below (suc v.number) vs p a rises.1 (omega arith) at (omega (arith, e))) in
    ap (λ b. b ∷ marks_after ms vs (ns ++ a ∷ [])) (head_mark m ns a v.number
    ∙ or_no (m || is_among ns v.number) (eqb a v.number) differs)
    ∙ ap (λ bs. (m || is_among ns v.number) ∷ bs)
    (marked_present (suc v.number) ms vs ns p a rises.1 (omega arith) (omega arith) at)
  where
    below : (low : ℕ) (s : State) (p a : ℕ) → RisesFrom low (numbers s) → p < length s → get_or (numbers s) p 0 ≡ a
        → a < low → ⊥
    below low [] p a rises lt at lower = omega arith
    below low (w ∷ ws) zero a rises lt at lower = omega (arith, rises.0, at)
    below low (w ∷ ws) (suc p) a rises lt at lower =
        below (suc w.number) ws p a rises.1 (omega arith) at (omega (arith, rises.0))

marked_none : (ms : List Bool) (s : State) → marks_after ms s [] ≡ ms
marked_none [] s = refl
marked_none (m ∷ ms) [] = refl
marked_none (m ∷ ms) (v ∷ vs) =
    ap (λ b. b ∷ marks_after ms vs []) (or_no m false refl) ∙ ap (λ bs. m ∷ bs) (marked_none ms vs)

no_marks : (directory : DirectoryValue) (s : State) → replicate (length s) false ≡ touched_marks directory [] s
no_marks directory [] = refl
no_marks directory (v ∷ vs) = ap (λ bs. false ∷ bs) (no_marks directory vs)

pub size-touched_marks : (directory : DirectoryValue) (is : List Instruction) (s : State)
    → length (touched_marks directory is s) ≡ length s
size-touched_marks directory is [] = refl
size-touched_marks directory is (v ∷ vs) = ap suc (size-touched_marks directory is vs)

-- the marks at the indexes of these numbers
marks-set : (ms : List Bool) (s : State) (done ps wanted : List ℕ) → RisesFrom 0 (numbers s) → length ms ≡ length s
    → AllByRecursion (λ p. p < length (numbers s)) ps → each_at (numbers s) ps ≡ wanted
    → marked_at (marks_after ms s done) ps ≡ marks_after ms s (done ++ wanted)
marks-set ms s done [] wanted rises size within there =
    ap (marks_after ms s) (sym (append-nil done) ∙ ap (λ ws. done ++ ws) there)
marks-set ms s done (p ∷ ps) wanted rises size within there =
    let a = get_or (numbers s) p 0 in
    ap (λ bs. marked_at bs ps)
    (sym (marked_present 0 ms s done p a rises size (omega (arith, within.0, length-numbers s)) refl))
    ∙ marks-set ms s (done ++ a ∷ []) ps (each_at (numbers s) ps) rises size within.1 refl
    ∙ ap (marks_after ms s) (append_assoc done (a ∷ []) (each_at (numbers s) ps) ∙ ap (λ ws. done ++ ws) there)

-- one instruction more
touched_marks-push : (directory : DirectoryValue) (done : List Instruction) (i : Instruction) (s : State)
    → marks_after (touched_marks directory done s) s (footprint directory i.act)
    ≡ touched_marks directory (done ++ i ∷ []) s
touched_marks-push directory done i [] = refl
touched_marks-push directory done i (v ∷ vs) =
    ap (λ b. b ∷ marks_after (touched_marks directory done vs) vs (footprint directory i.act))
    (sym (list_any-append (λ (x : Instruction). is_among (footprint directory x.act) v.number) done (i ∷ [])
    ∙ ap (λ b. is_touched directory done v.number || b)
    (or_no (is_among (footprint directory i.act) v.number) false refl)))
    ∙ ap (λ bs. is_touched directory (done ++ i ∷ []) v.number ∷ bs) (touched_marks-push directory done i vs)

all-marks-set : (directory : DirectoryValue) (done is : List Instruction) (s : State) (indexes : List (List ℕ))
    → RisesFrom 0 (numbers s)
    → AllByRecursion (AllByRecursion (λ p. p < length (numbers s))) indexes
    → map (each_at (numbers s)) indexes ≡ footprints directory is
    → all_marked_at (touched_marks directory done s) indexes ≡ touched_marks directory (done ++ is) s
all-marks-set directory done [] s [] rises within there =
    ap (λ is. touched_marks directory is s) (sym (append-nil done))
all-marks-set directory done (i ∷ is) s [] rises within there = absurd cc
all-marks-set directory done [] s (ps ∷ indexes) rises within there = absurd cc
all-marks-set directory done (i ∷ is) s (ps ∷ indexes) rises within there =
    let ms = touched_marks directory done s in
    ap (λ bs. all_marked_at bs indexes)
    (ap (λ bs. marked_at bs ps) (sym (marked_none ms s))
    ∙ marks-set ms s [] ps (footprint directory i.act) rises (size-touched_marks directory done s) within.0
    (ap (λ (ls : List (List ℕ)). get_or ls 0 []) there)
    ∙ touched_marks-push directory done i s)
    ∙ all-marks-set directory (done ++ i ∷ []) is s indexes rises within.1
    (ap (λ (ls : List (List ℕ)). drop 1 ls) there)
    ∙ ap (λ l. touched_marks directory l s) (append_assoc done (i ∷ []) is)

-- the marks at the indexes of all instructions, in a slice that was written as a whole
pub marks-touched : (directory : DirectoryValue) (is : List Instruction) (s : State) (vs seen : List (ArrayVec ℕ))
    (made now new : List Bool) (len : ℕ)
    → IsRising (numbers s) → AllStandAt directory (numbers s) (index_lists vs) is → made ≡ replicate (length s) false
    → now ≡ made → seen ≡ vs
    → new ≡ all_marked_at now (index_lists seen) → len ≡ length made → length new ≡ length now
    → take len (new ++ drop (length new) made) ≡ touched_marks directory is s
marks-touched directory is s vs seen made now new len rising stand clear read same marked size kept =
    written_whole made new len size (kept ∙ ap length read)
    ∙ marked ∙ ap (λ ms. all_marked_at ms (index_lists seen)) (read ∙ clear ∙ no_marks directory s)
    ∙ ap (λ (us : List (ArrayVec ℕ)). all_marked_at (touched_marks directory [] s) (index_lists us)) same
    ∙ all-marks-set directory [] is s (index_lists vs) (rises_from 0 (numbers s) rising (λ some. omega arith))
    stand.within stand.are_there

pub picked-touched : (directory : DirectoryValue) (is : List Instruction) (s : State)
    → picked (touched_marks directory is s) s ≡ touched_of directory is s
picked-touched directory is [] = refl
picked-touched directory is (v ∷ vs) = by (is_touched directory is v.number) (picked-touched directory is vs)
  where
    by : (b : Bool) → picked (touched_marks directory is vs) vs ≡ touched_of directory is vs
        → cond b (v ∷ picked (touched_marks directory is vs) vs) (picked (touched_marks directory is vs) vs)
        ≡ cond b (v ∷ touched_of directory is vs) (touched_of directory is vs)
    by true same = ap (λ t. v ∷ t) same
    by false same = same
