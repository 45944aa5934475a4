-- Where a text is cut between two rows, the rows of its parts are those of the whole.
use Rattle.std.proofs.Common.{◌≡◌, ◌≢◌, ◌⊎◌, inl, inr, ℕ, zero, suc, ◌+◌, ◌-◌, ◌<◌, ◌==◌, ◌||◌, Bool, true, false, cond}
use Rattle.std.proofs.Common.{List, [], ◌∷◌, ◌++◌, length, get_or, Option, Some, None, refl, sym, ap, ◌∙◌, arith}
use Rattle.std.specs.Prelude.{slice_get, ◌&&◌}
use Rattle.std.specs.Option.{is_some}
use Rattle.std.proofs.lemmas.Bool.{eqb-true, or_parts, false_from_ne_true, and_parts}
use Rattle.std.proofs.lemmas.Bool.{true≢false}
use Rattle.std.proofs.lemmas.Option.{slice_get-get_or}
use Rattle.std.proofs.Math.Bool.{or-true}
use Rattle.memchr.specs.Find.{IsFirstByte, is_byte}
use Rattle.csv.specs.Machine.{Read, next_record, step, is_end, ends_at_end, fields_after, field_after}
use Rattle.csv.specs.Reading.{default_config, records, strip_bom, is_bom}
use Rattle.csv.specs.declared.parser.State.{State}
use Rattle.csv.specs.declared.parser.State.TheVariants as st
use Rattle.csv.specs.declared.parser.Action.TheVariants as act
use Rattle.reg_cuts.specs.Rows.{TextRow, rows_read, rows_in_text}
use Rattle.reg_cuts.specs.Parts.{machine_after, IsCut, HasNoMark, has_quote}
use Rattle.reg_cuts.proofs.lemmas.RowsFacts.{record-advances, rows_read-some, rows_read-none}

-- ---- the machine

-- the machine stands between two rows, or in a comment
abbrev pub is_quiet : State → Bool
is_quiet st.StartRecord = true
is_quiet st.AfterCr = true
is_quiet st.InComment = true
is_quiet s = false

between-quiet : (s : State) → ends_at_end s ≡ false → is_quiet s ≡ true
between-quiet st.StartRecord b = refl
between-quiet st.AfterCr b = refl
between-quiet s b = absurd cc

-- a byte that ends no row and leaves the machine so was skipped by a machine that stood so
pub record IsSkipped (s : State) (c : ℕ) : Type 0 where
  pub quiet : is_quiet s ≡ true
  pub skipped : (step default_config s c).1 ≡ act.Skip

skips : (s : State) (c : ℕ) → is_end (step default_config s c).1 ≡ false → is_quiet (step default_config s c).0 ≡ true
    → IsSkipped s c
skips st.StartRecord c e b = record { quiet = refl; skipped = grind arith }
skips st.AfterCr c e b = record { quiet = refl; skipped = grind arith }
skips st.InComment c e b = record { quiet = refl; skipped = grind arith }
skips s c e b = absurd (grind arith)

-- between two rows it does not matter in which of the two states the machine stands
same-step : (c : ℕ) → step default_config st.AfterCr c ≡ step default_config st.StartRecord c
same-step c = grind arith

pub same-next : (s : State) (fields : List (List ℕ)) (field bytes : List ℕ) → ends_at_end s ≡ false
    → next_record default_config s fields field bytes ≡ next_record default_config st.StartRecord fields field bytes
unfolding next_record
same-next st.StartRecord fields field bytes b = refl
same-next st.AfterCr fields field [] b = refl
same-next st.AfterCr fields field (c ∷ rest) b = rw (same-step c) refl
same-next s fields field bytes b = absurd cc

-- ---- the next row of a text that is cut between two rows

-- it ends before the cut, or there is none before it, and the next one is that of the rest
pub record EndsBefore (s : State) (fields : List (List ℕ)) (field a b : List ℕ) : Type 0 where
  pub read : Read
  pub alone : next_record default_config s fields field a ≡ Some read
  pub whole : next_record default_config s fields field (a ++ b) ≡ Some (read.0, read.1, read.2 ++ b)
  pub leaves : machine_after read.1 read.2 ≡ machine_after s a

pub record NoneBefore (s : State) (fields : List (List ℕ)) (field a b : List ℕ) : Type 0 where
  pub quiet : is_quiet s ≡ true
  pub alone : next_record default_config s fields field a ≡ None
  pub whole : next_record default_config s fields field (a ++ b)
      ≡ next_record default_config (machine_after s a) fields field b

chosen : (b : Bool) → (b ≡ true) ⊎ (b ≡ false)
chosen true = inl refl
chosen false = inr refl

pub next-split : (s : State) (fields : List (List ℕ)) (field a b : List ℕ) → ends_at_end (machine_after s a) ≡ false
    → EndsBefore s fields field a b ⊎ NoneBefore s fields field a b
unfolding next_record machine_after
next-split s fields field [] b h = inr (record { quiet = between-quiet s h; alone = rw h refl; whole = refl })
next-split s fields field (c ∷ rest) b h =
    let t = step default_config s c in
    let more = next-split t.0 (fields_after t.1 fields field) (field_after t.1 c field) rest b h in
    elim (chosen (is_end t.1)) [
      | inl e ↦ inl (record {
        read = (fields_after t.1 fields field, t.0, rest);
        alone = rw e refl;
        whole = rw e refl;
        leaves = refl;
      })
      | inr e ↦ elim more [
        | inl before ↦ inl (record {
          read = before.read;
          alone = rw e before.alone;
          whole = rw e before.whole;
          leaves = before.leaves;
        })
        | inr none ↦
            let k = skips s c e none.quiet in
            inr (record {
              quiet = k.quiet;
              alone = rw e none.alone;
              whole = rw (e, k.skipped) (rw k.skipped at none.whole);
            })
      ]
    ]

-- ---- the rows

in-rest : (s : State) (b : List ℕ) (o : Option Read) → ends_at_end s ≡ false → next_record default_config s [] [] b ≡ o
    → (t : State) (a : List ℕ) → ends_at_end t ≡ false → next_record default_config t [] [] a ≡ o
    → rows_read s b ≡ rows_read t a
in-rest s b None between e t a between2 e2 = rows_read-none s b e ∙ sym (rows_read-none t a e2)
in-rest s b (Some p) between e t a between2 e2 =
    rows_read-some s b p between e ∙ sym (rows_read-some t a p between2 e2)

split-records : (n : ℕ) (s : State) (a b : List ℕ) → length a < n → ends_at_end s ≡ false
    → ends_at_end (machine_after s a) ≡ false → rows_read s (a ++ b) ≡ rows_read s a ++ records default_config b
split-records zero s a b lt between cut = absurd (omega arith)
split-records (suc n) s a b lt between cut =
    elim (next-split s [] [] a b cut) [
      | inl e ↦
          let p = e.read in
          let less = record-advances s [] [] a p e.alone in
          let shorter = less.shorter between in
          let more = split-records n p.1 p.2 b (omega (arith, shorter)) less.between (rw e.leaves cut) in
          rows_read-some s (a ++ b) (p.0, p.1, p.2 ++ b) between e.whole ∙ ap (λ (rows : List TextRow). p.0 ∷ rows) more
          ∙ ap (λ (rows : List TextRow). rows ++ records default_config b)
          (sym (rows_read-some s a p between e.alone))
      | inr e ↦
          let same = e.whole ∙ same-next (machine_after s a) [] [] b cut in
          in-rest s (a ++ b) (next_record default_config st.StartRecord [] [] b) between same st.StartRecord b refl refl
          ∙ ap (λ (rows : List TextRow). rows ++ records default_config b) (sym (rows_read-none s a e.alone))
    ]

pub records-split : (s : State) (a b : List ℕ) → ends_at_end s ≡ false → ends_at_end (machine_after s a) ≡ false
    → rows_read s (a ++ b) ≡ rows_read s a ++ records default_config b
records-split s a b between cut = split-records (length a + 1) s a b (omega arith) between cut

-- ---- whole texts

-- no byte of a byte order mark but its last leaves the machine between two rows
within-mark : (s : State) (m : ℕ) → (m ≡ 0xEF) ⊎ (m ≡ 0xBB) → ends_at_end (step default_config s m).0 ≡ true
within-mark st.InEscape m is = refl
within-mark s m (inl e) = rw e refl
within-mark s m (inr e) = rw e refl

not-mark : (s : State) (c m : ℕ) → (m ≡ 0xEF) ⊎ (m ≡ 0xBB) → ends_at_end (step default_config s c).0 ≡ false
    → (c == m) ≡ false
not-mark s c m is cut = elim (chosen (c == m)) [
  | inl e ↦ absurd (true≢false (sym (within-mark s m is)
      ∙ ap (λ (n : ℕ). ends_at_end (step default_config s n).0) (sym (eqb-true c m e)) ∙ cut))
  | inr e ↦ e
]

moved : (t : Bool) (r b : List ℕ) (x y z : ℕ) → cond t (r ++ b) (x ∷ y ∷ z ∷ (r ++ b)) ≡ cond t r (x ∷ y ∷ z ∷ r) ++ b
moved true r b x y z = refl
moved false r b x y z = refl

no-and : (t u : Bool) (whole rest : List ℕ) → cond ((t && false) && u) rest whole ≡ whole
no-and true u whole rest = refl
no-and false u whole rest = refl

-- a byte order mark at the start of a text is one of its first part, if this is not empty and the text is cut behind it
pub mark-split : (a b : List ℕ) → IsCut a → 0 < length a → strip_bom (a ++ b) ≡ strip_bom a ++ b
unfolding strip_bom machine_after
mark-split [] b cut some = absurd (omega arith)
mark-split (x ∷ []) [] cut some = refl
mark-split (x ∷ []) (y ∷ []) cut some = refl
mark-split (x ∷ []) (y ∷ z ∷ r) cut some = rw (not-mark st.StartRecord x 0xEF (inl refl) cut) refl
mark-split (x ∷ y ∷ []) [] cut some = refl
mark-split (x ∷ y ∷ []) (z ∷ r) cut some = rw (not-mark (step default_config st.StartRecord x).0 y 0xBB (inr refl) cut)
    (no-and (x == 0xEF) (z == 0xBF) (x ∷ y ∷ z ∷ r) r)
mark-split (x ∷ y ∷ z ∷ r) b cut some = moved (is_bom x y z) r b x y z

pub text-split : (a b : List ℕ) → IsCut a → HasNoMark b → strip_bom (a ++ b) ≡ strip_bom a ++ b
unfolding strip_bom
text-split [] b cut none = none
text-split (x ∷ a) b cut none = mark-split (x ∷ a) b cut (omega arith)

pub rows-split : (a b : List ℕ) → IsCut a → HasNoMark b → rows_in_text (a ++ b) ≡ rows_in_text a ++ rows_in_text b
rows-split a b cut none =
    ap (records default_config) (text-split a b cut none) ∙ records-split st.StartRecord (strip_bom a) b refl cut
    ∙ ap (λ (text : List ℕ). rows_in_text a ++ records default_config text) (sym none)

-- ---- cuts one after another

pub state-append : (s : State) (a b : List ℕ) → machine_after s (a ++ b) ≡ machine_after (machine_after s a) b
unfolding machine_after
state-append s [] b = refl
state-append s (c ∷ a) b = state-append (step default_config s c).0 a b

-- what comes behind a cut
goes-on : (s : State) (b : List ℕ) → ends_at_end s ≡ false → ends_at_end (machine_after st.StartRecord b) ≡ false
    → ends_at_end (machine_after s b) ≡ false
unfolding machine_after
goes-on st.StartRecord b between cut = cut
goes-on st.AfterCr [] between cut = refl
goes-on st.AfterCr (c ∷ rest) between cut = rw (same-step c) cut
goes-on s b between cut = absurd cc

pub cuts-go-on : (a b : List ℕ) → IsCut a → HasNoMark b → IsCut b → IsCut (a ++ b)
cuts-go-on a b cut none behind =
    let b_cut : ends_at_end (machine_after st.StartRecord b) ≡ false = rw none at behind in
    rw (text-split a b cut none, state-append st.StartRecord (strip_bom a) b)
    (goes-on (machine_after st.StartRecord (strip_bom a)) b cut b_cut)

-- ---- lines without quotes

-- the machine is not inside quotes, behind them or in a comment
abbrev pub is_plain : State → Bool
is_plain st.StartRecord = true
is_plain st.StartField = true
is_plain st.InField = true
is_plain st.AfterCr = true
is_plain s = false

stays-plain : (s : State) (c : ℕ) → is_plain s ≡ true → (c == 34) ≡ false → is_plain (step default_config s c).0 ≡ true
stays-plain st.StartRecord c p q = grind arith
stays-plain st.StartField c p q = grind arith
stays-plain st.InField c p q = grind arith
stays-plain st.AfterCr c p q = grind arith
stays-plain s c p q = absurd cc

ends-plain : (s : State) → is_plain s ≡ true → (step default_config s 10).0 ≡ st.StartRecord
ends-plain st.StartRecord p = refl
ends-plain st.StartField p = refl
ends-plain st.InField p = refl
ends-plain st.AfterCr p = refl
ends-plain s p = absurd cc

after-line : (s : State) (a : List ℕ) → is_plain s ≡ true → has_quote a ≡ false → get_or a (length a - 1) 0 ≡ 10
    → 0 < length a → machine_after s a ≡ st.StartRecord
unfolding machine_after has_quote
after-line s [] p q last some = absurd (omega arith)
after-line s (c ∷ []) p q last some = let line : c ≡ 10 = last in rw line (ends-plain s p)
after-line s (c ∷ d ∷ rest) p q last some =
    let parts = or_parts (c == 34) (has_quote (d ∷ rest)) q in
    let at : length (c ∷ d ∷ rest) - 1 ≡ suc (length (d ∷ rest) - 1) = omega arith in
    let behind : get_or (d ∷ rest) (length (d ∷ rest) - 1) 0 ≡ 10 = rw at at last in
    after-line (step default_config s c).0 (d ∷ rest) (stays-plain s c p parts.0) parts.1 behind (omega arith)

-- the same of a text whose byte order mark is skipped
last-there : (a : List ℕ) → slice_get a (length a - 1) ≡ Some 10 → (0 < length a) × (get_or a (length a - 1) 0 ≡ 10)
last-there [] h = absurd cc
last-there (c ∷ a) h = let there = slice_get-get_or (c ∷ a) (length (c ∷ a) - 1) 0 (omega arith) in (omega arith, cc)

behind-mark : (a b c : ℕ) (rest : List ℕ) → is_bom a b c ≡ true → has_quote (a ∷ b ∷ c ∷ rest) ≡ false
    → get_or (a ∷ b ∷ c ∷ rest) (length (a ∷ b ∷ c ∷ rest) - 1) 0 ≡ 10 → (has_quote rest ≡ false) × (0 < length rest)
    × (get_or rest (length rest - 1) 0 ≡ 10)
unfolding has_quote
behind-mark a b c [] mark q last =
    absurd (true≢false (sym (and_parts ((a == 0xEF) && (b == 0xBB)) (c == 0xBF) mark).1
    ∙ ap (λ (n : ℕ). n == 0xBF) last))
behind-mark a b c (d ∷ rest) mark q last =
    let one = or_parts (a == 34) (has_quote (b ∷ c ∷ d ∷ rest)) q in
    let two = or_parts (b == 34) (has_quote (c ∷ d ∷ rest)) one.1 in
    let three = or_parts (c == 34) (has_quote (d ∷ rest)) two.1 in
    let at : length (a ∷ b ∷ c ∷ d ∷ rest) - 1 ≡ suc (suc (suc (length (d ∷ rest) - 1))) = omega arith in
    (three.1, omega arith, rw at at last)

between-start : (a : List ℕ) → has_quote a ≡ false → (0 < length a) × (get_or a (length a - 1) 0 ≡ 10)
    → ends_at_end (machine_after st.StartRecord a) ≡ false
between-start a q last = ap ends_at_end (after-line st.StartRecord a refl q last.1 last.0)

pub whole : (a : List ℕ) → has_quote a ≡ false → slice_get a (length a - 1) ≡ Some 10 → IsCut a
unfolding strip_bom
whole [] q h = absurd cc
whole (x ∷ []) q h = let l = last-there (x ∷ []) h in between-start (x ∷ []) q l
whole (x ∷ y ∷ []) q h = let l = last-there (x ∷ y ∷ []) h in between-start (x ∷ y ∷ []) q l
whole (x ∷ y ∷ z ∷ rest) q h =
    let l = last-there (x ∷ y ∷ z ∷ rest) h in
    elim (chosen (is_bom x y z)) [
      | inl mark ↦ let behind = behind-mark x y z rest mark q l.1 in
          rw mark (between-start rest behind.0 (behind.1, behind.2))
      | inr none ↦ rw none (between-start (x ∷ y ∷ z ∷ rest) q l)
    ]

-- ---- a search for a quote

pub by-memchr : (a : List ℕ) (r : Option ℕ) → IsFirstByte (is_byte 34) a r → is_some r ≡ has_quote a
unfolding has_quote
by-memchr [] None h = refl
by-memchr [] (Some k) h = absurd (omega (arith, h.0.high))
by-memchr (c ∷ a) None h =
    let first : (c == 34) ≡ false = false_from_ne_true (c == 34) (h 0 (omega arith) (omega arith)) in
    let rest = by-memchr a None (λ k low high. h (suc k) (omega arith) (omega arith)) in
    rw first rest
by-memchr (c ∷ a) (Some zero) h = rw h.1 refl
by-memchr (c ∷ a) (Some (suc k)) h =
    let high = h.0.high in
    let rest : true ≡ has_quote a =
    by-memchr a (Some k) (
      record {
        low = omega arith;
        high = omega arith;
        before = λ i low less. h.0.before (suc i) (omega arith) (omega arith);
      },
      h.1,
    ) in
    rw (← rest, or-true) refl

-- ---- the first byte

pub no-mark : (b : List ℕ) → slice_get b 0 ≢ Some 0xEF → HasNoMark b
unfolding strip_bom
no-mark [] h = refl
no-mark (x ∷ []) h = refl
no-mark (x ∷ y ∷ []) h = refl
no-mark (x ∷ y ∷ z ∷ rest) h = let other : (x == 0xEF) ≡ false =
    false_from_ne_true (x == 0xEF) (λ (e : (x == 0xEF) ≡ true). h (ap (λ (n : ℕ). Some n) (eqb-true x 0xEF e))) in
    rw other refl
