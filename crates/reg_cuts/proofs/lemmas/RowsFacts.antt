-- One row after another: each takes bytes, so that the rows of a text come to an end.
use Rattle.std.proofs.Common.{Bor, ◌≡◌, ◌⊎◌, ℕ, zero, suc, ◌+◌, ◌<◌, ◌≤◌, Bool, true, false, cond, List, [], ◌∷◌, ◌++◌}
use Rattle.std.proofs.Common.{length, Option, Some, None, refl, ap, ◌∙◌, arith, add-one, inl, inr}
use Rattle.std.specs.Prelude.{unwrap_or, IsSome, IsTrue}
use Rattle.std.specs.Bool.{MatchBool}
use Rattle.csv.specs.Machine.{Read, next_record, step, is_end, ends_at_end, fields_after, field_after}
use Rattle.csv.specs.Reading.{Reached, ReadRecord, ExplainsRead, is_flexible, default_config, records_next}
use Rattle.csv.specs.Reading.{records_from, strip_bom, is_bom}
use Rattle.reg_cuts.specs.Rows.{TextRow, known_rest, rest_of, rows_read, rows_left, rows_in_text, IsBetweenRows}
use Rattle.reg_cuts.specs.Rows.{IsOfMemory}
use Rattle.csv.specs.declared.error.ErrorKind.{ErrorKind}
use Rattle.csv.specs.declared.error.ErrorKind.TheVariants as kind
use Rattle.csv.specs.declared.parser.State.{State}
use Rattle.csv.specs.declared.parser.Action.{Action}
use Rattle.csv.specs.declared.parser.State.TheVariants as st
use Rattle.csv.specs.declared.reader.Reader.{Reader}
use Rattle.csv.proofs.ReadFacts.{rows-end, rows-more}

-- a step that ends a row leaves the machine between two rows
abbrev Closes : State × Action → Type 0
Closes x = is_end x.1 ≡ true → ends_at_end x.0 ≡ false

step-closes : (s : State) (c : ℕ) → Closes (step default_config s c)
step-closes st.StartRecord c = grind arith
step-closes s c = grind arith

-- a read that is chosen by a test
chosen : {A : Type 0} (b : Bool) (x y z : A) → cond b x y ≡ z → ((b ≡ true) × (x ≡ z)) ⊎ ((b ≡ false) × (y ≡ z))
chosen true x y z e = inl (refl, e)
chosen false x y z e = inr (refl, e)

-- after a row the machine stands between two rows, and no more bytes are left than there were
pub record Advances (s : State) (bytes : List ℕ) (p : Read) : Type 0 where
  pub between : ends_at_end p.1 ≡ false
  pub no_longer : length p.2 ≤ length bytes
  pub shorter : ends_at_end s ≡ false → length p.2 < length bytes

pub record-advances : (s : State) (fields : List (List ℕ)) (field : List ℕ) (bytes : List ℕ) (p : Read)
    → next_record default_config s fields field bytes ≡ Some p → Advances s bytes p
unfolding next_record
record-advances s fields field [] p e =
    elim (chosen (ends_at_end s) _ _ _ e) [
      | inl h ↦ let same : (fields ++ field ∷ [], st.StartRecord, []) ≡ p = cc in
          record { between = rw (← same) refl; no_longer = rw (← same) (omega arith); shorter = λ no. absurd cc }
      | inr h ↦ absurd cc
    ]
record-advances s fields field (c ∷ rest) p e =
    elim (chosen (is_end (step default_config s c).1) _ _ _ e) [
      | inl h ↦ let same : (fields_after (step default_config s c).1 fields field, (step default_config s c).0, rest)
          ≡ p = cc in record {
            between = rw (← same) (step-closes s c h.0);
            no_longer = rw (← same) (omega arith);
            shorter = λ no. rw (← same) (omega arith);
          }
      | inr h ↦ let more = record-advances (step default_config s c).0
          (fields_after (step default_config s c).1 fields field) (field_after (step default_config s c).1 c field) rest
          p h.1 in
          record {
            between = more.between;
            no_longer = omega (arith, more.no_longer);
            shorter = λ no. omega (arith, more.no_longer);
          }
    ]

-- with enough turns it does not matter how many there are
same_next : (n m : ℕ) (o : Option Read)
    → ((p : Read) → o ≡ Some p → records_from default_config n p.1 p.2 ≡ records_from default_config m p.1 p.2)
    → records_next (records_from default_config n) o ≡ records_next (records_from default_config m) o
same_next n m None h = refl
same_next n m (Some p) h = ap (λ (rs : List TextRow). p.0 ∷ rs) (h p refl)

enough : (n m : ℕ) (s : State) (bytes : List ℕ) → ends_at_end s ≡ false → length bytes < n → length bytes < m
    → records_from default_config n s bytes ≡ records_from default_config m s bytes
unfolding records_from
enough zero m s bytes b h k = absurd (omega arith)
enough (suc n) zero s bytes b h k = absurd (omega arith)
enough (suc n) (suc m) s bytes b h k =
    same_next n m (next_record default_config s [] [] bytes) (λ p e.
    let a = record-advances s [] [] bytes p e in
    let less = a.shorter b in
    enough n m p.1 p.2 a.between (omega arith) (omega arith))

-- the rows of some bytes are the first one, and those of what is left behind it
pub rows_read-some : (s : State) (bytes : List ℕ) (p : Read) → ends_at_end s ≡ false
    → next_record default_config s [] [] bytes ≡ Some p → rows_read s bytes ≡ p.0 ∷ rows_read p.1 p.2
unfolding records_from
rows_read-some s bytes p b e =
    let a = record-advances s [] [] bytes p e in
    let less = a.shorter b in
    rw (add-one, e) (ap (λ (rs : List TextRow). p.0 ∷ rs)
    (enough (length bytes) (length p.2 + 1) p.1 p.2 a.between less (omega arith)))

pub rows_read-none : (s : State) (bytes : List ℕ) → next_record default_config s [] [] bytes ≡ None
    → rows_read s bytes ≡ []
unfolding records_from
rows_read-none s bytes e = rw (add-one, e) refl

-- there are at most as many rows as turns
length-next : (n : ℕ) (o : Option Read) → ((p : Read) → length (records_from default_config n p.1 p.2) ≤ n)
    → length (records_next (records_from default_config n) o) ≤ suc n
length-next n None h = omega arith
length-next n (Some p) h = omega (arith, h p)

pub length-records_from : (n : ℕ) (s : State) (bytes : List ℕ) → length (records_from default_config n s bytes) ≤ n
unfolding records_from
length-records_from zero s bytes = omega arith
length-records_from (suc n) s bytes =
    length-next n (next_record default_config s [] [] bytes) (λ p. length-records_from n p.1 p.2)

-- ---- a reader

abbrev pub Source : Type 0
Source = Reader (Bor (List ℕ))

abbrev pub known : Bor (List ℕ) → Option (List ℕ)
known s = Some s.now

there : {A : Type 0} (o : Option A) → IsSome o → (x : A) × (o ≡ Some x)
there (Some x) h = (x, refl)
there None h = absurd cc

pub rest-is : (a : Source) (y : List ℕ) → known_rest a ≡ Some y → rest_of a ≡ y
rest-is a y e = ap (λ (o : Option (List ℕ)). unwrap_or o []) e

-- a row that was read is the first of those that were left
pub one-row : (a b : Source) (f : TextRow) → IsBetweenRows a → ReadRecord known a b true f → b.first ≡ true
    → is_flexible b ≡ is_flexible a → IsBetweenRows b × (rows_left a ≡ f ∷ rows_left b)
unfolding Reached
one-row a b f ready read first bends =
    let y = there (known_rest a) ready.known in
    let m = rows-more known a b f default_config a.state y.0 y.0 [] ready.plain y.1 (refl, refl) read in
    let p : Read = m.2.0 in
    let adv = record-advances a.state [] [] y.0 p m.2.1 in
    let split = rows_read-some a.state y.0 p ready.between m.2.1 in
    let now = rest-is a y.0 y.1 in
    let new = rest-is b m.0 m.1 in (
      record {
        flexible = bends ∙ ready.flexible;
        trims_nothing = read.3 ∙ ready.trims_nothing;
        ready = inl first;
        plain = read.2 ∙ ready.plain;
        known = rw m.1 refl;
        between = rw m.2.3.0 at adv.between;
      },
      (cc),
    )

-- a read that found no row has left none
pub no-row : (a b : Source) (f : TextRow) → IsBetweenRows a → ReadRecord known a b false f → rows_left a ≡ []
no-row a b f ready read =
    let y = there (known_rest a) ready.known in
    let none = rows-end known a b f default_config y.0 ready.plain y.1 read in
    ap (rows_read a.state) (rest-is a y.0 y.1) ∙ rows_read-none a.state y.0 none

-- what a read left, whether it found a row or none
pub row-or-none : (a b : Source) (found : Bool) (f : TextRow) → IsBetweenRows a → ReadRecord known a b found f
    → b.first ≡ true → is_flexible b ≡ is_flexible a
    → (IsTrue found → IsBetweenRows b) × MatchBool found (rows_left a ≡ f ∷ rows_left b) (rows_left a ≡ [])
row-or-none a b true f ready read first bends = let one = one-row a b f ready read first bends in (λ yes. one.0, one.1)
row-or-none a b false f ready read first bends = (λ yes. absurd cc, no-row a b f ready read)

-- a read of rows of any lengths fails for memory or for its source alone
pub why-failed : (a b : Source) (k : ErrorKind) → is_flexible a ≡ true → ExplainsRead known a b false k → IsOfMemory k
why-failed a b kind.OutOfMemory bends why = tt
why-failed a b (kind.Io error) bends why = tt
why-failed a b (kind.Utf8 pos error) bends why = let no = why.0 in absurd cc
why-failed a b (kind.UnequalLengths pos expected len) bends why = let no = why.0 in absurd cc
why-failed a b (kind.Serialize text) bends why = why
why-failed a b (kind.Deserialize pos error) bends why = why

-- a text without a byte order mark is no longer
length-strip_bom : (text : List ℕ) → length (strip_bom text) ≤ length text
unfolding strip_bom
length-strip_bom [] = omega arith
length-strip_bom (a ∷ []) = omega arith
length-strip_bom (a ∷ b ∷ []) = omega arith
length-strip_bom (a ∷ b ∷ c ∷ rest) = shorter_or_same (is_bom a b c) rest (a ∷ b ∷ c ∷ rest) (omega arith)
  where
    shorter_or_same : (t : Bool) (xs ys : List ℕ) → length xs ≤ length ys → length (cond t xs ys) ≤ length ys
    shorter_or_same true xs ys h = h
    shorter_or_same false xs ys h = omega arith

-- a text has at most one row more than it has bytes
pub length-rows_of : (text : List ℕ) → length (rows_in_text text) ≤ length text + 1
length-rows_of text = omega (
  arith,
  length-records_from (length (strip_bom text) + 1) st.StartRecord (strip_bom text),
  length-strip_bom text,
)
