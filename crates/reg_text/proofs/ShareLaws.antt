-- The shares of a distribution, as pairs of fields.
use Rattle.std.proofs.Common.{◌≡◌, ℕ, suc, ◌+◌, ◌^◌, ◌<◌, List, [], ◌∷◌, ◌++◌, length, map, drop, Result, Ok, Err, refl}
use Rattle.std.proofs.Common.{ap, arith}
use Rattle.std.specs.List.{AllByRecursion}
use Rattle.std.specs.Prelude.{MatchResult}
use Rattle.reg_base.specs.declared.limits.TheConstants.{MOST_SHARES}
use Rattle.reg_base.specs.declared.shares.Share.{Share}
use Rattle.reg_text.proofs.Names.{Cause, IsAccountNo, TextRow, field, a_no, any_number, IsCodec, AreFields, ◌>>=◌}
use Rattle.reg_text.specs.Codecs.{pairs, pairs_read}
use Rattle.reg_text.specs.Acts.{share_made, share_parts, share_fields, share_pair}
use Rattle.reg_text.proofs.CodecLaws.{are_made, field-drop}
use Rattle.reg_text.proofs.ListFacts.{cons}
use Rattle.reg_text.proofs.PairLaws.{are_pairs}

there : (ps : List (ℕ × ℕ)) → map share_parts (map share_made ps) ≡ ps
there [] = refl
there (p ∷ ps) = cons refl (there ps)

back : (shares : List Share) → map share_made (map share_parts shares) ≡ shares
back [] = refl
back (share ∷ shares) = cons refl (back shares)

pub are_shares : IsCodec a_no → IsCodec any_number → AreFields share_fields
are_shares h k = are_made (map share_made) (map share_parts) (pairs MOST_SHARES a_no any_number)
    (are_pairs a_no any_number h k MOST_SHARES) (λ ps fits. there ps) back

-- ---- what fits in their fields

abbrev pub PairFits : ℕ × ℕ → Type 0
PairFits p = a_no.Fits p.0 × any_number.Fits p.1

pub length-parts : (shares : List Share) → length (map share_parts shares) ≡ length shares
length-parts [] = refl
length-parts (share ∷ shares) = ap suc (length-parts shares)

pub pairs-accounts : (shares : List Share) → AllByRecursion PairFits (map share_parts shares)
    → AllByRecursion IsAccountNo (map (λ share. share.to) shares)
pairs-accounts [] h = tt
pairs-accounts (share ∷ shares) h = (h.0.0, pairs-accounts shares h.1)

pub pairs-amounts : (shares : List Share) → AllByRecursion PairFits (map share_parts shares)
    → AllByRecursion (λ n. n < 2 ^ 64) (map (λ share. share.amount) shares ++ [])
pairs-amounts [] h = tt
pairs-amounts (share ∷ shares) h = (h.0.1, pairs-amounts shares h.1)

pub pairs-fit : (shares : List Share) → AllByRecursion IsAccountNo (map (λ share. share.to) shares)
    → AllByRecursion (λ n. n < 2 ^ 64) (map (λ share. share.amount) shares ++ [])
    → AllByRecursion PairFits (map share_parts shares)
pairs-fit [] h k = tt
pairs-fit (share ∷ shares) h k = ((h.0, k.0), pairs-fit shares h.1 k.1)

-- ---- reading share by share

by-share : (a b : Result ℕ Cause) (c : Result (List (ℕ × ℕ)) Cause)
    → ((a >>= λ x. b >>= λ y. c >>= λ ps. Ok ((x, y) ∷ ps)) >>= λ ps. Ok (map share_made ps))
    ≡ (((a >>= λ x. b >>= λ y. Ok (x, y)) >>= λ p. Ok (share_made p)) >>= λ share. (c >>= λ ps. Ok (map share_made ps))
    >>= λ shares. Ok (share ∷ shares))
by-share (Err e) b c = refl
by-share (Ok x) (Err e) c = refl
by-share (Ok x) (Ok y) (Err e) = refl
by-share (Ok x) (Ok y) (Ok ps) = refl

-- one share, and then the others
pub read-share : (column : ℕ) (r : TextRow) → suc column < length r
    → share_fields.read column r
    ≡ (share_pair.read column r >>= λ share. share_fields.read (suc (suc column)) r >>= λ shares. Ok (share ∷ shares))
read-share column r h =
    rw (field-drop r column (omega arith), field-drop r (suc column) h)
    (by-share (a_no.read (field r column)) (any_number.read (field r (suc column)))
    (pairs_read a_no any_number (drop (suc (suc column)) r)))

pub first-fault : (column : ℕ) (r : TextRow) (e : Cause) → suc column < length r → share_pair.read column r ≡ Err e
    → share_fields.read column r ≡ Err e
first-fault column r e h first = rw (read-share column r h, first) refl

-- what comes of the others after a share
pub after-share : (column : ℕ) (r : TextRow) (share : Share) (rest all : List Share) (result : Result (Unit {0}) Cause)
    → suc column < length r → share_pair.read column r ≡ Ok share → all ≡ share ∷ rest
    → MatchResult result (λ u. share_fields.read (column + 2) r ≡ Ok rest) (λ e. share_fields.read (column + 2) r
    ≡ Err e)
    → MatchResult result (λ u. share_fields.read column r ≡ Ok all) (λ e. share_fields.read column r ≡ Err e)
after-share column r share rest all (Ok u) h first is more =
    let two : suc (suc column) ≡ column + 2 = omega arith in
    rw (read-share column r h, first, two, more, is) refl
after-share column r share rest all (Err e) h first is more =
    let two : suc (suc column) ≡ column + 2 = omega arith in
    rw (read-share column r h, first, two, more) refl
