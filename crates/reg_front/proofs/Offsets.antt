-- The first line of a text tells an offset.
use Rattle.std.proofs.Common.{◌≡◌, ℕ, suc, ◌<◌, List, ◌∷◌, ◌++◌, length, take, drop, Option, Some, None, IfSome}
use Rattle.std.proofs.Common.{slice_index, sym, subst, ap, ◌∙◌, append_assoc, codes}
use Rattle.std.proofs.Common.{eqb-true}
use Rattle.std.proofs.Math.Seq.{split_at}
use Rattle.std.specs.Io.KnownBytes.{Consumes}
use Rattle.std.specs.Str.Parse.{IsNumeral, without_leading_plus}
use Rattle.memchr.specs.Find.{IsFirstByte, is_byte}
use Rattle.reg_front.specs.Ranges.{TellsOffset, word_number}

-- a head, and behind it a line up to its end
line_is : (text head line : List ℕ) (end : ℕ) → text ≡ head ++ line → end < length line → slice_index line end ≡ 10
    → text ≡ head ++ take end line ++ 10 ∷ drop (suc end) line
line_is text head line end split within is =
    split
    ∙ ap (λ l. head ++ l) (split_at line end 0 within ∙ ap (λ b. take end line ++ b ∷ drop (suc end) line) is)
    ∙ sym (append_assoc head (take end line) (10 ∷ drop (suc end) line))

-- the word up to the first end of a line behind the head
pub told : (text line : List ℕ) (end : ℕ) (read : Option ℕ) → text ≡ codes "pos:\t" ++ line
    → IsFirstByte (is_byte 10) line (Some end) → IfSome read (λ n. IsNumeral 10 (without_leading_plus (take end line)))
    → IfSome read (λ n. n ≡ word_number (take end line)) → IfSome read (λ n. TellsOffset text n)
told text line end None split first numeral value = tt
told text line end (Some n) split first numeral value =
    let is : slice_index line end ≡ 10 = eqb-true (slice_index line end) 10 first.1 in
    (take end line, drop (suc end) line, line_is text (codes "pos:\t") line end split first.0.high is, numeral, value)

-- what the front of a text tells, the text tells
front_tells : (front behind : List ℕ) (n : ℕ) → TellsOffset front n → TellsOffset (front ++ behind) n
front_tells front behind n (word, rest, e, numeral, value) = (
  word,
  rest ++ behind,
  ap (λ l. l ++ behind) e ∙ append_assoc (codes "pos:\t" ++ word) (10 ∷ rest) behind,
  numeral,
  value,
)

-- what was read of a text is its front
pub front_told : (known rest : Option (List ℕ)) (front : List ℕ) (read : Option ℕ) → Consumes known rest front
    → IfSome read (λ n. TellsOffset front n) → IfSome read (λ n. IfSome known (λ text. TellsOffset text n))
front_told known rest front None consumed told = tt
front_told None rest front (Some n) consumed told = tt
front_told (Some text) None front (Some n) consumed told = absurd consumed
front_told (Some text) (Some rest) front (Some n) consumed told =
    subst (λ l. TellsOffset l n) (sym consumed) (front_tells front rest n told)
