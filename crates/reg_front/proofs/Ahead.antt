-- The bytes of a file from an offset on are all that its source has left.
use Rattle.std.proofs.Common.{◌≡◌, ◌≤◌, ℕ, Bool, true, false, List, [], Option, None, Some, IfSome, Vec, drop}
use Rattle.std.proofs.Common.{length, option_map, refl, sym, subst, ◌∙◌, append-nil}
use Rattle.std.specs.Io.KnownBytes.{IsAtEnd}
use Rattle.std.specs.Global.{Global}
use Rattle.reg_text.specs.Pieces.{text_of_pieces}
use Rattle.reg_front.specs.Devices.{ConsumesFront, IsReadWhole, most_input}
use Rattle.reg_front.specs.Ranges.{Agrees, AreAhead, TellsOffset, ended_if}
use Rattle.reg_front.specs.Streams.{Stream}

pub ahead : (left file state : Option (List ℕ)) (pieces : List (Vec ℕ Global)) (from : ℕ)
    → IfSome state (λ text. TellsOffset text from) → IfSome file (λ all. text_of_pieces pieces ≡ drop from all)
    → IfSome file (λ all. length (drop from all) ≤ most_input) → Agrees left file state → AreAhead left pieces
ahead None file state pieces from tells text few agrees = tt
ahead (Some bytes) None state pieces from tells text few agrees = let bad = agrees.0 in cc
ahead (Some bytes) (Some all) None pieces from tells text few agrees = let bad = agrees.1 in cc
ahead (Some bytes) (Some all) (Some state) pieces from tells text few agrees =
    let same : bytes ≡ drop from all = agrees.2 from tells in
    (text ∙ sym same, subst (λ l. length l ≤ most_input) (sym same) few)

given_of : (left : Option (List ℕ)) → ConsumesFront left (option_map (λ _. []) left)
given_of None = ([], tt)
given_of (Some bytes) = (bytes, sym (append-nil bytes))

ended_of : (left : Option (List ℕ)) → IsAtEnd (option_map {T = List ℕ} {U = List ℕ} (λ _. []) left)
ended_of None = tt
ended_of (Some bytes) = refl

limit_of : (left : Option (List ℕ)) (pieces : List (Vec ℕ Global)) → AreAhead left pieces
    → IfSome left (λ bytes. length bytes ≤ most_input)
limit_of None pieces a = tt
limit_of (Some bytes) pieces a = a.1

-- once the pieces are given, all of the source is read
pub whole_given : (is_at_end : Bool) (stream : Stream) (held : Option (Vec (Vec ℕ Global) Global))
    (pieces : Vec (Vec ℕ Global) Global) → is_at_end ≡ false → held ≡ Some pieces
    → IfSome held (λ p. AreAhead stream.bytes p.items) → IsReadWhole (ended_if is_at_end stream) (ended_if true stream)
whole_given is_at_end stream held pieces not_yet is ahead =
    let are : AreAhead stream.bytes pieces.items =
    subst (λ o. IfSome o (λ p. AreAhead stream.bytes p.items)) is ahead in
    subst (λ b. IsReadWhole (ended_if b stream) (ended_if true stream)) (sym not_yet) record {
      good = refl;
      given = given_of stream.bytes;
      ended = ended_of stream.bytes;
      limit = limit_of stream.bytes pieces.items are;
    }
