-- A text in pieces, of which one could not be written.
use Rattle.std.proofs.Common.{◌≡◌, ◌∙◌, ℕ, suc, ◌+◌, ◌<◌, List, ◌∷◌, ◌++◌, length, take, drop, get_or, Vec, sym, ap}
use Rattle.std.proofs.Common.{append_assoc, take-append-drop, drop-cons}
use Rattle.std.specs.Global.{Global}
use Rattle.std.specs.Io.KnownBytes.{Appends}
use Rattle.std.proofs.KnownBytes.{Appends-trans}
use Rattle.std.proofs.lemmas.Grind.{flat_map-append}
use Rattle.reg_front.specs.Streams.{Stream, IsGood}
use Rattle.reg_text.specs.Pieces.{text_of_pieces}
use Rattle.reg_front.specs.Devices.{FailsToWrite, Writes}

-- the pieces before one, that one, and those behind it
parts : (pieces : List (Vec ℕ Global)) (i : ℕ) (p : Vec ℕ Global) → i < length pieces → p ≡ get_or pieces i p
    → text_of_pieces pieces ≡ text_of_pieces (take i pieces) ++ (p.items ++ text_of_pieces (drop (suc i) pieces))
parts pieces i p lt is =
    let split = sym (ap text_of_pieces (take-append-drop i pieces))
    ∙ flat_map-append (λ (q : Vec ℕ Global). q.items) (take i pieces) (drop i pieces) in
    let one : drop i pieces ≡ p ∷ drop (suc i) pieces =
    drop-cons pieces i p lt ∙ ap (λ (q : Vec ℕ Global). q ∷ drop (suc i) pieces) (sym is) in
    split ∙ ap (λ (qs : List (Vec ℕ Global)). text_of_pieces (take i pieces) ++ text_of_pieces qs) one

pub piece-failed : (old mid new : Stream) (pieces : List (Vec ℕ Global)) (i : ℕ) (p : Vec ℕ Global) (text : List ℕ)
    → i < length pieces → p ≡ get_or pieces i p → text ≡ p.items → IsGood old mid
    → Appends old.bytes mid.bytes (text_of_pieces (take i pieces)) → FailsToWrite text mid new
    → FailsToWrite (text_of_pieces pieces) old new
piece-failed old mid new pieces i p text lt is same good done fails =
    let (front, rest, split, appended) = fails.bytes in
    let before = text_of_pieces (take i pieces) in
    let behind = text_of_pieces (drop (suc i) pieces) in
    let item : p.items ≡ front ++ rest = sym same ∙ split in
    let whole : text_of_pieces pieces ≡ (before ++ front) ++ (rest ++ behind) = parts pieces i p lt is
    ∙ ap (λ (l : List ℕ). before ++ (l ++ behind)) item
    ∙ ap (λ (l : List ℕ). before ++ l) (append_assoc front rest behind)
    ∙ sym (append_assoc before front (rest ++ behind)) in
    record {
      failed = fails.failed ∙ ap (λ (n : ℕ). n + 1) good;
      bytes = (
        before ++ front,
        rest ++ behind,
        whole,
        Appends-trans old.bytes mid.bytes new.bytes before front done appended,
      );
    }

-- the end of a text could not be written
pub end-failed : (old mid new : Stream) (text end : List ℕ) → Writes text old mid → FailsToWrite end mid new
    → FailsToWrite (text ++ end) old new
end-failed old mid new text end wrote fails =
    let (front, rest, split, appended) = fails.bytes in
    record {
      failed = fails.failed ∙ ap (λ (n : ℕ). n + 1) wrote.good;
      bytes = (
        text ++ front,
        rest,
        ap (λ (l : List ℕ). text ++ l) split ∙ sym (append_assoc text front rest),
        Appends-trans old.bytes mid.bytes new.bytes text front wrote.bytes appended,
      );
    }
