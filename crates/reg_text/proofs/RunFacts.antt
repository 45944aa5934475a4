-- Runs of values, each spelled on its own, are the text of all of them.
use Rattle.std.proofs.Common.{◌≡◌, ℕ, ◌+◌, List, [], ◌∷◌, ◌++◌, length, take, drop}
use Rattle.std.proofs.Common.{Result, Ok, Vec, sym, ap, subst, ◌∙◌, arith, append_assoc}
use Rattle.std.specs.Global.{Global}
use Rattle.std.proofs.lemmas.List.{append-nil}
use Rattle.std.proofs.lemmas.Grind.{flat_map-append}
use Rattle.reg_base.specs.declared.directory.NoMemory.{NoMemory}
use Rattle.reg_base.specs.Chunks.{UnlessOut}
use Rattle.reg_base.proofs.lemmas.Chunks.{ChunksOf}
use Rattle.reg_text.specs.Pieces.{text_of_pieces}

module _ {X Y : Type 0} (IsOf : ℕ → List X → Y → Type 0) (spelled : ℕ → List X → List ℕ) (piece : Y
    → Vec ℕ Global) where
  -- the pieces so far, and the values behind them, whose runs are left, and of which this holds
  pub record IsSpelled (Holds : List X → Type 0) (whole : List ℕ) (size : ℕ) (pieces : List (Vec ℕ Global))
      (runs : List (Result Y NoMemory)) : Type 0 where
    pub first : ℕ
    pub others : List X
    pub left : ChunksOf (UnlessOut IsOf) first others size runs
    pub holds : Holds others
    pub all : text_of_pieces pieces ++ spelled first others ≡ whole

  -- what is asked of spelled values: the text of a run is that of what was made of it, and the text of values is that
  -- of some and of those behind them
  pub record AreTexts : Type 0 where
    pub of_run : (first : ℕ) (xs : List X) (y : Y) → IsOf first xs y → (piece y).items ≡ spelled first xs
    pub of_both : (first size : ℕ) (xs : List X) → spelled first (take size xs) ++ spelled (first + size) (drop size xs)
        ≡ spelled first xs
    pub of_none : (first : ℕ) → spelled first [] ≡ []

  pub one-piece : AreTexts → (Holds HoldsNext : List X → Type 0) (whole : List ℕ) (size : ℕ)
      (pieces : List (Vec ℕ Global)) (y : Y) (runs : List (Result Y NoMemory))
      → ((first : ℕ) (xs : List X) → IsOf first (take size xs) y → Holds xs → HoldsNext (drop size xs))
      → IsSpelled Holds whole size pieces (Ok y ∷ runs) → IsSpelled HoldsNext whole size (pieces ++ piece y ∷ []) runs
  unfolding ChunksOf
  one-piece are Holds HoldsNext whole size pieces y runs next s =
      let run = take size s.others in
      let rest = drop size s.others in
      let text : (piece y).items ≡ spelled s.first run = are.of_run s.first run y s.left.0 in
      record {
        first = s.first + size;
        others = rest;
        left = s.left.1;
        holds = next s.first s.others s.left.0 s.holds;
        all = rw (
          flat_map-append (λ (p : Vec ℕ Global). p.items) pieces (piece y ∷ []),
          append-nil (piece y).items,
          append_assoc (text_of_pieces pieces) (piece y).items (spelled (s.first + size) rest),
          text,
          are.of_both s.first size s.others,
        ) s.all;
      }

  pub all-pieces : AreTexts
      → (Holds : List X → Type 0) (whole : List ℕ) (size : ℕ) (pieces : List (Vec ℕ Global))
      (runs : List (Result Y NoMemory)) → length runs ≡ 0
      → IsSpelled Holds whole size pieces runs → (text_of_pieces pieces ≡ whole) × Holds []
  unfolding ChunksOf
  all-pieces are Holds whole size pieces [] none s =
      let over : s.others ≡ [] = s.left in (
        sym (append-nil (text_of_pieces pieces))
            ∙ ap (λ (t : List ℕ). text_of_pieces pieces ++ t) (sym (are.of_none s.first)
            ∙ ap (spelled s.first) (sym over)) ∙ s.all,
        subst Holds over s.holds,
      )
  all-pieces are Holds whole size pieces (r ∷ runs) none s = absurd (omega arith)
