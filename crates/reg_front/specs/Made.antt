-- A text that was made, and was not written yet.
use Rattle.std.specs.Prelude.{ℕ, List, ◌++◌}
use Rattle.reg_text.specs.Pieces.{text_of_pieces}
use Rattle.reg_front.specs.declared.texts.Used.{Used}

-- its pieces one after another, and behind them its end
abbrev pub text_made : Used → List ℕ
text_made used = text_of_pieces used.pieces.items ++ used.text.items
