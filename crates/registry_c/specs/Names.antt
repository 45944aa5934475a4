-- The words and sentences that a caller can ask for, so that it needs no table of its own. A number that names nothing
-- has the empty text.
use Rattle.std.specs.Prelude.{◌≡◌, ℕ, List, [], Option, Some, None, ◌==◌, find, Ok}
use Rattle.reg_base.specs.Refusals.{checks, code_of, refusal_name}
use Rattle.reg_base.specs.Sentences.{refusal_sentence}
use Rattle.reg_base.specs.declared.refusals.Refusal.{Refusal}
use Rattle.reg_text.specs.CauseNames.{causes}
use Rattle.reg_text.specs.Causes.{cause_name}
use Rattle.reg_text.specs.declared.cause.Cause.{Cause}
use Rattle.registry_c.specs.declared.answer.Answer.{Answer}
use Rattle.registry_c.specs.Answers.{answer_of, cause_number, room_after}

-- a call told this text, and found and left the room so
abbrev pub TellsText : List ℕ → Answer → List ℕ → List ℕ → Type 0
TellsText text answer old new = (answer ≡ answer_of (Ok text)) × (new ≡ room_after (Ok text) old)

-- the cause with this number, and the check with this code
abbrev pub cause_with : ℕ → Option Cause
cause_with number = find (λ cause. cause_number cause == number) causes

abbrev pub check_with : ℕ → Option Refusal
check_with code = find (λ check. code_of check == code) checks

-- what is said of it
abbrev pub word_of_cause : Option Cause → List ℕ
word_of_cause None = []
word_of_cause (Some cause) = cause_name cause

abbrev pub word_of_check : Option Refusal → List ℕ
word_of_check None = []
word_of_check (Some check) = refusal_name check

abbrev pub sentence_of_check : Option Refusal → List ℕ
sentence_of_check None = []
sentence_of_check (Some check) = refusal_sentence check
