-- The acts that an instruction's row may name: of each its word, its fields, and how it is made of them.
use Rattle.std.specs.Prelude.{ℕ, Bool, List, [], ◌∷◌, map, length, ⊤, Option, Result, Ok, codes}
use Rattle.reg_base.specs.declared.limits.TheConstants.{MOST_SHARES}
use Rattle.reg_base.specs.declared.kinds.AllowanceKind.{AllowanceKind}
use Rattle.reg_base.specs.declared.kinds.Status.{Status}
use Rattle.reg_base.specs.declared.shares.Share.{Share}
use Rattle.reg_base.specs.declared.act.Act.{Act}
use Rattle.reg_base.specs.declared.act.Act.TheVariants as act
use Rattle.reg_base.specs.declared.instruction.Instruction.{Instruction}
use Rattle.reg_base.specs.Numbers.{IsWithin}
use Rattle.reg_text.specs.declared.cause.Cause.{Cause}
use Rattle.reg_text.specs.declared.reading.instruction_row.ActName.{ActName}
use Rattle.reg_text.specs.declared.reading.instruction_row.ActName.TheVariants.{Transfer, Surrender, Delete, Return}
use Rattle.reg_text.specs.declared.reading.instruction_row.ActName.TheVariants.{Reverse, Create, Central, Distribute}
use Rattle.reg_text.specs.declared.reading.instruction_row.ActName.TheVariants.{Trust, Untrust, SetStatus, Emissions}
use Rattle.reg_text.specs.declared.reading.instruction_row.ActName.TheVariants.{Assess}
use Rattle.reg_text.specs.Causes.{◌>>=◌}
use Rattle.reg_text.specs.TextRows.{TextRow}
use Rattle.reg_text.specs.Words.{word_of, kind_of, status_of}
use Rattle.reg_base.specs.Words.{allowance_kind_name, status_name}
use Rattle.reg_text.specs.Codecs.{Codec, Fields, any_number, a_date, a_no, a_record, a_year, an_approver, a_word, last}
use Rattle.reg_text.specs.Codecs.{◌▸◌, made, three_made, three_parts, four_made, four_parts, pairs, forms, Row}
use Rattle.reg_text.specs.Codecs.{row_with, named_row}

-- ---- fields of acts

-- FROM,TO,KIND,AMOUNT
abbrev pub Move : Type 0
Move = ℕ × ℕ × AllowanceKind × ℕ

abbrev pub move_fields : Fields Move
move_fields = made four_made four_parts (a_no ▸ a_no ▸ a_word allowance_kind_name kind_of ▸ last any_number)

-- FROM,KIND,AMOUNT or TO,KIND,AMOUNT
abbrev pub Amount : Type 0
Amount = ℕ × AllowanceKind × ℕ

abbrev pub amount_fields : Fields Amount
amount_fields = made three_made three_parts (a_no ▸ a_word allowance_kind_name kind_of ▸ last any_number)

-- TO,AMOUNT one to eight times
abbrev pub share_made : ℕ × ℕ → Share
share_made p = record { to = p.0; amount = p.1 }

abbrev pub share_parts : Share → ℕ × ℕ
share_parts share = (share.to, share.amount)

abbrev pub share_pair : Fields Share
share_pair = made share_made share_parts (a_no ▸ last any_number)

abbrev pub share_fields : Fields (List Share)
share_fields = made (map share_made) (map share_parts) (pairs MOST_SHARES a_no any_number)

-- FROM,KIND and TO,AMOUNT one to eight times
abbrev pub Distribution : Type 0
Distribution = ℕ × AllowanceKind × List Share

abbrev pub distribution_fields : Fields Distribution
distribution_fields = made three_made three_parts (a_no ▸ a_word allowance_kind_name kind_of ▸ share_fields)

-- a distribution has one share to eight
abbrev pub IsShared : Act → Type 0
IsShared (act.Distribute from kind shares) = IsWithin 1 MOST_SHARES (length shares)
IsShared a = ⊤

-- ACCOUNT,NUMBER
abbrev pub record_fields : Fields (ℕ × ℕ)
record_fields = a_no ▸ last a_record

-- ACCOUNT,OTHER
abbrev pub other_fields : Fields (ℕ × ℕ)
other_fields = a_no ▸ last a_no

-- ACCOUNT,STATUS
abbrev pub status_fields : Fields (ℕ × Status)
status_fields = a_no ▸ last (a_word status_name status_of)

-- ACCOUNT,YEAR,TONNES
abbrev pub emission_fields : Fields (ℕ × ℕ × ℕ)
emission_fields = made three_made three_parts (a_no ▸ a_year ▸ last any_number)

-- ACCOUNT,YEAR
abbrev pub year_fields : Fields (ℕ × ℕ)
year_fields = a_no ▸ last a_year

-- ---- the acts, a row each

-- the word of an act, the fields after it, and how the act is made of them
pub record ActForm : Type 1 where
  pub word : List ℕ
  pub Parts : Type 0
  pub fields : Fields Parts
  pub make : Parts → Act

abbrev pub form : ActName → ActForm
form Transfer = record {
  word = codes "transfer";
  Parts = Move;
  fields = move_fields;
  make = λ p. act.Transfer p.0 p.1 p.2 p.3;
}
form Surrender = record {
  word = codes "surrender";
  Parts = Amount;
  fields = amount_fields;
  make = λ p. act.Surrender p.0 p.1 p.2;
}
form Delete = record {
  word = codes "delete";
  Parts = Amount;
  fields = amount_fields;
  make = λ p. act.Delete p.0 p.1 p.2;
}
form Return = record {
  word = codes "return";
  Parts = Move;
  fields = move_fields;
  make = λ p. act.ReturnExcess p.0 p.1 p.2 p.3;
}
form Reverse = record { word = codes "reverse"; Parts = ℕ × ℕ; fields = record_fields; make = λ p. act.Reverse p.0 p.1 }
form Create = record {
  word = codes "create";
  Parts = Amount;
  fields = amount_fields;
  make = λ p. act.Create p.0 p.1 p.2;
}
form Central = record {
  word = codes "central";
  Parts = Move;
  fields = move_fields;
  make = λ p. act.CentralMove p.0 p.1 p.2 p.3;
}
form Distribute = record {
  word = codes "distribute";
  Parts = Distribution;
  fields = distribution_fields;
  make = λ p. act.Distribute p.0 p.1 p.2;
}
form Trust = record { word = codes "trust"; Parts = ℕ × ℕ; fields = other_fields; make = λ p. act.Trust p.0 p.1 }
form Untrust = record { word = codes "untrust"; Parts = ℕ × ℕ; fields = other_fields; make = λ p. act.Untrust p.0 p.1 }
form SetStatus = record {
  word = codes "status";
  Parts = ℕ × Status;
  fields = status_fields;
  make = λ p. act.SetStatus p.0 p.1;
}
form Emissions = record {
  word = codes "emissions";
  Parts = ℕ × ℕ × ℕ;
  fields = emission_fields;
  make = λ p. act.EnterEmissions p.0 p.1 p.2;
}
form Assess = record { word = codes "assess"; Parts = ℕ × ℕ; fields = year_fields; make = λ p. act.Assess p.0 p.1 }

-- the acts that a row may name
abbrev pub act_names : List ActName
act_names = Transfer ∷ Surrender ∷ Delete ∷ Return ∷ Reverse ∷ Create ∷ Central ∷ Distribute ∷ Trust ∷ Untrust
    ∷ SetStatus ∷ Emissions ∷ Assess ∷ []

-- the name and the parts of an act
abbrev pub said : Act → (n : ActName) × (form n).Parts
said (act.Transfer from to kind amount) = (Transfer, (from, to, kind, amount))
said (act.Surrender from kind amount) = (Surrender, (from, kind, amount))
said (act.Delete from kind amount) = (Delete, (from, kind, amount))
said (act.ReturnExcess from to kind amount) = (Return, (from, to, kind, amount))
said (act.Reverse account number) = (Reverse, (account, number))
said (act.Create to kind amount) = (Create, (to, kind, amount))
said (act.CentralMove from to kind amount) = (Central, (from, to, kind, amount))
said (act.Distribute from kind shares) = (Distribute, (from, kind, shares))
said (act.Trust account other) = (Trust, (account, other))
said (act.Untrust account other) = (Untrust, (account, other))
said (act.SetStatus account status) = (SetStatus, (account, status))
said (act.EnterEmissions account year tonnes) = (Emissions, (account, year, tonnes))
said (act.Assess account year) = (Assess, (account, year))

abbrev pub act_name : Act → ActName
act_name a = (said a).0

abbrev pub act_word : ActName → List ℕ
act_word n = (form n).word

-- the act that a field names
abbrev pub act_name_of : List ℕ → Result ActName Cause
act_name_of = word_of act_word act_names

abbrev pub an_act_name : Codec ActName
an_act_name = a_word act_word act_name_of

-- ACT and the fields of the act
abbrev pub act_fields : Fields Act
act_fields = forms act_name (λ n. (form n).Parts) an_act_name (λ n. (form n).fields) (λ n. (form n).make)
    (λ a. (said a).1)

-- the fields that spell an act
unfoldable pub act_text : Act → TextRow
act_text a = (form (act_name a)).fields.spell (said a).1

-- ---- the row of an instruction

-- PROPOSED,PROPOSER,APPROVER,ACT and the fields of the act
abbrev pub instruction_made : ℕ × (ℕ × (Option ℕ × Act)) → Instruction
instruction_made (day, (user, (approver, a))) = record { proposed = day; proposer = user; approver = approver; act = a }

abbrev pub instruction_fields_of : Fields Instruction
instruction_fields_of = made instruction_made (λ i. (i.proposed, (i.proposer, (i.approver, i.act))))
    (a_date ▸ a_no ▸ an_approver ▸ act_fields)

-- the same; the act in column 4 is looked at first
abbrev pub instruction_row : Row Instruction
instruction_row = named_row 4 an_act_name (row_with instruction_fields_of)

-- what the fields after an act's name say, and whether a row with it has as many as it needs
abbrev pub act_read : ActName → TextRow → Result Act Cause
act_read n r = (form n).fields.read 5 r >>= λ p. Ok ((form n).make p)

abbrev pub act_ends : ActName → TextRow → Bool
act_ends n r = (form n).fields.ends 5 r
