-- Sections: the rows of one tag one after another, or whole blocks of accounts; their order, and how many there may be.
use Rattle.std.specs.Prelude.{ℕ, Bool, true, ◌≤◌, nat_lt, List, [], ◌∷◌, ◌++◌, map, length, Option, option_map, Some}
use Rattle.std.specs.Prelude.{None}
use Rattle.std.specs.List.{AllByRecursion, flat_map}
use Rattle.reg_base.specs.Rising.{AreAbove}
use Rattle.reg_account.specs.Account.{AccountValue, IsAccount}
use Rattle.reg_account.specs.declared.rows.Fate.{Fate}
use Rattle.reg_account.specs.declared.rows.Fate.TheVariants as fate
use Rattle.reg_account.specs.Lists.{ListsValue}
use Rattle.reg_text.specs.declared.reading.account_row.AccountHead.{AccountHead}
use Rattle.reg_text.specs.declared.reading.tag.Tag.{Tag}
use Rattle.reg_text.specs.declared.reading.tag.Tag.TheVariants as tag
use Rattle.reg_text.specs.TextRows.{TextRow}
use Rattle.reg_text.specs.Lasts.{is_above}
use Rattle.reg_text.specs.declared.reading.scope.Scope.{Scope}
use Rattle.reg_text.specs.Tags.{list_tags}
use Rattle.reg_text.specs.Grammar.{Key, Said, row, row_kind, row_text}

-- ---- an account's block

-- what the row of an account says of it
abbrev pub account_head : AccountValue → AccountHead
account_head a = record {
  number = a.number;
  kind = a.kind;
  holder = a.holder;
  status = a.status;
  outside = a.outside;
  waiver = a.waiver;
  correction = a.correction;
  held = a.held;
}

-- and what its lists have
abbrev pub lists_of : AccountValue → ListsValue
lists_of a = record {
  corrections = a.corrections;
  users = a.users;
  trusted = a.trusted;
  rows = a.rows;
  emissions = a.emissions;
  figures = a.figures;
}

-- the account of this row, with these lists
abbrev pub account_with : ListsValue → AccountHead → AccountValue
account_with l h = record {
  number = h.number;
  kind = h.kind;
  holder = h.holder;
  status = h.status;
  outside = h.outside;
  waiver = h.waiver;
  correction = h.correction;
  held = h.held;
  corrections = l.corrections;
  users = l.users;
  trusted =
      l.trusted;
  rows = l.rows;
  emissions = l.emissions;
  figures = l.figures;
}

-- a row with this tag for each of these
abbrev pub each_row : (t : Tag) → List (Said t) → List TextRow
each_row t xs = flat_map (λ x. row_text t x ∷ []) xs

-- a list in a value: its items, and the value with these items in their place
pub record ListIn (W X : Type 0) : Type 0 where
  pub items : W → List X
  pub with_items : W → List X → W

-- where the lists of an account have what rows with a tag say
abbrev pub account_list : (t : Tag) → ListIn ListsValue (Said t)
account_list tag.Correction = record { items = λ l. l.corrections; with_items = λ l xs. record l { corrections = xs } }
account_list tag.User = record { items = λ l. l.users; with_items = λ l xs. record l { users = xs } }
account_list tag.Trusted = record { items = λ l. l.trusted; with_items = λ l xs. record l { trusted = xs } }
account_list tag.Retired = record { items = λ l. l.rows; with_items = λ l xs. record l { rows = xs } }
account_list tag.Emissions = record { items = λ l. l.emissions; with_items = λ l xs. record l { emissions = xs } }
account_list tag.Figure = record { items = λ l. l.figures; with_items = λ l xs. record l { figures = xs } }
account_list t = record { items = λ l. []; with_items = λ l xs. l }

-- what the rows of these lists with a tag say
abbrev pub list_items : (t : Tag) → ListsValue → List (Said t)
list_items t l = (account_list t).items l

-- the rows of an account: its own, and then those of its lists
abbrev pub account_block : AccountValue → List TextRow
account_block a = row_text tag.Account (account_head a)
    ∷ flat_map (λ t. each_row t (list_items t (lists_of a))) list_tags

-- ---- sections

-- what a section has: whole blocks of accounts, or rows with a tag
abbrev pub Item : Option Tag → Type 0
Item None = AccountValue
Item (Some t) = Said t

abbrev pub Section : Type 0
Section = (part : Option Tag) × List (Item part)

abbrev pub item_rows : (part : Option Tag) → Item part → List TextRow
item_rows None a = account_block a
item_rows (Some t) x = row_text t x ∷ []

-- its rows
abbrev pub section_rows : Section → List TextRow
section_rows s = flat_map (item_rows s.0) s.1

-- the rows of sections one after another
abbrev pub all_rows : List Section → List TextRow
all_rows [] = []
all_rows (s ∷ ss) = section_rows s ++ all_rows ss

-- ---- the order within a section

-- by what the rows of a section rise, if they do
abbrev pub key : (t : Tag) → Option (Key (Said t))
key t = (row_kind t).key

-- it begins after the end of the one before it, if there is one
abbrev pub follows : {X : Type 0} → Option (Key X) → Option X → X → Bool
follows None before x = true
follows (Some k) before x = is_above (option_map k.ends before) (k.begins x)

-- each begins after the end of the one before it
abbrev pub IsOrdered : {X : Type 0} → Option (Key X) → List X → Type 0
IsOrdered None xs = Unit {0}
IsOrdered (Some k) xs = AreAbove (map k.ends xs) (map k.begins xs)

-- ---- the length of a section

-- how many rows a section may have, if that is limited
abbrev pub most : Tag → Option ℕ
most t = (row_kind t).most

abbrev pub is_space : Option ℕ → ℕ → Bool
is_space None count = true
is_space (Some limit) count = nat_lt count limit

abbrev pub AreAtMost : Option ℕ → ℕ → Type 0
AreAtMost None count = Unit {0}
AreAtMost (Some limit) count = count ≤ limit

-- ---- what holds of a section

-- rows of one list: each after the one before it, and not too many
pub record IsList (t : Tag) (xs : List (Said t)) : Type 0 where
  pub ordered : IsOrdered (key t) xs
  pub few : AreAtMost (most t) (length xs)

-- a surrender is for one of so many periods; a deletion is for none
abbrev pub FateIsOf : ℕ → Fate → Type 0
FateIsOf count (fate.Surrendered period) = period ≤ count
FateIsOf count fate.Deleted = Unit {0}

-- the correction factors and the surrenders of an account are for so many periods at most
pub record IsOfPeriods (count : ℕ) (a : AccountValue) : Type 0 where
  pub corrections : AllByRecursion (λ c. c.period ≤ count) a.corrections
  pub rows : AllByRecursion (λ row. FateIsOf count row.fate) a.rows

abbrev pub Fits : Scope → (part : Option Tag) → Item part → Type 0
Fits scope None a = IsAccount a × IsOfPeriods scope.periods a
Fits scope (Some t) x = (row scope t).Fits x

abbrev pub Lists : (part : Option Tag) → List (Item part) → Type 0
Lists None xs = Unit {0}
Lists (Some t) xs = IsList t xs

pub record IsSection (scope : Scope) (s : Section) : Type 0 where
  pub fits : AllByRecursion (Fits scope s.0) s.1
  pub listed : Lists s.0 s.1
