-- Instructions one after another, on all accounts and on only the touched ones.
use Rattle.std.proofs.Common.{◌≡◌, ℕ, zero, suc, ◌+◌, ◌-◌, ◌<◌, true, false, List, [], ◌∷◌, ◌++◌, length, get_or, drop}
use Rattle.std.proofs.Common.{refl, sym, ap, ◌∙◌, arith}
use Rattle.std.specs.List.{AllByRecursion}
use Rattle.std.proofs.lemmas.List.{drop_more, append_assoc, get_or-map}
use Rattle.std.proofs.lemmas.Bool.{or_parts, or_left, or_right}
use Rattle.reg_base.specs.declared.instruction.Instruction.{Instruction}
use Rattle.reg_base.specs.Footprint.{footprint, is_among}
use Rattle.reg_base.proofs.lemmas.Among.{all_among, not_contained}
use Rattle.reg_base.proofs.lemmas.Rising.{get_or-count_up}
use Rattle.reg_rules.specs.declared.reply.Reply.{Reply}
use Rattle.reg_rules.specs.declared.reply.LogRow.{LogRow}
use Rattle.reg_rules.specs.State.{State, Setting, account, numbers}
use Rattle.reg_rules.specs.Step.{step, row_of}
use Rattle.reg_rules.specs.Laws.{StepLaws}
use Rattle.reg_base.specs.Touches.{is_touched}
use Rattle.reg_book.specs.Fold.{state_after, rows_of, replies_in, rows_from}
use Rattle.reg_base.specs.Rising.{count_up}
use Rattle.reg_book.specs.Settled.{record_numbers}
use Rattle.reg_book.proofs.StepFacts.{reply-local, after-local}

-- and its record numbers count up
pub count-rows_of : (c : Setting) (s : State) (n : ℕ) (is : List Instruction)
    → record_numbers (rows_of c s n is) ≡ count_up n (length (rows_of c s n is))
count-rows_of c s n [] = refl
count-rows_of c s n (i ∷ is) = ap (λ ns. n ∷ ns) (count-rows_of c (step c s n i).0 (n + 1) is)

-- so the last of them is the base and their count
pub last-number : (rows : List LogRow) (row : LogRow) (base : ℕ)
    → record_numbers rows ≡ count_up (base + 1) (length rows) → 0 < length rows
    → row ≡ get_or rows (length rows - 1) row → row.number ≡ base + length rows
last-number rows row base counted some is =
    let at : (get_or rows (length rows - 1) row).number ≡ base + 1 + (length rows - 1) =
    sym (get_or-map (λ (r : LogRow). r.number) rows (length rows - 1) row 0 (omega (arith, some)))
    ∙ ap (λ ns. get_or ns (length rows - 1) 0) counted
    ∙ get_or-count_up (base + 1) (length rows) (length rows - 1) (omega (arith, some)) in
    let same : row.number ≡ (get_or rows (length rows - 1) row).number = ap (λ (r : LogRow). r.number) is in
    omega (arith, at, same, some)

-- states agree on the accounts that some instruction touches
abbrev pub AgreeOnTouched : Setting → List Instruction → State → State → Type 0
AgreeOnTouched c is s t = (a : ℕ) → is_touched c.directory is a ≡ true → account s a ≡ account t a

agree_first : (c : Setting) (i : Instruction) (is : List Instruction) (s t : State) → AgreeOnTouched c (i ∷ is) s t
    → AllByRecursion (λ a. account s a ≡ account t a) (footprint c.directory i.act)
agree_first c i is s t agree =
    all_among (λ a. account s a ≡ account t a) (footprint c.directory i.act)
    (λ a h. agree a (or_left (is_among (footprint c.directory i.act) a) (is_touched c.directory is a) h))

module _ (laws : StepLaws) where
  -- no account comes, goes or moves
  pub numbers-fold : (c : Setting) (s : State) (n : ℕ) (is : List Instruction)
      → numbers (state_after c s n is) ≡ numbers s
  numbers-fold c s n [] = refl
  numbers-fold c s n (i ∷ is) = numbers-fold c (step c s n i).0 (n + 1) is ∙ laws.numbers_stay c s n i

  -- an account that no instruction touches stays as it is
  pub others-fold : (c : Setting) (s : State) (n : ℕ) (is : List Instruction) (a : ℕ)
      → is_touched c.directory is a ≡ false → account (state_after c s n is) a ≡ account s a
  others-fold c s n [] a none = refl
  others-fold c s n (i ∷ is) a none =
      let apart = or_parts (is_among (footprint c.directory i.act) a) (is_touched c.directory is a) none in
      others-fold c (step c s n i).0 (n + 1) is a apart.1
      ∙ laws.others_stay c s n i a (not_contained (footprint c.directory i.act) a apart.0)

  agree_later : (c : Setting) (n : ℕ) (i : Instruction) (is : List Instruction) (s t : State)
      → AgreeOnTouched c (i ∷ is) s t → AgreeOnTouched c is (step c s n i).0 (step c t n i).0
  agree_later c n i is s t agree a h =
      after-local laws c s t n i (agree_first c i is s t agree) a
      (agree a (or_right (is_among (footprint c.directory i.act) a) (is_touched c.directory is a) h))

  -- then the log rows are the same
  pub rows-local : (c : Setting) (s t : State) (n : ℕ) (is : List Instruction) → AgreeOnTouched c is s t
      → rows_of c s n is ≡ rows_of c t n is
  rows-local c s t n [] agree = refl
  rows-local c s t n (i ∷ is) agree =
      ap (λ (r : Reply). row_of c n i r ∷ rows_of c (step c s n i).0 (n + 1) is)
      (reply-local laws c s t n i (agree_first c i is s t agree))
      ∙ ap (λ (rs : List LogRow). row_of c n i (step c t n i).1 ∷ rs)
      (rows-local c (step c s n i).0 (step c t n i).0 (n + 1) is (agree_later c n i is s t agree))

  -- and they agree afterwards wherever they did before
  pub fold-local : (c : Setting) (s t : State) (n : ℕ) (is : List Instruction) → AgreeOnTouched c is s t
      → (a : ℕ) → account s a ≡ account t a → account (state_after c s n is) a ≡ account (state_after c t n is) a
  fold-local c s t n [] agree a same = same
  fold-local c s t n (i ∷ is) agree a same =
      fold-local c (step c s n i).0 (step c t n i).0 (n + 1) is (agree_later c n i is s t agree) a
      (after-local laws c s t n i (agree_first c i is s t agree) a same)

  pub numbers_more : (c : Setting) (s t : State) (number : ℕ) (i : Instruction) (reply : Reply)
      → ◌≡◌ {A = State × Reply} (t, reply) (step c s number i) → numbers t ≡ numbers s
  numbers_more c s t number i reply stepped =
      ap (λ (r : State × Reply). numbers r.0) stepped ∙ laws.numbers_stay c s number i

-- log rows are made again of the instructions and the replies
pub rows-again : (c : Setting) (s : State) (n : ℕ) (is : List Instruction)
    → rows_from c.day n is (replies_in (rows_of c s n is)) ≡ rows_of c s n is
rows-again c s n [] = refl
rows-again c s n (i ∷ is) =
    ap (λ (rs : List LogRow). row_of c n i (step c s n i).1 ∷ rs) (rows-again c (step c s n i).0 (n + 1) is)

-- one reply more, in a loop
pub replies_more : (c : Setting) (s t : State) (is : List Instruction) (j last number : ℕ) (i : Instruction)
    (reply : Reply) (replies more all : List Reply)
    → j < length is → i ≡ get_or is j i → number ≡ last + 1
    → ◌≡◌ {A = State × Reply} (t, reply) (step c s number i)
    → more ≡ replies ++ reply ∷ []
    → replies ++ replies_in (rows_of c s (last + 1) (drop j is)) ≡ all
    → more ++ replies_in (rows_of c t (last + 1 + 1) (drop (j + 1) is)) ≡ all
replies_more c s t is j last number i reply replies more all lt at counted stepped grown so_far =
    let rest : drop j is ≡ i ∷ drop (j + 1) is = drop_more is j i lt ∙ ap (λ x. x ∷ drop (j + 1) is) (sym at) in
    let stepped_last : ◌≡◌ {A = State × Reply} (t, reply) (step c s (last + 1) i) =
    stepped ∙ ap (λ m. step c s m i) counted in
    ap (λ rs. rs ++ replies_in (rows_of c t (last + 1 + 1) (drop (j + 1) is))) grown
    ∙ append_assoc replies (reply ∷ []) (replies_in (rows_of c t (last + 1 + 1) (drop (j + 1) is)))
    ∙ ap (λ (r : State × Reply). replies ++ r.1 ∷ replies_in (rows_of c r.0 (last + 1 + 1) (drop (j + 1) is)))
    stepped_last
    ∙ ap (λ l. replies ++ replies_in (rows_of c s (last + 1) l)) (sym rest)
    ∙ so_far

pub state_more : (c : Setting) (s t : State) (is : List Instruction) (j last number : ℕ) (i : Instruction)
    (reply : Reply) (all : State)
    → j < length is → i ≡ get_or is j i → number ≡ last + 1
    → ◌≡◌ {A = State × Reply} (t, reply) (step c s number i)
    → state_after c s (last + 1) (drop j is) ≡ all
    → state_after c t (last + 1 + 1) (drop (j + 1) is) ≡ all
state_more c s t is j last number i reply all lt at counted stepped so_far =
    let rest : drop j is ≡ i ∷ drop (j + 1) is = drop_more is j i lt ∙ ap (λ x. x ∷ drop (j + 1) is) (sym at) in
    let stepped_last : ◌≡◌ {A = State × Reply} (t, reply) (step c s (last + 1) i) =
    stepped ∙ ap (λ m. step c s m i) counted in
    ap (λ (r : State × Reply). state_after c r.0 (last + 1 + 1) (drop (j + 1) is)) stepped_last
    ∙ ap (λ l. state_after c s (last + 1) l) (sym rest)
    ∙ so_far
