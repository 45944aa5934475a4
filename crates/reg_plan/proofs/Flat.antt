-- Lists one after another in one list: what is kept of them, and what each is.
use Rattle.std.proofs.Common.{◌≡◌, ℕ, zero, suc, ◌+◌, ◌-◌, ◌<◌, ◌≤◌, List, [], ◌∷◌, ◌++◌, length, get_or, take, drop}
use Rattle.std.proofs.Common.{append_assoc, refl, sym, ap, subst, ◌∙◌, arith}
use Rattle.std.specs.List.{concat}
use Rattle.std.proofs.lemmas.List.{append-nil, length-append}
use Rattle.std.proofs.lemmas.List.Folds.{concat-append}
use Rattle.std.proofs.Math.Seq.{drop-append_seam, take-append_seam}
use Rattle.reg_plan.specs.Touched.{AreFlat, ends_from, parts_from, moved_by}

-- the parts are the lists
parts_after : (before : List ℕ) (lists : List (List ℕ))
    → parts_from (before ++ concat lists) (length before) (ends_from (length before) lists) ≡ lists
parts_after before [] = refl
parts_after before (xs ∷ lists) =
    let size : (length before + length xs) - length before ≡ length xs = omega arith in
    let head : take ((length before + length xs) - length before)
    (drop (length before) (before ++ (xs ++ concat lists))) ≡ xs
    = ap (λ n. take n (drop (length before) (before ++ (xs ++ concat lists)))) size
    ∙ ap (take (length xs)) (drop-append_seam before (xs ++ concat lists))
    ∙ take-append_seam xs (concat lists) in
    let tail : parts_from (before ++ (xs ++ concat lists)) (length before + length xs)
    (ends_from (length before + length xs) lists) ≡ lists
    = ap (λ n. parts_from (before ++ (xs ++ concat lists)) n (ends_from n lists)) (sym (length-append before xs))
    ∙ ap (λ flat. parts_from flat (length (before ++ xs)) (ends_from (length (before ++ xs)) lists))
    (sym (append_assoc before xs (concat lists)))
    ∙ parts_after (before ++ xs) lists in
    (λ i. head i ∷ tail i)

pub parts_are : (lists : List (List ℕ)) (flat ends : List ℕ) → AreFlat lists flat ends → parts_from flat 0 ends ≡ lists
parts_are lists flat ends are =
    ap (λ xs. parts_from xs 0 ends) are.flat_is ∙ ap (parts_from (concat lists) 0) are.ends_are ∙ parts_after [] lists

pub parts_flat : (lists : List (List ℕ)) (flat ends : List ℕ) → AreFlat lists flat ends
    → AreFlat (parts_from flat 0 ends) flat ends
parts_flat lists flat ends are = subst (λ ls. AreFlat ls flat ends) (sym (parts_are lists flat ends are)) are

-- one list more
ends_more : (start : ℕ) (lists : List (List ℕ)) (xs : List ℕ) → ends_from start (lists ++ xs ∷ [])
    ≡ ends_from start lists ++ (start + length (concat lists ++ xs)) ∷ []
ends_more start [] xs = refl
ends_more start (ys ∷ lists) xs =
    let size : (start + length ys) + length (concat lists ++ xs) ≡ start + length ((ys ++ concat lists) ++ xs)
    = omega (
      arith,
      length-append ys (concat lists),
      length-append (ys ++ concat lists) xs,
      length-append (concat lists) xs,
    ) in
    ap (λ ends. (start + length ys) ∷ ends) (ends_more (start + length ys) lists xs
    ∙ ap (λ n. ends_from (start + length ys) lists ++ n ∷ []) size)

pub flat_more : (lists : List (List ℕ)) (flat ends xs : List ℕ) → AreFlat lists flat ends
    → AreFlat (lists ++ xs ∷ []) (flat ++ xs) (ends ++ length (flat ++ xs) ∷ [])
flat_more lists flat ends xs are =
    let flat_now : flat ++ xs ≡ concat lists ++ xs = ap (λ ys. ys ++ xs) are.flat_is in
    let none : length (concat lists ++ xs) ≡ 0 + length (concat lists ++ xs) = omega arith in
    record {
      flat_is = flat_now ∙ sym (concat-append lists (xs ∷ []) ∙ ap (λ ys. concat lists ++ ys) (append-nil xs));
      ends_are = ap (λ es. es ++ length (flat ++ xs) ∷ []) are.ends_are
          ∙ ap (λ ys. ends_from 0 lists ++ length ys ∷ []) flat_now
          ∙ ap (λ n. ends_from 0 lists ++ n ∷ []) none ∙ sym (ends_more 0 lists xs);
    }

-- lists, and others behind them
ends_both : (start : ℕ) (front back : List (List ℕ)) → ends_from start (front ++ back) ≡ ends_from start front
    ++ ends_from (start + length (concat front)) back
ends_both start [] back = let none : start ≡ start + 0 = omega arith in ap (λ n. ends_from n back) none
ends_both start (xs ∷ front) back =
    let size : start + length xs + length (concat front) ≡ start + length (xs ++ concat front) =
    omega (arith, length-append xs (concat front)) in
    ap (λ ends. (start + length xs) ∷ ends) (ends_both (start + length xs) front back
    ∙ ap (λ n. ends_from (start + length xs) front ++ ends_from n back) size)

ends_moved : (later start : ℕ) (lists : List (List ℕ))
    → ends_from (later + start) lists ≡ moved_by later (ends_from start lists)
ends_moved later start [] = refl
ends_moved later start (xs ∷ lists) =
    let place : later + start + length xs ≡ later + (start + length xs) = omega arith in
    ap (λ n. n ∷ ends_from n lists) place
    ∙ ap (λ ends. (later + (start + length xs)) ∷ ends) (ends_moved later (start + length xs) lists)

pub flat_both : (front back : List (List ℕ)) (flat ends further places both all : List ℕ) → AreFlat front flat ends
    → AreFlat back further places
    → both ≡ flat ++ further → all ≡ ends ++ moved_by (length flat) places → AreFlat (front ++ back) both all
flat_both front back flat ends further places both all are behind flat_now ends_now =
    let size : length flat + 0 ≡ 0 + length (concat front) = omega (arith, ap length are.flat_is) in
    record {
      flat_is = flat_now ∙ (λ i. are.flat_is i ++ behind.flat_is i) ∙ sym (concat-append front back);
      ends_are = ends_now ∙ (λ i. are.ends_are i ++ moved_by (length flat) (behind.ends_are i))
          ∙ ap (λ es. ends_from 0 front ++ es) (sym (ends_moved (length flat) 0 back) ∙ ap (λ n. ends_from n back) size)
          ∙ sym (ends_both 0 front back);
    }

-- where a list lies
pub count_parts : (flat : List ℕ) (start : ℕ) (ends : List ℕ) → length (parts_from flat start ends) ≡ length ends
count_parts flat start [] = refl
count_parts flat start (end ∷ ends) = ap suc (count_parts flat end ends)

pub part_at : (flat : List ℕ) (start : ℕ) (ends : List ℕ) (k : ℕ) → k < length ends
    → take (get_or ends k 0 - get_or (start ∷ ends) k 0) (drop (get_or (start ∷ ends) k 0) flat)
    ≡ get_or (parts_from flat start ends) k []
part_at flat start [] k lt = absurd (omega arith)
part_at flat start (end ∷ ends) zero lt = refl
part_at flat start (end ∷ ends) (suc k) lt = part_at flat end ends k (omega (arith, lt))

begins_low : (start : ℕ) (lists : List (List ℕ)) (k : ℕ) → k < length (ends_from start lists)
    → get_or (start ∷ ends_from start lists) k 0 ≤ get_or (ends_from start lists) k 0
begins_low start [] k lt = absurd (omega arith)
begins_low start (xs ∷ lists) zero lt = omega arith
begins_low start (xs ∷ lists) (suc k) lt = begins_low (start + length xs) lists k (omega (arith, lt))

ends_high : (start : ℕ) (lists : List (List ℕ)) (k : ℕ) → k < length (ends_from start lists)
    → get_or (ends_from start lists) k 0 ≤ start + length (concat lists)
ends_high start [] k lt = absurd (omega arith)
ends_high start (xs ∷ lists) zero lt = omega (arith, length-append xs (concat lists))
ends_high start (xs ∷ lists) (suc k) lt = let more = ends_high (start + length xs) lists k (omega (arith, lt)) in
    omega (arith, more, length-append xs (concat lists))

pub begin_before : (lists : List (List ℕ)) (flat ends : List ℕ) (k : ℕ) → AreFlat lists flat ends → k < length ends
    → get_or (0 ∷ ends) k 0 ≤ get_or ends k 0
begin_before lists flat ends k are lt =
    subst (λ es. get_or (0 ∷ es) k 0 ≤ get_or es k 0) (sym are.ends_are)
    (begins_low 0 lists k (subst (λ es. k < length es) are.ends_are lt))

pub end_within : (lists : List (List ℕ)) (flat ends : List ℕ) (k : ℕ) → AreFlat lists flat ends → k < length ends
    → get_or ends k 0 ≤ length flat
end_within lists flat ends k are lt =
    let high = ends_high 0 lists k (subst (λ es. k < length es) are.ends_are lt) in
    let end : get_or ends k 0 ≡ get_or (ends_from 0 lists) k 0 = ap (λ es. get_or es k 0) are.ends_are in
    let size : length flat ≡ length (concat lists) = ap length are.flat_is in
    omega (arith, high, end, size)
