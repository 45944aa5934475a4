use Rattle.std.proofs.Common.{◌≡◌, ◌<◌, ◌++◌, List, ℕ, false, length, map, take, drop, replicate, rules, sym, ap, subst}
use Rattle.std.proofs.Common.{◌∙◌}
use Rattle.std.specs.List.{AllByRecursion}
use Rattle.arrayvec.specs.ArrayVec.{ArrayVec}
use Rattle.reg_facts.proofs.lemmas.Lists.{written_whole}
use Rattle.reg_rules.specs.State.{State, numbers}
use Rattle.reg_book.specs.Book.{directory_of}
use Rattle.reg_book.specs.Marks.{picked, ranks_from}
use Rattle.reg_book.specs.Indexes.{AllStandAt, each_at, index_lists}
use Rattle.reg_book.proofs.Marks.{touched_marks, marks-touched, picked-touched}
use Rattle.reg_book.proofs.Ranks.{size-ranks, size-ranked, touched-ranked}
use Rattle.reg_book.proofs.touched.find_touched.Goals as goal

pub rank_all-requires : goal.rank_all-requires
rank_all-requires c =
    let s = c.args.accounts.now in
    let directory = directory_of s in
    let is = c.args.instructions.now in
    let made : c.in_ok-marks.marks.items ≡ replicate (length s) false = search rules in
    let size : c.in_ok-marks.marks.len ≡ length c.in_ok-marks.marks.items = search rules in
    let marked = marks-touched directory is s c.in_ok-indexes.indexes.items c.deref.result.now c.in_ok-marks.marks.items
    c.deref_mut.result.now c.mark_all.new.marks c.in_ok-marks.marks.len
    c.requires.rising c.in_ok-indexes.ensures made c.deref_mut.ensures.value c.deref.ensures.value
    c.mark_all.ensures.marks size c.mark_all.ensures.size in
    let ranks = c.deref-3.ensures.value ∙ c.in_ok-ranks.ensures
    ∙ ap (ranks_from 0) (c.deref-2.ensures.value ∙ marked) in
    subst (λ n. AllByRecursion (AllByRecursion (λ p. p < n)) (index_lists c.deref_mut-2.result.now))
    (sym (ap length ranks ∙ size-ranks directory is s))
    (subst (λ (vs : List (ArrayVec ℕ)). AllByRecursion (AllByRecursion (λ p. p < length (numbers s))) (index_lists vs))
    (sym c.deref_mut-2.ensures.value) c.in_ok-indexes.ensures.within)

pub returns-clause-accounts : goal.returns-clause-accounts
returns-clause-accounts c =
    let s = c.args.accounts.now in
    let made : c.in_ok-marks.marks.items ≡ replicate (length s) false = search rules in
    let size : c.in_ok-marks.marks.len ≡ length c.in_ok-marks.marks.items = search rules in
    let marked = marks-touched (directory_of s) c.args.instructions.now s c.in_ok-indexes.indexes.items
    c.deref.result.now c.in_ok-marks.marks.items c.deref_mut.result.now c.mark_all.new.marks c.in_ok-marks.marks.len
    c.requires.rising c.in_ok-indexes.ensures made c.deref_mut.ensures.value c.deref.ensures.value
    c.mark_all.ensures.marks size c.mark_all.ensures.size in
    c.in_ok-accounts.ensures ∙ ap (λ ms. picked ms s) (c.deref-4.ensures.value ∙ marked)
    ∙ picked-touched (directory_of s) c.args.instructions.now s

pub returns-clause-indexes : goal.returns-clause-indexes
returns-clause-indexes c =
    let s = c.args.accounts.now in
    let directory = directory_of s in
    let is = c.args.instructions.now in
    let vs = c.in_ok-indexes.indexes.items in
    let made : c.in_ok-marks.marks.items ≡ replicate (length s) false = search rules in
    let size : c.in_ok-marks.marks.len ≡ length c.in_ok-marks.marks.items = search rules in
    let marked = marks-touched directory is s vs c.deref.result.now c.in_ok-marks.marks.items c.deref_mut.result.now
    c.mark_all.new.marks c.in_ok-marks.marks.len
    c.requires.rising c.in_ok-indexes.ensures made c.deref_mut.ensures.value c.deref.ensures.value
    c.mark_all.ensures.marks size c.mark_all.ensures.size in
    let ranks = c.deref-3.ensures.value ∙ c.in_ok-ranks.ensures
    ∙ ap (ranks_from 0) (c.deref-2.ensures.value ∙ marked) in
    let kept = c.in_ok-accounts.ensures ∙ ap (λ ms. picked ms s) (c.deref-4.ensures.value ∙ marked) in
    let so_many : c.in_ok-indexes.indexes.len ≡ length vs = search rules in
    let written = written_whole vs c.rank_all.new.indexes c.in_ok-indexes.indexes.len so_many
    (size-ranked (each_at c.deref-3.result.now) c.deref_mut-2.result.now c.rank_all.new.indexes c.rank_all.ensures
    ∙ ap (λ (us : List (ArrayVec ℕ)). length us) c.deref_mut-2.ensures.value) in
    let lists = ap index_lists written ∙ c.rank_all.ensures
    ∙ ap (λ rs. map (each_at rs) (index_lists c.deref_mut-2.result.now)) ranks
    ∙ ap (λ (us : List (ArrayVec ℕ)). map (each_at (ranks_from 0 (touched_marks directory is s))) (index_lists us))
    c.deref_mut-2.ensures.value in
    subst (λ (t : State). AllStandAt directory (numbers t)
    (index_lists (take c.in_ok-indexes.indexes.len
    (c.rank_all.new.indexes ++ drop (length c.rank_all.new.indexes) vs))) is) (sym kept)
    (subst (λ ls. AllStandAt directory (numbers (picked (touched_marks directory is s) s)) ls is) (sym lists)
    (touched-ranked directory is s (index_lists vs) c.in_ok-indexes.ensures))
