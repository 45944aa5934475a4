use Rattle.std.proofs.Common.{◌≡◌, ◌+◌, rules, ap, sym, subst, ◌∙◌, length}
use Rattle.reg_base.specs.Batch.{BatchValue, IsBatch}
use Rattle.reg_base.specs.Directory.{DirectoryValue}
use Rattle.std.specs.List.{AllByRecursion}
use Rattle.reg_book.specs.Book.{BookValue, directory_of}
use Rattle.reg_tasks.specs.Gathering.{IsCommittable, are_counted}
use Rattle.reg_tasks.proofs.Whole.{whole_committable, whole_of, not_whole_counted, not_whole_rising}
use Rattle.reg_tasks.proofs.gather.are_whole.Goals as goal

pub returns-then-not-are_counted : goal.returns-then-not-are_counted
returns-then-not-are_counted g c =
    let first : c.base-2.result + 1 ≡ c.args.context.now.batch.now.base + 1 = search rules in (
      λ t. absurd cc,
      λ w. absurd (not_whole_counted c.args.context.now.book.now c.args.context.now.batch.now c.args.rows.now
          c.args.accounts.now (subst IsBatch c.batch-batch.ensures c.base-2.ensures.room)
          (c.base-2.result + 1) first (sym c.are_counted.ensures ∙ c.if-not-are_counted.true) w),
    )

pub returns-then-not-are_rising : goal.returns-then-not-are_rising
returns-then-not-are_rising g c = (
  λ t. absurd cc,
  λ w. absurd (not_whole_rising c.args.context.now.book.now c.args.context.now.batch.now c.args.rows.now
      c.args.accounts.now (subst IsBatch c.batch-batch.ensures c.base-2.ensures.room)
      (sym c.are_rising.ensures ∙ c.if-not-are_rising.true) w),
)

pub returns : goal.returns
returns g c =
    let book : BookValue = c.args.context.now.book.now in
    let batch : BatchValue = c.args.context.now.batch.now in
    let fits = subst IsBatch c.batch-batch.ensures c.base-2.ensures.room in
    let first : c.base-2.result + 1 ≡ batch.base + 1 = search rules in
    let next_is : c.base.result + c.from.result + 1 ≡ batch.base + length batch.instructions + 1 = search rules in
    let listing : c.directory.result.now ≡ directory_of book.accounts =
    c.directory.ensures ∙ ap (λ (b : BookValue). directory_of b.accounts) c.book-book.ensures in
    let all = λ (d : DirectoryValue).
    AllByRecursion (IsCommittable d (c.base.result + c.from.result + 1)) c.args.accounts.now in (
      λ t. whole_of book batch c.args.rows.now c.args.accounts.now fits (c.base.result + c.from.result + 1) next_is
          (search rules)
          (ap (λ n. are_counted n c.args.rows.now) (sym first) ∙ sym c.are_counted.ensures ∙ c.if-not-are_counted.false)
          (sym c.are_rising.ensures ∙ c.if-not-are_rising.false)
          (subst all listing (c.are_committable.ensures.0 t)),
      λ w. c.are_committable.ensures.1
          (subst all (sym listing) (whole_committable book batch c.args.rows.now c.args.accounts.now fits
          (c.base.result + c.from.result + 1) next_is w)),
    )
