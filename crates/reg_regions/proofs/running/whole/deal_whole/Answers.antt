use Rattle.std.proofs.Common.{◌≡◌, ℕ, Vec, Global, length, sym, ap, subst, ◌∙◌}
use Rattle.arrayvec.specs.ArrayVec.{ArrayVec}
use Rattle.reg_base.specs.Rising.{count_up}
use Rattle.reg_rules.specs.State.{numbers}
use Rattle.reg_base.specs.Directory.{DirectoryValue}
use Rattle.reg_book.specs.Indexes.{AllStandAt, index_lists}
use Rattle.reg_regions.specs.Homes.{AreHome}
use Rattle.reg_regions.proofs.Placing.{home-whole}
use Rattle.reg_regions.proofs.running.whole.deal_whole.Goals as goal

pub returns-clause-home : goal.returns-clause-home
returns-clause-home c =
    let setting = c.args.setting.now in
    let batch = c.args.batch.now in
    let ns = numbers c.args.accounts.now in
    let indexes = c.in_ok-indexes.indexes in
    let deal = c.in_ok-deal.deal in
    let found : AllStandAt setting.directory ns (index_lists indexes.items) batch.instructions =
    subst (AllStandAt setting.directory ns (index_lists indexes.items)) c.instructions.ensures
    (subst (λ (d : DirectoryValue). AllStandAt d ns (index_lists indexes.items) c.instructions.result.now)
    (sym c.requires.directory) c.in_ok-indexes.ensures) in
    let placed : deal.places.items ≡ count_up 1 (length batch.instructions) =
    c.in_ok-deal.ensures.places ∙ ap (count_up 1) c.len.ensures.value in
    subst (λ ps. AreHome setting batch ns ps (index_lists deal.indexes.items)) (sym placed)
    (subst (λ js. AreHome setting batch ns (count_up 1 (length batch.instructions)) (index_lists js))
    (sym (ap (λ (v : Vec (ArrayVec ℕ) Global). v.items) c.in_ok-deal.ensures.indexes))
    (home-whole setting batch ns (index_lists indexes.items) found))
