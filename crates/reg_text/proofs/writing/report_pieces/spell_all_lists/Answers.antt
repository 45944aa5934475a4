use Rattle.std.proofs.Common.{◌≤◌, length, sym, subst, List, Vec}
use Rattle.std.specs.Global.{Global}
use Rattle.std.specs.Prelude.{All}
use Rattle.reg_base.specs.declared.limits.TheConstants.{MOST_ACCOUNTS}
use Rattle.reg_account.specs.Account.{AccountValue, IsAccount}
use Rattle.reg_facts.specs.Lists.{joined_lists}
use Rattle.reg_text.proofs.ListBlocks.{run-fit, run-few}
use Rattle.reg_text.proofs.writing.report_pieces.spell_all_lists.Goals as goal

pub map_chunks-requires-clause-accepts : goal.map_chunks-requires-clause-accepts
map_chunks-requires-clause-accepts g c κs within start p chunk = (
  subst (λ (run : List (Vec AccountValue Global)). All IsAccount (joined_lists run)) (sym chunk.value)
      (run-fit start c.args.size c.args.lists.now c.requires.fit),
  subst (λ (run : List (Vec AccountValue Global)). length (joined_lists run) ≤ MOST_ACCOUNTS) (sym chunk.value)
      (run-few start c.args.size c.args.lists.now c.requires.few),
)
