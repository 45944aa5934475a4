use Rattle.std.proofs.Common.{◌≡◌}
use Rattle.std.proofs.lemmas.List.Elements.{recursion_from_All}
use Rattle.reg_base.specs.Footprint.{footprint}
use Rattle.reg_rules.specs.State.{numbers, account}
use Rattle.reg_rules.proofs.Constants.{constants-stay}
use Rattle.reg_rules.proofs.Limits.{stays-ready}
use Rattle.reg_rules.proofs.Locality.{refusal-local, step-local, other-stays, numbers-stay, refused-stays}
use Rattle.reg_rules.proofs.Numbers.{one-state}
use Rattle.reg_rules.proofs.laws.step_laws.Goals as goal

pub returns : goal.returns
returns c = record {
  refusal_local = λ c s t i agree.
      refusal-local c s t i (recursion_from_All (λ a. account s a ≡ account t a) (footprint c.directory i.act) agree);
  local = step-local;
  others_stay = other-stays;
  numbers_stay = numbers-stay;
  constants_stay = constants-stay;
  refused_changes_nothing = refused-stays;
  stays_ready = stays-ready c.changes_keep_limits.ensures;
  same_state = λ s t d same agree.
      one-state s t d same (recursion_from_All (λ a. account s a ≡ account t a) (numbers s) agree);
}
