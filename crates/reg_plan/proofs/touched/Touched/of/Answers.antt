use Rattle.std.proofs.Common.{◌≡◌, ◌+◌, ◌++◌, ◌∷◌, [], length, take, sym, ap, subst, ◌∙◌, rules}
use Rattle.std.proofs.lemmas.List.{take_more, map-append, take_all}
use Rattle.reg_base.specs.declared.instruction.Instruction.{Instruction}
use Rattle.reg_base.specs.Footprint.{footprint}
use Rattle.reg_base.specs.Footprints.{footprints}
use Rattle.reg_plan.specs.Touched.{AreFlat, AreFew}
use Rattle.reg_plan.proofs.Fewness.{EachFew, few_more, few_at}
use Rattle.reg_plan.proofs.Flat.{flat_more, parts_are, parts_flat}
use Rattle.reg_plan.proofs.touched.Touched.of.Goals as goal

pub loop-instruction-preserved : goal.loop-instruction-preserved
loop-instruction-preserved c =
    let directory = c.args.directory.now in
    let is = c.args.instructions.now in
    let k = c.loop-instruction.instruction-index in
    let xs = c.as_slice.result.now in
    let own : xs ≡ footprint directory c.instruction-item.result.act =
    c.as_slice.ensures.value ∙ c.touches-footprint.ensures in
    let lists : footprints directory (take (k + 1) is) ≡ footprints directory (take k is) ++ xs ∷ []
    = ap (footprints directory) (take_more is k c.instruction-item.result c.loop-instruction-test.true
    ∙ ap (λ (i : Instruction). take k is ++ i ∷ []) (sym c.instruction-item.is))
    ∙ map-append _ (take k is) (c.instruction-item.result ∷ [])
    ∙ ap (λ ys. footprints directory (take k is) ++ ys ∷ []) (sym own) in
    let accounts : c.extend_from_slice.new.self.items ≡ c.loop-instruction.accounts.items ++ xs = search rules in
    let count : c.len.result ≡ length c.extend_from_slice.new.self.items = search rules in
    let ends : c.push.new.self.items ≡ c.loop-instruction.ends.items ++ c.len.result ∷ [] = search rules in
    let more = flat_more (footprints directory (take k is)) c.loop-instruction.accounts.items
    c.loop-instruction.ends.items xs c.loop-instruction.invariant.flat in
    record {
      flat = subst (λ ls. AreFlat ls c.extend_from_slice.new.self.items c.push.new.self.items) (sym lists)
          (subst (λ ys. AreFlat (footprints directory (take k is) ++ xs ∷ []) ys c.push.new.self.items) (sym accounts)
          (subst (λ es. AreFlat (footprints directory (take k is) ++ xs ∷ []) (c.loop-instruction.accounts.items ++ xs)
          es)
          (sym (ends ∙ ap (λ n. c.loop-instruction.ends.items ++ n ∷ []) (count ∙ ap length accounts))) more));
      few = subst EachFew (sym lists)
          (few_more (footprints directory (take k is)) xs c.loop-instruction.invariant.few c.as_slice.ensures.few);
    }

pub invariant_of-result : goal.invariant_of-result
invariant_of-result c = parts_flat _ c.loop-instruction.accounts.items c.loop-instruction.ends.items
    c.loop-instruction.invariant.flat

pub returns-clause-value : goal.returns-clause-value
returns-clause-value c =
    parts_are _ c.loop-instruction.accounts.items c.loop-instruction.ends.items c.loop-instruction.invariant.flat
    ∙ ap (footprints c.args.directory.now)
    (take_all c.loop-instruction.instruction-index c.args.instructions.now c.loop-instruction-test.false)

pub returns-clause-few : goal.returns-clause-few
returns-clause-few c =
    let all = subst (λ is. EachFew (footprints c.args.directory.now is))
    (take_all c.loop-instruction.instruction-index c.args.instructions.now c.loop-instruction-test.false)
    c.loop-instruction.invariant.few in
    subst AreFew (sym (returns-clause-value c)) (few_at _ all)
