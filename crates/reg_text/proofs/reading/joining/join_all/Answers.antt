use Rattle.std.proofs.Common.{sym, subst, Option, ◌∷◌, ◌++◌, ◌∙◌, ap}
use Rattle.reg_cuts.specs.Parts.{text_of_parts}
use Rattle.reg_text.specs.declared.reading.part.Part.{Part}
use Rattle.reg_text.proofs.Names.{draft_of, read_behind}
use Rattle.reg_text.specs.PartsRead.{ReadsEach}
use Rattle.reg_text.proofs.PartFacts.{part-joined, all-joined, so-far-fits}
use Rattle.reg_text.proofs.reading.joining.join_all.Goals as goal

pub join_part-requires : goal.join_part-requires
join_part-requires c = let j = c.loop-part.invariant.joined in
    (so-far-fits (draft_of c.args.start) (read_behind c.args.start.heading c.loop-part.joined) j.text j.so_far).fits

pub loop-part-preserved : goal.loop-part-preserved
loop-part-preserved c =
    let h = draft_of c.args.start in
    let i = c.loop-part.invariant in
    let p = c.in_ok-part.field-0 in
    let items = c.in-Some.ensures.steps.0 in
    let left = items ∙ ap (λ (o : Option Part). o ∷ c.next.new.self.rest.items) c.in_ok-part.was in
    let each = subst (ReadsEach h c.loop-part.rest.now) left i.each in
    let next = part-joined h (read_behind c.args.start.heading c.loop-part.joined) (read_behind c.args.start.heading
    c.in_ok-joined.joined)
    (c.args.head.now ++ text_of_parts c.args.parts.now) c.loop-part.rest.now p c.next.new.self.rest.items
    c.each_cut_splits.ensures c.cuts_go_on.ensures c.requires.heading i.joined each c.in_ok-joined.ensures.may
    c.in_ok-joined.ensures.joins in
    record {
      next = record {};
      ends = record {};
      each = rw c.behind_first-rest.ensures next.0;
      joined = rw c.behind_first-rest.ensures next.1;
    }

pub returns : goal.returns
returns c =
    let i = c.loop-part.invariant in
    all-joined (draft_of c.args.start) (read_behind c.args.start.heading c.loop-part.joined)
    (c.args.head.now ++ text_of_parts c.args.parts.now) c.loop-part.rest.now c.loop-part.part-iterator.rest.items
    i.joined i.each (sym c.loop-part.part-iterator.rest.ok.0 ∙ c.in-None.ensures.steps.0)
