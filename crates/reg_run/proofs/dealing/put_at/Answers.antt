use Rattle.std.proofs.Common.{◌≡◌, ◌+◌, ◌<◌, ◌∷◌, [], ℕ, map, length, ap, sym, subst, refl, ◌∙◌, arith}
use Rattle.std.specs.Prelude.{All, OnOk}
use Rattle.std.proofs.Math.Seq.{map-set_same}
use Rattle.std.proofs.lemmas.List.{map-set}
use Rattle.reg_facts.proofs.lemmas.Lists.{slice_get-view}
use Rattle.reg_facts.specs.Counting.{times}
use Rattle.reg_deques.specs.Passes.{owner_id, owned}
use Rattle.reg_deques.specs.Yards.{each_owned}
use Rattle.reg_run.specs.Taking.{HasOnlyPut, all_put}
use Rattle.reg_run.proofs.Dealt.{put-one}
use Rattle.reg_run.proofs.dealing.put_at.Goals as goal

pub returns : goal.returns
returns g c =
    let items = c.args.owners.now.items in
    let k = c.args.k in
    let old = c.index_mut.result.now in
    let new = c.put.new.owner in
    let there = c.index_mut.ensures.value in
    let len = c.args.owners.now.ok.0 in
    let inside = c.requires.within in
    let within : k < length items = omega (arith, inside, len) in
    let at = slice_get-view owned items k old within there in
    let set = sym (map-set owned items k new) in
    let n = g.T.Numbered.number c.args.task in
    let both = put-one c.put.result n (map owned items) k (owned old) (owned new) at c.requires.fresh
    c.put.ensures.put in
    record {
      len = refl;
      same = map-set_same owner_id items k new old (c.put.ensures.same ∙ ap owner_id there);
      fresh = subst (λ vs. OnOk c.put.result (All HasOnlyPut vs)) set both.0;
      put = subst (λ vs. OnOk c.put.result ((p : ℕ) → times p (all_put vs)
          ≡ times p (all_put (each_owned items)) + times p (n ∷ []))) set both.1;
    }
