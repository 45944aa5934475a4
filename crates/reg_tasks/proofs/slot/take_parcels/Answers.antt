use Rattle.std.proofs.Common.{◌≡◌, ◌+◌, ◌++◌, ◌∷◌, eqb, [], drop, map, subst, sym, ap, ◌∙◌, Some, None, cond, rules}
use Rattle.std.specs.Prelude.{is_some}
use Rattle.std.specs.Option.{option_map}
use Rattle.reg_base.specs.Footprint.{is_among}
use Rattle.std.specs.List.{IsDistinct, list_all}
use Rattle.std.proofs.lemmas.List.{drop_more, map-append}
use Rattle.reg_tasks.specs.Parcels.{names_of}
use Rattle.reg_tasks.specs.Slots.{name_of, standing_in}
use Rattle.reg_tasks.proofs.lemmas.Slotting.{taken_more, there_more, distinct_rest, left_more}
use Rattle.reg_tasks.proofs.slot.take_parcels.Goals as goal

pub loop-account-preserved : goal.loop-account-preserved
loop-account-preserved g c =
    let k = c.loop-account.account-index in
    let st = standing_in c.args.openings.now c.loop-account.slots in
    let new = standing_in c.args.openings.now c.take_parcel.new.slots in
    let a = c.account-item.result in
    let rest = drop (k + 1) c.args.accounts.now in
    let at = drop_more c.args.accounts.now k a c.loop-account-test.true ∙ ap (λ b. b ∷ rest) (sym c.account-item.is) in
    let distinct = subst (IsDistinct eqb) at c.loop-account.invariant.others in
    let pushed : c.push_reserved.new.self.items ≡ c.loop-account.parcels.items ++ c.unwrap-parcel.result ∷ [] =
    search rules in
    let got : c.take_parcel.result ≡ Some c.unwrap-parcel.result = search rules in
    let taken : Some (name_of c.unwrap-parcel.result) ≡ st a =
    ap (option_map name_of) (sym got) ∙ c.take_parcel.ensures.value in
    let names : map Some (names_of c.push_reserved.new.self.items) ≡ map Some (names_of c.loop-account.parcels.items)
    ++ st a ∷ [] =
    ap (λ ps. map Some (names_of ps)) pushed
    ∙ ap (map Some) (map-append _ c.loop-account.parcels.items (c.unwrap-parcel.result ∷ []))
    ∙ map-append _ (names_of c.loop-account.parcels.items) (name_of c.unwrap-parcel.result ∷ [])
    ∙ ap (λ n. map Some (names_of c.loop-account.parcels.items) ++ n ∷ []) taken in
    record {
      size = search rules;
      others = distinct_rest a rest distinct;
      there = there_more st new a rest distinct c.take_parcel.ensures.left (ap (list_all (λ b. is_some (st b))) (sym at)
          ∙ c.loop-account.invariant.there);
      room = search rules;
      names = ap (λ ns. ns ++ map new rest) names
          ∙ taken_more st new a rest (map Some (names_of c.loop-account.parcels.items)) _ distinct
          c.take_parcel.ensures.left
          (ap (λ xs. map Some (names_of c.loop-account.parcels.items) ++ map st xs) (sym at)
          ∙ c.loop-account.invariant.names);
      left = λ b. left_more st new a rest b _ (c.take_parcel.ensures.left b)
          (ap (λ xs. cond (is_among xs b) None (st b)) (sym at) ∙ c.loop-account.invariant.left b);
    }
