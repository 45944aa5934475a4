-- Lists of accounts of which each is a region.
use Rattle.std.proofs.Common.{◌≡◌, ℕ, zero, suc, ◌+◌, Bool, IsTrue, List, [], ◌∷◌, length, take, drop, refl, sym, subst}
use Rattle.std.proofs.Common.{arith, Global, Vec}
use Rattle.std.proofs.lemmas.List.{drop-drop, length-append}
use Rattle.reg_base.specs.Batch.{BatchValue}
use Rattle.reg_base.proofs.lemmas.Chunks.{ChunksOf}
use Rattle.reg_account.specs.Account.{AccountValue}
use Rattle.reg_rules.specs.State.{Setting}
use Rattle.reg_advice.specs.declared.dealing.Deal.{Deal}
use Rattle.reg_regions.specs.Homes.{AreAllHome, AreFirstHome, AreHomeIfSo}
use Rattle.reg_regions.specs.Lists.{joined_lists, sizes_of}

module _ (c : Setting) (b : BatchValue) where
  -- a run of lists, and those behind it
  home-both : (size : ℕ) (lists : List (Vec AccountValue Global)) (deals : List Deal)
      → AreFirstHome c b (take size lists) deals → AreFirstHome c b (drop size lists) (drop size deals)
      → AreFirstHome c b lists deals
  home-both size [] deals run rest = tt
  home-both zero (l ∷ lists) deals run rest = rest
  home-both (suc size) (l ∷ lists) [] run rest = absurd run
  home-both (suc size) (l ∷ lists) (d ∷ deals) run rest = (run.0, home-both size lists deals run.1 rest)

  -- if the lists behind this index are home, all are; and these are in the runs that are left
  pub record AreHomeSoFar (lists : List (Vec AccountValue Global)) (deals : List Deal) (size : ℕ) (runs : List Bool)
      : Type 0 where
    pub first : ℕ
    pub others : List (Vec AccountValue Global)
    pub left : ChunksOf (AreHomeIfSo c b deals) first others size runs
    pub all : AreFirstHome c b others (drop first deals) → AreFirstHome c b lists deals

  pub home-next : (lists : List (Vec AccountValue Global)) (deals : List Deal) (size : ℕ) (so : Bool) (runs : List Bool)
      → IsTrue so → AreHomeSoFar lists deals size (so ∷ runs) → AreHomeSoFar lists deals size runs
  unfolding ChunksOf
  home-next lists deals size so runs truth s = record {
    first = s.first + size;
    others = drop size s.others;
    left = s.left.1;
    all = λ rest. s.all (home-both size s.others (drop s.first deals) (s.left.0 truth)
        (subst (AreFirstHome c b (drop size s.others)) (sym (drop-drop size s.first deals)) rest));
  }

  pub home-end : (lists : List (Vec AccountValue Global)) (deals : List Deal) (size : ℕ) (runs : List Bool)
      → length runs ≡ 0 → length lists ≡ length deals → AreHomeSoFar lists deals size runs → AreAllHome c b lists deals
  unfolding ChunksOf
  home-end lists deals size (so ∷ runs) none same s = absurd (omega (arith, none))
  home-end lists deals size [] none same s =
      each lists deals same (s.all
      (subst (λ (ls : List (Vec AccountValue Global)). AreFirstHome c b ls (drop s.first deals)) (sym s.left) tt))
    where
      each : (ls : List (Vec AccountValue Global)) (ds : List Deal) → length ls ≡ length ds → AreFirstHome c b ls ds
          → AreAllHome c b ls ds
      each [] [] e home = tt
      each [] (d ∷ ds) e home = absurd (omega (arith, e))
      each (l ∷ ls) [] e home = absurd home
      each (l ∷ ls) (d ∷ ds) e home = (home.0, each ls ds (omega (arith, e)) home.1)

-- lists of the same sizes have as many together
pub same-size : {T : Type 0} (ls ms : List (Vec T Global)) → sizes_of ls ≡ sizes_of ms
    → length (joined_lists ls) ≡ length (joined_lists ms)
same-size [] [] same = refl
same-size [] (m ∷ ms) same = absurd cc
same-size (l ∷ ls) [] same = absurd cc
same-size (l ∷ ls) (m ∷ ms) same =
    let here : length l.items ≡ length m.items = cc in
    let rest : sizes_of ls ≡ sizes_of ms = cc in
    omega (
      arith,
      length-append l.items (joined_lists ls),
      length-append m.items (joined_lists ms),
      here,
      same-size ls ms rest,
    )
