-- A text is read as a refusal exactly if it is its name.
use Rattle.std.proofs.Common.{◌≡◌, ℕ, Bool, true, false, cond, List, [], ◌∷◌, Option, Some, None}
use Rattle.std.proofs.Common.{refl, sym, ap, ◌∙◌, find}
use Rattle.std.proofs.lemmas.Slice.Eq.{bytes_eq-Decides}
use Rattle.std.specs.Prelude.{ok_or}
use Rattle.std.specs.Str.{bytes_eq}
use Rattle.reg_base.specs.declared.refusals.Refusal.{Refusal}
use Rattle.reg_base.specs.declared.refusals.Refusal.TheVariants as check
use Rattle.reg_base.specs.declared.words.UnknownWord.{UnknownWord}
use Rattle.reg_base.specs.Refusals.{refusal_name, checks}
use Rattle.reg_base.specs.Words.{ReadsWord}

by_test : (text : List ℕ) (x y : Refusal) (t : Bool) (rest : Option Refusal) → (t ≡ true → refusal_name y ≡ text)
    → (rest ≡ Some x → text ≡ refusal_name x) → cond t (Some y) rest ≡ Some x → text ≡ refusal_name x
by_test text x y true rest same more e = let y-is-x : y ≡ x = cc in sym (same refl) ∙ ap refusal_name y-is-x
by_test text x y false rest same more e = more e

-- what a search finds has the name
found : (text : List ℕ) (xs : List Refusal) (x : Refusal) → find (λ c. bytes_eq (refusal_name c) text) xs ≡ Some x
    → text ≡ refusal_name x
found text [] x e = absurd cc
found text (y ∷ ys) x e =
    by_test text x y (bytes_eq (refusal_name y) text) (find (λ c. bytes_eq (refusal_name c) text) ys)
    (bytes_eq-Decides (refusal_name y) text).0 (found text ys x) e

-- each check is found by its name
own : (x : Refusal) → find (λ c. bytes_eq (refusal_name c) (refusal_name x)) checks ≡ Some x
own check.UnknownAccount = refl
own x = refl

named : (text : List ℕ) (o : Option Refusal) (x : Refusal) → o ≡ find (λ c. bytes_eq (refusal_name c) text) checks
    → text ≡ refusal_name x → o ≡ Some x
named text o x e same = e ∙ ap (λ (t : List ℕ). find (λ c. bytes_eq (refusal_name c) t) checks) same ∙ own x

pub reads : (text : List ℕ) (o : Option Refusal) (fault : UnknownWord)
    → o ≡ find (λ c. bytes_eq (refusal_name c) text) checks → ReadsWord refusal_name text (ok_or o fault)
reads text None fault e x = (λ ok. absurd cc, λ same. let some = named text None x e same in absurd cc)
reads text (Some y) fault e x = (
  λ ok. let y-is-x : y ≡ x = cc in found text checks y (sym e) ∙ ap refusal_name y-is-x,
  λ same. let some = named text (Some y) x e same in cc,
)
