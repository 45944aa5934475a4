-- The bytes that one more call of `write` took move from the rest to the writer.
use Rattle.std.proofs.Common.{◌≡◌, ℕ, ◌-◌, List, ◌++◌, length, take, drop, sym, ap, ◌∙◌, append_assoc, take-append-drop}
use Rattle.std.proofs.lemmas.List.{take_rest}
use Rattle.std.proofs.KnownBytes.{Appends-trans}
use Rattle.reg_front.proofs.device.put_all.Goals as goal

-- the first n bytes of the rest join what is done
moved_front : (all done rest : List ℕ) (n : ℕ) → all ≡ done ++ rest
    → all ≡ (done ++ take n rest) ++ take (length rest - n) (drop n rest)
moved_front all done rest n e =
    e ∙ ap (λ l. done ++ l) (sym (take-append-drop n rest)) ∙ sym (append_assoc done (take n rest) (drop n rest))
    ∙ ap (λ l. (done ++ take n rest) ++ l) (sym (take_rest rest n))

pub loop-rest-preserved : goal.loop-rest-preserved
loop-rest-preserved g c =
    let (done, split, appended) = c.loop-rest.invariant.done in
    let rest = c.loop-rest.rest.now in
    let n = c.in_ok-count.count in
    let ensured = c.in_ok-count.ensures in
    record {
      good = ensured.good ∙ c.loop-rest.invariant.good;
      done = (
        done ++ take n rest,
        moved_front _ done rest n split,
        Appends-trans _ _ _ _ _ appended ensured.bytes,
      );
    }
