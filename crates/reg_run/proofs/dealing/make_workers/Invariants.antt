use Rattle.std.proofs.Common.{◌≡◌, ◌+◌, ◌++◌, [], map, length, drop, vec_len}
use Rattle.std.specs.Prelude.{All}
use Rattle.std.specs.List.{range_with_len}
use Rattle.reg_claim.specs.Seats.{known, seat_table}
use Rattle.reg_deques.specs.Passes.{owned}
use Rattle.reg_deques.specs.Yards.{deques_of_owners, deques_of_pass, each_owned, worker_of, IsBlank}
use Rattle.reg_run.proofs.dealing.make_workers.Given as goal

-- each worker that was made took one part of the stake, its own deque and its own pass
abbrev pub invariant-loop-pass : goal.invariant-loop-pass
invariant-loop-pass g l = record {
  can_go : (goal.iterator-loop-pass g).can_next l.pass-iterator;
  ends : (goal.iterator-loop-pass g).is_finite l.pass-iterator;
  table : seat_table l.rest ≡ g.S.Sharing.table;
  stake : (known l.rest).stake + vec_len l.workers ≡ 16;
  idle : (known l.rest).finished ≡ [];
  unseen : (known l.rest).seen ≡ (known l.fn.seat).seen;
  whole : vec_len l.workers + length l.pass-iterator.rest.items ≡ vec_len l.fn.passes;
  as_many : length l.owners.rest.items ≡ length l.pass-iterator.rest.items;
  deques : All (λ p. deques_of_pass p ≡ g.S.Sharing.deques) l.pass-iterator.rest.items;
  owners : deques_of_owners l.owners.rest.items ≡ drop (vec_len l.workers) g.S.Sharing.deques;
  left : map worker_of l.pass-iterator.rest.items
      ≡ range_with_len (vec_len l.workers) (length l.pass-iterator.rest.items);
  numbers : map (λ w. worker_of w.taker.pass) l.workers.items ++ map worker_of l.pass-iterator.rest.items
      ≡ map worker_of l.fn.passes.items;
  owned : map (λ w. owned w.taker.owner) l.workers.items ++ each_owned l.owners.rest.items
      ≡ each_owned l.fn.owners.items;
  blank : All (λ w. IsBlank w.taker.pass) l.workers.items;
  blanks : All IsBlank l.pass-iterator.rest.items;
}
