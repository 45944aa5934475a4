-- Each kind of step keeps the rule of a deque.
use Rattle.std.proofs.Common.{◌≡◌, ◌≢◌, ℕ, zero, suc, ◌+◌, true, false, true≢false, List, [], ◌∷◌, ◌++◌, length, set}
use Rattle.std.proofs.Common.{drop, refl, sym, ap, ◌∙◌, subst, ⊎_elim, arith, append_assoc, length-append, Option, Some}
use Rattle.std.proofs.Common.{None, MatchOption}
use Rattle.std.specs.Bool.{⊤}
use Rattle.std.proofs.lemmas.List.{append-nil, drop-append-le, map-append, length-map, length-drop}
use mathlib.Core.Option.{some, some-injective, some-ne-none}
use lib.ListN.{get_elem?}
use Rattle.atomic_table.specs.Seated.{TableId}
use Rattle.crossbeam_deque.specs.Tasks.{Pushes, Takes, Forks}
use Rattle.crossbeam_deque.proofs.Lists.{at_set, at_snoc}
use Rattle.reg_facts.specs.Counting.{total, times, once}
use Rattle.reg_facts.proofs.lemmas.Times.{times-push, once-only}
use Rattle.reg_deques.specs.declared.numbered.Numbered.{Ghosts}
use Rattle.reg_deques.specs.declared.ticket.Ticketed.{Ticketed}
use Rattle.reg_deques.specs.declared.views.DequeView.{DequeView}
use Rattle.reg_deques.specs.Views.{view, fresh_view, blank, table_of, with_table, with_put, with_taken}
use Rattle.reg_deques.specs.Deques.{IsViewOf}
use Rattle.reg_deques.specs.Queues.{Queued, numbers_of, queued, queue_of, AreTicketed, IsDeque}
use Rattle.reg_deques.specs.Steps.{PutStep, TakesOwn, TakeStep, StealStep}
use Rattle.reg_deques.proofs.Counts.{total_set, total_has, total_snoc, once_none, once_more}
use Rattle.reg_deques.proofs.Counts.{once_past, drop_first}

abbrev taken : ℕ → DequeView → ℕ
taken p v = times p v.took

known_set : (owner : ℕ) (put : List ℕ) (views : List DequeView) (port : ℕ) (w : DequeView) → IsViewOf owner put port w
    → ((j : ℕ) (u : DequeView) → j ≢ port → get_elem? views j ≡ some u → IsViewOf owner put j u)
    → (j : ℕ) (u : DequeView) → get_elem? (set views port w) j ≡ some u → IsViewOf owner put j u
known_set owner put views port w mine others j u e =
    ⊎_elim (λ (x : (j ≡ port) × (w ≡ u)).
    subst (λ (y : ℕ × DequeView). IsViewOf owner put y.0 y.1) (λ i. (sym x.0 i, x.1 i)) mine)
    (λ (x : (j ≢ port) × (get_elem? views j ≡ some u)). others j u x.0 x.1) (at_set views port j w u e)

-- all views know the same table
abbrev Same : List TableId → List DequeView → Type 0
Same table views = (port : ℕ) (v : DequeView) → get_elem? views port ≡ some v → table_of v ≡ table

same_set : (table : List TableId) (views : List DequeView) (port : ℕ) (w : DequeView) → table_of w ≡ table
    → Same table views
    → Same table (set views port w)
same_set table views port w mine others j u e =
    ⊎_elim (λ (x : (j ≡ port) × (w ≡ u)). ap table_of (sym x.1) ∙ mine)
    (λ (x : (j ≢ port) × (get_elem? views j ≡ some u)). others j u x.1) (at_set views port j w u e)

same_snoc : (table : List TableId) (views : List DequeView) (w : DequeView) → table_of w ≡ table → Same table views
    → Same table (views ++ w ∷ [])
same_snoc table views w mine others j u e =
    ⊎_elim (λ x. others j u x) (λ (x : w ≡ u). ap table_of (sym x) ∙ mine) (at_snoc views w u j e)

same_one : (table : List TableId) (v : DequeView) → table_of v ≡ table → Same table (v ∷ [])
same_one table v mine zero u e = ap table_of (sym (some-injective v u e)) ∙ mine
same_one table v mine (suc port) u e = absurd (some-ne-none u (sym e))

ticketed_snoc : (table : List TableId) (k : ℕ) (ts : List Queued) (t : Queued) → AreTicketed table k ts
    → t.position ≡ suc (k + length ts) → t.table ∷ [] ≡ table → AreTicketed table k (ts ++ t ∷ [])
ticketed_snoc table k [] t h e same = (omega arith, same, tt)
ticketed_snoc table k (x ∷ ts) t h e same = (h.0, h.1, ticketed_snoc table (suc k) ts t h.2 (omega arith) same)

-- a view that has taken and seen nothing
blank_view : (owner : ℕ) (put : List ℕ) (table : List TableId) (port : ℕ) → IsViewOf owner put port (blank table)
blank_view owner put table port = record {
  owned = λ yes. absurd (true≢false (sym yes));
  seen = λ no. (put, refl);
  reached = λ no p some_p. absurd (omega arith);
}

owner_view : (table : List TableId) → IsViewOf 0 [] 0 (view true [] [] [] table)
owner_view table = record {
  owned = λ yes. (refl, refl);
  seen = λ no. absurd (true≢false no);
  reached = λ no. absurd (true≢false no);
}

first_known : (table : List TableId) (port : ℕ) (v : DequeView)
    → get_elem? (view true [] [] [] table ∷ []) port ≡ some v
    → IsViewOf 0 [] port v
first_known table zero v e = subst (IsViewOf 0 [] 0) (some-injective (view true [] [] [] table) v e) (owner_view table)
first_known table (suc port) v e = absurd (some-ne-none v (sym e))

pub begins : IsDeque [] (fresh_view ∷ [])
begins = record {
  owner = 0;
  put = [];
  k = 0;
  table = [];
  order = record { within = omega arith; holds = refl; took = λ p. sym (once_none p); known = first_known [] };
  same = same_one [] fresh_view refl;
  ticketed = tt;
  alone = λ e. refl;
}

single : (views : List DequeView) (port : ℕ) (v : DequeView) → length views ≡ 1 → get_elem? views port ≡ some v
    → (views ≡ v ∷ [])
    × (port ≡ 0)
single [] port v one at = absurd (omega arith)
single (x ∷ []) zero v one at = (ap (λ y. y ∷ []) (some-injective x v at), refl)
single (x ∷ []) (suc port) v one at = absurd (some-ne-none v (sym at))
single (x ∷ y ∷ xs) port v one at = absurd (omega arith)

none_left : (tasks : List Queued) (k : ℕ) → numbers_of tasks ≡ drop k [] → tasks ≡ []
none_left [] k e = refl
none_left (t ∷ ts) zero e = absurd cc
none_left (t ∷ ts) (suc k) e = absurd cc

-- the owner of a new deque is told the table of tickets
pub telling_keeps : (tasks : List Queued) (views : List DequeView) (port : ℕ) (table : TableId) → IsDeque tasks views
    → get_elem? views port ≡ some fresh_view
    → IsDeque tasks (set views port (with_table table fresh_view) ++ blank (table ∷ []) ∷ [])
telling_keeps tasks views port table h at =
    let mine = h.order.known port fresh_view at in
    let here = single views port fresh_view (h.alone (sym (h.same port fresh_view at))) at in
    let bare : h.put ≡ [] = sym (mine.owned refl).1 in
    let none : tasks ≡ [] = none_left tasks h.k (h.order.holds ∙ ap (drop h.k) bare) in
    let now : IsDeque [] (view true [] [] [] (table ∷ []) ∷ blank (table ∷ []) ∷ []) = record {
      owner = 0;
      put = [];
      k = 0;
      table = table ∷ [];
      order = record {
        within = omega arith;
        holds = refl;
        took = λ p. sym (once_none p);
        known = λ j u e. ⊎_elim (λ x. first_known (table ∷ []) j u x)
            (λ (x : blank (table ∷ []) ≡ u). subst (IsViewOf 0 [] j) x (blank_view 0 [] (table ∷ []) j))
            (at_snoc (view true [] [] [] (table ∷ []) ∷ []) (blank (table ∷ [])) u j e);
      };
      same = same_snoc (table ∷ []) (view true [] [] [] (table ∷ []) ∷ []) (blank (table ∷ [])) refl
          (same_one (table ∷ []) (view true [] [] [] (table ∷ [])) refl);
      ticketed = tt;
      alone = λ e. absurd cc;
    } in
    rw (none, here.0, here.1) now

-- the owner makes a pass
pub splitting_keeps : (tasks : List Queued) (views : List DequeView) (port : ℕ) (v : DequeView) (table : TableId)
    → IsDeque tasks views → get_elem? views port ≡ some v → table_of v ≡ table ∷ []
    → IsDeque tasks (set views port v ++ blank (table_of v) ∷ [])
splitting_keeps tasks views port v table h at told =
    let mine = h.order.known port v at in
    let told_is = h.same port v at in
    let new : DequeView = blank (table_of v) in
    let vs : List DequeView = set views port v in record {
      owner = h.owner;
      put = h.put;
      k = h.k;
      table = h.table;
      order = record {
        within = h.order.within;
        holds = h.order.holds;
        took = λ p. let t = total_snoc (taken p) vs new in let s = total_set (taken p) views port v v at in
            let c = h.order.took p in omega arith;
        known = λ j u e. ⊎_elim (λ x. known_set h.owner h.put views port v mine (λ i y _ z. h.order.known i y z) j u x)
            (λ (x : new ≡ u). subst (IsViewOf h.owner h.put j) x (blank_view h.owner h.put (table_of v) j))
            (at_snoc vs new u j e);
      };
      same = same_snoc h.table vs new told_is (same_set h.table views port v told_is h.same);
      ticketed = h.ticketed;
      alone = λ e. absurd (let a : table ∷ [] ≡ [] = sym told ∙ told_is ∙ e in cc);
    }

set_length : {X : Type 0} (xs : List X) (k : ℕ) (x : X) → length (set xs k x) ≡ length xs
set_length [] k x = refl
set_length (y ∷ xs) zero x = refl
set_length (y ∷ xs) (suc k) x = ap suc (set_length xs k x)

pub putting_keeps : (tasks : List Queued) (views : List DequeView) (port : ℕ) (v : DequeView) (t : Queued)
    → IsDeque tasks views
    → get_elem? views port ≡ some v → v.owns ≡ true
    → t.position ≡ suc (length v.put) → t.table ∷ [] ≡ table_of v
    → IsDeque (tasks ++ t ∷ []) (set views port (with_put (t.number ∷ []) v))
putting_keeps tasks views port v t h at owns position table =
    let number : ℕ = t.number in
    let put : List ℕ = h.put ++ number ∷ [] in
    let w : DequeView = with_put (number ∷ []) v in
    let mine = h.order.known port v at in
    let own = mine.owned owns in
    let ends : h.k + length tasks ≡ length h.put = (let a = length-map tasks (λ (q : Queued). q.number) in
    let b = ap length h.order.holds in let c = length-drop h.k h.put in let d = h.order.within in
    omega arith) in
    record {
      owner = h.owner;
      put = put;
      k = h.k;
      table = h.table;
      order = record {
        within = (let b = h.order.within in omega (arith, length-append h.put (number ∷ [])));
        holds = map-append (λ (q : Queued). q.number) tasks (t ∷ []) ∙ ap (λ l. l ++ number ∷ []) h.order.holds
            ∙ sym (drop-append-le h.k h.put (number ∷ []) h.order.within);
        took = λ p. let s = total_set (taken p) views port v w at in let c = h.order.took p in omega arith;
        known = known_set h.owner put views port w
            (record {
              owned = λ _. (own.0, ap (λ l. l ++ number ∷ []) own.1);
              seen = λ no. absurd (true≢false (sym owns ∙ no));
              reached = λ no. absurd (true≢false (sym owns ∙ no));
            })
            (λ j u other e. let theirs = h.order.known j u e in record {
              owned = λ yes. absurd (other ((theirs.owned yes).0 ∙ sym own.0));
              seen = λ no. let s = theirs.seen no in
                  (s.0 ++ number ∷ [], ap (λ l. l ++ number ∷ []) s.1 ∙ append_assoc u.seen s.0 (number ∷ []));
              reached = theirs.reached;
            });
      };
      same = same_set h.table views port w (h.same port v at) h.same;
      ticketed = ticketed_snoc h.table h.k tasks t h.ticketed (let a = ap length own.1 in
          omega arith) (table ∙ h.same port v at);
      alone = λ e. set_length views port w ∙ h.alone e;
    }

counts_more : (views : List DequeView) (port : ℕ) (v : DequeView) (k : ℕ) (seen : List ℕ)
    → get_elem? views port ≡ some v
    → ((p : ℕ) → total (taken p) views ≡ once k p)
    → (p : ℕ) → total (taken p) (set views port (with_taken (suc k) seen v)) ≡ once (suc k) p
counts_more views port v k seen at h p =
    let w : DequeView = with_taken (suc k) seen v in
    let t = total_set (taken p) views port v w at in
    let c = h p in
    let s = times-push p (suc k) v.took in
    let m = once_more k p in
    omega arith

-- no view has the position of the first task yet
new_position : (k : ℕ) (views : List DequeView) (port : ℕ) (v : DequeView) → get_elem? views port ≡ some v
    → ((p : ℕ) → total (taken p) views ≡ once k p) → times (suc k) v.took ≡ 0
new_position k views port v at h = let t = total_has (taken (suc k)) views port v at in let c = h (suc k) in
    let o = once_past k in omega arith

pub taking_keeps : (t : Queued) (rest : List Queued) (views : List DequeView) (port : ℕ) (v : DequeView)
    → IsDeque (t ∷ rest) views → get_elem? views port ≡ some v → v.owns ≡ true
    → (w : DequeView) × IsDeque rest (set views port w) × TakesOwn v t.number w
taking_keeps t rest views port v h at owns =
    let first = drop_first h.put h.k t.number (numbers_of rest) h.order.holds in
    let w : DequeView = with_taken (suc h.k) v.seen v in
    let own = (h.order.known port v at).owned owns in (
      w,
      record {
        owner = h.owner;
        put = h.put;
        k = suc h.k;
        table = h.table;
        order = record {
          within = first.0;
          holds = first.1;
          took = counts_more views port v h.k v.seen at h.order.took;
          known = known_set h.owner h.put views port w
              (record {
                owned = λ _. own;
                seen = λ no. absurd (true≢false (sym owns ∙ no));
                reached = λ no. absurd (true≢false (sym owns ∙ no));
              })
              (λ j u other e. h.order.known j u e);
        };
        same = same_set h.table views port w (h.same port v at) h.same;
        ticketed = h.ticketed.2;
        alone = λ e. set_length views port w ∙ h.alone e;
      },
      (h.k, new_position h.k views port v at h.order.took, refl, rw own.1 first.2),
    )

pub stealing_keeps : (t : Queued) (rest : List Queued) (views : List DequeView) (port : ℕ) (v : DequeView)
    → IsDeque (t ∷ rest) views → get_elem? views port ≡ some v → v.owns ≡ false
    → (w : DequeView) × IsDeque rest (set views port w) × StealStep v (t ∷ []) w
stealing_keeps t rest views port v h at owns =
    let first = drop_first h.put h.k t.number (numbers_of rest) h.order.holds in
    let w : DequeView = with_taken (suc h.k) h.put v in
    let counts = counts_more views port v h.k h.put at h.order.took in (
      w,
      record {
        owner = h.owner;
        put = h.put;
        k = suc h.k;
        table = h.table;
        order = record {
          within = first.0;
          holds = first.1;
          took = counts;
          known = known_set h.owner h.put views port w
              (record {
                owned = λ yes. absurd (true≢false (sym yes ∙ owns));
                seen = λ _. ([], sym (append-nil h.put));
                reached = λ _ p some_p.
                    let s = total_set (taken p) views port v w at in
                    let b = total_has (taken p) views port v at in
                    let c = counts p in
                    let near = once-only (suc h.k) p (omega arith) in
                    let deep = first.0 in omega arith;
              })
              (λ j u other e. h.order.known j u e);
        };
        same = same_set h.table views port w (h.same port v at) h.same;
        ticketed = h.ticketed.2;
        alone = λ e. set_length views port w ∙ h.alone e;
      },
      (
        h.k,
        new_position h.k views port v at h.order.took,
        refl,
        first.2,
        h.ticketed.0,
        h.ticketed.1
            ∙ sym (h.same port v at),
      ),
    )

module _ {T : Type 0} {b : Ghosts T} where
  abbrev Held : List (Ticketed T b) → List DequeView → Type 0
  Held items views = IsDeque (queue_of items) views

  pub tells_table : (port : ℕ) (v : DequeView) (table : TableId) → v ≡ fresh_view
      → Forks Held port v (with_table table v) (blank (table ∷ []))
  tells_table port v table is items views h at =
      rw is (telling_keeps (queue_of items) views port table h (at ∙ ap some is))

  pub splits_deque : (port : ℕ) (v : DequeView) (table : TableId) → table_of v ≡ table ∷ []
      → Forks Held port v v (blank (table_of v))
  splits_deque port v table told items views h at = splitting_keeps (queue_of items) views port v table h at told

  pub puts_task : (port : ℕ) (v : DequeView) (t : Ticketed T b) → v.owns ≡ true
      → length t.ticket.me.0.seen ≡ suc (length v.put) → t.ticket.table_id ∷ [] ≡ table_of v
      → Pushes Held port v (t ∷ []) (λ w. PutStep v (queue_of (t ∷ [])) w)
  puts_task port v t owns position table items views h at = (
    with_put (b.number t.task ∷ []) v,
    rw (map-append queued items (t ∷ []))
        (putting_keeps (queue_of items) views port v (queued t) h at owns position table),
    refl,
  )

  pub takes_task : (port : ℕ) (v : DequeView) → v.owns ≡ true → Takes Held port v 1 (λ xs w. TakeStep v (queue_of xs) w)
  takes_task port v owns [] items views any few h at = absurd (omega arith)
  takes_task port v owns (x ∷ []) items views any few h at =
      taking_keeps (queued x) (queue_of items) views port v h at owns
  takes_task port v owns (x ∷ y ∷ xs) items views any few h at = absurd (omega arith)

  pub steals_task : (port : ℕ) (v : DequeView) → v.owns ≡ false
      → Takes Held port v 1 (λ xs w. StealStep v (queue_of xs) w)
  steals_task port v owns [] items views any few h at = absurd (omega arith)
  steals_task port v owns (x ∷ []) items views any few h at =
      stealing_keeps (queued x) (queue_of items) views port v h at owns
  steals_task port v owns (x ∷ y ∷ xs) items views any few h at = absurd (omega arith)

  -- what the owner's view keeps, whether it took a task or not
  pub keeps_owner : (o : Option (Ticketed T b)) (v w : DequeView)
      → MatchOption o ((w ≡ v) × ⊤) (λ x. TakeStep v (queue_of (x ∷ [])) w) → (w.owns ≡ v.owns)
      × (table_of w ≡ table_of v) × (w.put ≡ v.put)
  keeps_owner (Some x) v w h = (ap (λ u. u.owns) h.2, ap table_of h.2, ap (λ u. u.put) h.2)
  keeps_owner None v w h = (ap (λ u. u.owns) h.0, ap table_of h.0, ap (λ u. u.put) h.0)
