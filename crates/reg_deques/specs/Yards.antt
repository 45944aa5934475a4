-- What a contract says of a yard, its owners and its passes.
use Rattle.std.specs.Prelude.{◌≡◌, ◌≢◌, ℕ, List, [], ◌∷◌, map, set, vec_len, slice_get, Some, All, true}
use Rattle.reg_deques.specs.declared.views.DequeView.{DequeView}
use Rattle.reg_deques.specs.declared.views.TicketView.{TicketView}
use Rattle.reg_deques.specs.declared.owner.Owner.{Owner}
use Rattle.reg_deques.specs.declared.pass.Pass.{Pass}
use Rattle.reg_deques.specs.declared.yard.Yard.{Yard}
use Rattle.reg_deques.specs.Views.{view, table_of}
use Rattle.reg_deques.specs.Tickets.{empty_ticket_view}
use Rattle.reg_deques.specs.Steps.{Steals, Joins}
use Rattle.reg_deques.specs.Passes.{DequeId, owner_id, stealer_id, deque_pass_id, owned, ticket_view_of}

-- an owner who put and took nothing
abbrev pub IsNew : DequeView → Type 0
IsNew v = v ≡ view true [] [] [] (table_of v)

module _ {T : Type 0} {b : _} where
  -- how many workers there are, and which one has the pass, counted from 0
  abbrev pub worker_count : Yard T b → ℕ
  worker_count yard = vec_len yard.stealers

  abbrev pub worker_of : Pass T b → ℕ
  worker_of pass = pass.worker

  -- which deques they are, in the order of the workers
  abbrev pub deques : Yard T b → List DequeId
  deques yard = map stealer_id yard.stealers.items

  abbrev pub deques_of_pass : Pass T b → List DequeId
  deques_of_pass pass = map deque_pass_id pass.deque_passes.items

  abbrev pub deques_of_owners : List (Owner T b) → List DequeId
  deques_of_owners owners = map owner_id owners

  -- what a pass knows of each deque
  abbrev pub views : Pass T b → List TicketView
  views pass = map ticket_view_of pass.deque_passes.items

  -- what each owner put and took
  abbrev pub each_owned : List (Owner T b) → List DequeView
  each_owned owners = map owned owners

  abbrev pub IsPassOf : Yard T b → Pass T b → Type 0
  IsPassOf yard pass = deques_of_pass pass ≡ deques yard

  -- nothing is known of any deque
  abbrev pub IsBlank : Pass T b → Type 0
  IsBlank pass = All (λ p. ticket_view_of p ≡ empty_ticket_view) pass.deque_passes.items

-- of each deque, what is known after two passes were joined
abbrev pub AllJoin : List TicketView → List TicketView → List TicketView → Type 0
AllJoin [] [] [] = Unit {0}
AllJoin (v ∷ vs) (u ∷ us) (w ∷ ws) = Joins v u w × AllJoin vs us ws
AllJoin vs us ws = ⊥

-- a task is stolen from one deque; what is known of the others stays
pub record StealsAt (from : ℕ) (vs : List TicketView) (number : ℕ) (ws : List TicketView) : Type 0 where
  pub before : TicketView
  pub after : TicketView
  pub there : slice_get vs from ≡ Some before
  pub stolen : Steals before number after
  pub others : ws ≡ set vs from after

-- a task is stolen from one deque, which is not this worker's
abbrev pub StealsAny : ℕ → List TicketView → ℕ → List TicketView → Type 0
StealsAny worker vs number ws = (from : ℕ) × (from ≢ worker) × StealsAt from vs number ws
