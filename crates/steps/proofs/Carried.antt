-- What the events of a cut are counted to carry adds up to the machines' total: by the kinds of events, since only a send carries.
-- Assumes nothing.
use mathlib.Core.Path.{◌≡◌, refl, sym}
use mathlib.Core.List.{List, ◌∷◌}
use Prim.Native.Nat.{ℕ, ◌+◌}
use native.Mathlib.Nat.{add-zero}
use Rattle.order.specs.Order.{Event, idle, mark, send, receipt}
use Rattle.machine.specs.Answer.{more, totals}
use Rattle.room.specs.declared.Mode.{Mode}
use Rattle.room.specs.Modes.{says}
use Rattle.steps.specs.Steps.{carried_by}

-- an event adds to the total just what a step answers
pub carried_more : (mode : Mode) (n : ℕ) (cut : List Event) (e : Event)
    → (totals n (says mode) (e ∷ cut)).carried ≡ (totals n (says mode) cut).carried + carried_by mode n cut e
unfolding totals more
carried_more mode n cut (idle i) = sym (add-zero _)
carried_more mode n cut (mark i) = sym (add-zero _)
carried_more mode n cut (send i j m) = refl
carried_more mode n cut (receipt j m) = sym (add-zero _)
