-- What the columns hold after a run that is accepted, full or short: a bit is set exactly if that node has brought that very count, since
-- the room holds the machine's columns and those are exact whatever is spared.
-- Assumes nothing.
use mathlib.Core.Path.{◌≡◌, sym, ◌∙◌}
use mathlib.Core.Logic.{◌↔◌}
use mathlib.Core.Bool.{true, ◌&&◌, false≢true}
use mathlib.Core.List.{List}
use Prim.Native.Nat.{ℕ, ◌+◌, ◌*◌, ◌<◌}
use native.Mathlib.Decide.{dec_lt}
use native.Mathlib.Omega.{arith}
use lib.Dec.{ltb}
use lib.Seq.{get_or-take}
use borrow.Author.Tests.{lt-ltb, le-ltb}
use Rattle.order.specs.Order.{Event}
use Rattle.verdict.proofs.Accepted.{row_lawful}
use Rattle.machine.specs.Machine.{full}
use Rattle.machine.specs.History.{Brought}
use Rattle.bits.specs.Bits.{bit}
use Rattle.room.specs.declared.Mode.{Mode}
use Rattle.room.specs.Modes.{knowledge}
use Rattle.room.specs.Room.{barn, column_at}
use Rattle.room.proofs.Places.{row_within}
use Rattle.room.proofs.BothModes.{mode_noted}
use Rattle.report.specs.declared.Answer.{Answer}
use Rattle.demands.specs.Demands.{Completed}

module _ {mode : Mode} {log : List ℕ} {n : ℕ} {cut : List Event} {report counts' words' mail' report' : List ℕ} {r : Answer}
    (done : Completed mode log n cut report counts' words' mail' report' r) where
  -- After a run in either mode, bit j of node i's column for k is set exactly if i has received from node j a message that carried k's
  -- count as it now stands at i. What a message carried is what went along (flight_goes of crates/room).
  pub columns_brought : (i k j : ℕ) → i < n → k < n → (bit (column_at n words' i k) j ≡ true) ↔ ((j < n) × Brought (knowledge mode) i j k ((full cut).count i k) cut)
  columns_brought i k j one other = go (dec_lt j n)
    where
      -- the bit is the machine's, where there is such a node
      noted : bit (column_at n words' i k) j ≡ (ltb j n && (barn mode cut).known i k j)
      noted =
          let here = row_within n i (row_lawful done.accepted_is).few_nodes one in
          rw (← get_or-take 1056 words' (32 + n * i + k) 0 (omega arith)) (done.state_held.rows.noted i k j one other)

      go : Dec (j < n) → (bit (column_at n words' i k) j ≡ true) ↔ ((j < n) × Brought (knowledge mode) i j k ((full cut).count i k) cut)
      go (yes h) =
          let brought = mode_noted mode (row_lawful done.accepted_is).sound i j k in
          let same = rw (lt-ltb j n h) at noted in
          (λ b. (h, brought.0 (sym same ∙ b)), λ b. same ∙ brought.1 b.1)
      go (no h) = (λ b. absurd (false≢true (sym (rw (le-ltb j n (omega arith)) at noted) ∙ b)), λ b. absurd (h b.0))
