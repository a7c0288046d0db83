-- The steps that send and receive nothing follow the machine: an idle event changes nothing, and a mark changes its node's row.
-- Assumes nothing.
use mathlib.Core.Path.{◌≡◌, refl, sym, ap, ◌∙◌}
use mathlib.Core.Logic.{⊎_elim}
use mathlib.Core.Bool.{true, false, ◌&&◌, and-false}
use mathlib.Core.List.{List}
use Prim.Native.Nat.{ℕ, suc, ◌+◌, ◌*◌, ◌^◌, ◌<◌, ◌≤◌}
use native.Mathlib.Omega.{arith}
use lib.Dec.{eqb, ltb}
use lib.ListN.{get_or, set, length-set}
use lib.Seq.{get_or-set_same, get_or-set_other}
use borrow.Author.Tests.{eq-eqb, ne_eqb, lt-ltb}
use Rattle.order.specs.Order.{idle, mark}
use Rattle.machine.specs.Machine.{put, marked, step}
use Rattle.machine.specs.Short.{short, learn_columns}
use Rattle.machine.proofs.Small.{put_cases}
use Rattle.bits.specs.Bits.{bit}
use Rattle.bits.proofs.Laws.{bit_zero, bit_one}
use Rattle.room.specs.declared.Mode.{Mode}
use Rattle.room.specs.Slots.{slots}
use Rattle.room.specs.Room.{Barn, barn, count_at, column_at, Rows}
use Rattle.steps.specs.Steps.{Marked, Follows}
use Rattle.room.proofs.Places.{row_within}
use Rattle.steps.proofs.RowsFollow.{Shows, OnlyRow, rows_follow}
use Rattle.steps.proofs.Ready.{ready_nodes, ready_node}

-- an idle event changes nothing
pub idle_follows : (n i slot : ℕ) (counts words mail : List ℕ) (mode : Mode) → Follows mode n (idle i) slot counts words mail counts words mail 0
unfolding barn short step learn_columns slots
idle_follows n i slot counts words mail mode cut ready = (ready.holds, refl)

module _ {n i : ℕ} {b : Barn} {counts words counts' words' : List ℕ} (few : n ≤ 32) (inside : i < n) (rows : Rows n b counts words)
    (marks : Marked n i counts words counts' words') where
  -- the node's count of itself is in the slice
  own_place : n * i + i < 1024
  own_place = omega (arith, row_within n i few inside)

  -- a mark touches its node's row alone
  marked_only : OnlyRow n i counts words counts' words'
  marked_only =
      record {
        counts_size = rw marks.counts_are (length-set counts _ _);
        words_size = rw marks.words_are (length-set (set words i (2 ^ i)) _ _ ∙ length-set words i _);
        counts_else = λ p h. rw marks.counts_are (get_or-set_other counts (n * i + i) p _ 0 (λ e. ⊎_elim (λ l. omega arith) (λ l. omega arith) h));
        words_else =
            λ p d h. rw marks.words_are
            (get_or-set_other (set words i (2 ^ i)) (32 + n * i + i) p 0 0 (λ e. ⊎_elim (λ l. omega arith) (λ l. omega arith) h)
            ∙ get_or-set_other words i p _ 0 d);
      }

  -- of its flags its own alone is set, and its own column is empty
  marked_flags : get_or words' i 0 ≡ 2 ^ i
  marked_flags =
      rw marks.words_are
      (get_or-set_other (set words i (2 ^ i)) (32 + n * i + i) i 0 0 (λ e. omega arith) ∙ get_or-set_same words i _ 0 (omega arith))

  marked_column : column_at n words' i i ≡ 0
  marked_column =
      rw marks.words_are
      (get_or-set_same (set words i (2 ^ i)) (32 + n * i + i) 0 0 (omega (arith, own_place, length-set words i (2 ^ i))))

  -- and the row is then the machine's
  marked_shows : Shows n i (put i (suc (b.state.count i i)) (b.state.count i)) (put i true (λ k. false)) (put i (λ j. false) (b.known i))
      counts' words'
  marked_shows =
      record {
        counted =
            λ k h. put_cases (λ c. count_at n counts' i k ≡ c) i _ (b.state.count i) k
            (λ e. rw (marks.counts_are, ← e)
            (get_or-set_same counts (n * i + i) _ 0 (omega (arith, own_place)) ∙ ap suc (rows.counted i i inside inside)))
            (λ d. rw marks.counts_are (get_or-set_other counts (n * i + i) (n * i + k) _ 0 (λ e. d (omega arith)) ∙ rows.counted i k inside h));
        flagged =
            λ k. rw (marked_flags, bit_one i k)
            (put_cases (λ x. eqb i k ≡ (ltb k n && x)) i true (λ t. false) k (λ e. rw (← e, lt-ltb i n inside) (eq-eqb i i refl))
            (λ d. ne_eqb i k d ∙ sym (and-false (ltb k n))));
        noted =
            λ k j h. put_cases (λ f. bit (column_at n words' i k) j ≡ (ltb j n && f j)) i (λ t. false) (b.known i) k
            (λ e. rw (← e, marked_column) (bit_zero j ∙ sym (and-false (ltb j n))))
            (λ d. rw (
              marks.words_are,
              get_or-set_other (set words i (2 ^ i)) (32 + n * i + i) (32 + n * i + k) 0 0 (λ e. d (omega arith)),
              get_or-set_other words i (32 + n * i + k) (2 ^ i) 0 (λ e. omega arith),
            ) (rows.noted i k j inside h));
      }

-- a mark changes its node's row as the machine does
pub mark_follows : (n i : ℕ) (counts words counts' words' : List ℕ) → Marked n i counts words counts' words'
    → (mode : Mode) (slot : ℕ) (mail : List ℕ) → Follows mode n (mark i) slot counts words mail counts' words' mail 0
unfolding barn short step learn_columns marked slots
mark_follows n i counts words counts' words' marks mode slot mail cut ready =
    let few = (ready_nodes ready).1 in
    let inside = ready_node ready in
    let rows = ready.holds.rows in
    let letters = ready.holds.letters in (
      record {
        rows = rows_follow few inside rows (marked_only few inside rows marks) (marked_shows few inside rows marks) _ _;
        letters = record { mail_size = letters.mail_size; laid = letters.laid };
      },
      refl,
    )
