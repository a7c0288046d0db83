-- The line of a mark whose group stands in a report is the line of what was answered of it: a group that keeps the rules is read,
-- and each part of it is read back.
-- Assumes nothing.
use mathlib.Core.Path.{◌≡◌, refl, ◌∙◌}
use mathlib.Core.List.{List, [], ◌∷◌, ◌++◌}
use Prim.Native.Nat.{ℕ, zero, suc, ◌+◌, ◌≤◌, ◌<◌}
use native.Mathlib.Omega.{arith}
use lib.ListN.{length, get_or, length-append}
use Rattle.std.specs.Prelude.{Some, Ok}
use Rattle.machine.specs.Answer.{Answer}
use Rattle.groups.specs.Groups.{laid, group_of, groups_of}
use Rattle.groups.proofs.GroupsSame.{groups_more}
use Rattle.reading.specs.Reading.{answer_at}
use Rattle.reading.proofs.GroupRead.{amid, group_node, group_stamp, group_nearest, groups_amid, groups_clear}
use Rattle.shape.specs.Fits.{Fits}
use Rattle.shape.proofs.GroupWritten.{group_past, group_fits_lem}
use Rattle.text.specs.Text.{stamp_text, stamp_part, line_of, written_line, line_at}
use Rattle.text.proofs.Answered.{line_there}

-- only the counts of the nodes below n are printed
stamp_agrees : (n : ℕ) (f g : ℕ → ℕ) → ((k : ℕ) → k < n → f k ≡ g k) → stamp_text n f ≡ stamp_text n g
unfolding stamp_text
stamp_agrees zero f g h = refl
stamp_agrees (suc n) f g h = rw (stamp_agrees n f g (λ k l. h k (omega arith)), h n (omega arith))

module _ (n : ℕ) (few : n ≤ 32) {a : Answer} (fits : Fits a) where
  module _ (before behind : List ℕ) (next : ¬ (get_or behind 0 0 ≡ 0x22)) where
    -- the group that stands behind `before` has the answer's line
    mark_of_group : line_of n (answer_at (amid before a behind) (length before)) ≡ line_of n a
    unfolding answer_at line_of stamp_part
    mark_of_group =
        let counts = group_stamp a before behind next in
        rw (group_node a before behind next, counts a.node fits.node_below, group_nearest a before behind next, stamp_agrees n _ _ (λ k h. counts k (omega arith)))

    -- so that line is laid over the front of the room, and the place past the group is answered
    pub line_of_group : (room : List ℕ)
        → line_at n (amid before a behind) (length before) room
        ≡ (Ok (Some (record { size = length (line_of n a); past = length before + length (group_of 32 a) })), laid 0 (line_of n a) room)
    unfolding written_line
    line_of_group room =
        line_there n _ _ room few (group_fits_lem fits before behind next)
        ∙ rw (mark_of_group, group_past fits before behind next)

  -- In a report of answers the line of each that keeps the rules is laid where its group stands, and the place of the next group
  -- is answered.
  pub line_of_answer : (done rest : List Answer) (room : List ℕ)
      → line_at n (groups_of 32 (done ++ (a ∷ rest))) (length (groups_of 32 done)) room
      ≡ (Ok (Some (record { size = length (line_of n a); past = length (groups_of 32 (done ++ (a ∷ []))) })), laid 0 (line_of n a) room)
  line_of_answer done rest room =
      rw (groups_amid done rest a, groups_more 32 done a, length-append (groups_of 32 done) (group_of 32 a))
      (line_of_group (groups_of 32 done) (groups_of 32 rest) (groups_clear rest) room)
