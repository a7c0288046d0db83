-- The program's text: a line for each mark of a report (01, "Logs to try"). A word stands as the codes of its letters.
-- Assumes nothing.
use Rattle.std.specs.Prelude.{cond, ◌&&◌, Option, Some, None, Result, Ok, Err, List, [], ◌∷◌, ◌++◌, map, ℕ, zero, suc, leb, length}
use Rattle.machine.specs.Answer.{Answer}
use Rattle.groups.specs.Groups.{laid}
use Rattle.words.specs.Words.{decimal}
use Rattle.reading.specs.Reading.{node_at, number_here, answer_at}
use Rattle.shape.specs.Shape.{group_fits, past_group}
use Rattle.text.specs.declared.Line.{Line}
use Rattle.text.specs.declared.NoLine.{NoLine}

-- ---- the line of a mark

-- `2.1`: node, dot, number
unfoldable pub name_text : ℕ → ℕ → List ℕ
name_text node number = decimal node ++ (46 ∷ []) ++ decimal number

-- the counts of the nodes below n, a space before each
unfoldable pub stamp_text : ℕ → (ℕ → ℕ) → List ℕ
stamp_text zero stamp = []
stamp_text (suc k) stamp = stamp_text k stamp ++ (32 ∷ decimal (stamp k))

-- the direct predecessors that records name, each as a node and a number
abbrev pub named : List (List ℕ) → List (ℕ × ℕ)
named = map (λ mark. (node_at mark 0, number_here mark 0))

-- the direct predecessors, a space before each
unfoldable pub causes_text : List (ℕ × ℕ) → List ℕ
causes_text [] = []
causes_text (x ∷ rest) = (32 ∷ name_text x.0 x.1) ++ causes_text rest

-- the same, and ` -` where there is none
unfoldable pub nearest_text : List (ℕ × ℕ) → List ℕ
nearest_text [] = 32 ∷ 45 ∷ []
nearest_text (x ∷ rest) = causes_text (x ∷ rest)

-- the three parts of the line: `mark 2.1`
unfoldable pub mark_part : ℕ → ℕ → List ℕ
mark_part node number = (109 ∷ 97 ∷ 114 ∷ 107 ∷ 32 ∷ []) ++ name_text node number

-- ` stamp 1 1 1`
unfoldable pub stamp_part : ℕ → (ℕ → ℕ) → List ℕ
stamp_part n stamp = (32 ∷ 115 ∷ 116 ∷ 97 ∷ 109 ∷ 112 ∷ []) ++ stamp_text n stamp

-- ` from 1.1` and the line's end
unfoldable pub from_part : List (ℕ × ℕ) → List ℕ
from_part nearest = (32 ∷ 102 ∷ 114 ∷ 111 ∷ 109 ∷ []) ++ nearest_text nearest ++ (10 ∷ [])

-- the line of what is answered of a mark, in a barn of n nodes: `mark 2.1 stamp 1 1 1 from 1.1`
unfoldable pub line_of : ℕ → Answer → List ℕ
line_of n a = mark_part a.node (a.stamp a.node) ++ stamp_part n a.stamp ++ from_part a.nearest

-- ---- from the report to the lines

-- the answer and the room where this line, of a group that ends at this place, lies over the room's front
unfoldable pub written_line : List ℕ → ℕ → List ℕ → Result (Option Line) NoLine × List ℕ
written_line line past room = (Ok (Some (record { size = length line; past = past })), laid 0 line room)

-- The answer and the room at place p of a report: none where the report has ended. Where no group stands that keeps the rules, and for
-- more than 32 nodes, there is no line, and the room is as it was.
unfoldable pub line_at : ℕ → List ℕ → ℕ → List ℕ → Result (Option Line) NoLine × List ℕ
line_at n report p room =
    cond (leb (length report) p) (Ok None, room)
    (cond (leb n 32 && group_fits report p) (written_line (line_of n (answer_at report p)) (past_group report p) room) (Err (record {}), room))
