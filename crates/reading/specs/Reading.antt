-- What stands at a place of a report, for any bytes: the group of a mark, part by part.
-- Assumes nothing.
use Rattle.std.specs.Prelude.{Bool, cond, ◌&&◌, List, [], ◌∷◌, ℕ, zero, suc, ◌+◌, ◌*◌, eqb, leb, length, get_or}
use Rattle.machine.specs.Answer.{Answer}

-- the number at place p: two bytes, low byte first
abbrev pub number_at : List ℕ → ℕ → ℕ
number_at report p = get_or report p 0 + 256 * get_or report (p + 1) 0

-- the node of the record at place p, and its number
abbrev pub node_at : List ℕ → ℕ → ℕ
node_at report p = get_or report (p + 1) 0

abbrev pub number_here : List ℕ → ℕ → ℕ
number_here report p = number_at report (p + 2)

-- a whole record of this kind and so many bytes stands at place p
unfoldable pub whole_at : ℕ → ℕ → List ℕ → ℕ → Bool
whole_at kind size report p = leb (p + size) (length report) && eqb (get_or report p 0) kind

-- ---- the stamp

-- the count of node k stands at place p
unfoldable pub stamp_here : List ℕ → ℕ → ℕ → Bool
stamp_here report p k = whole_at 0x22 4 report p && eqb (node_at report p) k

-- the count of node k, where it would stand at place p, and the place past it; a missing count is 0
unfoldable pub count_at : List ℕ → ℕ → ℕ → ℕ
count_at report p k = cond (stamp_here report p k) (number_here report p) 0

unfoldable pub past_count : List ℕ → ℕ → ℕ → ℕ
past_count report p k = cond (stamp_here report p k) (p + 4) p

-- of a stamp that starts at place p: the place past the counts of the nodes below k, and the count of k
unfoldable pub stamp_place : List ℕ → ℕ → ℕ → ℕ
stamp_place report p zero = p
stamp_place report p (suc k) = past_count report (stamp_place report p k) k

unfoldable pub stamp_at : List ℕ → ℕ → ℕ → ℕ
stamp_at report p k = count_at report (stamp_place report p k) k

-- ---- the direct predecessors

-- so many of them at place p, one behind the other, each as a node and a number
unfoldable pub causes_at : List ℕ → ℕ → ℕ → List (ℕ × ℕ)
causes_at report p zero = []
causes_at report p (suc d) = (node_at report p, number_here report p) ∷ causes_at report (p + 4) d

-- ---- the group

-- the place past the stamp of the group at place p
abbrev pub cause_place : List ℕ → ℕ → ℕ
cause_place report p = stamp_place report (p + 5) 32

-- how many direct predecessors the group at place p announces
abbrev pub cause_count : List ℕ → ℕ → ℕ
cause_count report p = get_or report (p + 4) 0

-- what the group at place p says of its mark, if one stands there
unfoldable pub answer_at : List ℕ → ℕ → Answer
answer_at report p =
    record {
      node = node_at report p;
      stamp = stamp_at report (p + 5);
      nearest = causes_at report (cause_place report p) (cause_count report p);
    }
