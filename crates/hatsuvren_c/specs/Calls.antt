-- What a caller from C is told: each answer as numbers.
-- Assumes nothing.
use Rattle.std.specs.Prelude.{◌≡◌, cond, List, [], ◌∷◌, ℕ, eqb, Option, None, Some, Result, Ok, Err}
use Rattle.room.specs.declared.Mode.{Mode}
use Rattle.room.specs.declared.Mode.TheVariants.{Full, Short}
use Rattle.passes.specs.declared.Tally.{Tally}
use Rattle.passes.specs.Report.{bytes_alone}
use Rattle.report.specs.declared.Answer.{Answer}
use Rattle.report.specs.Run.{Ran, number_of, place_of, totals_of}
use Rattle.shape.specs.declared.Mark.{Mark}
use Rattle.comparing.specs.Compare as comparing
use Rattle.comparing.specs.declared.Standing.{Standing}
use Rattle.comparing.specs.declared.Standing.TheVariants.{Before, After, Apart}
use Rattle.comparing.specs.declared.Incomparable.{Incomparable}

-- ---- a run

-- the mode that a number asks for: 0 is full and 1 is short; no other number is a mode
abbrev pub asked : ℕ → Option Mode
asked mode = cond (eqb mode 0) (Some Full) (cond (eqb mode 1) (Some Short) None)

-- the place, and the totals of events, marks, sends, carried entries and report bytes
abbrev pub told_of : ℕ → Tally → List ℕ
told_of place t = place ∷ t.events ∷ t.marks ∷ t.sends ∷ t.carried ∷ t.bytes ∷ []

-- a run in a known mode: what `report::run` promises, with its answer's number, place and totals told
pub record RunTold
    (mode : Mode) (log counts words mail report : List ℕ)
    (counts' words' mail' report' : List ℕ) (number : ℕ) (told : List ℕ) : Type 0 where
  pub answer : Answer
  pub ran : Ran mode log counts words mail report counts' words' mail' report' answer
  pub number_is : number ≡ number_of answer
  pub told_is : told ≡ told_of (place_of answer) (totals_of answer)

-- a call: a run in a known mode; in an unknown one the number 255, zeros, and every room as it was
abbrev pub Called : Option Mode → (log counts words mail report counts' words' mail' report' : List ℕ) (number : ℕ)
    (told : List ℕ) → Type 0
Called (Some mode) log counts words mail report counts' words' mail' report' number told =
    RunTold mode log counts words mail report counts' words' mail' report' number told
Called None log counts words mail report counts' words' mail' report' number told =
    (number ≡ 255) × (told ≡ told_of 0 (bytes_alone 0))
    × (counts' ≡ counts) × (words' ≡ words) × (mail' ≡ mail) × (report' ≡ report)

-- ---- comparing

-- the mark with this node and number
abbrev pub mark : ℕ → ℕ → Mark
mark node number = record { node = record { 0 = node }; number = record { 0 = number } }

-- how the first stands to the second: 1 before, 2 after, 3 apart; 0 if they were not compared
abbrev pub order_of : Result Standing Incomparable → ℕ
order_of (Ok Before) = 1
order_of (Ok After) = 2
order_of (Ok Apart) = 3
order_of (Err e) = 0

-- the number, the order and the place of the answer are told
pub record ComparedTold (answer : Result Standing Incomparable) (number order place : ℕ) : Type 0 where
  pub number_is : number ≡ comparing.number_of answer
  pub order_is : order ≡ order_of answer
  pub place_is : place ≡ comparing.place_of answer
