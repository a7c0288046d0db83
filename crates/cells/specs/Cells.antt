-- A node's cell for another node, what a letter says of it, what an entry makes of it, and a row of cells.
-- Assumes nothing.
use Rattle.std.specs.Prelude.{◌≡◌, ◌&&◌, cond, List, ℕ, ◌+◌, ◌*◌, ◌/◌, ◌%◌, ◌<◌, ◌≤◌, eqb, ltb, get_or, Option, Some, None}
use Rattle.std.specs.Int.Bits.{bit_or}
use Rattle.machine.specs.Machine.{Entry, absent, present, take_count, take_flag}
use Rattle.machine.specs.Short.{offer}
use Rattle.machine.specs.Answer.{entries}
use Rattle.bits.specs.Bits.{bit, meets}
use Rattle.cells.specs.declared.Cell.{Cell}
use Rattle.cells.specs.declared.Entry as told

-- an entry of the code as one of the machines
abbrev pub entry_said : Option told.Entry → Entry
entry_said None = absent
entry_said (Some e) = present e.count e.direct

-- an entry as a number: 0 if it is not carried, else twice the count, and 1 more if its flag is set; and back
abbrev pub code_of : Entry → ℕ
code_of absent = 0
code_of (present c x) = 2 * c + cond x 1 0

abbrev pub entry_of : ℕ → Entry
entry_of e = cond (eqb e 0) absent (present (e / 2) (eqb (e % 2) 1))

-- what a message says of a cell, where `spared` has the bits of the nodes that are spared what they brought
unfoldable pub said_of : ℕ → Cell → Entry
said_of spared x = offer x.count x.direct (x.direct && meets x.column spared)

-- the machines' `note` on a column as a word, where `sender` has the sender's bit alone
unfoldable pub note_word : ℕ → ℕ → Entry → ℕ → ℕ
note_word sender c absent column = column
note_word sender c (present d y) column = cond (ltb c d) sender (cond (ltb d c) column (bit_or column sender))

-- the cell after an entry
unfoldable pub merged : ℕ → Entry → Cell → Cell
merged sender e x =
    record {
      count = take_count x.count e;
      column = note_word sender x.count e x.column;
      direct = take_flag x.count x.direct e;
    }

-- the cell for k of a row, its columns and its flags
abbrev pub cell_at : List ℕ → List ℕ → ℕ → ℕ → Cell
cell_at row columns flags k = record { count = get_or row k 0; column = get_or columns k 0; direct = bit flags k }

-- the first n entries of the letter are what is said of the cells, and so many are carried
pub record Packed (spared : ℕ) (row columns : List ℕ) (flags n : ℕ) (letter : List ℕ) (carried : ℕ) : Type 0 where
  pub written : (k : ℕ) → k < n → get_or letter k 0 ≡ code_of (said_of spared (cell_at row columns flags k))
  pub counted : carried ≡ entries n (λ k. said_of spared (cell_at row columns flags k))

-- The first n cells are merged with the letter's entries, which are then zero; the other cells and entries are as they were.
pub record Joined (sender : ℕ) (letter row columns : List ℕ) (flags n : ℕ) (letter' row' columns' : List ℕ) (flags' : ℕ) : Type 0 where
  pub within : (k : ℕ) → k < n → cell_at row' columns' flags' k ≡ merged sender (entry_of (get_or letter k 0)) (cell_at row columns flags k)
  pub above : (k : ℕ) → n ≤ k → cell_at row' columns' flags' k ≡ cell_at row columns flags k
  pub emptied : (k : ℕ) → k < n → get_or letter' k 0 ≡ 0
  pub kept : (k : ℕ) → n ≤ k → get_or letter' k 0 ≡ get_or letter k 0
