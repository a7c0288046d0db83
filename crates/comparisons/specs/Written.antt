-- Which answers to marks make a well-formed report when their groups are written one after the other (01, "The report").
-- Assumes nothing.
use Rattle.std.specs.Prelude.{◌≡◌, ◌≤◌, length}
use mathlib.Core.List.{List, [], ◌∷◌, Memᴰ}
use Rattle.machine.specs.Answer.{Answer}
use Rattle.shape.specs.declared.Mark.{Mark}
use Rattle.shape.specs.Fits.{Fits, mark_of}

-- the answer is to this mark
abbrev pub IsTo : Answer → Mark → Type 0
IsTo a e = (a.node ≡ e.node.0) × (a.stamp a.node ≡ e.number.0)

-- the answers are to one mark
abbrev pub SameMark : Answer → Answer → Type 0
SameMark a b = IsTo a (mark_of b)

-- no mark twice
pub data NoneTwice : List Answer → Type 0 where
  none_twice_nil : NoneTwice []
  none_twice_cons : {a : Answer} {rest : List Answer} → ((b : Answer) → Memᴰ b rest → ¬ SameMark a b) → NoneTwice rest → NoneTwice (a ∷ rest)

-- the answers keep the rules, each and together
pub record Writable (told : List Answer) : Type 0 where
  pub each_fits : (a : Answer) → Memᴰ a told → Fits a
  pub none_twice : NoneTwice told
  pub few : length told ≤ 4096
