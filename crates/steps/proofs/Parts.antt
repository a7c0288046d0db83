-- What a part of a list that was lent has, and what the list has once the part is back with other elements: by where a place lies,
-- before the part, in it or behind it.
-- Assumes nothing.
use mathlib.Core.Path.{◌≡◌}
use mathlib.Core.Logic.{⊎_elim}
use mathlib.Core.List.{List}
use Prim.Native.Nat.{ℕ, ◌+◌, ◌-◌, ◌≤◌, ◌<◌}
use native.Mathlib.Omega.{arith}
use borrow.Rule.Slice.PartMut.{put_mid}
use borrow.Author.Rules.{rules}
use lib.ListN.{length, get_or, take, drop, length-take, length-drop}
use Rattle.std.proofs.lemmas.List.{places}
use Rattle.room.specs.Room.{Outside}

-- how many elements a part from a to a + n has, as the code counts them
pub part_size : (a n : ℕ) → (a + n) - a ≡ n
part_size a n = omega arith

-- ---- a part that is lent

pub part_at : (xs : List ℕ) (a k m : ℕ) → m < k → get_or (take k (drop a xs)) m 0 ≡ get_or xs (a + m) 0
part_at xs a k m h = search (rules, places)

pub part_length : (xs : List ℕ) (a k : ℕ) → a + k ≤ length xs → length (take k (drop a xs)) ≡ k
part_length xs a k h = simp (length-take, length-drop) (omega arith)

-- ---- a part that has come back as ys

module _ (xs : List ℕ) (a k : ℕ) (ys : List ℕ) (fits : a + k ≤ length xs) (same : length ys ≡ k) where
  -- inside it
  pub back_in : (m : ℕ) → m < k → get_or (put_mid a k xs ys) (a + m) 0 ≡ get_or ys m 0
  back_in m h = search (rules, places)

  -- and outside
  pub back_out : (p : ℕ) → Outside a k p → get_or (put_mid a k xs ys) p 0 ≡ get_or xs p 0
  back_out p out = ⊎_elim (λ h. search (rules, places)) (λ h. search (rules, places)) out
