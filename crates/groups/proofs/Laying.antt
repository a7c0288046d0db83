-- Bytes laid over a room: none change nothing, and two runs side by side are laid as one.
-- Assumes nothing.
use mathlib.Core.Path.{◌≡◌, sym, ap, ◌∙◌}
use mathlib.Core.List.{List, [], ◌++◌, append_assoc}
use Prim.Native.Nat.{ℕ, ◌+◌, ◌≤◌}
use native.Mathlib.Nat.{le_refl}
use native.Mathlib.Omega.{arith}
use lib.ListN.{length, take, drop, length-append}
use lib.Seq.{length-take-le, take_at, drop-append-add, drop-drop, paste-zero, take-length, length-paste}
use Rattle.groups.specs.Groups.{laid, Laid}

-- the second run starts where the first ends
pub laid_next : (at : ℕ) (xs ys room : List ℕ) → at ≤ length room → laid (at + length xs) ys (laid at xs room) ≡ laid at (xs ++ ys) room
laid_next at xs ys room h =
    let front : List ℕ = take at room ++ xs in
    let size : length front ≡ at + length xs = length-append (take at room) xs ∙ ap (λ (n : ℕ). n + length xs) (length-take-le at room h) in
    let end : at + length xs + length ys ≡ at + length (xs ++ ys) = omega (arith, length-append xs ys) in
    let rest : drop (at + length xs + length ys) (laid at xs room) ≡ drop (at + length (xs ++ ys)) room =
    ap (λ (n : ℕ). drop (n + length ys) (laid at xs room)) (sym size)
    ∙ drop-append-add front (drop (at + length xs) room) (length ys)
    ∙ drop-drop (length ys) (at + length xs) room
    ∙ ap (λ (n : ℕ). drop n room) end in
    rw (take_at front (drop (at + length xs) room) (at + length xs) size, rest, append_assoc (take at room) xs ys)

-- no bytes change nothing
pub laid_none : (at : ℕ) (room : List ℕ) → room ≡ laid at [] room
laid_none at room = paste-zero room at []

-- where there is space the room keeps its length
pub laid_length : (at : ℕ) (xs room : List ℕ) → at + length xs ≤ length room → length (laid at xs room) ≡ length room
laid_length at xs room h =
    ap (λ (ys : List ℕ). length (take at room ++ ys ++ drop (at + length xs) room)) (sym (take-length xs))
    ∙ length-paste room at xs (length xs) h (le_refl _)

-- ---- what is laid

-- no bytes lie anywhere
pub none_laid : (room : List ℕ) (at : ℕ) → at ≤ length room → Laid at [] room room at
none_laid room at h = record { past_is = omega arith; within = h; room_is = laid_none at room }

-- where two functions lay one after the other, both have laid the whole
pub and_then : {at mid past : ℕ} {xs ys room room' room'' : List ℕ} → Laid at xs room room' mid → Laid mid ys room' room'' past → Laid at (xs ++ ys) room room'' past
and_then {at} {mid} {past} {xs} {ys} {room} {room'} {room''} f g =
    let m = f.past_is in
    let inside : at ≤ length room = omega (arith, f.past_is, f.within) in
    let same : length room' ≡ length room = ap length f.room_is ∙ laid_length at xs room (omega (arith, f.past_is, f.within)) in
    record {
      past_is = omega (arith, f.past_is, g.past_is, length-append xs ys);
      within = omega (arith, g.within, same);
      room_is = g.room_is ∙ rw (m, f.room_is) (laid_next at xs ys room inside);
    }
