-- The contracts of the functions that write or lay bytes over a room have one result, since they are said by equations.
-- Assumes nothing.
use mathlib.Core.Path.{◌≡◌, sym, ◌∙◌}
use mathlib.Core.List.{List}
use Prim.Native.Nat.{ℕ}
use Rattle.groups.specs.Groups.{Laid, Written}

-- Two results of laying the same bytes over one room are equal: the place past them, and the room.
pub laid_unique : {at : ℕ} {bytes room room₁ room₂ : List ℕ} {past₁ past₂ : ℕ}
    → Laid at bytes room room₁ past₁ → Laid at bytes room room₂ past₂ → (past₁ ≡ past₂) × (room₁ ≡ room₂)
laid_unique a b = (a.past_is ∙ sym b.past_is, a.room_is ∙ sym b.room_is)

-- Two results of writing the same bytes into one room are equal: how many there are, and the room.
pub written_unique : {at : ℕ} {bytes room room₁ room₂ : List ℕ} {size₁ size₂ : ℕ}
    → Written at bytes room room₁ size₁ → Written at bytes room room₂ size₂ → (size₁ ≡ size₂) × (room₁ ≡ room₂)
written_unique a b = (a.size_is ∙ sym b.size_is, a.room_is ∙ sym b.room_is)
