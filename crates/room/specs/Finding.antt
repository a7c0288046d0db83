-- What is found in the mail: the slot of a letter, the lowest free slot, and how many slots are taken.
-- Assumes nothing.
use Rattle.std.specs.Prelude.{◌≡◌, ◌≢◌, false, ◌||◌, cond, List, ℕ, zero, suc, ◌+◌, ◌*◌, ◌<◌, min, eqb, get_or}
use Rattle.std.specs.Prelude.{Option, Some, None, unwrap_or}
use Rattle.order.specs.Order.{Event}
use Rattle.verdict.specs.Lawful.{Lawful}
use Rattle.room.specs.declared.Mode.{Mode}
use Rattle.room.specs.Room.{barn, Letters}
use Rattle.room.specs.declared.mail.Seen.{Seen}

-- slot t has a letter with this number
abbrev pub Bears : List ℕ → ℕ → ℕ → Type 0
Bears mail number t = (get_or mail (35 * t) 0 ≢ 0) × (get_or mail (35 * t + 2) 0 ≡ number)

-- the first slot that has it, or that none has
pub data Finds (mail : List ℕ) (number : ℕ) : Option ℕ → Type 0 where
  finds : {s : ℕ} → s < 128 → Bears mail number s → ((t : ℕ) → t < s → ¬ Bears mail number t) → Finds mail number (Some s)
  misses : ((t : ℕ) → t < 128 → ¬ Bears mail number t) → Finds mail number None

-- what is known after slot s too, whose first element is `sender` and whose number is `borne`: the lowest free slot is the
-- lesser of slot s, if it is free, and the one known before; a taken one counts, and may repeat the number
unfoldable pub looked : ℕ → ℕ → ℕ → ℕ → Seen → Seen
looked number s sender borne seen =
    cond (eqb sender 0)
    (record { repeated = seen.repeated; free = Some (min (unwrap_or seen.free s) s); flying = seen.flying })
    (record { repeated = seen.repeated || eqb borne number; free = seen.free; flying = suc seen.flying })

-- what is known of the first k slots
unfoldable pub surveyed : ℕ → List ℕ → ℕ → Seen
surveyed number mail zero = record { repeated = false; free = None; flying = 0 }
surveyed number mail (suc k) = looked number k (get_or mail (35 * k) 0) (get_or mail (35 * k + 2) 0) (surveyed number mail k)

-- the mail holds the letters of a lawful cut, sent in either mode
pub record Mailed (n : ℕ) (cut : List Event) (mail : List ℕ) : Type 0 where
  pub lawful : Lawful n cut
  pub mode : Mode
  pub letters : Letters n (barn mode cut) mail
