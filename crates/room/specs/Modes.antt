-- The two ways to send, and the machine that the work room follows in each.
-- Assumes nothing.
use Rattle.std.specs.Prelude.{◌≡◌, ◌⊎◌, Bool, true, false, ◌&&◌, List, ℕ, ◌^◌, ◌<◌}
use Rattle.order.specs.Order.{Event}
use Rattle.machine.specs.Machine.{Entry, whole, full}
use Rattle.machine.specs.Short.{Knowledge, brief, short, Columns, learn_columns, columns}
use Rattle.machine.specs.History.{Due}
use Rattle.room.specs.declared.Mode.{Mode}
use Rattle.room.specs.declared.Mode.TheVariants.{Full, Short}

-- whether messages may leave out a count that the receiver is known to have
abbrev pub sparing : Mode → Bool
sparing Full = false
sparing Short = true

-- The columns are kept by the same rule in both modes, but only short messages spare an entry. In short mode this is the
-- machines' `columns`; in full mode a message leaves out counts of zero, which change nothing where they arrive.
abbrev pub knowledge : Mode → Knowledge
knowledge mode =
    record {
      Held = Columns;
      none = λ i k j. false;
      spares = λ s held i j k. s.flag i k && (sparing mode && held i k j);
      learn = learn_columns;
    }

-- What the letter of a message that i sends to j after the cut is to hold of k: its count c at i, with its flag x. With full messages
-- every count above zero goes along, with short ones what is due; a count of zero, whose flag is clear, is no entry of a letter.
abbrev pub GoesAlong : Mode → List Event → (i j k c : ℕ) → Bool → Type 0
GoesAlong Full past i j k c x = (c ≡ (full past).count i k) × (x ≡ (full past).flag i k) × (0 < c)
GoesAlong Short past i j k c x = Due columns past i j k c x

-- what the message is counted to carry: what goes along, and with full messages the counts of zero too
abbrev pub Counted : Mode → List Event → (i j k : ℕ) → Type 0
Counted Full past i j k = ((c : ℕ) × (x : Bool) × GoesAlong Full past i j k c x) ⊎ ((full past).count i k ≡ 0)
Counted Short past i j k = (c : ℕ) × (x : Bool) × GoesAlong Short past i j k c x

-- what a message that i sends to j after the cut is counted to carry: everything if it is full, zeros too
unfoldable pub says : Mode → List Event → ℕ → ℕ → ℕ → Entry
says Full past = whole (full past)
says Short past = brief (short columns past)

-- the bits of the nodes that a message to j may spare what they brought: none if it is full, else j's
abbrev pub spared_bits : Mode → ℕ → ℕ
spared_bits Full j = 0
spared_bits Short j = 2 ^ j
