-- What a node has been brought: of the messages that it received and what each carried, and not of what is held.
-- Assumes nothing.
use Rattle.std.specs.Prelude.{◌≡◌, ◌⊎◌, ◌≢◌, Bool, false, List, [], ◌∷◌, ℕ, ◌+◌, ◌<◌}
use Rattle.order.specs.Order.{Event, send, receipt, Flying, Counts}
use Rattle.machine.specs.Machine.{present, full}
use Rattle.machine.specs.Short.{Knowledge, short}

-- the letter last sent under number m, up to the end of the cut, carries k's count c
abbrev pub Carries : Knowledge → List Event → ℕ → ℕ → ℕ → Type 0
Carries K es m k c = (x : Bool) × (((short K es).state.letter m).entry k ≡ present c x)

-- node i has received from node j a message that carried k's count c
pub data Brought (K : Knowledge) (i j k c : ℕ) : List Event → Type 0 where
  brought_now : {past : List Event} {m p : ℕ} → Flying m j i past p → Carries K past m k c → Brought K i j k c (receipt i m ∷ past)
  brought_once : {e : Event} {past : List Event} → Brought K i j k c past → Brought K i j k c (e ∷ past)

-- Demand 3's sentence, of a short message that i sends to j after the cut: it carries k's count c with flag x. The count is
-- above zero, and either its flag is clear or no message from j has yet brought i that very count.
abbrev pub Due : Knowledge → List Event → ℕ → ℕ → ℕ → ℕ → Bool → Type 0
Due K past i j k c x =
    (c ≡ (full past).count i k) × (x ≡ (full past).flag i k) × (0 < c) × ((x ≡ false) ⊎ ¬ Brought K i j k c past)

-- what the short messages of a cut carry in all, in a barn of n nodes: the sum, over all sends, of the entries that are due
pub data DueInAll (K : Knowledge) (n : ℕ) : List Event → ℕ → Type 0 where
  none_due : DueInAll K n [] 0
  send_due : {past : List Event} {i j m d t : ℕ} → Counts (λ k. (c : ℕ) × (x : Bool) × Due K past i j k c x) n d
      → DueInAll K n past t → DueInAll K n (send i j m ∷ past) (t + d)
  other_due : {e : Event} {past : List Event} {t : ℕ} → ((i j m : ℕ) → e ≢ send i j m) → DueInAll K n past t → DueInAll K n (e ∷ past) t

-- what the messages of a cut come to in all, in a barn of n nodes: the sum, over all sends, of the nodes k whose entry counts in the
-- message that i sends to j after the cut `past` (`Goes past i j k`)
pub data InAll (Goes : List Event → ℕ → ℕ → ℕ → Type 0) (n : ℕ) : List Event → ℕ → Type 0 where
  in_none : InAll Goes n [] 0
  in_send : {past : List Event} {i j m d t : ℕ} → Counts (Goes past i j) n d → InAll Goes n past t → InAll Goes n (send i j m ∷ past) (t + d)
  in_other : {e : Event} {past : List Event} {t : ℕ} → ((i j m : ℕ) → e ≢ send i j m) → InAll Goes n past t → InAll Goes n (e ∷ past) t
