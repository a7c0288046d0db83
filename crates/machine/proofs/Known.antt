-- What a node knows, its last event and all before that, and how the newest event adds to it: by the cases of a link.
-- Assumes nothing.
use mathlib.Core.Path.{◌≡◌, refl, subst}
use mathlib.Core.Logic.{◌⊎◌, inl, inr, ◌≢◌, ⊎_elim}
use mathlib.Core.List.{List, ◌∷◌}
use Prim.Native.Nat.{ℕ, ◌<◌}
use native.Mathlib.Omega.{arith}
use lib.ListN.{length}
use Rattle.order.specs.Order.{Event, receipt, node_of, At, Last, last_head, last_tail, Flying, Link, link_node, link_message, Before, direct, onward, Within}
use Rattle.order.proofs.Places.{last_bound, last_unique, flying_unique, link_cases, link_forward}
use Rattle.order.proofs.Before.{before_down, within_before, before_within, within_le, within_up, within_down, last_of, within_last}

-- the event at p is the last of node i, or before it
abbrev pub Known : List Event → ℕ → ℕ → Type 0
Known es i p = (q : ℕ) × Last i es q × Within es q p

pub known_bound : {es : List Event} (i p : ℕ) → Known es i p → p < length es
known_bound i p k = let h = last_bound k.1 in let w = within_le k.2 in omega arith

pub known_closed : {es : List Event} (i p o : ℕ) → Known es i p → Before es o p → Known es i o
known_closed i p o k r = (k.0, k.1, inr (before_within r k.2))

pub known_at : {es : List Event} (i p : ℕ) {e : Event} → node_of e ≡ i → At es p e → Known es i p
known_at i p h a = let l = last_of i h a in (l.0, l.1, within_last i h a l.1)

-- directly before the newest event is its node's last, or the send of the message that it receives
abbrev Preceding : Event → List Event → ℕ → Type 0
Preceding e past q = Last (node_of e) past q ⊎ ((m i j : ℕ) × (e ≡ receipt j m) × Flying m i j past q)

preceding : {e : Event} {past : List Event} {q : ℕ} → Link (e ∷ past) q (length past) → Preceding e past q
preceding l = ⊎_elim (λ o. let h = link_forward o in absurd (omega arith)) (λ c. c.1) (link_cases l)

-- and what is before it is that, or before that
before_new : {e : Event} {past : List Event} {p : ℕ} → Before (e ∷ past) p (length past) → (q : ℕ) × Preceding e past q × Within past q p
before_new (direct l) = (_, preceding l, inl refl)
before_new (onward r l) = let h = link_forward l in (_, preceding l, inr (before_down (omega arith) r))

module _ {e : Event} {past : List Event} where
  -- an event of another node teaches nothing
  pub known_up : (i p : ℕ) → node_of e ≢ i → Known past i p → Known (e ∷ past) i p
  known_up i p h k = (k.0, last_tail h k.1, within_up k.2)

  pub known_down : (i p : ℕ) → node_of e ≢ i → Known (e ∷ past) i p → Known past i p
  known_down i p h (q, l, w) = go l w
    where
      go : {q : ℕ} → Last i (e ∷ past) q → Within (e ∷ past) q p → Known past i p
      go (last_head k) w = absurd (h k)
      go (last_tail k l) w = (_, l, within_down (last_bound l) w)

  -- the newest event's node knows it and what is before it
  pub within_known : (i p : ℕ) → node_of e ≡ i → Within (e ∷ past) (length past) p → Known (e ∷ past) i p
  within_known i p h w = (_, last_head h, w)

  pub known_within : (i p : ℕ) → node_of e ≡ i → Known (e ∷ past) i p → Within (e ∷ past) (length past) p
  known_within i p h k = rw (last_unique k.1 (last_head h)) at k.2

  -- what its node knew is before the newest event
  pub known_before : (p : ℕ) → Known past (node_of e) p → Before (e ∷ past) p (length past)
  known_before p k = within_before (within_up k.2) (direct (link_node k.1))

  -- and nothing else is, unless it is a receipt
  pub before_known : ((j m : ℕ) → e ≢ receipt j m) → (p : ℕ) → Before (e ∷ past) p (length past) → Known past (node_of e) p
  before_known quiet p b =
      let (q, last, within) = before_new b in
      ⊎_elim (λ l. (q, l, within)) (λ r. absurd (quiet r.2 r.0 r.3)) last

module _ {past : List Event} (m i j a : ℕ) (flies : Flying m i j past a) where
  -- before a receipt is also the send and what is before that
  pub sent_before : (p : ℕ) → Within past a p → Before (receipt j m ∷ past) p (length past)
  sent_before p w = within_before (within_up w) (direct (link_message flies))

  pub before_receipt : (p : ℕ) → Before (receipt j m ∷ past) p (length past) → Known past j p ⊎ Within past a p
  before_receipt p b =
      let (q, last, within) = before_new b in
      ⊎_elim (λ l. inl (q, l, within)) (λ r. inr (sent r within)) last
    where
      sent : {q : ℕ} → (l o k : ℕ) × (receipt j m ≡ receipt k l) × Flying l o k past q → Within past q p → Within past a p
      sent {q} (l, o, k, h, f) w =
          let e : l ≡ m = cc in
          rw (flying_unique (subst (λ (x : ℕ). Flying x o k past q) e f) flies).2 at w
