-- Before is a strict order that goes forward in the log, and it orders the events of one node: by induction on the chain
-- of links, and on the cut.
-- Assumes nothing.
use mathlib.Core.Path.{◌≡◌, refl, sym, subst}
use mathlib.Core.Logic.{inl, inr}
use mathlib.Core.List.{List, ◌∷◌}
use Prim.Native.Nat.{ℕ, ◌<◌, ◌≤◌}
use native.Mathlib.Decide.{ℕ_discrete}
use native.Mathlib.Omega.{arith}
use lib.ListN.{length}
use Rattle.order.specs.Order.{Event, node_of, At, at_head, at_tail, Last, last_head, last_tail, link_tail, link_node, Before, direct, onward, Within}
use Rattle.order.proofs.Places.{at_bound, at_down, link_forward, link_down}

-- ---- a strict order

-- what is before stands earlier in the log
pub before_forward : {es : List Event} {a b : ℕ} → Before es a b → (a < b) × (b < length es)
before_forward (direct l) = link_forward l
before_forward (onward r l) = let h = before_forward r in let k = link_forward l in omega arith

pub before_irreflexive : {es : List Event} {a : ℕ} → ¬ Before es a a
before_irreflexive r = let h = before_forward r in omega arith

pub before_transitive : {es : List Event} {a b c : ℕ} → Before es a b → Before es b c → Before es a c
before_transitive r (direct l) = onward r l
before_transitive r (onward s l) = onward (before_transitive r s) l

pub before_asymmetric : {es : List Event} {a b : ℕ} → Before es a b → ¬ Before es b a
before_asymmetric r s = before_irreflexive (before_transitive r s)

-- ---- an event more

pub before_up : {e : Event} {past : List Event} {a b : ℕ} → Before past a b → Before (e ∷ past) a b
before_up (direct l) = direct (link_tail l)
before_up (onward r l) = onward (before_up r) (link_tail l)

pub before_down : {e : Event} {past : List Event} {a b : ℕ} → b < length past → Before (e ∷ past) a b → Before past a b
before_down h (direct l) = direct (link_down h l)
before_down h (onward r l) = let k = link_forward l in onward (before_down (omega arith) r) (link_down h l)

-- ---- at or before

pub within_before : {es : List Event} {a b c : ℕ} → Within es b a → Before es b c → Before es a c
within_before (inl h) r = rw h r
within_before (inr s) r = before_transitive s r

pub before_within : {es : List Event} {a b c : ℕ} → Before es a b → Within es c b → Before es a c
before_within r (inl h) = rw h at r
before_within r (inr s) = before_transitive r s

pub within_le : {es : List Event} {p q : ℕ} → Within es q p → p ≤ q
within_le (inl h) = omega arith
within_le (inr r) = let h = before_forward r in omega arith

pub within_up : {e : Event} {past : List Event} {p q : ℕ} → Within past q p → Within (e ∷ past) q p
within_up (inl h) = inl h
within_up (inr r) = inr (before_up r)

pub within_down : {e : Event} {past : List Event} {p q : ℕ} → q < length past → Within (e ∷ past) q p → Within past q p
within_down h (inl k) = inl k
within_down h (inr r) = inr (before_down h r)

-- ---- the events of one node

-- a node that has an event has a last one
pub last_of : (i : ℕ) {es : List Event} {p : ℕ} {e : Event} → node_of e ≡ i → At es p e → (q : ℕ) × Last i es q
last_of i h at_head = (_, last_head h)
last_of i h (at_tail {x = x} {past = past} a) = go (last_of i h a) (ℕ_discrete (node_of x) i)
  where
    go : (q : ℕ) × Last i past q → Dec (node_of x ≡ i) → (q : ℕ) × Last i (x ∷ past) q
    go l (yes k) = (_, last_head k)
    go l (no k) = (l.0, last_tail k l.1)

-- an event of a node is within the node's last
pub within_last : (i : ℕ) {es : List Event} {p q : ℕ} {e : Event} → node_of e ≡ i → At es p e → Last i es q → Within es q p
within_last i h at_head (last_head k) = inl refl
within_last i h at_head (last_tail k l) = absurd (k h)
within_last i h (at_tail {past = past} a) (last_head k) =
    let l = last_of i h a in
    let n = subst (λ (x : ℕ). Last x past l.0) (sym k) l.1 in
    inr (within_before (within_up (within_last i h a l.1)) (direct (link_node n)))
within_last i h (at_tail a) (last_tail k l) = within_up (within_last i h a l)

-- an event of the newest event's node is before the newest
pub node_before_new : {e x : Event} {past : List Event} {p : ℕ} → node_of e ≡ node_of x → At past p e → Before (x ∷ past) p (length past)
node_before_new {x = x} h a =
    let l = last_of (node_of x) h a in
    within_before (within_up (within_last (node_of x) h a l.1)) (direct (link_node l.1))

-- of two events of one node, the earlier in the log is before the later
pub node_order : {es : List Event} {p q : ℕ} {e f : Event} → node_of e ≡ node_of f → At es p e → At es q f → p < q → Before es p q
node_order h a at_head l = node_before_new h (at_down l a)
node_order h a (at_tail b) l = let k = at_bound b in before_up (node_order h (at_down (omega arith) a) b l)
