-- Two marks are ordered as their stamps are: what is before has no entry that exceeds the later's, and a mark is within an
-- event as soon as the event counts as many marks of its node as the mark itself, since the marks of one node are in order.
-- Assumes nothing.
use mathlib.Core.Path.{◌≡◌, refl}
use mathlib.Core.Logic.{inl, inr}
use mathlib.Core.List.{List}
use Prim.Native.Nat.{ℕ, ◌<◌, ◌≤◌}
use native.Mathlib.Decide.{dec_lt, ℕ_discrete}
use native.Mathlib.Omega.{arith}
use Rattle.order.specs.Order.{Event, mark, At, Before, Within, Stamp}
use Rattle.order.proofs.Places.{at_bound}
use Rattle.order.proofs.Before.{before_forward, within_before, within_le, before_within, node_order}
use Rattle.order.proofs.Counts.{counts_more, counts_exceed, counts_decide}

-- a stamp does not fall on the way to a later event
pub stamps_rise : {es : List Event} {e f : ℕ} → Before es e f → {k c d : ℕ} → Stamp es e k c → Stamp es f k d → c ≤ d
stamps_rise r = counts_more (λ p h a. (a.0, inr (within_before a.1 r)))

-- and it rises at the later mark's node
pub stamp_rises : {es : List Event} {e f j : ℕ} → At es f (mark j) → Before es e f → {c d : ℕ} → Stamp es e j c → Stamp es f j d → c < d
stamp_rises {f = f} there r =
    counts_exceed f (λ p h a. (a.0, inr (within_before a.1 r))) (at_bound there) (there, inl refl)
    (λ a. let h = before_forward r in let k = within_le a.1 in omega arith)

module _ {es : List Event} {e f i : ℕ} (there : At es e (mark i)) where
  -- a mark of the same node within f is within e, if e itself is not within f
  earlier_marks : ¬ Within es f e → (p : ℕ) → At es p (mark i) → Within es f p → Within es e p
  earlier_marks out p a w = go (dec_lt p e) (ℕ_discrete p e)
    where
      go : Dec (p < e) → Dec (p ≡ e) → Within es e p
      go (yes h) d = inr (node_order refl a there h)
      go (no h) (yes d) = inl d
      go (no h) (no d) = absurd (out (inr (before_within (node_order refl there a (omega arith)) w)))

  -- a mark is within an event that counts as many marks of its node
  pub stamp_within : {c d : ℕ} → Stamp es e i c → Stamp es f i d → c ≤ d → Within es f e
  stamp_within s t h = go (counts_decide (at_bound there) t)
    where
      go : Dec (At es e (mark i) × Within es f e) → Within es f e
      go (yes w) = w.1
      go (no out) =
          let l = counts_exceed e (λ p h a. (a.0, earlier_marks (λ w. out (there, w)) p a.0 a.1)) (at_bound there) (there, inl refl) out t s in
          absurd (omega arith)
