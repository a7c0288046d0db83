-- What is said of an event does not change when the log grows or is cut behind it: each statement over a cut is the same
-- over the cut with one event more, and so with any number of them.
-- Assumes nothing.
use mathlib.Core.Logic.Iff
use mathlib.Core.Logic.{◌↔◌}
use mathlib.Core.List.{List, [], ◌∷◌, ◌++◌}
use Prim.Native.Nat.{ℕ, ◌<◌, ◌≤◌}
use native.Mathlib.Omega.{arith}
use lib.ListN.{length, length-append}
use Rattle.order.specs.Order.{Event, At, at_tail, Link, link_tail, Before, counts_yes, counts_no, Stamp, Numbered, Nearest, Sound, sound_cons}
use Rattle.order.proofs.Places.{at_bound, at_down, link_down}
use Rattle.order.proofs.Before.{before_forward, before_up, before_down, within_le, within_up, within_down}
use Rattle.order.proofs.Counts.{counts_same}

-- what one event more does not change, no number of later events changes
pub grown : (P : List Event → Type 0) (past : List Event) → ((x : Event) (es : List Event) → length past ≤ length es → P es ↔ P (x ∷ es))
    → (later : List Event) → P past ↔ P (later ++ past)
grown P past h [] = Iff.rfl
grown P past h (x ∷ later) =
    let r = grown P past h later in
    let s = h x (later ++ past) (omega (arith, length-append later past)) in
    (λ p. s.0 (r.0 p), λ p. r.1 (s.1 p))

module _ (past later : List Event) where
  pub at_grown : {p : ℕ} {e : Event} → p < length past → At past p e ↔ At (later ++ past) p e
  at_grown {p} {e} h = grown (λ es. At es p e) past (λ x es l. (at_tail, at_down (omega arith))) later

  pub link_grown : {a b : ℕ} → b < length past → Link past a b ↔ Link (later ++ past) a b
  link_grown {a} {b} h = grown (λ es. Link es a b) past (λ x es l. (link_tail, link_down (omega arith))) later

  pub before_grown : {a b : ℕ} → b < length past → Before past a b ↔ Before (later ++ past) a b
  before_grown {a} {b} h = grown (λ es. Before es a b) past (λ x es l. (before_up, before_down (omega arith))) later

-- ---- stamps, numbers and direct predecessors, an event more

module _ {x : Event} {past : List Event} where
  pub numbered_up : {k e c : ℕ} → Numbered past k e c → Numbered (x ∷ past) k e c
  numbered_up m =
      let old = at_bound m.0 in
      (at_tail m.0, counts_same (λ p h a. at_tail a) (λ p h a. at_down (omega arith) a) m.1)

  pub numbered_down : {k e c : ℕ} → e < length past → Numbered (x ∷ past) k e c → Numbered past k e c
  numbered_down old m = (at_down old m.0, counts_same (λ p h a. at_down (omega arith) a) (λ p h a. at_tail a) m.1)

module _ {x : Event} {past : List Event} {e : ℕ} (old : e < length past) where
  stamp_up : {k c : ℕ} → Stamp past e k c → Stamp (x ∷ past) e k c
  stamp_up s =
      counts_no {m = length past} (λ a. let h = within_le a.1 in omega arith)
      (counts_same (λ p h a. (at_tail a.0, within_up a.1)) (λ p h a. (at_down h a.0, within_down old a.1)) s)

  stamp_down : {k c : ℕ} → Stamp (x ∷ past) e k c → Stamp past e k c
  stamp_down (counts_yes a s) = let h = within_le a.1 in absurd (omega arith)
  stamp_down (counts_no a s) = counts_same (λ p h a. (at_down h a.0, within_down old a.1)) (λ p h a. (at_tail a.0, within_up a.1)) s

  nearest_up : {k f : ℕ} → Nearest past k f e → Nearest (x ∷ past) k f e
  nearest_up m = (
    at_tail m.0,
    before_up m.1,
    λ l g a b c. let h = before_forward c in m.2 l g (at_down (omega arith) a) (before_down (omega arith) b) (before_down old c),
  )

  nearest_down : {k f : ℕ} → Nearest (x ∷ past) k f e → Nearest past k f e
  nearest_down m =
      let h = before_forward m.1 in
      (at_down (omega arith) m.0, before_down old m.1, λ l g a b c. m.2 l g (at_tail a) (before_up b) (before_up c))

module _ (past later : List Event) {e : ℕ} (old : e < length past) where
  pub stamp_grown : {k c : ℕ} → Stamp past e k c ↔ Stamp (later ++ past) e k c
  stamp_grown {k} {c} = grown (λ es. Stamp es e k c) past (λ x es l. (stamp_up (omega arith), stamp_down (omega arith))) later

  pub numbered_grown : {k c : ℕ} → Numbered past k e c ↔ Numbered (later ++ past) k e c
  numbered_grown {k} {c} = grown (λ es. Numbered es k e c) past (λ x es l. (numbered_up, numbered_down (omega arith))) later

  pub nearest_grown : {k f : ℕ} → Nearest past k f e ↔ Nearest (later ++ past) k f e
  nearest_grown {k} {f} = grown (λ es. Nearest es k f e) past (λ x es l. (nearest_up (omega arith), nearest_down (omega arith))) later

-- ---- sound cuts

-- every earlier cut of a sound cut is sound
pub sound_cut : {n : ℕ} (later : List Event) {past : List Event} → Sound n (later ++ past) → Sound n past
sound_cut [] h = h
sound_cut (x ∷ later) (sound_cons a h) = sound_cut later h
