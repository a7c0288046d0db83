-- What holds of the letters in flight, after a send: its own letter is the one put in under its number, and the others are
-- as they were. By the cases of a flight.
-- Assumes nothing.
use mathlib.Core.Path.{◌≡◌}
use mathlib.Core.Logic.{◌⊎◌, inl, inr, ◌≢◌}
use mathlib.Core.List.{List, ◌∷◌}
use Prim.Native.Nat.{ℕ}
use lib.ListN.{length}
use Rattle.order.specs.Order.{Event, send, Flying}
use Rattle.order.proofs.Places.{flying_cases}
use Rattle.machine.specs.Machine.{put}
use Rattle.machine.proofs.Small.{put_same, put_other}

-- Of two tables of letters, into which L and M are put at number m: what P says of L and M, and of the letters that were in
-- flight, it says of all that are in flight now. P speaks of number, sender, receiver and place of the send.
module _ {A B : Type 0} (P : ℕ → ℕ → ℕ → ℕ → A → B → Type 0) {past : List Event} (i j m : ℕ) (L : A) (f : ℕ → A) (M : B) (g : ℕ → B)
    (new : P m i j (length past) L M) (old : (l a b p : ℕ) → Flying l a b past p → P l a b p (f l) (g l)) where
  pub flights_sent : (l a b p : ℕ) → Flying l a b (send i j m ∷ past) p → P l a b p (put m L f l) (put m M g l)
  flights_sent l a b p h = go (flying_cases h)
    where
      go : ((send i j m ≡ send a b l) × (p ≡ length past)) ⊎ ((m ≢ l) × Flying l a b past p) → P l a b p (put m L f l) (put m M g l)
      go (inl (e, q)) =
          let x : m ≡ l = cc in let y : i ≡ a = cc in let z : j ≡ b = cc in
          rw (← x, ← y, ← z, q, put_same m L f, put_same m M g) new
      go (inr (n, h)) = rw (put_other m L f l n, put_other m M g l n) (old l a b p h)
