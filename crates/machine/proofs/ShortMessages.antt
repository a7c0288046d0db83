-- Demand 3 for the base's short messages. First half: the columns are honest, so counts, flags and answers are those of full
-- messages. Second half: a message carries just what the sentence says, since a bit is what was brought.
-- Assumes nothing.
use mathlib.Core.Path.{◌≡◌, refl, sym, ◌∙◌}
use mathlib.Core.Logic.{◌⊎◌, inl, inr, ⊎_elim, ◌↔◌}
use mathlib.Core.Bool.{Bool, true, false, ◌&&◌, true≢false}
use mathlib.Mathlib.Data.Bool.Basic.{eq-false_of_not-eq-true}
use mathlib.Core.List.{List, [], ◌∷◌, ◌++◌}
use Prim.Native.Nat.{ℕ}
use lib.ListN.{length}
use Rattle.order.specs.Order.{Event, send, Flying, Sound}
use Rattle.order.proofs.Growing.{sound_cut}
use Rattle.machine.specs.Machine.{present, full}
use Rattle.machine.specs.Short.{brief, short, columns}
use Rattle.machine.specs.History.{Brought, Due}
use Rattle.machine.specs.Answer.{answers}
use Rattle.machine.proofs.Small.{offer_present, offer_kept}
use Rattle.machine.proofs.Agree.{Fair, fair_counts, fair_flags, fair_answers}
use Rattle.machine.proofs.Honest.{honest_fair}
use Rattle.machine.proofs.Letters.{flight_kept}
use Rattle.machine.proofs.Brought.{columns_exact, columns_honest}

-- ---- first half

-- For EVERY sound cut, so also where messages overtake each other and where they never arrive: `Sound` asks of a receipt
-- only that its message is in flight, and of a message not that it is ever received.
module _ {n : ℕ} {es : List Event} (ok : Sound n es) where
  columns_fair : Fair columns es
  columns_fair = honest_fair columns columns_honest ok

  pub short_counts : (i k : ℕ) → (short columns es).state.count i k ≡ (full es).count i k
  short_counts = fair_counts columns columns_fair

  pub short_flags : (i k : ℕ) → (short columns es).state.flag i k ≡ (full es).flag i k
  short_flags = fair_flags columns columns_fair

  pub short_answers : answers n (λ cut. (short columns cut).state) es ≡ answers n full es
  short_answers = fair_answers n columns columns_fair

-- ---- second half

module _ {n : ℕ} {past : List Event} (ok : Sound n past) (i j k : ℕ) where
  abbrev bit : Bool
  bit = (short columns past).held i k j

  -- an entry is not spared exactly if its flag is clear or its count was not brought
  spared : (c : ℕ) (x : Bool) → (short columns past).state.count i k ≡ c → (x && bit ≡ false) ↔ ((x ≡ false) ⊎ ¬ Brought columns i j k c past)
  spared c false e = (λ h. inl refl, λ h. refl)
  spared c true e = (λ h. inr (λ b. true≢false (sym (brought.1 b) ∙ h)), ⊎_elim (λ h. absurd (true≢false h)) (λ h. eq-false_of_not-eq-true (λ q. h (brought.0 q))))
    where
      brought : (bit ≡ true) ↔ Brought columns i j k c past
      brought = rw e at (columns_exact ok i j k)

  -- what i's message to j after the cut carries is what is due
  pub carried_exactly : (c : ℕ) (x : Bool) → (brief (short columns past) i j k ≡ present c x) ↔ Due columns past i j k c x
  unfolding brief
  carried_exactly c x = (
    λ h. let o = offer_present _ _ _ h in
        (sym o.0 ∙ short_counts ok i k, sym o.1 ∙ short_flags ok i k, o.2, (spared c x o.0).0 (rw o.1 at o.3)),
    λ h. let e = short_counts ok i k ∙ sym h.0 in
        let f = short_flags ok i k ∙ sym h.1 in
        rw (e, f, (spared c x e).1 h.3) (offer_kept c x h.2),
  )

-- and so it is for a message still in flight, whatever came after its send
pub flight_exactly : {n : ℕ} (later past : List Event) {m i j : ℕ} → Sound n (later ++ (send i j m ∷ past)) → Flying m i j (later ++ (send i j m ∷ past)) (length past)
    → (k c : ℕ) (x : Bool) → (((short columns (later ++ (send i j m ∷ past))).state.letter m).entry k ≡ present c x) ↔ Due columns past i j k c x
flight_exactly later past {m} {i} {j} ok f k c x =
    rw (flight_kept columns later past f) (carried_exactly (sound_cut (send i j m ∷ []) (sound_cut later ok)) i j k c x)
