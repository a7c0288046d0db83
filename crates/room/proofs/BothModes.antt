-- In either mode the machine that the room follows has the full machine's counts and flags, for its knowledge is honest, going by
-- the columns; its letters hold just what goes along, since full messages spare nothing and short ones go by the rule.
-- Assumes nothing.
use mathlib.Core.Path.{◌≡◌, refl, sym, ◌∙◌}
use mathlib.Core.Logic.{inl, inr, ◌↔◌}
use mathlib.Core.Bool.{Bool, true, false, ◌&&◌, false≢true, and-false}
use mathlib.Core.List.{List, [], ◌∷◌, ◌++◌}
use Prim.Native.Nat.{ℕ, zero, suc}
use native.Mathlib.Omega.{arith}
use lib.ListN.{length}
use Rattle.order.specs.Order.{Event, send, Flying, Sound, Counts, counts_zero, counts_yes}
use Rattle.order.proofs.Growing.{sound_cut}
use Rattle.machine.specs.Machine.{present, State, full}
use Rattle.machine.specs.Short.{brief, short, Columns, columns}
use Rattle.machine.specs.History.{Brought, InAll}
use Rattle.machine.specs.Answer.{entries, totals}
use Rattle.machine.proofs.Small.{offer_present, offer_kept}
use Rattle.machine.proofs.Agree.{Fair, fair_counts, fair_flags}
use Rattle.machine.proofs.Honest.{Honest, honest_fair}
use Rattle.machine.proofs.Brought.{noting_exact, noting_honest}
use Rattle.machine.proofs.Letters.{flight_kept}
use Rattle.machine.proofs.ShortMessages.{carried_exactly}
use Rattle.machine.proofs.Totals.{full_entries, carried_in_all, short_carried, due_in_all}
use Rattle.room.specs.declared.Mode.{Mode}
use Rattle.room.specs.declared.Mode.TheVariants.{Full, Short}
use Rattle.room.specs.Modes.{knowledge, GoesAlong, Counted, says}
use Rattle.room.specs.Room.{barn}

-- in short mode the knowledge is the machines' columns
pub mode_short : knowledge Short ≡ columns
mode_short = refl

-- what is spared has its flag and its bit set
set_both : (x y z : Bool) → x && (y && z) ≡ true → (x ≡ true) × (z ≡ true)
set_both true true z h = (refl, h)
set_both true false z h = absurd (false≢true h)
set_both false y z h = absurd (false≢true h)

-- in either mode it is honest
pub mode_honest : (mode : Mode) {n : ℕ} (es : List Event) → Sound n es → Honest (knowledge mode) es
mode_honest mode es ok =
    noting_honest (knowledge mode).spares (λ s held i j k h. set_both _ _ _ h) es ok

module _ (mode : Mode) {n : ℕ} {cut : List Event} (ok : Sound n cut) where
  mode_fair : Fair (knowledge mode) cut
  mode_fair = honest_fair (knowledge mode) (mode_honest mode) ok

  -- so the counts are the full machine's
  pub mode_counts : (i k : ℕ) → (barn mode cut).state.count i k ≡ (full cut).count i k
  unfolding barn
  mode_counts = fair_counts (knowledge mode) mode_fair

  -- and so are the flags
  pub mode_flags : (i k : ℕ) → (barn mode cut).state.flag i k ≡ (full cut).flag i k
  unfolding barn
  mode_flags = fair_flags (knowledge mode) mode_fair

  -- and a bit of a column is set exactly if that node has brought that very count
  pub mode_noted : (i j k : ℕ) → ((barn mode cut).known i k j ≡ true) ↔ Brought (knowledge mode) i j k ((full cut).count i k) cut
  unfolding barn
  mode_noted i j k = rw (fair_counts (knowledge mode) mode_fair i k) at (noting_exact (knowledge mode).spares ok i j k)

-- ---- what goes along

-- a full message spares nothing
full_spares : (s : State) (held : Columns) (i j k : ℕ) → (knowledge Full).spares s held i j k ≡ false
full_spares s held i j k = and-false (s.flag i k)

-- what i's message to j after the cut has of k is what goes along
pub goes_exactly : (mode : Mode) {n : ℕ} {past : List Event} → Sound n past → (i j k c : ℕ) (x : Bool)
    → (brief (short (knowledge mode) past) i j k ≡ present c x) ↔ GoesAlong mode past i j k c x
unfolding brief barn
goes_exactly Full {past = past} ok i j k c x = (
  λ h. let o = offer_present _ _ _ h in (sym o.0 ∙ mode_counts Full ok i k, sym o.1 ∙ mode_flags Full ok i k, o.2),
  λ h. let e = mode_counts Full ok i k ∙ sym h.0 in
      let f = mode_flags Full ok i k ∙ sym h.1 in
      let s = short (knowledge Full) past in
      rw (full_spares s.state s.held i j k, e, f) (offer_kept c x h.2),
)
goes_exactly Short ok i j k c x = carried_exactly ok i j k c x

-- and so it is of a message still in flight, whatever came after its send
pub flight_goes : (mode : Mode) {n : ℕ} (later past : List Event) {m i j : ℕ} → Sound n (later ++ (send i j m ∷ past)) → Flying m i j (later ++ (send i j m ∷ past)) (length past)
    → (k c : ℕ) (x : Bool) → (((barn mode (later ++ (send i j m ∷ past))).state.letter m).entry k ≡ present c x) ↔ GoesAlong mode past i j k c x
unfolding barn
flight_goes mode later past {m} {i} {j} ok f k c x =
    rw (flight_kept (knowledge mode) later past f) (goes_exactly mode (sound_cut (send i j m ∷ []) (sound_cut later ok)) i j k c x)

-- ---- what is counted

-- all nodes below n
all_counted : {P : ℕ → Type 0} → ((k : ℕ) → P k) → (n : ℕ) → Counts P n n
all_counted all zero = counts_zero
all_counted all (suc n) = counts_yes (all n) (all_counted all n)

-- with full messages every entry counts: it goes along, or its count is zero
full_counted : (past : List Event) (i j k : ℕ) → Counted Full past i j k
full_counted past i j k = go ((full past).count i k) refl
  where
    go : (c : ℕ) → (full past).count i k ≡ c → Counted Full past i j k
    go zero e = inr e
    go (suc c) e = inl (suc c, (full past).flag i k, (sym e, refl, omega arith))

-- what the messages are counted to carry in all is what counts
pub mode_carried : (mode : Mode) {n : ℕ} {cut : List Event} → Sound n cut → InAll (Counted mode) n cut (totals n (says mode) cut).carried
unfolding says
mode_carried Full {n} ok = carried_in_all (says Full) (λ past h i j. rw (full_entries n (full past) i j) (all_counted (full_counted past i j) n)) ok
mode_carried Short ok = due_in_all (short_carried ok)

-- a full message is counted to carry all n entries
pub full_says : (n : ℕ) (cut : List Event) (i j : ℕ) → entries n (says Full cut i j) ≡ n
unfolding says
full_says n cut i j = full_entries n (full cut) i j

-- and a short one those that the machine sends
pub short_says : (n : ℕ) (cut : List Event) (i j : ℕ) → entries n (says Short cut i j) ≡ entries n (brief (short (knowledge Short) cut) i j)
unfolding says
short_says n cut i j = refl
