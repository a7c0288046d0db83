-- Demand 3's sentence fixes every short message: two machines that both carry just what it says send the same letters. By
-- induction on the cut, since the sentence speaks of earlier messages only.
-- Assumes nothing.
use mathlib.Core.Path.{◌≡◌, refl, sym, ◌∙◌}
use mathlib.Core.Logic.{◌⊎◌, inl, inr, ⊎_elim, ◌↔◌}
use mathlib.Core.Bool.{Bool}
use mathlib.Core.List.{List, ◌∷◌}
use Prim.Native.Nat.{ℕ}
use Rattle.order.specs.Order.{Event, idle, mark, send, receipt, Sound, sound_nil, sound_cons, Flying}
use Rattle.machine.specs.Machine.{Entry, absent, present, Letter, marked, received, step}
use Rattle.machine.specs.Short.{Knowledge, brief, short, columns}
use Rattle.machine.specs.History.{Carries, Brought, brought_now, brought_once, Due}
use Rattle.machine.proofs.Small.{put_both}
use Rattle.machine.proofs.Brought.{brought_none, brought_cases}
use Rattle.machine.proofs.ShortMessages.{carried_exactly}

-- every message of the machine carries what is due, and nothing else
abbrev pub Obeys : ℕ → Knowledge → Type 0
Obeys n K = (past : List Event) → Sound n past → (i j k c : ℕ) (x : Bool) → (brief (short K past) i j k ≡ present c x) ↔ Due K past i j k c x

pub columns_obey : (n : ℕ) → Obeys n columns
columns_obey n past ok i j k c x = carried_exactly ok i j k c x

-- entries that are present alike are the same
same_entry : (x y : Entry) → ((c : ℕ) (f : Bool) → x ≡ present c f → y ≡ present c f) → ((c : ℕ) (f : Bool) → y ≡ present c f → x ≡ present c f) → x ≡ y
same_entry absent absent f g = refl
same_entry absent (present d y) f g = g d y refl
same_entry (present c x) y f g = sym (f c x refl)

-- the same letters under every number
abbrev Alike : Knowledge → Knowledge → List Event → Type 0
Alike K L es = (m k : ℕ) → ((short K es).state.letter m).entry k ≡ ((short L es).state.letter m).entry k

-- the same brought to every node
abbrev Told : Knowledge → Knowledge → List Event → Type 0
Told K L es = (i j k c : ℕ) → Brought K i j k c es → Brought L i j k c es

told_more : (K L : Knowledge) (e : Event) (past : List Event) → Alike K L past → Told K L past → Told K L (e ∷ past)
told_more K L e past a t i j k c b = go (brought_cases b)
  where
    go : Brought K i j k c past ⊎ ((m p : ℕ) × (e ≡ receipt i m) × Flying m j i past p × Carries K past m k c) → Brought L i j k c (e ∷ past)
    go (inl b) = brought_once (t i j k c b)
    go (inr (m, p, q, f, h)) = rw q (brought_now f (h.0, sym (a m k) ∙ h.1))

-- where the same was brought, the same is due
due_same : (K L : Knowledge) (past : List Event) → Told L K past → (i j k c : ℕ) (x : Bool) → Due K past i j k c x → Due L past i j k c x
due_same K L past t i j k c x d = (d.0, d.1, d.2, ⊎_elim (λ h. inl h) (λ h. inr (λ b. h (t i j k c b))) d.3)

module _ {n : ℕ} (K L : Knowledge) (o : Obeys n K) (q : Obeys n L) where
  -- after a cut up to which the same was brought, the same is sent
  sent_same : (past : List Event) → Sound n past → Told K L past → Told L K past → (i j k : ℕ) → brief (short K past) i j k ≡ brief (short L past) i j k
  sent_same past ok t u i j k =
      same_entry (brief (short K past) i j k) (brief (short L past) i j k)
      (λ c x h. (q past ok i j k c x).1 (due_same K L past u i j k c x ((o past ok i j k c x).0 h)))
      (λ c x h. (o past ok i j k c x).1 (due_same L K past t i j k c x ((q past ok i j k c x).0 h)))

  alike : {es : List Event} → Sound n es → Alike K L es × Told K L es × Told L K es
  unfolding short step marked received
  alike sound_nil = (λ m k. refl, λ i j k c b. absurd (brought_none b), λ i j k c b. absurd (brought_none b))
  alike (sound_cons {e = e} {past = past} a h) =
      let r = alike h in
      (letters e r.0 (sent_same past h r.1 r.2), told_more K L e past r.0 r.1, told_more L K e past (λ m k. sym (r.0 m k)) r.2)
    where
      letters : (e : Event) → Alike K L past → ((i j k : ℕ) → brief (short K past) i j k ≡ brief (short L past) i j k) → Alike K L (e ∷ past)
      letters (idle i) r s m k = r m k
      letters (mark i) r s m k = r m k
      letters (send i j l) r s m k =
          put_both (λ (x y : Letter). x.entry k ≡ y.entry k) l
          (record { from = i; entry = brief (short K past) i j }) (short K past).state.letter
          (record { from = i; entry = brief (short L past) i j }) (short L past).state.letter m (λ e. s i j k) (λ e. r m k)
      letters (receipt j l) r s m k = r m k

  -- what the sentence says is sent in one way only
  pub obeys_unique : (past : List Event) → Sound n past → (i j k : ℕ) → brief (short K past) i j k ≡ brief (short L past) i j k
  obeys_unique past ok = let r = alike ok in sent_same past ok r.1 r.2
