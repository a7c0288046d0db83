-- Short messages whose missing entries would change nothing on arrival leave every node with the same counts and flags as
-- full ones: by induction on the cut, for any knowledge.
-- Assumes nothing.
use mathlib.Core.Path.{◌≡◌, refl, sym, ap, ap₂, fun_ext}
use mathlib.Core.Logic.{◌⊎◌, inl, inr}
use mathlib.Core.Bool.{Bool}
use mathlib.Core.List.{List, [], ◌∷◌, ◌++◌}
use Prim.Native.Nat.{ℕ}
use Rattle.order.specs.Order.{Event, idle, mark, send, receipt}
use Rattle.machine.specs.Machine.{put, Entry, absent, present, Letter, State, start, marked, take_count, take_flag, received, step, whole, full}
use Rattle.machine.specs.Short.{Knowledge, brief, short}
use Rattle.machine.specs.Answer.{Answer, answer, answers}
use Rattle.machine.proofs.Small.{offer_cases, put_both}

-- ---- idle entries

-- node j's count and flag for k would be the same without the entry for k of the letter of number m
abbrev pub Idle : State → ℕ → ℕ → ℕ → Type 0
Idle t j m k =
    (take_count (t.count j k) ((t.letter m).entry k) ≡ t.count j k)
    × (take_flag (t.count j k) (t.flag j k) ((t.letter m).entry k) ≡ t.flag j k)

-- if the event is a receipt, what the short letter leaves out would be idle in the full one
abbrev pub Harmless : Knowledge → List Event → Event → Type 0
Harmless K past e = (j m : ℕ) → e ≡ receipt j m → (k : ℕ) → ((short K past).state.letter m).entry k ≡ absent → Idle (full past) j m k

-- so at every receipt of the cut
pub data Fair (K : Knowledge) : List Event → Type 0 where
  fair_nil : Fair K []
  fair_cons : {e : Event} {past : List Event} → Harmless K past e → Fair K past → Fair K (e ∷ past)

-- ---- states that agree

-- the same counts and flags, and letters of which the one may lack entries of the other
pub record Agrees (s t : State) : Type 0 where
  pub counts : s.count ≡ t.count
  pub flags : s.flag ≡ t.flag
  pub letters : (m k : ℕ) → ((s.letter m).entry k ≡ absent) ⊎ ((s.letter m).entry k ≡ (t.letter m).entry k)

agrees_start : Agrees start start
agrees_start = record { counts = refl; flags = refl; letters = λ m k. inr refl }

module _ {s t : State} (g : Agrees s t) where
  agrees_mark : (i : ℕ) → Agrees (marked i s) (marked i t)
  unfolding marked
  agrees_mark i = record { counts = rw g.counts; flags = rw g.flags; letters = g.letters }

  agrees_send : (i j m : ℕ) (says : ℕ → ℕ → ℕ → Entry) → ((k : ℕ) → (says i j k ≡ absent) ⊎ (says i j k ≡ present (s.count i k) (s.flag i k)))
      → Agrees (step says (send i j m) s) (step (whole t) (send i j m) t)
  unfolding step whole
  agrees_send i j m says h =
      record {
        counts = g.counts;
        flags = g.flags;
        letters = λ l k. put_both (λ (x y : Letter). (x.entry k ≡ absent) ⊎ (x.entry k ≡ y.entry k)) m
            (record { from = i; entry = says i j }) s.letter (record { from = i; entry = whole t i j }) t.letter l
            (λ e. rw (← g.counts, ← g.flags) (h k)) (λ e. g.letters l k);
      }

  agrees_receipt : (j m : ℕ) → ((k : ℕ) → (s.letter m).entry k ≡ absent → Idle t j m k) → Agrees (received j m s) (received j m t)
  unfolding received take_count take_flag
  agrees_receipt j m h =
      record {
        counts = ap₂ (put j) (fun_ext (λ k. rw g.counts (takes k (g.letters m k)).0)) g.counts;
        flags = ap₂ (put j) (fun_ext (λ k. rw (g.counts, g.flags) (takes k (g.letters m k)).1)) g.flags;
        letters = g.letters;
      }
    where
      takes : (k : ℕ) → ((s.letter m).entry k ≡ absent) ⊎ ((s.letter m).entry k ≡ (t.letter m).entry k)
          → (take_count (t.count j k) ((s.letter m).entry k) ≡ take_count (t.count j k) ((t.letter m).entry k))
          × (take_flag (t.count j k) (t.flag j k) ((s.letter m).entry k) ≡ take_flag (t.count j k) (t.flag j k) ((t.letter m).entry k))
      takes k (inl e) = let i = h k e in rw e (sym i.0, sym i.1)
      takes k (inr e) = rw e (refl, refl)

  agrees_answer : (n i : ℕ) → answer n i s ≡ answer n i t
  unfolding answer marked
  agrees_answer n i = rw (g.counts, g.flags)

-- ---- demand 3, first half, for any fair knowledge

pub agree : (K : Knowledge) {es : List Event} → Fair K es → Agrees (short K es).state (full es)
unfolding short full step brief
agree K fair_nil = agrees_start
agree K (fair_cons {e = e} {past = past} h f) = go e h (agree K f)
  where
    go : (e : Event) → Harmless K past e → Agrees (short K past).state (full past) → Agrees (short K (e ∷ past)).state (full (e ∷ past))
    go (idle i) h g = g
    go (mark i) h g = agrees_mark g i
    go (send i j m) h g = agrees_send g i j m (brief (short K past)) (λ k. offer_cases _ _ _)
    go (receipt j m) h g = agrees_receipt g j m (h j m refl)

module _ (K : Knowledge) {es : List Event} (f : Fair K es) where
  pub fair_counts : (i k : ℕ) → (short K es).state.count i k ≡ (full es).count i k
  fair_counts i k = ap (λ (c : ℕ → ℕ → ℕ). c i k) (agree K f).counts

  pub fair_flags : (i k : ℕ) → (short K es).state.flag i k ≡ (full es).flag i k
  fair_flags i k = ap (λ (x : ℕ → ℕ → Bool). x i k) (agree K f).flags

-- and so the same answers
pub fair_answers : (n : ℕ) (K : Knowledge) {es : List Event} → Fair K es → answers n (λ cut. (short K cut).state) es ≡ answers n full es
unfolding answers
fair_answers n K fair_nil = refl
fair_answers n K (fair_cons {e = e} {past = past} h f) = go e (fair_answers n K f) (agree K f)
  where
    go : (e : Event) → answers n (λ cut. (short K cut).state) past ≡ answers n full past → Agrees (short K past).state (full past)
        → answers n (λ cut. (short K cut).state) (e ∷ past) ≡ answers n full (e ∷ past)
    go (idle i) r g = r
    go (mark i) r g = ap₂ (λ (l : List Answer) (a : Answer). l ++ (a ∷ [])) r (agrees_answer g n i)
    go (send i j m) r g = r
    go (receipt j m) r g = r
