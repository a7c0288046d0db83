-- The full machine's rows describe what each node knows, and a letter in flight what its sender knew: by induction on the
-- cut, one lemma for each kind of event.
-- Assumes nothing.
use mathlib.Core.Path.{◌≡◌, refl, subst}
use mathlib.Core.Logic.{◌⊎◌, inl, inr, ◌≢◌, ⊎_elim}
use mathlib.Core.Bool.{Bool, true, false, false≢true}
use mathlib.Core.List.{List, [], ◌∷◌}
use Prim.Native.Nat.{ℕ, suc, ◌<◌, ◌≤◌, max}
use native.Mathlib.Nat.{le_refl}
use native.Mathlib.Decide.{ℕ_discrete, dec_le}
use native.Mathlib.Omega.{arith}
use lib.ListN.{length}
use Rattle.order.specs.Order.{Event, idle, mark, send, receipt, node_of, Flying, Before, Within, Sound, sound_nil, sound_cons, Allowed}
use Rattle.order.proofs.Places.{flying_bound, flying_down}
use Rattle.order.proofs.Before.{within_up, within_down}
use Rattle.machine.specs.Machine.{put, present, Letter, State, start, marked, meet, take_count, take_flag, received, step, whole, full}
use Rattle.machine.proofs.Small.{differ, put_both}
use Rattle.machine.proofs.Flights.{flights_sent}
use Rattle.machine.proofs.Known.{Known, known_bound, known_closed, known_at, known_up, known_down, within_known, known_within, known_before, before_known, sent_before, before_receipt}
use Rattle.machine.proofs.Numbers.{marks, numbered_bound, numbered_exists}
use Rattle.machine.proofs.Describes.{Describes, describes_same, describes_grown, describes_add, describes_join, describes_mark, New}

-- a letter with all counts and flags, that describe what is at or before place a
pub record Post (es : List Event) (a : ℕ) (l : Letter) : Type 0 where
  pub counts : ℕ → ℕ
  pub flags : ℕ → Bool
  pub tells : l.entry ≡ (λ k. present (counts k) (flags k))
  pub right : Describes es (Within es a) counts flags

-- each node's row describes what the node knows, and each letter in flight what was known where it was sent
pub record Faithful (es : List Event) (s : State) : Type 0 where
  pub rows : (i : ℕ) → Describes es (Known es i) (s.count i) (s.flag i)
  pub posts : (m i j a : ℕ) → Flying m i j es a → Post es a (s.letter m)

-- a node's own marks are all known to it
pub own : {es : List Event} {s : State} → Faithful es s → (i : ℕ) → s.count i i ≡ marks i es
own {es} {s} t i = go (dec_le 1 (marks i es))
  where
    go : Dec (1 ≤ marks i es) → s.count i i ≡ marks i es
    go (yes h) =
        let n = numbered_exists i es (marks i es) h (le_refl _) in
        omega (arith, (t.rows i).fits i, ((t.rows i).first i).0 n.0 (marks i es) n.1 (known_at i n.0 refl n.1.0))
    go (no h) = omega (arith, (t.rows i).fits i)

module _ {x : Event} {past : List Event} where
  -- a node to which nothing happened
  row_grown : (i : ℕ) {c : ℕ → ℕ} {f : ℕ → Bool} → node_of x ≢ i → Describes past (Known past i) c f → Describes (x ∷ past) (Known (x ∷ past) i) c f
  row_grown i h v = describes_same (λ p. known_up i p h) (λ p. known_down i p h) (describes_grown v)

  -- a letter that stays in flight
  post_grown : (a : ℕ) {l : Letter} → a < length past → Post past a l → Post (x ∷ past) a l
  post_grown a h o =
      record {
        counts = o.counts;
        flags = o.flags;
        tells = o.tells;
        right = describes_same (λ p. within_up) (λ p. within_down h) (describes_grown o.right);
      }

  -- the newest event's node, where the rest of what it knows is S
  row_new : {S : ℕ → Type 0} {c : ℕ → ℕ} {f : ℕ → Bool}
      → ((p : ℕ) → S p → Before (x ∷ past) p (length past)) → ((p : ℕ) → Before (x ∷ past) p (length past) → S p)
      → Describes (x ∷ past) (New past S) c f → Describes (x ∷ past) (Known (x ∷ past) (node_of x)) c f
  row_new succs preds v =
      describes_same
      (λ p. ⊎_elim (λ h. within_known (node_of x) p refl (inl h)) (λ s. within_known (node_of x) p refl (inr (succs p s))))
      (λ p k. ⊎_elim (λ h. inl h) (λ b. inr (preds p b)) (known_within (node_of x) p refl k)) v

  -- where it is neither a mark nor a receipt
  row_add : {c : ℕ → ℕ} {f : ℕ → Bool} → ((k : ℕ) → x ≢ mark k) → ((j m : ℕ) → x ≢ receipt j m)
      → Describes past (Known past (node_of x)) c f → Describes (x ∷ past) (Known (x ∷ past) (node_of x)) c f
  row_add plain quiet v = row_new known_before (before_known quiet) (describes_add plain (before_known quiet) v)

  -- the letters where the event sends nothing
  posts_grown : {s : State} → Faithful past s → ((i j m : ℕ) → x ≢ send i j m) → (m i j a : ℕ) → Flying m i j (x ∷ past) a → Post (x ∷ past) a (s.letter m)
  posts_grown t silent m i j a f = let h = flying_down silent f in post_grown a (flying_bound h) (t.posts m i j a h)

-- one row is put in, and the others stay
row_put : (es : List Event) (i j : ℕ) {c : ℕ → ℕ} {f : ℕ → Bool} (C : ℕ → ℕ → ℕ) (F : ℕ → ℕ → Bool)
    → Describes es (Known es i) c f → (i ≢ j → Describes es (Known es j) (C j) (F j)) → Describes es (Known es j) (put i c C j) (put i f F j)
row_put es i j {c} {f} C F v = put_both (Describes es (Known es j)) i c C f F j (λ e. rw (← e) v)

module _ {past : List Event} {s : State} (t : Faithful past s) where
  -- an event that leaves its node's row as it is
  row_kept : (x : Event) → ((k : ℕ) → x ≢ mark k) → ((j m : ℕ) → x ≢ receipt j m)
      → (j : ℕ) → Dec (node_of x ≡ j) → Describes (x ∷ past) (Known (x ∷ past) j) (s.count j) (s.flag j)
  row_kept x plain quiet j (yes e) =
      subst (λ (y : ℕ). Describes (x ∷ past) (Known (x ∷ past) y) (s.count y) (s.flag y)) e (row_add plain quiet (t.rows (node_of x)))
  row_kept x plain quiet j (no e) = row_grown j e (t.rows j)

  faithful_idle : (i : ℕ) → Faithful (idle i ∷ past) s
  faithful_idle i =
      record {
        rows = λ j. row_kept (idle i) (λ k. differ (λ z. omega arith)) (λ k m. differ (λ z. omega arith)) j (ℕ_discrete i j);
        posts = posts_grown t (λ a b m. differ (λ z. omega arith));
      }

  faithful_mark : (i : ℕ) → Faithful (mark i ∷ past) (marked i s)
  unfolding marked
  faithful_mark i =
      record {
        rows = λ j. row_put (mark i ∷ past) i j s.count s.flag new (λ e. row_grown j e (t.rows j));
        posts = posts_grown t (λ a b m. differ (λ z. omega arith));
      }
    where
      preds : (p : ℕ) → Before (mark i ∷ past) p (length past) → Known past i p
      preds = before_known (λ j m. differ (λ z. omega arith))

      new : Describes (mark i ∷ past) (Known (mark i ∷ past) i) (put i (suc (s.count i i)) (s.count i)) (put i true (λ k. false))
      new = row_new known_before preds (describes_mark i (t.rows i) (own t i) preds known_before)

  faithful_send : (i j m : ℕ) → Faithful (send i j m ∷ past) (step (whole s) (send i j m) s)
  unfolding step whole
  faithful_send i j m =
      record {
        rows = row;
        posts = flights_sent (λ l a b q x y. Post (send i j m ∷ past) q x) i j m letter s.letter letter s.letter sent
            (λ l a b q f. post_grown q (flying_bound f) (t.posts l a b q f));
      }
    where
      row : (k : ℕ) → Describes (send i j m ∷ past) (Known (send i j m ∷ past) k) (s.count k) (s.flag k)
      row k = row_kept (send i j m) (λ k. differ (λ z. omega arith)) (λ k m. differ (λ z. omega arith)) k (ℕ_discrete i k)

      letter : Letter
      letter = record { from = i; entry = λ k. present (s.count i k) (s.flag i k) }

      sent : Post (send i j m ∷ past) (length past) letter
      sent =
          record {
            counts = s.count i;
            flags = s.flag i;
            tells = refl;
            right = describes_same (λ p k. known_within i p refl k) (λ p w. within_known i p refl w) (row i);
          }

  faithful_receipt : (j m i a : ℕ) → Flying m i j past a → Faithful (receipt j m ∷ past) (received j m s)
  unfolding received take_count take_flag
  faithful_receipt j m i a f =
      record {
        rows = λ k. row_put (receipt j m ∷ past) j k s.count s.flag new (λ e. row_grown k e (t.rows k));
        posts = posts_grown t (λ a b m. differ (λ z. omega arith));
      }
    where
      o : Post past a (s.letter m)
      o = t.posts m i j a f

      preds : (p : ℕ) → Before (receipt j m ∷ past) p (length past) → Known past j p ⊎ Within past a p
      preds = before_receipt m i j a f

      joined : Describes (receipt j m ∷ past) (Known (receipt j m ∷ past) j)
          (λ k. max (s.count j k) (o.counts k)) (λ k. meet (s.count j k) (s.flag j k) (o.counts k) (o.flags k))
      joined =
          row_new (λ p. ⊎_elim (known_before p) (sent_before m i j a f p)) preds
          (describes_add (λ k. differ (λ z. omega arith)) preds (describes_join (t.rows j) o.right))

      new : Describes (receipt j m ∷ past) (Known (receipt j m ∷ past) j)
          (λ k. take_count (s.count j k) ((s.letter m).entry k)) (λ k. take_flag (s.count j k) (s.flag j k) ((s.letter m).entry k))
      new = rw o.tells joined

faithful_start : Faithful [] start
unfolding start
faithful_start =
    record {
      rows = λ i. record {
        bound = λ p k. known_bound i p k;
        closed = λ p q k b. known_closed i p q k b;
        fits = λ k. omega arith;
        first = λ k. (λ p r n s. let h = known_bound i p s in absurd (omega arith), λ p r n h. let l = numbered_bound n in absurd (omega arith));
        flags = λ k. (λ h. absurd (false≢true h), λ h. absurd (omega arith));
      };
      posts = λ m i j a f. let h = flying_bound f in absurd (omega arith);
    }

pub faithful : {n : ℕ} {es : List Event} → Sound n es → Faithful es (full es)
unfolding full step
faithful sound_nil = faithful_start
faithful {n} (sound_cons {e = e} {past = past} a h) = go e a (faithful h)
  where
    go : (e : Event) → Allowed n past e → Faithful past (full past) → Faithful (e ∷ past) (step (whole (full past)) e (full past))
    go (idle i) a t = faithful_idle t i
    go (mark i) a t = faithful_mark t i
    go (send i j m) a t = faithful_send t i j m
    go (receipt j m) a t = faithful_receipt t j m a.1.0 a.1.1 a.1.2
