-- What is noted of a cut is noted of it with one event more: the report grows by the event's group, and the tally by what the
-- event counts, which never comes near the end of its numbers.
-- Assumes nothing.
use mathlib.Core.Path.{◌≡◌, refl, sym, ◌∙◌, ap, subst}
use mathlib.Core.Bool.{Bool, true, false, cond}
use mathlib.Core.List.{List, [], ◌∷◌, ◌++◌, append-nil}
use Prim.Native.Nat.{ℕ, zero, suc, ◌+◌, ◌*◌, ◌^◌, ◌<◌, ◌≤◌, min}
use native.Mathlib.Nat.{zero-add}
use native.Mathlib.Decide.{dec_le}
use native.Mathlib.Omega.{arith}
use lib.Dec.{leb}
use lib.ListN.{length, length-append}
use borrow.Author.Tests.{le-leb, lt-leb, leb-true}
use Rattle.order.specs.Order.{Event, idle, mark, send, receipt}
use Rattle.verdict.specs.Lawful.{Lawful}
use Rattle.verdict.proofs.Lawfully.{lawful_past}
use Rattle.machine.specs.Machine.{Entry, absent, present, full}
use Rattle.machine.specs.Answer.{answers, weight, entries, Totals, totals, more}
use Rattle.room.specs.declared.Mode.{Mode}
use Rattle.room.specs.Modes.{says}
use Rattle.room.specs.Room.{barn, Holds}
use Rattle.steps.specs.Steps.{carried_by, Ready}
use Rattle.steps.proofs.Carried.{carried_more}
use Rattle.groups.specs.Groups.{groups_of, laid, written, Written}
use Rattle.groups.proofs.Laying.{laid_next, laid_length, laid_none}
use Rattle.groups.proofs.GroupSizes.{group_most}
use Rattle.groups.proofs.GroupsSame.{groups_more}
use Rattle.passes.specs.declared.Tally.{Tally}
use Rattle.passes.specs.Report.{report_of, tally_of}
use Rattle.passes.specs.Report.{bytes_alone}
use Rattle.passes.specs.Pass.{shown_in, Noted, group_by, mark_one, send_one, counted, Small}

-- ---- one event more

-- the report grows by the event's group
pub report_more : (n : ℕ) (cut : List Event) (e : Event) → report_of n (e ∷ cut) ≡ report_of n cut ++ group_by n cut e
unfolding report_of answers
report_more n cut (idle i) = sym (append-nil _)
report_more n cut (mark i) = groups_more n (answers n full cut) _
report_more n cut (send i j m) = sym (append-nil _)
report_more n cut (receipt j m) = sym (append-nil _)

alike : {a b c d x a' b' c' d' x' : ℕ} → a ≡ a' → b ≡ b' → c ≡ c' → d ≡ d' → x ≡ x'
    → ◌≡◌ {A = Tally} (record { events = a; marks = b; sends = c; carried = d; bytes = x }) (record { events = a'; marks = b'; sends = c'; carried = d'; bytes = x' })
alike p q r s t = rw (p, q, r, s, t)

-- the tally by what the event counts
pub tally_more : (mode : Mode) (n : ℕ) (cut : List Event) (e : Event)
    → counted e (carried_by mode n cut e) (length (group_by n cut e)) (tally_of mode n cut) ≡ tally_of mode n (e ∷ cut)
unfolding tally_of counted totals more
tally_more mode n cut e = alike (events e) (marks e) (sends e) (sym (carried_more mode n cut e)) (sym (ap length (report_more n cut e) ∙ length-append (report_of n cut) (group_by n cut e)))
  where
    t : Totals
    t = totals n (says mode) cut

    events : (e : Event) → t.events + 1 ≡ (totals n (says mode) (e ∷ cut)).events
    events (idle i) = omega arith
    events (mark i) = omega arith
    events (send i j m) = omega arith
    events (receipt j m) = omega arith

    marks : (e : Event) → t.marks + mark_one e ≡ (totals n (says mode) (e ∷ cut)).marks
    marks (idle i) = omega arith
    marks (mark i) = omega arith
    marks (send i j m) = omega arith
    marks (receipt j m) = omega arith

    sends : (e : Event) → t.sends + send_one e ≡ (totals n (says mode) (e ∷ cut)).sends
    sends (idle i) = omega arith
    sends (mark i) = omega arith
    sends (send i j m) = omega arith
    sends (receipt j m) = omega arith

-- ---- bounds

entries_most : (n : ℕ) (entry : ℕ → Entry) → entries n entry ≤ n
unfolding entries weight
entries_most zero entry = omega arith
entries_most (suc k) entry = omega (arith, entries_most k entry, one (entry k))
  where
    one : (x : Entry) → weight x ≤ 1
    one absent = omega arith
    one (present c x) = omega arith

pub carried_most : (mode : Mode) (n : ℕ) (cut : List Event) (e : Event) → carried_by mode n cut e ≤ n
carried_most mode n cut (idle i) = omega arith
carried_most mode n cut (mark i) = omega arith
carried_most mode n cut (send i j m) = entries_most n (says mode cut i j)
carried_most mode n cut (receipt j m) = omega arith

pub group_by_most : (n : ℕ) (cut : List Event) (e : Event) → n ≤ 32 → length (group_by n cut e) ≤ 261
group_by_most n cut (idle i) h = omega arith
group_by_most n cut (mark i) h = group_most n i (full cut) h
group_by_most n cut (send i j m) h = omega arith
group_by_most n cut (receipt j m) h = omega arith

-- an event is one mark or one send at most
pub one_most : (e : Event) → (mark_one e ≤ 1) × (send_one e ≤ 1)
one_most (idle i) = (omega arith, omega arith)
one_most (mark i) = (omega arith, omega arith)
one_most (send i j m) = (omega arith, omega arith)
one_most (receipt j m) = (omega arith, omega arith)

-- a cut of so many events counts so much at most
record Most (events : ℕ) (t : Tally) : Type 0 where
  events_are : t.events ≤ events
  marks_most : t.marks ≤ events
  sends_most : t.sends ≤ events
  carried_less : t.carried ≤ 32 * events
  bytes_less : t.bytes ≤ 261 * events

tally_most : (mode : Mode) (n : ℕ) → n ≤ 32 → (cut : List Event) → Most (length cut) (tally_of mode n cut)
unfolding tally_of totals report_of answers groups_of counted
tally_most mode n h [] = record { events_are = omega arith; marks_most = omega arith; sends_most = omega arith; carried_less = omega arith; bytes_less = omega arith }
tally_most mode n h (e ∷ cut) = subst (Most (suc (length cut))) (tally_more mode n cut e) (next (tally_most mode n h cut))
  where
    next : {t : Tally} → Most (length cut) t → Most (suc (length cut)) (counted e (carried_by mode n cut e) (length (group_by n cut e)) t)
    next m =
        record {
          events_are = omega arith;
          marks_most = omega (arith, (one_most e).0);
          sends_most = omega (arith, (one_most e).1);
          carried_less = omega (arith, carried_most mode n cut e);
          bytes_less = omega (arith, group_by_most n cut e h);
        }

-- the tally of a lawful cut is small
pub tally_small : (mode : Mode) {n : ℕ} {cut : List Event} → Lawful n cut → Small (tally_of mode n cut)
tally_small mode {n} {cut} ok =
    let m = tally_most mode n ok.few_nodes cut in
    (omega (arith, m.events_are), omega (arith, m.marks_most), omega arith, omega arith, omega arith)

-- ---- written

-- nothing to write
pub written_none : (at : ℕ) (room : List ℕ) → Written at [] room room 0
written_none at room = record { size_is = refl; room_is = go (leb (at + 0) (length room)) }
  where
    go : (b : Bool) → room ≡ cond b (laid at [] room) room
    go true = laid_none at room
    go false = refl

-- what is written changes no length
written_length : (at : ℕ) (bytes room : List ℕ) → length (written at bytes room) ≡ length room
written_length at bytes room = go (leb (at + length bytes) (length room)) refl
  where
    go : (b : Bool) → leb (at + length bytes) (length room) ≡ b → length (cond b (laid at bytes room) room) ≡ length room
    go true e = laid_length at bytes room (leb-true _ _ e)
    go false e = refl

-- and it is, where there is space
written_there : (at : ℕ) (bytes room : List ℕ) → at + length bytes ≤ length room → written at bytes room ≡ laid at bytes room
written_there at bytes room h = simp (le-leb _ _ h)

-- a place behind the end of the room has no space, as its end has none
pub written_behind : {bytes room room' : List ℕ} {size : ℕ} (at : ℕ) → 0 < length bytes → Written (min at (length room)) bytes room room' size
    → Written at bytes room room' size
written_behind {bytes} {room} at some w = record { size_is = w.size_is; room_is = w.room_is ∙ go (dec_le at (length room)) }
  where
    go : Dec (at ≤ length room)
        → cond (leb (min at (length room) + length bytes) (length room)) (laid (min at (length room)) bytes room) room
        ≡ cond (leb (at + length bytes) (length room)) (laid at bytes room) room
    go (yes h) = let e : min at (length room) ≡ at = omega arith in rw e
    go (no h) =
        rw (
          lt-leb (min at (length room) + length bytes) (length room) (omega arith),
          lt-leb (at + length bytes) (length room) (omega arith),
        )

-- ---- noted

-- nothing that is counted with an event more is near the end of its numbers
pub noted_small : {mode : Mode} {n : ℕ} {cut : List Event} {e : Event} {slot at bytes carried : ℕ} {room counts words mail report shown shown' : List ℕ} {tally : Tally}
    → Ready mode n cut e slot counts words mail → Noted mode n cut room counts words mail report tally
    → Written at (group_by n cut e) shown shown' bytes → carried ≡ carried_by mode n cut e
    → Small tally × (carried < 2 ^ 32) × (bytes < 2 ^ 32)
noted_small {mode} {n} {cut} {e} ready noted written carries =
    let ok = lawful_past ready.lawful in
    let few = ok.few_nodes in
    (rw noted.tallied (tally_small mode ok), omega (arith, carries, carried_most mode n cut e), omega (arith, group_by_most n cut e few))

-- before the first event, in a report room as it came
pub noted_none : (mode : Mode) (n : ℕ) {room counts words mail : List ℕ} → Holds n (barn mode []) counts words mail
    → Noted mode n [] room counts words mail room (bytes_alone 0)
unfolding tally_of totals report_of answers groups_of shown_in
noted_none mode n h = record { holds = h; tallied = refl; shown = refl }

-- with one event more, whose group was written behind the others
pub noted_more : (mode : Mode) (n : ℕ) (cut : List Event) (e : Event) {room counts words mail report counts' words' mail' report' : List ℕ} {tally : Tally}
    {bytes carried : ℕ} → Noted mode n cut room counts words mail report tally
    → Written tally.bytes (group_by n cut e) report report' bytes
    → Holds n (barn mode (e ∷ cut)) counts' words' mail' × (carried ≡ carried_by mode n cut e)
    → Noted mode n (e ∷ cut) room counts' words' mail' report' (counted e carried bytes tally)
unfolding tally_of shown_in
noted_more mode n cut e old w follows =
    record {
      holds = follows.0;
      tallied = rw (follows.1, w.size_is, old.tallied) (tally_more mode n cut e);
      shown = w.room_is ∙ rw (old.tallied, old.shown);
    }

-- ---- shown

-- writing changes no length
shown_length : (n : ℕ) (room : List ℕ) (cut : List Event) → length (shown_in n room cut) ≡ length room
unfolding shown_in
shown_length n room [] = refl
shown_length n room (e ∷ cut) = written_length (length (report_of n cut)) (group_by n cut e) (shown_in n room cut) ∙ shown_length n room cut

pub noted_sized : {mode : Mode} {n : ℕ} {cut : List Event} {room counts words mail report : List ℕ} {tally : Tally}
    → Noted mode n cut room counts words mail report tally → length report ≡ length room
noted_sized {n = n} {cut} {room} h = ap length h.shown ∙ shown_length n room cut

-- where there is space for the whole report of the cut, it stands at the front of the room
pub shown_fits : (n : ℕ) (room : List ℕ) (cut : List Event) → length (report_of n cut) ≤ length room → shown_in n room cut ≡ laid 0 (report_of n cut) room
unfolding shown_in report_of answers groups_of
shown_fits n room [] fit = laid_none 0 room
shown_fits n room (e ∷ cut) fit =
    written_there (length (report_of n cut)) (group_by n cut e) (shown_in n room cut) (omega (arith, grown, shown_length n room cut))
    ∙ rw (shown_fits n room cut (omega (arith, grown)))
    (ap (λ (at : ℕ). laid at (group_by n cut e) (laid 0 (report_of n cut) room)) (sym (zero-add (length (report_of n cut))))
    ∙ laid_next 0 (report_of n cut) (group_by n cut e) room (omega arith))
    ∙ ap (λ (r : List ℕ). laid 0 r room) (sym (report_more n cut e))
  where
    grown : length (report_of n (e ∷ cut)) ≡ length (report_of n cut) + length (group_by n cut e)
    grown = ap length (report_more n cut e) ∙ length-append (report_of n cut) (group_by n cut e)
