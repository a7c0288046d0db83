-- 01's promise (a) for the run: every input has one possible result. The answer and the report are equations, a state has one
-- work room, and what lies behind its fixed sizes is as it was.
-- Assumes nothing.
use mathlib.Core.Path.{◌≡◌, sym, ◌∙◌, ap₂}
use mathlib.Core.List.{List, ◌++◌}
use Prim.Native.Nat.{ℕ}
use lib.ListN.{length, take, drop, take-append-drop}
use Rattle.room.specs.declared.Mode.{Mode}
use Rattle.room.specs.Room.{fits}
use Rattle.room.proofs.OneRoom.{one_room}
use Rattle.report.specs.declared.Answer.{Answer}
use Rattle.report.specs.Run.{Ending, cramped, refusal, overlong, complete, ending, RoomsAfter, Ran}

-- a list is its front and what lies behind
halves : (size : ℕ) {xs ys : List ℕ} → take size xs ≡ take size ys → drop size xs ≡ drop size ys → xs ≡ ys
halves size {xs} {ys} front behind = sym (take-append-drop size xs) ∙ ap₂ ◌++◌ front behind ∙ take-append-drop size ys

-- the work rooms, for each way to end
rooms_unique : (mode : Mode) (e : Ending) (counts words mail : List ℕ) {c w m c₂ w₂ m₂ : List ℕ}
    → RoomsAfter mode e counts words mail c w m → RoomsAfter mode e counts words mail c₂ w₂ m₂ → (c ≡ c₂) × (w ≡ w₂) × (m ≡ m₂)
rooms_unique mode cramped counts words mail a b = (a.0 ∙ sym b.0, a.1 ∙ sym b.1, a.2 ∙ sym b.2)
rooms_unique mode (refusal x p) counts words mail a b = (a.0 ∙ sym b.0, a.1 ∙ sym b.1, a.2 ∙ sym b.2)
rooms_unique mode (overlong n cut) counts words mail a b = (a.0 ∙ sym b.0, a.1 ∙ sym b.1, a.2 ∙ sym b.2)
rooms_unique mode (complete n cut) counts words mail a b =
    let same = one_room a.0 b.0 in
    (halves 1024 same.0 (a.1 ∙ sym b.1), halves 1056 same.1 (a.2 ∙ sym b.2), halves 4480 same.2 (a.3 ∙ sym b.3))

-- Two results that both keep the promise for one input are the same: the answer, the three work rooms and the report room.
pub ran_unique : {mode : Mode} {log counts words mail report c w m p c₂ w₂ m₂ p₂ : List ℕ} {r s : Answer}
    → Ran mode log counts words mail report c w m p r → Ran mode log counts words mail report c₂ w₂ m₂ p₂ s
    → (r ≡ s) × (c ≡ c₂) × (w ≡ w₂) × (m ≡ m₂) × (p ≡ p₂)
ran_unique {mode} {log} {counts} {words} {mail} {report} a b =
    let rooms = rooms_unique mode (ending log (fits counts words mail) (length report)) counts words mail a.rooms_are b.rooms_are in
    (a.answer_is ∙ sym b.answer_is, rooms.0, rooms.1, rooms.2, a.report_is ∙ sym b.report_is)
