-- 01's promise (a) for the calls from C: each has one possible result. A run's by that of `report::run`, the others' since they
-- are equations.
-- Assumes nothing.
use mathlib.Core.Path.{◌≡◌, sym, ap, ◌∙◌}
use mathlib.Core.List.{List}
use Prim.Native.Nat.{ℕ}
use Rattle.std.specs.Prelude.{Option, None, Some, Result}
use Rattle.room.specs.declared.Mode.{Mode}
use Rattle.report.specs.declared.Answer.{Answer}
use Rattle.report.specs.Run.{number_of, place_of, totals_of}
use Rattle.report.proofs.OneResult.{ran_unique}
use Rattle.comparing.specs.declared.Standing.{Standing}
use Rattle.comparing.specs.declared.Incomparable.{Incomparable}
use Rattle.hatsuvren_c.specs.Calls.{told_of, Called, ComparedTold}

-- `hatsuvren_run`: the number, what is told, the work rooms and the report room
pub called_unique : (asked : Option Mode) (log counts words mail report : List ℕ) (c w m p c₂ w₂ m₂ p₂ : List ℕ) (r s : ℕ) (t u : List ℕ)
    → Called asked log counts words mail report c w m p r t → Called asked log counts words mail report c₂ w₂ m₂ p₂ s u
    → (r ≡ s) × (t ≡ u) × (c ≡ c₂) × (w ≡ w₂) × (m ≡ m₂) × (p ≡ p₂)
called_unique (Some mode) log counts words mail report c w m p c₂ w₂ m₂ p₂ r s t u a b =
    let (answer, counts, words, mail, report) = ran_unique a.ran b.ran in
    (a.number_is ∙ ap number_of answer ∙ sym b.number_is, a.told_is ∙ ap (λ (x : Answer). told_of (place_of x) (totals_of x)) answer ∙ sym b.told_is, counts, words, mail, report)
called_unique None log counts words mail report c w m p c₂ w₂ m₂ p₂ r s t u a b =
    (a.0 ∙ sym b.0, a.1 ∙ sym b.1, a.2 ∙ sym b.2, a.3 ∙ sym b.3, a.4 ∙ sym b.4, a.5 ∙ sym b.5)

-- `hatsuvren_compare`: the number, the order and the place
pub compared_told_unique : {answer : Result Standing Incomparable} {r s order order₂ place place₂ : ℕ}
    → ComparedTold answer r order place → ComparedTold answer s order₂ place₂ → (r ≡ s) × (order ≡ order₂) × (place ≡ place₂)
compared_told_unique a b = (a.number_is ∙ sym b.number_is, a.order_is ∙ sym b.order_is, a.place_is ∙ sym b.place_is)
