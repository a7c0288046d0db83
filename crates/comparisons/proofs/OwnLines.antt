-- The lines of an accepted log's own report: at the place of each group the line is that of the answer to the mark, and the next
-- place is the next group's. The answers keep the rules, and their groups for the log's nodes are those for all 32.
-- Assumes nothing.
use mathlib.Core.Path.{◌≡◌, refl, sym, ◌∙◌}
use mathlib.Core.List.Memᴰ
use mathlib.Core.List.{List, [], ◌∷◌, ◌++◌, append_assoc, append-nil}
use Prim.Native.Nat.{ℕ}
use lib.ListN.{length}
use Rattle.std.specs.Prelude.{Some, Ok}
use Rattle.order.specs.Order.{Event}
use Rattle.verdict.specs.Lawful.{Lawful}
use Rattle.machine.specs.Machine.{full}
use Rattle.machine.specs.Answer.{Answer, answers}
use Rattle.groups.specs.Groups.{laid, groups_of}
use Rattle.passes.specs.Report.{report_of}
use Rattle.text.specs.Text.{line_of, line_at}
use Rattle.text.proofs.Lines.{line_of_answer}
use Rattle.comparisons.proofs.OwnAnswers.{own_writable, own_groups}

-- the line of each answer is laid where its group stands, and the place of the next group is answered
pub own_line : {n : ℕ} {cut : List Event} → Lawful n cut → (done rest : List Answer) (a : Answer) → answers n full cut ≡ done ++ (a ∷ rest)
    → (room : List ℕ) → line_at n (report_of n cut) (length (groups_of n done)) room
    ≡ (Ok (Some (record { size = length (line_of n a); past = length (groups_of n (done ++ (a ∷ []))) })), laid 0 (line_of n a) room)
unfolding report_of
own_line {n} lawful done rest a is room =
    let fits = (own_writable lawful).each_fits a (rw is (Memᴰ.append_right done (Memᴰ.head refl))) in
    let whole = own_groups lawful (done ++ (a ∷ rest)) [] (is ∙ sym (append-nil _)) in
    let next = own_groups lawful (done ++ (a ∷ [])) rest (is ∙ sym (append_assoc done (a ∷ []) rest)) in
    rw (is, whole, own_groups lawful done (a ∷ rest) is, next) (line_of_answer n lawful.few_nodes fits done rest room)
