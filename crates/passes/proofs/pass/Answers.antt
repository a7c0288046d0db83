-- `pass` meets its contract: at the head of the loop it stands at its place, and a turn takes it on, to the end or to a refusal.
use Rattle.std.proofs.Common.{rules, ◌≡◌, refl, ◌∙◌, Err, [], ◌∷◌}
use native.Mathlib.Omega.{arith}
use Rattle.verdict.specs.Table.{reached_first}
use Rattle.passes.specs.Pass.{whole, halted}
use Rattle.passes.specs.Report.{bytes_alone}
use Rattle.passes.proofs.Notes.{noted_none}
use Rattle.passes.proofs.Turns.{next_forward, next_stands, last_stands, stop_halts}
use Rattle.passes.proofs.pass.Goals as goal

-- three names that stay the same, and stay so once more
kept_on : {N : Type 0} {a b c d e f x y z : N} → (d ≡ a) × (e ≡ b) × (f ≡ c) → (x ≡ d) × (y ≡ e) × (z ≡ f) → (x ≡ a) × (y ≡ b) × (z ≡ c)
kept_on h k = (k.0 ∙ h.0, k.1 ∙ h.1, k.2 ∙ h.2)

pub loop-next-init : goal.loop-next-init
loop-next-init c =
    let none : c.default-tally.result ≡ bytes_alone 0 = search rules in
    ((refl, refl, refl), [], record { reached = reached_first c.args.course.now.opened; noted = rw none (noted_none c.args.course.now.mode c.args.course.now.nodes c.requires) })

pub loop-next-smaller : goal.loop-next-smaller
loop-next-smaller c =
    let turned = rw c.in-Some.is at (c.in_ok-next.ensures.turned c.loop-next.invariant.1 c.args.report.now c.loop-next.invariant.2) in
    omega (arith, next_forward turned)

pub loop-next-preserved : goal.loop-next-preserved
loop-next-preserved c =
    let turned = rw c.in-Some.is at (c.in_ok-next.ensures.turned c.loop-next.invariant.1 c.args.report.now c.loop-next.invariant.2) in
    let went = next_stands turned in
    (kept_on c.loop-next.invariant.0 c.take_turn.ensures.same, went.0 ∷ c.loop-next.invariant.1, went.1)

pub returns-in_err-next-clause-passing : goal.returns-in_err-next-clause-passing
returns-in_err-next-clause-passing c =
    let e : c.from_residual.result ≡ Err c.in_err-next.field-0.0 = search rules in
    let stopped = stop_halts (c.in_err-next.ensures.turned c.loop-next.invariant.1 c.args.report.now c.loop-next.invariant.2) in
    rw e (halted stopped.0 stopped.1)

pub returns-clause-passing : goal.returns-clause-passing
returns-clause-passing c =
    let turned = rw c.in_default.is at (c.in_ok-next.ensures.turned c.loop-next.invariant.1 c.args.report.now c.loop-next.invariant.2) in
    whole (last_stands turned)
