-- `shape::causes` meets its contract: what is still to be looked for decides as the whole does.
use mathlib.Core.Path.{◌≡◌, ap, ◌∙◌}
use Prim.Native.Nat.{◌+◌, ◌-◌, ◌*◌, ◌<◌}
use native.Mathlib.Omega.{arith}
use Rattle.std.specs.Prelude.{Some}
use Rattle.shape.proofs.Entries.{not_given, entry_given, causes_none, causes_stop, causes_next}
use Rattle.shape.proofs.causes.Goals as goal

pub returns-in_err-cause : goal.returns-in_err-cause
returns-in_err-cause c =
    let left : 0 < c.args.count - c.loop.counter = omega arith in
    rw (c.from_residual.ensures, c.loop.invariant.2, causes_stop _ _ _ _ left (not_given _ _ c.in_err-cause.ensures))

pub overflow_add-low : goal.overflow_add-low
overflow_add-low c =
    let (fits, there, node, number) = entry_given _ _ _ _ c.in_ok-cause.ensures in
    omega (arith, there.below)

pub loop-preserved : goal.loop-preserved
loop-preserved c =
    let (fits, there, node, number) = entry_given _ _ _ _ c.in_ok-cause.ensures in
    let left : 0 < c.args.count - c.loop.counter = omega arith in
    let others : c.args.count - c.loop.counter - 1 ≡ c.args.count - (c.loop.counter + 1) = omega arith in
    (there.inside, omega arith, c.loop.invariant.2 ∙ rw (← others, node) (causes_next _ _ _ _ left fits))

pub returns : goal.returns
returns c =
    let none : c.args.count - c.loop.counter ≡ 0 = omega arith in
    let past : c.loop.place ≡ c.args.at + 4 * c.args.count = omega arith in
    rw (c.loop.invariant.2, none, causes_none _ _ _) (ap Some past)
