-- `sends::send` meets its contract: what each mode sends so follows the machine.
use mathlib.Core.Path.{refl}
use native.Mathlib.Omega.{arith}
use Rattle.steps.proofs.SendFollows.{sent_follows}
use Rattle.sends.proofs.send.Goals as goal

pub returns-in-Full-clause-follows : goal.returns-in-Full-clause-follows
returns-in-Full-clause-follows c =
    rw c.in-Full.is (sent_follows (record { posted = c.post.ensures.posted; counted = refl }) (omega arith))

pub returns-in-Short-clause-follows : goal.returns-in-Short-clause-follows
returns-in-Short-clause-follows c =
    let P = c.post-in-Short.ensures in
    let word = c.only-spared.ensures in
    rw c.in-Short.is (sent_follows (record { posted = rw word at P.posted; counted = rw word at P.value }) (omega arith))
