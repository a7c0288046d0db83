-- `Digest::of` meets its contract: the fold over the room's elements, each stirred in by its bytes, is the fold over all bytes.
use Rattle.std.proofs.Common.{rules, ◌≡◌, ◌∙◌}
use Rattle.std.specs.List.{fold}
use Rattle.probe.specs.Digests.{stirred}
use Rattle.probe.proofs.Stirring.{fold_of_pieces}
use Rattle.probe.proofs.digest.Digest.of.Goals as goal

pub returns : goal.returns
returns g c =
    let pieces = g.T.Element.bytes in
    let folded : c.fold.result ≡ fold (λ d x. fold stirred d (pieces x)) (record { x = 0; y = 0 }) c.args.room.now = search rules in
    folded ∙ fold_of_pieces stirred pieces _ c.args.room.now
