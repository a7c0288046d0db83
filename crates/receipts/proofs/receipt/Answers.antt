-- `receipts::receipt` meets its contract: the three parts that come back are the receiver's row, its columns and the slot.
use mathlib.Core.Path.{refl}
use Prim.Native.Nat.{◌+◌, ◌*◌}
use Rattle.steps.proofs.Parts.{part_size}
use Rattle.steps.proofs.LentRooms.{letter_received}
use Rattle.steps.proofs.ReceiptFollows.{received_follows}
use borrow.Author.Rules.{rules}
use Rattle.receipts.proofs.receipt.Goals as goal

pub returns : goal.returns
returns c =
    let a = c.args in
    let n = a.nodes in
    let i = a.node.0 in
    let room = a.room.now in
    let J = c.join in
    let sender = c.only-sender in
    let took = letter_received n i room.counts.now room.words.now room.sized.0 room.sized.1 c.requires.nodes_bound.0 c.requires.nodes_bound.1 _ _ (part_size (n * i) n) (part_size (32 + n * i) n)
    a.slot c.requires.nodes_bound.2 room.mail.now room.sized.2 _ (part_size (35 * a.slot + 3) n)
    sender.result J.new.letter J.new.row J.new.columns J.result J.auto.row J.auto.columns J.auto.letter sender.ensures J.ensures in
    record { same = (refl, refl, refl); received = took; follows = received_follows n i a.slot room.counts.now room.words.now room.mail.now _ _ _ took (search rules) (search rules) (search rules) }
