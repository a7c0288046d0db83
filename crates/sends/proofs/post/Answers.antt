-- `sends::post` meets its contract: the part of the mail that comes back packed is the letter.
use Prim.Native.Nat.{◌+◌, ◌*◌}
use Rattle.steps.proofs.Parts.{part_size}
use Rattle.steps.proofs.LentRooms.{letter_posted}
use Rattle.sends.proofs.post.Goals as goal

pub returns : goal.returns
returns c =
    let a = c.args in
    let n = a.nodes in
    let i = a.letter.from.0 in
    let P = c.pack in
    let both = letter_posted n i a.counts.now a.words.now c.requires.counts_len.0 c.requires.counts_len.1 c.requires.nodes_bound.0 c.requires.nodes_bound.1 _ _
    (part_size (n * i) n) (part_size (32 + n * i) n) a.letter.slot c.requires.nodes_bound.3 a.mail.now c.requires.counts_len.2 _ (part_size (35 * a.letter.slot + 3) n)
    a.letter.to.0 a.letter.number.0 a.spared P.new.letter P.result P.auto.letter P.ensures in
    record { posted = both.0; value = both.1 }
