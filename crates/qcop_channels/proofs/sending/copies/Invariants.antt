use Rattle.std.proofs.Common.{◌≡◌, replicate}
use Rattle.qws_base.specs.declared.replies.Event.TheVariants.{Message}
use Rattle.qcop_channels.proofs.sending.copies.Given as goal

abbrev pub invariant-loop : goal.invariant-loop
invariant-loop l = l.all.items ≡ replicate l.counter (Message l.letter.channel.now l.letter.from l.letter.message.now l.letter.payload.now)
