use Rattle.std.proofs.Common.{Err, ◌∙◌}
use Rattle.qws_frames.proofs.LawLemmas.{reply_given}
use Rattle.qws_frames.proofs.decode.decode_reply.Goals as goal

pub returns-in-Some-clause-back : goal.returns-in-Some-clause-back
returns-in-Some-clause-back c = reply_given (Err c.in-Some.stop) c.args.bytes.now (c.in-Some.ensures.told ∙ c.in-Some.ensures.stop) tt

pub returns-then-u16_at-eq133-clause-back : goal.returns-then-u16_at-eq133-clause-back
returns-then-u16_at-eq133-clause-back c =
    reply_given c.message_event.result c.args.bytes.now (c.message_event.ensures.refusal ∙ c.in_default.ensures.stop) c.message_event.ensures.spelled
