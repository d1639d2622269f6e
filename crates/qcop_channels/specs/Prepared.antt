-- Joins and messages for which all memory is there, and when they can be carried out.
use Rattle.std.specs.Prelude.{ℕ, ◌≡◌, List, None}
use Rattle.qws_base.specs.Mail.{Mail, subscribers_of}
use Rattle.qcop_channels.specs.Stops.{join_refusal, send_refusal}

-- a client that joins a channel
pub record JoinView : Type 0 where
  pub client : ℕ
  pub channel : List ℕ

-- a message of a client to a channel, and the clients for whom there is a copy
pub record SendView : Type 0 where
  pub from : ℕ
  pub channel : List ℕ
  pub message : List ℕ
  pub payload : List ℕ
  pub receivers : List ℕ

-- nothing refuses the join
abbrev pub CanJoin : Mail → JoinView → Type 0
CanJoin mail join = join_refusal mail join.client join.channel ≡ None

-- nothing refuses the message, and there is a copy for each subscriber of its channel
pub record CanSend (mail : Mail) (send : SendView) : Type 0 where
  pub accepted : send_refusal mail send.channel send.message send.payload ≡ None
  pub copies : send.receivers ≡ subscribers_of mail.channels send.channel
