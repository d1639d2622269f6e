use Rattle.qws_base.proofs.SlotCount.{no_slot_law}
use Rattle.qws_base.proofs.laws.no_slot_is_free.Goals as goal

pub returns : goal.returns
returns c = no_slot_law
