-- That no memory was there, as each call says it.
use Rattle.server_desk.specs.declared.answers.ConnectStop.{ConnectStop}
use Rattle.server_desk.specs.declared.answers.ConnectStop.TheVariants.{OutOfMemory as ConnectOutOfMemory}
use Rattle.server_desk.specs.declared.answers.CallStop.{CallStop}
use Rattle.server_desk.specs.declared.answers.CallStop.TheVariants.{OutOfMemory as CallOutOfMemory}

abbrev pub connect_memory : ConnectStop
connect_memory = ConnectOutOfMemory

abbrev pub call_memory : CallStop
call_memory = CallOutOfMemory
