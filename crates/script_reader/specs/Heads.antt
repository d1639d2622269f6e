-- The head of a session.
use Rattle.script_grammar.specs.Session.{Session}
use Rattle.script_reader.specs.declared.heads.Head.{Head}

-- the screen that it says, and how many clients there are
abbrev pub head_of : Session → Head
head_of said = record { depth = said.depth; size = said.size; backdrop = said.backdrop; clients = said.clients }
