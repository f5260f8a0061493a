-- What a clause reads of a session.
use Rattle.line_program.specs.declared.session.Session.{Session}
use Rattle.line_program.specs.Content.{content_of}
use Rattle.line_program.specs.Serves.{State}

-- the line so far, the content and what waits
abbrev pub state_of : Session → State
state_of s = record { line = s.line.items; content = content_of s.map; waiting = s.outbox }
