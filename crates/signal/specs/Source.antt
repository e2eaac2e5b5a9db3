-- What the code hands on for the one signal that carries something. Nothing here has to be believed: the promise of a step names none of it.
use Rattle.link.specs.Stored.{Given}
use Rattle.record.specs.LinkRecord.{link_of}
use Rattle.signal.specs.declared.source.Source.{Source}
use Rattle.signal.specs.Writing.{given}

-- what it is given: by the event, and by the link's record as it is left
abbrev pub brought_by : Source → Given
brought_by s = given (link_of s.left.now) s.event.now
