-- What the words are taken as.
use Rattle.std.specs.Prelude.{◌≡◌, Option, Some, None, Result, Ok, Err}
use Rattle.tmpl_tool.specs.Words.{Wanted}
use Rattle.tmpl_tool.specs.View.{request_seen}
use Rattle.tmpl_tool.specs.declared.words.request.Request.{Request}
use Rattle.tmpl_tool.specs.declared.words.request.WordsFault.{WordsFault}
use Rattle.tmpl_tool.specs.declared.words.request.WordsFault.TheVariants.{NotAccepted, OutOfMemory}

-- the request is what is wanted, or nothing is, or memory ran out
abbrev pub Asks : Option Wanted → Result Request WordsFault → Type 0
Asks asked (Ok request) = asked ≡ Some (request_seen request)
Asks asked (Err NotAccepted) = asked ≡ None
Asks asked (Err OutOfMemory) = Unit {0}
