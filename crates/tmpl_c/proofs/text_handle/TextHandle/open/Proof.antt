-- `open` reads the pointer, and has the box where it is not null.
use Rattle.tmpl_c.proofs.HandleWalks.{open_meets}
use Rattle.tmpl_c.proofs.HandleForms.{text_form}
use Rattle.tmpl_c.specs.contracts.text_handle.TextHandle.«open».Key.{name as #self}
use Rattle.tmpl_c.proofs.text_handle.TextHandle.«open».Statement.{statement}
use Rattle.tmpl_c.proofs.text_handle.TextHandle.«open».Code as code

pub open_spec : {M : Type 1} → statement M
open_spec 𝓤 𝓛 𝓜 𝓡 wired = open_meets text_form 𝓛 𝓜 𝓡 #self (code.unfolded 𝓤 𝓛.H 𝓜 𝓡 wired)
