-- `open` reads the pointer, and has the box where it is not null.
use Rattle.tmpl_c.proofs.HandleWalks.{open_meets}
use Rattle.tmpl_c.proofs.HandleForms.{program_form}
use Rattle.tmpl_c.specs.contracts.program_handle.ProgramHandle.«open».Key.{name as #self}
use Rattle.tmpl_c.proofs.program_handle.ProgramHandle.«open».Statement.{statement}
use Rattle.tmpl_c.proofs.program_handle.ProgramHandle.«open».Code as code

pub open_spec : {M : Type 1} → statement M
open_spec 𝓤 𝓛 𝓜 𝓡 wired = open_meets program_form 𝓛 𝓜 𝓡 #self (code.unfolded 𝓤 𝓛.H 𝓜 𝓡 wired)
