-- `open` reads the pointer, and has the box where it is not null.
use Rattle.tmpl_c.proofs.HandleWalks.{open_meets}
use Rattle.tmpl_c.proofs.HandleForms.{set_form}
use Rattle.tmpl_c.specs.contracts.set_handle.SetHandle.«open».Key.{name as #self}
use Rattle.tmpl_c.proofs.set_handle.SetHandle.«open».Statement.{statement}
use Rattle.tmpl_c.proofs.set_handle.SetHandle.«open».Code as code

pub open_spec : {M : Type 1} → statement M
open_spec 𝓤 𝓛 𝓜 𝓡 wired = open_meets set_form 𝓛 𝓜 𝓡 #self (code.unfolded 𝓤 𝓛.H 𝓜 𝓡 wired)
