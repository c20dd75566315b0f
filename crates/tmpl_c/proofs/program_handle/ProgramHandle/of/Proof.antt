-- `of` takes the loose box apart.
use Rattle.tmpl_c.proofs.HandleWalks.{of_meets}
use Rattle.tmpl_c.proofs.HandleForms.{program_form}
use Rattle.tmpl_c.specs.contracts.program_handle.ProgramHandle.of.Key.{name as #self}
use Rattle.tmpl_c.proofs.program_handle.ProgramHandle.of.Statement.{statement}
use Rattle.tmpl_c.proofs.program_handle.ProgramHandle.of.Code as code

pub of_spec : {M : Type 1} → statement M
of_spec 𝓤 𝓛 𝓜 𝓡 wired = of_meets program_form 𝓛 𝓜 𝓡 #self (code.unfolded 𝓤 𝓛.H 𝓜 𝓡 wired)
