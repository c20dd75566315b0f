-- `empty` owns nothing.
use Rattle.tmpl_c.proofs.HandleWalks.{empty_meets}
use Rattle.tmpl_c.proofs.HandleForms.{text_form}
use Rattle.tmpl_c.specs.contracts.text_handle.TextHandle.empty.Key.{name as #self}
use Rattle.tmpl_c.proofs.text_handle.TextHandle.empty.Statement.{statement}
use Rattle.tmpl_c.proofs.text_handle.TextHandle.empty.Code as code

pub empty_spec : {M : Type 1} → statement M
empty_spec 𝓤 𝓛 𝓜 𝓡 wired = empty_meets text_form 𝓛 𝓜 𝓡 #self (code.unfolded 𝓤 𝓛.H 𝓜 𝓡 wired)
