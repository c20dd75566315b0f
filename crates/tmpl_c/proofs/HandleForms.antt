-- For the functions of the handles: each of them is one.
use Rattle.std.proofs.Common.{◌≡◌, ℕ, refl}
use mir.Syntax.{Sym}
use base.Fml.{Fml, Lft}
use base.Stored.{Coded}
use denote.RattleType.{RattleType}
use denote.RawPtr.{Ptr}
use Rattle.std.specs.declared.option.Option.{Option}
use Rattle.tmpl_engine.specs.contracts.engine.Engine as the_engine
use Rattle.tmpl_engine.specs.contracts.rendering.Renderer as the_renderer
use Rattle.tmpl_c.specs.contracts.shared_data.SharedData as the_data
use Rattle.tmpl_c.specs.contracts.gathered.Gathered as the_gathered
use Rattle.tmpl_c.specs.contracts.set_handle.SetHandle as set_handle
use Rattle.tmpl_c.specs.contracts.program_handle.ProgramHandle as program_handle
use Rattle.tmpl_c.specs.contracts.data_handle.DataHandle as data_handle
use Rattle.tmpl_c.specs.contracts.text_handle.TextHandle as text_handle
use Rattle.tmpl_c.proofs.HandleLemmas.{Handle}

-- a struct of this name of a pointer and what it holds
abbrev form : (name : Sym) (value : RattleType) (D : Type 0) (at : D → Ptr) (held : D → Option value.Denot) (make : Ptr → Option value.Denot → D)
    → ((p : Ptr) (x : Option value.Denot) → at (make p x) ≡ p) → ((p : Ptr) (x : Option value.Denot) → held (make p x) ≡ x)
    → Coded D → (D → ℕ → ℕ → Lft → Fml) → Handle
form n v D at held make at_made held_made coded shr_at = record {
  name = n;
  value = v;
  D = D;
  at = at;
  held = held;
  make = make;
  at_made = at_made;
  held_made = held_made;
  coded = coded;
  shr_at = shr_at;
}

abbrev pub set_form : Handle
set_form = form set_handle.struct.name the_engine.the_row set_handle.struct.D (λ d. d.at) (λ d. d.held) (λ p x. record { at = p; held = x })
    (λ p x. refl) (λ p x. refl) set_handle.the_row.coded set_handle.the_row.shr_at

abbrev pub program_form : Handle
program_form = form program_handle.struct.name the_renderer.the_row program_handle.struct.D (λ d. d.at) (λ d. d.held) (λ p x. record { at = p; held = x })
    (λ p x. refl) (λ p x. refl) program_handle.the_row.coded program_handle.the_row.shr_at

abbrev pub data_form : Handle
data_form = form data_handle.struct.name the_data.the_row data_handle.struct.D (λ d. d.at) (λ d. d.held) (λ p x. record { at = p; held = x })
    (λ p x. refl) (λ p x. refl) data_handle.the_row.coded data_handle.the_row.shr_at

abbrev pub text_form : Handle
text_form = form text_handle.struct.name the_gathered.the_row text_handle.struct.D (λ d. d.at) (λ d. d.held) (λ p x. record { at = p; held = x })
    (λ p x. refl) (λ p x. refl) text_handle.the_row.coded text_handle.the_row.shr_at
