-- When a program is one of its set.
use Rattle.std.specs.Prelude.{◌≡◌, ℕ, ◌+◌, ◌*◌, IfSome, get_or, map}
use Rattle.tmpl_syntax.specs.Set.{without_nodes}
use Rattle.tmpl_syntax.specs.View.{set_view}
use Rattle.tmpl_code.specs.Code.{Starts}
use Rattle.tmpl_code.specs.MakesText.{set_makes_text}
use Rattle.tmpl_code.specs.Room.{Suffices, largest_need}
use Rattle.tmpl_code.specs.View.{instructions_of}
use Rattle.tmpl_code.specs.declared.program.Parts.{Parts}
use Rattle.tmpl_code.specs.declared.program.Program.TheInside.{Inside}

-- the code of each template starts at its place, in the order of the set
abbrev pub IsLinked : Parts → Type 0
IsLinked p =
    let ts = set_view p.set.value in
    Starts ts ts p.starts.items (instructions_of p.tables p.instructions.items)

-- it has the names and files of the templates
abbrev pub IsOutline : Parts → Type 0
IsOutline p = set_view p.outline ≡ map without_nodes (set_view p.set.value)

-- what holds of every program
pub record IsCompiled (p : Inside) : Type 0 where
  pub linked : IsLinked p.parts
  pub outline : IsOutline p.parts
  pub need : p.need ≡ largest_need (set_view p.parts.set.value)
  pub enough : (depth first : ℕ) → Suffices depth (set_view p.parts.set.value) first (p.fixed + depth * p.each)
  pub claimed : IfSome p.claims (λ c. (depth first : ℕ) → Suffices depth (set_view p.parts.set.value) first
      (get_or c.weights.items first 0 + depth * get_or c.allowances.items first 0))
  pub makes : p.makes_text ≡ set_makes_text (set_view p.parts.set.value)
