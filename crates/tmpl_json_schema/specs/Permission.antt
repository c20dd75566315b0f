-- Why a document lets through what may be a fault of a template.
use Rattle.std.specs.Prelude.{◌≡◌}
use Rattle.tmpl_json_schema.specs.declared.permission.Gap.{Gap}
use Rattle.tmpl_json_schema.specs.declared.permission.Gap.TheVariants as gap
use Rattle.tmpl_json_schema.specs.declared.permission.Why.{Why}
use Rattle.tmpl_json_schema.specs.declared.permission.Why.TheVariants as why
use Rattle.tmpl_json_schema.specs.declared.permission.Permission.{Permission}

-- what is let through: that a field is absent, a value of some kind, a list of few items
pub data Sort : Type 0 where
  absence kind few : Sort

abbrev pub sort_of_gap : Gap → Sort
sort_of_gap (gap.Absence name) = absence
sort_of_gap (gap.Kind word) = kind
sort_of_gap (gap.FewItems count) = few

-- what this is a reason for
abbrev pub sort_of : Why → Sort
sort_of why.NotRequired = absence
sort_of why.NoneRequired = absence
sort_of why.NotListed = absence
sort_of why.NoneListed = absence
sort_of why.Kind = kind
sort_of why.LowMinItems = few
sort_of why.NoMinItems = few

abbrev pub IsFor : Sort → Permission → Type 0
IsFor s p = sort_of p.why ≡ s

-- .. for the gap
abbrev pub Explains : Gap → Permission → Type 0
Explains g = IsFor (sort_of_gap g)
