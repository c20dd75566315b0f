-- What is reported of a file: what is refused, without its message, and what is found beyond.
use Rattle.std.specs.Prelude.{◌≡◌, ◌≤◌, ◌-◌, ℕ, Bool, false, List, [], length, map, take}
use Rattle.std.specs.List.{list_any}
use Rattle.tmpl_syntax.specs.Fault.{reason_of}
use Rattle.tmpl_syntax.specs.Examine.{is_unreadable}
use Rattle.tmpl_syntax.specs.declared.refused.Refused.{Refused}
use Rattle.tmpl_problems.specs.declared.problem.Problem.{Problem}
use Rattle.tmpl_problems.specs.declared.problem.Problems.{Problems}

abbrev pub refused_in : Problem → Refused
refused_in p = p.refused

-- one of these refusals is of an action that can't be read
abbrev pub has_unreadable : List Refused → Bool
has_unreadable rs = list_any (λ r. is_unreadable (reason_of r.kind)) rs

-- the most problems of a file that are reported
abbrev pub most : ℕ
most = 1000

-- this is reported of a file of which all this is refused: the first of it, and nothing beyond, unless one of these is of an
-- action that can't be read, of which nothing else is said
pub record Reports (all : List Refused) (p : Problems) : Type 0 where
  pub first : map refused_in p.refused.items ≡ take most all
  pub beyond : has_unreadable all ≡ false → p.beyond.items ≡ []
  pub left : has_unreadable all ≡ false → p.left ≡ length all - most
  pub whole : p.left ≡ 0 → length all ≤ most
