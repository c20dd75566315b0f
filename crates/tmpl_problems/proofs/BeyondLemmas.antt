-- What is reported of all that is refused of a file, of which the first is kept.
use native.Mathlib.Omega.{arith}
use Rattle.std.proofs.Common.{◌≡◌, ◌≤◌, ◌-◌, ◌||◌, ℕ, zero, suc, Bool, true, false, List, [], ◌∷◌, length, map, take, refl}
use Rattle.tmpl_syntax.specs.Fault.{reason_of}
use Rattle.tmpl_syntax.specs.Examine.{is_unreadable}
use Rattle.tmpl_syntax.specs.declared.refused.Refused.{Refused}
use Rattle.tmpl_problems.specs.Checked.{Reports, has_unreadable, most, refused_in}
use Rattle.tmpl_problems.specs.declared.problem.Problems.{Problems}

-- one of the first is one of all
among : (n : ℕ) (rs : List Refused) → has_unreadable (take n rs) ≡ true → has_unreadable rs ≡ true
among zero rs e = cc
among (suc n) [] e = e
among (suc n) (r ∷ rs) e = by (is_unreadable (reason_of r.kind)) e (among n rs)
  where
    by : (b : Bool) → (b || has_unreadable (take n rs)) ≡ true → (has_unreadable (take n rs) ≡ true → has_unreadable rs ≡ true)
        → (b || has_unreadable rs) ≡ true
    by true e more = refl
    by false e more = more e

-- one of the first can't be read
pub reports_past : (all : List Refused) (p : Problems) (left : ℕ) → has_unreadable (take most all) ≡ true
    → map refused_in p.refused.items ≡ take most all → left ≡ length all - most → left ≤ p.left → Reports all p
reports_past all p left some same e more =
    let known = among most all some in
    record { first = same; beyond = λ none. cc; left = λ none. cc; whole = λ (is : p.left ≡ 0). omega arith }

-- each of them can
pub reports_all : (all : List Refused) (p : Problems) → map refused_in p.refused.items ≡ take most all → p.beyond.items ≡ []
    → p.left ≡ length all - most → Reports all p
reports_all all p same none e = record { first = same; beyond = λ all_read. none; left = λ all_read. e; whole = λ (is : p.left ≡ 0). omega arith }
