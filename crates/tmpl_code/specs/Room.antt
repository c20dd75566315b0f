-- How many cells a stack must have for a run of a template. That cells are counted is our own rule.
use Rattle.std.specs.Prelude.{ℕ, ◌+◌, ◌*◌, ◌≤◌, ◌<◌, max, List, [], ◌∷◌, length, Option, Some, None, slice_get}
use Rattle.tmpl_syntax.specs.Need.{need}
use Rattle.tmpl_syntax.specs.Set.{Template}
use Rattle.tmpl_code.specs.Calls.{IsChain}

-- what the template needs that needs most
abbrev pub largest_need : List Template → ℕ
largest_need [] = 0
largest_need (t ∷ ts) = max (need t.1) (largest_need ts)

-- the room of a set: enough for every run of its templates, this many of which may be inside one another
abbrev pub room : ℕ → List Template → ℕ
room depth ts = depth * largest_need ts

abbrev pub need_found : Option Template → ℕ
need_found None = 0
need_found (Some t) = need t.1

-- what the template of a number needs
abbrev pub need_at : List Template → ℕ → ℕ
need_at ts i = need_found (slice_get ts i)

-- what a template and these need together
abbrev pub needs_along : List Template → ℕ → List ℕ → ℕ
needs_along ts i [] = need_at ts i
needs_along ts i (j ∷ more) = need_at ts i + needs_along ts j more

-- this many cells are enough for a run of the template of a number, where this many templates may be inside one another: no
-- chain of calls from it that is no longer needs more
abbrev pub Suffices : ℕ → List Template → ℕ → ℕ → Type 0
Suffices depth ts first size =
    (rest : List ℕ) → IsChain ts first rest → length rest < depth → needs_along ts first rest ≤ size
