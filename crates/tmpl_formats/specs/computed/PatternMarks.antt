-- A search, by marks in the tree.
use Rattle.std.specs.Prelude.{ℕ, Bool, true, false, not, ◌||◌, ◌&&◌, List, [], ◌∷◌, if◌then◌else◌}
use Rattle.tmpl_formats.specs.Pattern.{in_class}
use Rattle.tmpl_formats.specs.PatternView.{Marks, Empty, One, Begin, End, Both, Either, Many}

-- whether the end of the tree is reached without a further character, if its beginning is, or from a mark. Before the first
-- character no mark counts
abbrev pub passes : Bool → Marks → Bool → Bool
passes is_first Empty enters = enters
passes is_first (One is_negated spans is_last) enters = is_last && not is_first
passes is_first Begin enters = enters && is_first
passes is_first End enters = false
passes is_first (Both first second) enters = passes is_first second (passes is_first first enters)
passes is_first (Either one other) enters = passes is_first one enters || passes is_first other enters
passes is_first (Many turn ended) enters = enters || (ended && not is_first)

-- the same at the end of the text
abbrev pub ends : Bool → Marks → Bool → Bool
ends is_first Empty enters = enters
ends is_first (One is_negated spans is_last) enters = is_last && not is_first
ends is_first Begin enters = enters && is_first
ends is_first End enters = enters
ends is_first (Both first second) enters = ends is_first second (ends is_first first enters)
ends is_first (Either one other) enters = ends is_first one enters || ends is_first other enters
ends is_first (Many turn ended) enters = enters || ends is_first turn false

-- the marks after a character
abbrev pub shifted : Bool → ℕ → Marks → Bool → Marks
shifted is_first code Empty enters = Empty
shifted is_first code (One is_negated spans is_last) enters = One is_negated spans (enters && in_class is_negated spans code)
shifted is_first code Begin enters = Begin
shifted is_first code End enters = End
shifted is_first code (Both first second) enters = Both (shifted is_first code first enters) (shifted is_first code second (passes is_first first enters))
shifted is_first code (Either one other) enters = Either (shifted is_first code one enters) (shifted is_first code other enters)
shifted is_first code (Many turn ended) enters =
    Many (shifted is_first code turn (enters || (ended && not is_first))) (passes false (shifted is_first code turn (enters || (ended && not is_first))) false)

-- a search: the marks, whether no character was read, and whether a match has ended before the last one
pub record Search : Type 0 where
  pub marks : Marks
  pub is_first : Bool
  pub found : Bool

abbrev pub begun : Marks → Search
begun marks = record { marks = marks; is_first = true; found = false }

-- after a character
abbrev pub read : Search → ℕ → Search
read search code = record {
  marks = if search.found then search.marks else shifted search.is_first code search.marks true;
  is_first = false;
  found = search.found || passes search.is_first search.marks true;
}

-- whether there is a match, where the text ends
abbrev pub has_found : Search → Bool
has_found search = search.found || ends search.is_first search.marks true

-- .. and where it goes on with these characters
abbrev pub finds : Search → List ℕ → Bool
finds search [] = has_found search
finds search (code ∷ text) = finds (read search code) text
