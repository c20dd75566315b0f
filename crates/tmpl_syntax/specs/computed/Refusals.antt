-- All that is refused of a file, found in one pass.
use Rattle.std.specs.Prelude.{ℕ, ◌+◌, Bool, true, false, List, [], ◌∷◌, ◌++◌, Option, Some, None, map}
use Rattle.std.specs.Borrow.{Bor}
use Rattle.tmpl_syntax.specs.Fault as reason
use Rattle.tmpl_syntax.specs.Fault.{Reason, reason_of}
use Rattle.tmpl_syntax.specs.Place.Role.{Name, Names, Role, plain, opener, else_part, closer}
use Rattle.tmpl_syntax.specs.Place.Opening as opened
use Rattle.tmpl_syntax.specs.Place.Role.{role_of}
use Rattle.tmpl_lex.specs.Piece.{Piece, text, action, unreadable}
use Rattle.tmpl_grammar.specs.computed.Reading.{reading_in}
use Rattle.tmpl_syntax.specs.Item.{item}
use Rattle.tmpl_syntax.specs.Place.Role as role
use Rattle.tmpl_syntax.specs.computed.Item.{read_item}
use Rattle.tmpl_syntax.specs.Refusals.{Site, Found, Shown, absent, mended_in}
use Rattle.tmpl_syntax.specs.computed.Frames.{Frame, top, Known, with_inner, names_at, fault_at, frames_after, known_after, none_known}
use Rattle.tmpl_syntax.specs.computed.View.{frames_in, item_of, scopes_of}
use Rattle.tmpl_syntax.specs.declared.found.Found as held_found
use Rattle.tmpl_syntax.specs.declared.place.frame.Frame as held_frame
use Rattle.tmpl_syntax.specs.declared.place.scopes.Scopes.{Scopes}
use Rattle.tmpl_syntax.specs.declared.site.Mend.{Mend}
use Rattle.tmpl_syntax.specs.declared.site.MendKind.{MendKind}
use Rattle.tmpl_syntax.specs.declared.site.MendKind.TheVariants as held
use Rattle.tmpl_syntax.specs.declared.site.Site as held_site

-- ---- what Rust values stand for

abbrev pub names_held : List (Bor (List ℕ)) → Names
names_held ns = record { declares = map (λ (n : Bor (List ℕ)). n.now) ns; uses = [] }

abbrev pub mend_kind : MendKind → Names → Role
mend_kind held.Absent names = plain names
mend_kind (held.Open c) names = opener (opened.control c) names
mend_kind held.OpenBlock names = opener opened.block names
mend_kind (held.ElseBranch b) names = else_part (Some (b, names))
mend_kind held.Close names = closer

abbrev pub mend_of : Mend → Role
mend_of m = mend_kind m.kind (names_held m.names.items)

abbrev pub site_of : held_site.Site → Site
site_of x = record { line = x.item.line; role = role_of (item_of x.item); mended = mend_of x.mend }

abbrev pub found_seen : held_found.Found → Shown
found_seen f = (f.place, f.line, reason_of f.kind)

-- ---- the pieces of a file

abbrev pub site_in : Piece → Site
site_in (text line bytes) = record { line = line; role = absent; mended = absent }
site_in (action line ts) = record {
  line = line;
  role = role_of (item line (read_item (reading_in ts)));
  mended = mended_in (read_item (reading_in ts)) (action line ts);
}
site_in (unreadable line) = record { line = line; role = role.flawed reason.unreadable; mended = absent }

abbrev pub sites_in : List Piece → List Site
sites_in ps = map site_in ps

-- ---- one item

-- what stands at a place: the frames, the newest first, and the names that are known
pub record State : Type 0 where
  pub frames : List Frame
  pub known : Known

-- .. as it is held
abbrev pub standing : List held_frame.Frame → Scopes → State
standing stack scopes = record { frames = frames_in stack; known = scopes_of scopes }

-- the fault of an item there
abbrev pub fault_there : Role → State → Option Reason
fault_there x s = fault_at x (top s.frames) (names_at x (top s.frames) s.known.inner)

-- what stands after it, where it has none
abbrev pub after : Role → State → State
after x s =
    let seen = names_at x (top s.frames) s.known.inner in
    record { frames = frames_after x s.frames seen; known = known_after x (top s.frames) (with_inner s.known seen) }

-- whether the form or the place of an item decides on it, so that its names are not asked for
abbrev pub place_decides : Option Reason → Bool
place_decides None = false
place_decides (Some reason.undeclared_variable) = false
place_decides (Some why) = true

-- the names after the question for its fault: those that it does not see are forgotten unless its place decides
abbrev pub kept_if : Bool → Role → Option Frame → List Name → List Name
kept_if true x t names = names
kept_if false x t names = names_at x t names

abbrev pub names_left : Option Reason → Role → Option Frame → List Name → List Name
names_left o x t names = kept_if (place_decides o) x t names

abbrev pub ask : Role → State → State
ask x s = record {
  frames = s.frames;
  known = with_inner s.known (names_left (fault_there x s) x (top s.frames) s.known.inner);
}

-- the reasons for which an item is refused, and what stands after it
abbrev pub by_mended : Option Reason → Role → State → List Reason × State
by_mended None m s = ([], after m s)
by_mended (Some why) m s = (why ∷ [], s)

abbrev pub by_fault : Option Reason → Site → State → List Reason × State
by_fault None x s = ([], after x.role s)
by_fault (Some why) x s =
    let r = by_mended (fault_there x.mended (ask x.role s)) x.mended (ask x.role s) in (why ∷ r.0, r.1)

abbrev pub step : Site → State → List Reason × State
step x s = by_fault (fault_there x.role s) x s

-- ---- all items

abbrev pub found_at : ℕ → ℕ → List Reason → List Found
found_at place line whys = map (λ why. (place, line, why)) whys

abbrev pub found_open : ℕ → ℕ → List Frame → List Found
found_open place last [] = []
found_open place last (f ∷ fs) = (place, last, reason.open_at_end) ∷ []

-- what is refused of the items from this place on, where this stands
abbrev pub refusals_from : ℕ → ℕ → State → List Site → List Found
refusals_from last place s [] = found_open place last s.frames
refusals_from last place s (x ∷ xs) =
    found_at place x.line (step x s).0 ++ refusals_from last (place + 1) (step x s).1 xs

abbrev pub start : State
start = record { frames = []; known = none_known }

unfoldable pub refusals_in : ℕ → List Site → List Found
refusals_in last xs = refusals_from last 0 start xs
