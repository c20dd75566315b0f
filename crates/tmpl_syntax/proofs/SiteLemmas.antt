-- For `read_sites`: the sites of a file's pieces, part by part; and each of them is mended as what it was.
use Rattle.std.proofs.Common.{◌≡◌, ◌∙◌, ℕ, false, List, [], ◌∷◌, Some, map, refl, ap, sym, ◌++◌, ◌+◌, ◌⊎◌, inl, inr, subst, length}
use Rattle.tmpl_lex.specs.Piece.{Token, Piece, text, action, unreadable}
use Rattle.tmpl_lex.specs.computed.Cut.{cut_of}
use Rattle.tmpl_lex.specs.Cut.{Cuts}
use Rattle.tmpl_lex.specs.declared.part.Rest as held
use Rattle.tmpl_lex.proofs.FirstPartLemmas.{whole-cut}
use Rattle.tmpl_lex.proofs.CutLemmas.{cut_of-Cuts, Cuts-cut_of}
use Rattle.std.specs.List.{AllZip}
use Rattle.std.specs.Prelude.{Result, Ok, Err, Vec, IfOk}
use Rattle.std.specs.declared.alloc.Global.{Global}
use Rattle.std.specs.declared.alloc.AllocError.{AllocError}
use Rattle.tmpl_syntax.specs.declared.refused.Refused.{Refused}
use Rattle.tmpl_syntax.specs.Examine.{firsts}
use Rattle.tmpl_syntax.specs.Fault as reason
use Rattle.tmpl_syntax.specs.Language.{every_action}
use Rattle.tmpl_syntax.specs.computed.Item.{item_in}
use Rattle.tmpl_syntax.proofs.ItemLemmas.{for-every, piece-item, only-item}
use Rattle.tmpl_lex.specs.Text.{newlines}
use Rattle.tmpl_syntax.specs.Laws.{AcceptsMended, HasSomeRefusals}
use Rattle.tmpl_syntax.specs.Place.Body.{IsFine, IsLeftOpen}
use Rattle.tmpl_syntax.specs.Refusals as law
use Rattle.tmpl_syntax.specs.Refusals.{mend, mended_at, mended_each, mended_in, roles_in, Found, HasRefusals, HasSites, refused_seen, show, IsSite, Site, mended_by, declared_in}
use Rattle.tmpl_syntax.specs.Item.{Item, ItemKind, item, IsItem, a_text, an_unreadable, text_item, flawed_item}
use Rattle.tmpl_grammar.specs.Action as grammar
use Rattle.tmpl_syntax.specs.Place.Role.{role_of}
use Rattle.tmpl_syntax.proofs.RefusalLemmas.{AreSites, StaysSite, StaysBranch, found-all}
use Rattle.tmpl_grammar.specs.computed.Depth.{Reading, unread, too_deep, read}
use Rattle.tmpl_grammar.specs.computed.Reading.{reading_in}
use Rattle.tmpl_syntax.specs.computed.Item.{read_item}
use Rattle.tmpl_syntax.specs.computed.Parse.{line_in}
use Rattle.tmpl_syntax.specs.computed.Refusals.{refusals_in, site_in, sites_in}

-- the file's sites are these, and those of what the rest is cut into
abbrev pub AreSoFar : List ℕ → List Site → held.Rest → Type 0
AreSoFar file xs rest = (more : List Piece) → Cuts rest.trims rest.line rest.bytes.now more → sites_in (cut_of file) ≡ xs ++ sites_in more

pub none_so_far : (file : List ℕ) (rest : held.Rest) (xs : List Site) → rest.bytes.now ≡ file → rest.line ≡ 1 → rest.trims ≡ false → xs ≡ []
    → AreSoFar file xs rest
none_so_far file rest xs b l t e = λ more cuts.
    ap sites_in (whole-cut file rest more b l t cuts) ∙ ap (λ (ys : List Site). ys ++ sites_in more) (sym e)

-- ---- an else branch is mended as one

stays-branch : (line : ℕ) (r : Reading) (ts : List Token) → StaysBranch (role_of (item line (read_item r))) (mended_by (read_item r) ts (declared_in ts))
stays-branch line unread ts = tt
stays-branch line (too_deep b) ts = tt
stays-branch line (read (grammar.pipeline_action h)) ts = tt
stays-branch line (read (grammar.opening c h)) ts = tt
stays-branch line (read grammar.plain_else) ts = tt
stays-branch line (read (grammar.else_branch b h)) ts = ((declared_in ts).declares, refl)
stays-branch line (read grammar.end_action) ts = tt
stays-branch line (read grammar.break_action) ts = tt
stays-branch line (read grammar.continue_action) ts = tt
stays-branch line (read (grammar.define_action n)) ts = tt
stays-branch line (read (grammar.template_action n p)) ts = tt
stays-branch line (read (grammar.block_action n p)) ts = tt

is-site : (p : Piece) → StaysSite (site_in p)
is-site (text line bytes) = tt
is-site (action line ts) = stays-branch line (reading_in ts) ts
is-site (unreadable line) = tt

pub are-sites : (ps : List Piece) → AreSites (sites_in ps)
are-sites [] = tt
are-sites (p ∷ ps) = (is-site p, are-sites ps)

-- ---- the sites of a file, and no others

has-site : (p : Piece) → IsSite p (site_in p)
has-site (text line bytes) = (text_item bytes, a_text, refl, refl)
has-site (action line ts) = (
  read_item (reading_in ts),
  subst (IsItem every_action (action line ts)) (for-every (action line ts))
      (piece-item every_action (action line ts)),
  refl,
  refl,
)
has-site (unreadable line) = (flawed_item reason.unreadable, an_unreadable, refl, refl)

zip-sites : (ps : List Piece) → AllZip IsSite ps (sites_in ps)
zip-sites [] = tt
zip-sites (p ∷ ps) = (has-site p, zip-sites ps)

pub has_sites : (bytes : List ℕ) → HasSites bytes (sites_in (cut_of bytes))
has_sites bytes = (cut_of bytes, cut_of-Cuts bytes, zip-sites (cut_of bytes))

abbrev kind_of : Item → ItemKind
kind_of (item line what) = what

pub role-same : (p : Piece) → (site_in p).role ≡ role_of (item_in p)
role-same (text line bytes) = refl
role-same (action line ts) = refl
role-same (unreadable line) = refl

pub line-same : (p : Piece) → (site_in p).line ≡ line_in (Some (item_in p))
line-same (text line bytes) = refl
line-same (action line ts) = refl
line-same (unreadable line) = refl

mended-same : (p : Piece) → (site_in p).mended ≡ mended_in (kind_of (item_in p)) p
mended-same (text line bytes) = refl
mended-same (action line ts) = refl
mended-same (unreadable line) = refl

site-eq : (x y : Site) → x.line ≡ y.line → x.role ≡ y.role → x.mended ≡ y.mended → x ≡ y
site-eq x y e f g = ap (λ n. record { line = n; role = x.role; mended = x.mended }) e
    ∙ ap (λ r. record { line = y.line; role = r; mended = x.mended }) f ∙ ap (λ m. record { line = y.line; role = y.role; mended = m }) g

only-site : (p : Piece) (x : Site) → IsSite p x → x ≡ site_in p
only-site p x (what, is, r, m) =
    let e : item x.line what ≡ item_in p = only-item every_action is ∙ for-every p in
    site-eq x (site_in p) (ap (λ y. line_in (Some y)) e ∙ sym (line-same p)) (r ∙ ap role_of e ∙ sym (role-same p))
    (m ∙ ap (λ y. mended_in (kind_of y) p) e ∙ sym (mended-same p))

only-sites : (ps : List Piece) (xs : List Site) → AllZip IsSite ps xs → xs ≡ sites_in ps
only-sites [] [] is = refl
only-sites (p ∷ ps) (x ∷ xs) is = ap (λ y. y ∷ xs) (only-site p x is.0) ∙ ap (λ ys. site_in p ∷ ys) (only-sites ps xs is.1)
only-sites _ _ is = absurd is

pub no_other_sites : (bytes : List ℕ) (xs : List Site) → HasSites bytes xs → xs ≡ sites_in (cut_of bytes)
no_other_sites bytes xs h = only-sites h.0 xs h.2 ∙ ap sites_in (Cuts-cut_of bytes h.0 h.1)

pub all_found : (bytes : List ℕ) → HasRefusals bytes (refusals_in (newlines bytes + 1) (sites_in (cut_of bytes)))
all_found bytes = (sites_in (cut_of bytes), has_sites bytes, found-all (newlines bytes + 1) (sites_in (cut_of bytes)) (are-sites (cut_of bytes)))

pub all_refused : (bytes : List ℕ) (last : ℕ) (xs : List Site) (r : Result (Vec Refused Global) AllocError) → xs ≡ sites_in (cut_of bytes)
    → last ≡ newlines bytes + 1 → IfOk r (λ v. map refused_seen v.items ≡ firsts (map show (refusals_in last xs)))
    → IfOk r (λ v. (rs : List Found) × HasRefusals bytes rs × (map refused_seen v.items ≡ firsts (map show rs)))
all_refused bytes last xs (Ok v) e f g = (refusals_in last xs, rw (e, f) (all_found bytes), g)
all_refused bytes last xs (Err e) f g h = h

-- ---- where each is mended, none is refused

at-place : (before : List Site) (x : Site) (after : List Site) → mended_at (length before) (before ++ x ∷ after) ≡ before ++ mend x ∷ after
at-place [] x after = refl
at-place (b ∷ bs) x after = ap (λ ys. b ∷ ys) (at-place bs x after)

past-end : (xs : List Site) → mended_at (length xs) xs ≡ xs
past-end [] = refl
past-end (x ∷ xs) = ap (λ ys. x ∷ ys) (past-end xs)

pub accepts_mended : AcceptsMended
accepts_mended last xs rs (law.none f) = inl f
accepts_mended last xs rs (law.left_open o) = inr (subst (λ ys. IsLeftOpen (roles_in ys)) (sym (past-end xs)) o)
accepts_mended last xs rs (law.refused before x after {rs = more} r a) =
    subst (λ ys. IsFine (roles_in (mended_each more ys)) ⊎ IsLeftOpen (roles_in (mended_each more ys))) (sym (at-place before x after))
    (accepts_mended last (before ++ mend x ∷ after) more a)

pub some_refusals : HasSomeRefusals
some_refusals bytes = (refusals_in (newlines bytes + 1) (sites_in (cut_of bytes)), all_found bytes)
