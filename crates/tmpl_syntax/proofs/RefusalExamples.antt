-- What is refused of lists of items, computed.
use Rattle.std.proofs.Common.{◌≡◌, List, [], ◌∷◌, refl, codes}
use Rattle.tmpl_syntax.specs.Fault as reason
use Rattle.tmpl_syntax.specs.Place.Role as role
use Rattle.tmpl_syntax.specs.Place.Role.{Name, Names, Role, plain, closer}
use Rattle.tmpl_syntax.specs.Refusals.{Site, absent, by_word}
use Rattle.tmpl_syntax.specs.computed.Refusals.{refusals_in}

abbrev names : List Name → List Name → Names
names declares uses = record { declares = declares; uses = uses }

abbrev site : Role → Role → Site
site x m = record { line = 1; role = x; mended = m }

-- `{{end}}` that is in place or not
abbrev an-end : Site
an-end = site closer absent

abbrev unread : Role → Site
unread m = site (role.flawed reason.not_an_action) m

-- nothing
of-nothing : refusals_in 7 [] ≡ []
unfolding refusals_in
of-nothing = refl

-- {{if .a == 1}}{{end}}: the opening counts, and its end is in place
of-an-opening : refusals_in 1 (unread (by_word (codes "if") (names [] [])) ∷ an-end ∷ []) ≡ (0, 1, reason.not_an_action) ∷ []
unfolding refusals_in
of-an-opening = refl

-- {{add 1}}{{end}}: two mistakes
of-two : refusals_in 1 (unread (by_word (codes "add") (names [] [])) ∷ an-end ∷ [])
    ≡ (0, 1, reason.not_an_action) ∷ (1, 1, reason.out_of_place) ∷ []
unfolding refusals_in
of-two = refl

-- {{if .a == 1}}: one mistake, and at the last line the part that is open
of-an-open-one : refusals_in 9 (unread (by_word (codes "if") (names [] [])) ∷ [])
    ≡ (0, 1, reason.not_an_action) ∷ (1, 9, reason.open_at_end) ∷ []
unfolding refusals_in
of-an-open-one = refl

-- {{$x}}{{$x}}: a variable is told of once
of-a-variable : refusals_in 1 (site (plain (names [] (codes "x" ∷ []))) (plain (names (codes "x" ∷ []) []))
    ∷ site (plain (names [] (codes "x" ∷ []))) (plain (names (codes "x" ∷ []) [])) ∷ [])
    ≡ (0, 1, reason.undeclared_variable) ∷ []
unfolding refusals_in
of-a-variable = refl

-- {{end if}} where nothing is open: it is not read, and out of place as the bare end that it counts as
of-an-end : refusals_in 1 (unread (by_word (codes "end") (names [] [])) ∷ [])
    ≡ (0, 1, reason.not_an_action) ∷ (0, 1, reason.out_of_place) ∷ []
unfolding refusals_in
of-an-end = refl
