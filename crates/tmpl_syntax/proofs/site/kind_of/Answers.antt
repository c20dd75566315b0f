use Rattle.std.proofs.Common.{◌≡◌, ◌∙◌, ap, map, refl, List}
use Rattle.tmpl_lex.specs.Piece.{Token}
use Rattle.tmpl_lex.specs.View.{token_of}
use Rattle.tmpl_grammar.specs.declared.action.Action as held_action
use Rattle.tmpl_syntax.specs.Place.Role.{Names}
use Rattle.tmpl_syntax.specs.Refusals.{by_word, first_word, mended_by}
use Rattle.tmpl_syntax.specs.computed.View.{item_kind}
use Rattle.tmpl_syntax.specs.declared.item.ItemKind.{ItemKind}
use Rattle.tmpl_syntax.specs.declared.item.ItemKind.TheVariants as kind
use Rattle.tmpl_syntax.proofs.site.kind_of.Goals as goal

unread : (what : ItemKind) → ((a : held_action.Action) → what ≡ kind.Action a → ⊥) → (ts : List Token) (names : Names)
    → by_word (first_word ts) names ≡ mended_by (item_kind what) ts names
unread (kind.Text t) n ts names = refl
unread kind.Unreadable n ts names = refl
unread kind.Unread n ts names = refl
unread (kind.TooDeep b) n ts names = refl
unread (kind.Action a) n ts names = absurd (n a refl)

pub returns-in_default : goal.returns-in_default
returns-in_default c = λ names. c.kind_by_word.ensures names ∙ ap (λ w. by_word w names) c.first_word.ensures
    ∙ unread c.args.what.now c.in_default.not-Action (map token_of c.args.tokens.now) names
