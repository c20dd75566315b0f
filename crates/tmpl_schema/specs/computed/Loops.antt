-- Copy loops: templates that are accepted for texts by their form. Each way through what a turn does has to be that of a copy
-- loop, and each of its pipelines has to have a value for any number; so it is for each byte.
use Rattle.std.specs.Prelude.{◌≡◌, ℕ, Bool, true, false, List, [], ◌∷◌, bytes_eq, Contains, MatchOption, None}
use Rattle.std.specs.Option.{is_some}
use Rattle.tmpl_grammar.specs.Tree.{Pipeline, Binding, unbound, assign, Header}
use Rattle.tmpl_grammar.specs.declared.tree.Control.{Control}
use Rattle.tmpl_grammar.specs.declared.tree.Control.TheVariants as control
use Rattle.tmpl_syntax.specs.Tree as tree
use Rattle.tmpl_syntax.specs.Tree.{action, control_node, template_node, Nodes}
use Rattle.tmpl_syntax.specs.Set.{Template, tree_named}
use Rattle.tmpl_meaning.specs.declared.missing_key.MissingKey.TheVariants.{Zero}
use Rattle.tmpl_loops.specs.Form.{Names, are_all_seen, is_yes, lone, slices}
use Rattle.tmpl_loops.specs.computed.Find.{Parts, after_texts, are_apart, differ, is_call, is_end, names_of, parts_of}
use Rattle.tmpl_shape.specs.Shape.{nothings, numbers, texts}
use Rattle.tmpl_shape.specs.computed.Shapes.{Base}
use Rattle.tmpl_schema.specs.computed.Check.{State, pipeline_shape, untied}

-- ---- a turn

-- a call of this name is a stop
abbrev pub IsStop : List Template → List (List ℕ) → List ℕ → Type 0
IsStop set stops name = (tree_named name set ≡ None) × Contains stops name

module _ (base : Base) (set : List Template) (stops : List (List ℕ)) (n : Names) (byte : List ℕ) (k : State) where
  -- a pipeline of the byte alone has a value, whatever number that is
  abbrev pub HasValue : Pipeline → Type 0
  HasValue p = (are_all_seen (λ name. bytes_eq byte name) (λ p. false) p ≡ true) × (is_some (pipeline_shape base Zero k p) ≡ true)

  -- an action, where the bytes before are written, or not, and where it is anew, or not; and then
  abbrev pub Acts : Binding → Pipeline → Bool → Bool → (Bool → Bool → Type 0) → Type 0
  Acts unbound p false anew next = (is_call (slices (n.text ∷ n.from ∷ n.index ∷ [])) p ≡ true) × next true anew
  Acts unbound p true anew next = HasValue p × next true anew
  Acts (assign name) p kept anew next = (differ n.new name ≡ false) × (is_yes (lone p) ≡ true) × next kept true
  Acts b p kept anew next = ⊥

  -- an `if`, after which nothing comes
  abbrev pub Chooses : Control → Header → Nodes → Type 0 → Type 0 → Type 0
  Chooses control.If h tree.none body other = (h.binding ≡ unbound) × HasValue h.pipeline × body × other
  Chooses c h rest body other = ⊥

  -- from there these nodes keep the byte, or write others for it and begin anew, or stop, on each way
  abbrev pub EndsWell : Nodes → Bool → Bool → Type 0
  EndsWell tree.none kept anew = kept ≡ anew
  EndsWell (tree.then line (tree.text bytes) xs) kept anew = (kept ≡ true) × EndsWell xs kept anew
  EndsWell (tree.then line (action h) xs) kept anew = Acts h.binding h.pipeline kept anew (EndsWell xs)
  EndsWell (tree.then line (control_node c h body other) xs) kept anew =
      Chooses c h xs (EndsWell body kept anew) (EndsWell other kept anew)
  EndsWell (tree.then line (template_node name given) xs) kept anew = IsStop set stops name
  EndsWell (tree.then line x xs) kept anew = ⊥

-- what is known of the variables that a pipeline of the byte may see
abbrev pub byte_state : Parts → State
byte_state p = record {
  dot = nothings;
  from = None;
  env = (p.byte, numbers, untied) ∷ (p.index, numbers, untied) ∷ (p.text, texts, untied) ∷ [];
}

-- nodes of these parts are a copy loop
pub record AreLoop (base : Base) (set : List Template) (stops : List (List ℕ)) (p : Parts) : Type 0 where
  pub closed : is_end (after_texts p.tail) ≡ true
  pub apart : are_apart p ≡ true
  pub turns : EndsWell base set stops (names_of p) p.byte (byte_state p) p.steps false false

abbrev pub IsFound : Base → List Template → List (List ℕ) → Nodes → Type 0
IsFound base set stops ns = MatchOption (parts_of ns) ⊥ (AreLoop base set stops)
