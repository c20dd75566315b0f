-- For the call `check_schema`: what is computed in the mode `error` is computed in each mode. The mode tells only what
-- stands for a field that may be absent or is one of nothing, and there `error` gives nothing.
use Rattle.std.proofs.Common.{◌≡◌, ◌+◌, ◌++◌, ℕ, zero, suc, Bool, true, false, List, [], ◌∷◌, Option, Some, None}
use Rattle.std.proofs.Common.{inl, inr, IfSome, length, option_to_list, refl, sym, subst, if◌then◌else◌}
use Rattle.std.proofs.lemmas.Bool.{false≢true}
use Rattle.std.specs.Option.{option_map, option_map_or, option_and_then}
use Rattle.std.specs.Str.{bytes_eq}
use Rattle.tmpl_grammar.specs.Tree.{Operand, fields, variable, nil, function, group, Operands, no_operand, operand}
use Rattle.tmpl_grammar.specs.Tree.{Pipeline, no_command, command, Header}
use Rattle.tmpl_grammar.specs.declared.tree.Control.{Control}
use Rattle.tmpl_grammar.specs.declared.tree.Control.TheVariants as control
use Rattle.tmpl_syntax.specs.Tree as tree
use Rattle.tmpl_syntax.specs.Tree.{NodeKind, text, action, control_node, template_node}
use Rattle.tmpl_syntax.specs.Tree.{Nodes}
use Rattle.tmpl_syntax.specs.Set.{Template}
use Rattle.tmpl_funcs.specs.Func.{takes}
use Rattle.tmpl_funcs.specs.declared.func.Func.{Func}
use Rattle.tmpl_funcs.specs.declared.func.Func.TheVariants as func
use Rattle.tmpl_grammar.specs.Tree.{operand_count}
use Rattle.tmpl_meaning.specs.declared.missing_key.MissingKey.{MissingKey}
use Rattle.tmpl_meaning.specs.declared.missing_key.MissingKey.TheVariants.{Error}
use Rattle.tmpl_shape.specs.Shape.{Shape, never, nothings, record_of, either, named, Fields, no_field, others, field}
use Rattle.tmpl_shape.specs.declared.kind.Kind.TheVariants.{Blank}
use Rattle.tmpl_shape.specs.computed.Shapes.{Base, Visit, both, has_kind, null_gone, visit_of, within}
use Rattle.tmpl_shape.specs.computed.Shapes.{of_field, entry_shape, field_shape_by, chain_shape}
use Rattle.tmpl_shape.specs.computed.Calls.{shape_by_function}
use Rattle.tmpl_shape.specs.computed.Formats.{printf_shape}
use Rattle.tmpl_schema.specs.Safe.{Covers}
use Rattle.tmpl_schema.specs.computed.Check.{absent_field, Known, State, Callee, handed, absent, Table, Checked, find_variable}
use Rattle.tmpl_schema.specs.computed.Check.{alone, text_of, deciding_shape, passing_shape, passed}
use Rattle.tmpl_schema.specs.computed.Check.{Origin, entry_at, entry_by, operand_origin, pipeline_origin}
use Rattle.tmpl_schema.specs.computed.Check.{operand_shape, operand_shapes, junction_shape, entry_along, indexed_shape}
use Rattle.tmpl_schema.specs.computed.Check.{sliced_shape, printed_shape, command_shape, commands_shape, pipeline_shape}
use Rattle.tmpl_schema.specs.computed.Check.{After, all_within, end_parts, join_all, join_left, past, settle_known, settle_soon, with_left, last_of}
use Rattle.tmpl_schema.specs.computed.Check.{leave_with, holds_loop, turn_known, in_body, in_part, at_start, is_safe}
use Rattle.tmpl_schema.specs.computed.Check.{at_head, after_choice, after_range, after_control, after_call}
use Rattle.tmpl_schema.specs.computed.Check.{after_node, after_nodes, dot_after, past_parts}
use Rattle.tmpl_schema.specs.declared.flow.FallThrough.{FallThrough}
use Rattle.tmpl_schema.specs.computed.Safe.{IsAccepted, IsCallee, IsChecked, mode_for}

-- what the first gives the second gives too
abbrev Keeps : {A : Type 0} → Option A → Option A → Type 0
Keeps o p = IfSome o (λ x. p ≡ Some x)

keeps-same : {A : Type 0} (o : Option A) → Keeps o o
keeps-same None = tt
keeps-same (Some x) = refl

then-keeps : {A B : Type 0} (f g : A → Option B) (o p : Option A) → ((x : A) → Keeps (f x) (g x)) → Keeps o p
    → Keeps (option_and_then f o) (option_and_then g p)
then-keeps f g None p h e = tt
then-keeps f g (Some x) p h e = subst (λ q. Keeps (f x) (option_and_then g q)) (sym e) (h x)

-- .. where both begin with the same
same-keeps : {A B : Type 0} (f g : A → Option B) (o : Option A) → ((x : A) → Keeps (f x) (g x))
    → Keeps (option_and_then f o) (option_and_then g o)
same-keeps f g None h = tt
same-keeps f g (Some x) h = h x

map-keeps : {A B : Type 0} (f : A → B) (o p : Option A) → Keeps o p → Keeps (option_map f o) (option_map f p)
map-keeps f None p e = tt
map-keeps f (Some x) p e = rw e refl

if-keeps : {A : Type 0} (c : Bool) (o p a b : Option A) → Keeps o p → Keeps a b
    → Keeps (if c then o else a) (if c then p else b)
if-keeps true o p a b h e = h
if-keeps false o p a b h e = e

both-keeps : (base : Base) (o p a b : Option Shape) → Keeps o p → Keeps a b → Keeps (both base o a) (both base p b)
both-keeps base None p a b h e = tt
both-keeps base (Some s) p None b h e = tt
both-keeps base (Some s) p (Some t) b h e = rw (h, e) refl

alone-keeps : (o p piped : Option Shape) (os : Operands) → Keeps o p → Keeps (alone o piped os) (alone p piped os)
alone-keeps o p None no_operand h = h
alone-keeps o p None (operand _ _) h = tt
alone-keeps o p (Some s) os h = tt

by_function-keeps : (f : Func) (a b c d e g h i j k l o : Option Shape)
    → Keeps a h → Keeps b i → Keeps c j → Keeps d k → Keeps e l → Keeps g o
    → Keeps (shape_by_function f a b c d e g) (shape_by_function f h i j k l o)
by_function-keeps func.And a b c d e g h i j k l o all every some index part printed = every
by_function-keeps func.Or a b c d e g h i j k l o all every some index part printed = some
by_function-keeps func.Index a b c d e g h i j k l o all every some index part printed = index
by_function-keeps func.Slice a b c d e g h i j k l o all every some index part printed = part
by_function-keeps func.Printf a b c d e g h i j k l o all every some index part printed = printed
by_function-keeps _ a b c d e g h i j k l o all every some index part printed = all

module _ (base : Base) (m : MissingKey) where
  -- ---- fields

  of_field-keeps : (c : Bool) (s : Shape) → Keeps (of_field base (absent_field Error) c s) (of_field base (absent_field m) c s)
  of_field-keeps true s = refl
  of_field-keeps false s = tt

  entry-keeps : (n : List ℕ) (fs : Fields) → Keeps (entry_shape base (absent_field Error) n fs) (entry_shape base (absent_field m) n fs)
  entry-keeps n no_field = tt
  entry-keeps n (others s) = tt
  entry-keeps n (field name c s fs) = if-keeps (bytes_eq n name) _ _ _ _ (of_field-keeps c s) (entry-keeps n fs)

  field-keeps : (i : ℕ) (n : List ℕ) (s : Shape) → Keeps (field_shape_by base i (absent_field Error) n s) (field_shape_by base i (absent_field m) n s)
  field-keeps zero n s = tt
  field-keeps (suc i) n never = refl
  field-keeps (suc i) n (record_of fs) = entry-keeps n fs
  field-keeps (suc i) n (either s t) = both-keeps base _ _ _ _ (field-keeps i n s) (field-keeps i n t)
  field-keeps (suc i) n (named x) = same-keeps _ _ (base.defs x) (field-keeps i n)
  field-keeps (suc i) n s = tt

  chain-keeps : (ns : List (List ℕ)) (s : Shape) → Keeps (chain_shape base (absent_field Error) ns s) (chain_shape base (absent_field m) ns s)
  chain-keeps [] s = refl
  chain-keeps (n ∷ ns) s = then-keeps _ _ _ _ (chain-keeps ns) (field-keeps base.limit n s)

  -- ---- pipelines

  mutual
    operand-keeps : (o : Operand) (k : State) → Keeps (operand_shape base Error k o) (operand_shape base m k o)
    operand-keeps (fields names) k = chain-keeps names k.dot
    operand-keeps (variable name names) k = same-keeps _ _ (find_variable name k.env) (λ v. chain-keeps names v.1)
    operand-keeps (group p names) k = then-keeps _ _ _ _ (chain-keeps names) (commands-keep p k None)
    operand-keeps o k = keeps-same (operand_shape base m k o)

    operands-keep : (os : Operands) (k : State) → Keeps (operand_shapes base Error k os) (operand_shapes base m k os)
    operands-keep no_operand k = refl
    operands-keep (operand o os) k =
        then-keeps _ _ _ _ (λ s. map-keeps (λ ss. s ∷ ss) _ _ (operands-keep os k)) (operand-keeps o k)

    junction-keeps : (os : Operands) (is_or : Bool) (k : State) (s : Shape) (piped : Option Shape)
        → Keeps (junction_shape base is_or Error k s os piped) (junction_shape base is_or m k s os piped)
    junction-keeps no_operand is_or k s piped = refl
    junction-keeps (operand o os) is_or k s piped =
        then-keeps _ _ _ _
        (λ t. both-keeps base (Some (deciding_shape base is_or t)) (Some (deciding_shape base is_or t)) _ _ refl
        (junction-keeps os is_or (passed base is_or o k) (passing_shape base is_or t) piped)) (operand-keeps o k)

    along-keeps : (os : Operands) (k : State) (piped : Option Shape) (from : Origin) (s : Shape)
        → Keeps (entry_along base Error k os piped from s) (entry_along base m k os piped from s)
    along-keeps no_operand k None from s = refl
    along-keeps no_operand k (Some key) from s = keeps-same (entry_by base key s)
    along-keeps (operand o os) k piped from s =
        then-keeps _ _ _ _ (λ key. same-keeps _ _ (entry_at base k o from key s) (along-keeps os k piped None))
        (operand-keeps o k)

    indexed-keeps : (os : Operands) (k : State) (piped : Option Shape)
        → Keeps (indexed_shape base Error k os piped) (indexed_shape base m k os piped)
    indexed-keeps no_operand k piped = tt
    indexed-keeps (operand o os) k piped =
        then-keeps _ _ _ _ (λ s. if-keeps (has_kind base Blank s) None None _ _ tt (along-keeps os k piped (operand_origin k o) s))
        (operand-keeps o k)

    sliced-keeps : (os : Operands) (k : State) (piped : Option Shape)
        → Keeps (sliced_shape base Error k os piped) (sliced_shape base m k os piped)
    sliced-keeps no_operand k piped = tt
    sliced-keeps (operand o os) k piped = then-keeps _ _ _ _ (λ s. keeps-same _) (operand-keeps o k)

    printed-keeps : (os : Operands) (k : State) (piped : Option Shape)
        → Keeps (printed_shape base Error k os piped) (printed_shape base m k os piped)
    printed-keeps no_operand k piped = tt
    printed-keeps (operand o os) k piped =
        same-keeps _ _ (text_of o) (λ format. then-keeps _ _ _ _
        (λ ss. keeps-same (printf_shape base format (ss ++ option_to_list piped))) (operands-keep os k))

    command-keeps : (os : Operands) (k : State) (piped : Option Shape)
        → Keeps (command_shape base Error k os piped) (command_shape base m k os piped)
    command-keeps (operand (function f) os) k piped =
        if-keeps (takes f (operand_count os + length (option_to_list piped))) _ _ None None
        (by_function-keeps f _ _ _ _ _ _ _ _ _ _ _ _ (then-keeps _ _ _ _ (λ ss. keeps-same _) (operands-keep os k))
        (junction-keeps os false k nothings piped) (junction-keeps os true k nothings piped) (indexed-keeps os k piped)
        (sliced-keeps os k piped) (printed-keeps os k piped)) tt
    command-keeps (operand nil os) k piped = tt
    command-keeps (operand o os) k piped = alone-keeps _ _ piped os (operand-keeps o k)
    command-keeps no_operand k piped = tt

    commands-keep : (cs : Pipeline) (k : State) (piped : Option Shape)
        → Keeps (commands_shape base Error k cs piped) (commands_shape base m k cs piped)
    commands-keep no_command k piped = refl
    commands-keep (command os cs) k piped =
        then-keeps _ _ _ _ (λ s. commands-keep cs k (Some (null_gone base s))) (command-keeps os k piped)

  pipeline-keeps : (p : Pipeline) (k : State) → Keeps (pipeline_shape base Error k p) (pipeline_shape base m k p)
  pipeline-keeps p k = commands-keep p k None

module _ (base : Base) where
  -- ---- controls

  -- what the first gives after a state the second gives there too
  abbrev KeepsEach : Checked → Checked → Type 0
  KeepsEach f g = (k : State) → Keeps (f k) (g k)

  settle-keeps : (n : ℕ) (f g : Known → Option Known) → ((ks : Known) → Keeps (f ks) (g ks)) → (ks : Known)
      → Keeps (settle_known base n f ks) (settle_known base n g ks)
  settle-keeps zero f g h ks = tt
  settle-keeps (suc n) f g h ks =
      then-keeps _ _ _ _ (λ end. if-keeps (all_within base end ks) (Some ks) (Some ks) _ _ refl
      (same-keeps _ _ (join_all base ks end) (settle-keeps n f g h))) (h ks)

  soon-keeps : (f g : Known → Option Known) → ((ks : Known) → Keeps (f ks) (g ks)) → (ks : Known)
      → Keeps (settle_soon base f ks) (settle_soon base g ks)
  unfolding settle_soon
  soon-keeps f g h ks = settle-keeps 12 f g h ks

  module _ (h : Header) (k : State) where
    choice-keeps : (w : FallThrough) (c : Control) (f g other rest : Checked) → KeepsEach f g → KeepsEach other rest → (s : Shape)
        → Keeps (after_choice base w c h k f other s) (after_choice base w c h k g rest s)
    choice-keeps w c f g other rest in_f in_rest s =
        then-keeps _ _ _ _ (λ a. then-keeps _ _ _ _ (λ b. keeps-same (end_parts base w k.env a b))
        (in_rest (in_part base false h k s))) (in_f (in_body base c h k s))

    range-keeps : (w : FallThrough) (f g : Option Known → Checked) (other rest : Checked) → ((l : Option Known) → KeepsEach (f l) (g l))
        → KeepsEach other rest → (v : Visit) → Keeps (after_range base w h k f other v) (after_range base w h k g rest v)
    range-keeps w f g other rest in_f in_rest v =
        then-keeps _ _ _ _ (λ head. then-keeps _ _ _ _ (λ b. keeps-same (end_parts base w k.env (past head) b)) (in_rest k))
        (soon-keeps (turn_known base h v (pipeline_origin k h.pipeline) f) (turn_known base h v (pipeline_origin k h.pipeline) g)
        (λ ks. then-keeps _ _ _ _ (λ a. keeps-same (with_left base (last_of (length ks) a.env) a.left)) (in_f (Some ks) _)) (at_head base h k))

    control-keeps : (w : FallThrough) (c : Control) (loop : Option Known) (f g : Option Known → Checked) (other rest : Checked)
        → ((l : Option Known) → KeepsEach (f l) (g l)) → KeepsEach other rest → (s : Shape)
        → Keeps (after_control base w c loop h k f other s) (after_control base w c loop h k g rest s)
    control-keeps w control.Range loop f g other rest in_f in_rest s =
        same-keeps _ _ (visit_of base h.binding s) (range-keeps w f g other rest in_f in_rest)
    control-keeps w control.If loop f g other rest in_f in_rest s =
        choice-keeps w control.If (f loop) (g loop) other rest (in_f loop) in_rest s
    control-keeps w control.With loop f g other rest in_f in_rest s =
        choice-keeps w control.With (f loop) (g loop) other rest (in_f loop) in_rest s

  call-keeps : (c : Callee) (ks : Known) (o p : Option Shape) → Keeps o p
      → Keeps (after_call base c ks o) (after_call base c ks p)
  call-keeps absent ks o p h = refl
  call-keeps (handed t) ks o p h = then-keeps _ _ o p (λ s. keeps-same (if within base s t then Some (past ks) else None)) h

module _ (base : Base) (m : MissingKey) (table : Table) where
  -- ---- nodes

  given-keeps : (given : Option Pipeline) (k : State)
      → Keeps (option_map_or (pipeline_shape base Error k) given (Some nothings))
      (option_map_or (pipeline_shape base m k) given (Some nothings))
  given-keeps None k = refl
  given-keeps (Some p) k = pipeline-keeps base m p k

  mutual
    node-keeps : (n : NodeKind) (loop : Option Known) (k : State)
        → Keeps (after_node base Error table loop k n) (after_node base m table loop k n)
    node-keeps (text bytes) loop k = refl
    node-keeps (action h) loop k = map-keeps _ _ _ (pipeline-keeps base m h.pipeline k)
    node-keeps (control_node c h body other) loop k =
        if-keeps (holds_loop loop k.env) _ _ None None
        (then-keeps _ _ _ _
        (control-keeps base h k (past_parts c table body other) c loop _ _ _ _ (λ l u. nodes-keep body l None u) (λ u. nodes-keep other loop None u))
        (pipeline-keeps base m h.pipeline k)) tt
    node-keeps (template_node name given) loop k =
        same-keeps _ _ (table name) (λ c. call-keeps base c k.env _ _ (given-keeps given k))
    node-keeps _ loop k = keeps-same (leave_with k.env loop)

    nodes-keep : (ns : Nodes) (loop left : Option Known) (k : State)
        → Keeps (after_nodes base Error table loop left k ns) (after_nodes base m table loop left k ns)
    nodes-keep tree.none loop left k = refl
    nodes-keep (tree.then line n ns) loop left k =
        then-keeps _ _ _ _ (λ a. same-keeps _ _ (join_left base left a.left)
        (λ ls. nodes-keep ns loop ls (record k { dot = dot_after base table k n; env = a.env }))) (node-keeps n loop k)

  -- ---- templates

  -- what is accepted in the mode `error` is accepted in each
  pub safe-keeps : (s : Shape) (ns : Nodes) → is_safe base Error table s ns ≡ true → is_safe base m table s ns ≡ true
  safe-keeps s ns e = by _ _ (nodes-keep ns None None (at_start s)) e
    where
      by : (o p : Option After) → Keeps o p → option_map_or (λ a. true) o false ≡ true
          → option_map_or (λ a. true) p false ≡ true
      by None p h e = absurd (false≢true e)
      by (Some a) p h e = rw h refl

  module _ (stops : List (List ℕ)) (set : List Template) where
    callee-keeps : (name : List ℕ) (c : Callee) → IsCallee base Error stops set table name c
        → IsCallee base m stops set table name c
    callee-keeps name (handed s) h = (h.0, h.1, by h.2)
      where
        by : IsAccepted base Error stops set table s h.0 → IsAccepted base m stops set table s h.0
        by (inl e) = inl (safe-keeps s h.0.nodes e)
        by (inr e) = inr e
    callee-keeps name absent h = h

    pub checked-keeps : IsChecked base Error stops set table → IsChecked base m stops set table
    checked-keeps h name c is = callee-keeps name c (h name c is)

-- what holds in the mode of a check holds in each mode that was asked for, if it holds in each where it does in `error`
pub in-asked : (P : MissingKey → Type 0) (asked : Option MissingKey) (m : MissingKey) → Covers asked m
    → ((n : MissingKey) → P Error → P n) → P (mode_for asked) → P m
in-asked P None m covers each h = each m h
in-asked P (Some a) m covers each h = subst P covers h
