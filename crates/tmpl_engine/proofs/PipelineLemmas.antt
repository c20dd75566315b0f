-- For the law `comes_to_meaning`: the code of a pipeline finds its cells and has room for its need, and the run goes on after it with the value that the
-- pipeline gives, or stops as the pipeline does.
use Rattle.std.proofs.Common.{arith, ◌≡◌, ◌∙◌, ◌+◌, ◌≤◌, ◌<◌, ◌||◌, ◌++◌, ℕ, zero, suc, Bool, true, false, List, [], ◌∷◌, length, map, take, drop, reverse}
use Rattle.std.proofs.Common.{refl, ap, sym, subst, Option, Some, None, Result, Ok, Err, is_some, option_to_list, append_assoc, append-nil}
use Rattle.std.proofs.lemmas.List.{length-map, reverse-append, reverse-reverse, length-reverse}
use Rattle.std.proofs.Math.Bool.{or_assoc, or_comm}
use Rattle.std.proofs.Math.Seq.{drop-append_seam, take-append_seam}
use Rattle.tmpl_values.specs.Value.{Value, nothing}
use Rattle.tmpl_funcs.specs.Func.{is_called, makes_text, takes}
use Rattle.tmpl_funcs.specs.declared.func.Func.{Func}
use Rattle.tmpl_funcs.specs.declared.func.Func.TheVariants.{And, Or}
use Rattle.tmpl_grammar.specs.Tree.{Operand, fields, variable, nil, function, group, Operands, no_operand, operand, Pipeline, no_command, command, operand_count}
use Rattle.tmpl_grammar.specs.Need.{need_of_arguments, need_of_command, need_of_commands, need_of_operand, need_of_pipeline}
use Rattle.tmpl_meaning.specs.Fault.{Cause}
use Rattle.tmpl_meaning.specs.Pipeline as meaning
use Rattle.tmpl_meaning.specs.Pipeline.{Environment, Given, Place, chain, command_value, commands_value, decides, as_given, given_then, go_on, junction, lookup}
use Rattle.tmpl_meaning.specs.Pipeline.{operand_value, operand_values, without_null}
use Rattle.tmpl_meaning.proofs.PartLemmas.{by_count, decided}
use Rattle.tmpl_code.specs.Instruction.{Operation, CommandError, act, call_with, decide, refuse, settle}
use Rattle.tmpl_code.specs.Layout.{Layout, slot_named}
use Rattle.tmpl_code.specs.Code.{BareAt, CallBy, Code, CommandAt, CommandsAt, CountedAt, DecideAt, JunctionAt, OperandAt, OperandsAt, Stretch, PipelineAt}
use Rattle.tmpl_code.specs.Code.{VariableAt, chain_before, is_last, piped_count}
use Rattle.tmpl_engine.specs.Cell.{Cell, fresh, values_in}
use Rattle.tmpl_engine.specs.State.{State}
use Rattle.tmpl_engine.specs.Step.{Went, called_on, cause_of, decided_by, halted, lacks, made_by, on, push_value, step}
use Rattle.tmpl_engine.specs.Machine.{fault_in, turn_of_operation, ran_so}
use Rattle.tmpl_engine.specs.Ready.{Fits}
use Rattle.tmpl_engine.specs.Ends.{Comes}
use Rattle.tmpl_engine.proofs.WayLemmas.{Way, who_of}
use Rattle.tmpl_engine.proofs.SlotLemmas.{Slots, env_of, slots-are, slots-more}
use Rattle.tmpl_engine.proofs.WayLemmas as ways

-- the slot of a variable is one of the layout's
pub found-within : (x : List ℕ) (lay : Layout) (k : ℕ) → slot_named x lay ≡ Some k → k < length lay
found-within x [] k e = cc
found-within x (cell ∷ lay) k e = grind (arith, found-within x lay)

-- what takes no argument is no `and` and no `or`
bare-called : (f : Func) → takes f 0 ≡ true → is_called f ≡ true
bare-called f e = grind arith

-- a function that does not go without arguments is called with one at least
some-both : (f g : Func) (n : ℕ) → (takes g 0 ≡ true → ⊥) → f ≡ g → takes f n ≡ true → 1 ≤ n
some-both f g zero none e t = absurd (none (sym (ap (λ h. takes h 0) e) ∙ t))
some-both f g (suc n) none e t = omega arith

-- ---- values on the stack

-- a value that is piped
abbrev with : Option Value → List Cell → List Cell
with None cs = cs
with (Some p) cs = fresh p ∷ cs

length-with : (turn_of_operation : Option Value) (cs : List Cell) → length (with turn_of_operation cs) ≡ length cs + piped_count (is_some turn_of_operation)
length-with turn_of_operation cs = grind arith

slots-with : {n : ℕ} {lay : Layout} {cs : List Cell} {env : Environment} (turn_of_operation : Option Value) → Slots n lay cs env
    → Slots (n + piped_count (is_some turn_of_operation)) lay (with turn_of_operation cs) env
slots-with {n} {lay} {cs} {env} None h = let same : n ≡ n + 0 = omega arith in subst (λ m. Slots m lay cs env) same h
slots-with {n} {lay} {cs} {env} (Some v) h = let same : suc n ≡ n + 1 = omega arith in subst (λ m. Slots m lay (fresh v ∷ cs) env) same (slots-more v h)

-- the values of operands, the last one the newest
abbrev stacked : List Value → List Cell → List Cell
stacked [] cs = cs
stacked (w ∷ ws) cs = stacked ws (fresh w ∷ cs)

length-stacked : (ws : List Value) (cs : List Cell) → length (stacked ws cs) ≡ length ws + length cs
length-stacked [] cs = omega arith
length-stacked (w ∷ ws) cs = let more = length-stacked ws (fresh w ∷ cs) in omega arith

stacked-is : (ws : List Value) (cs : List Cell) → stacked ws cs ≡ reverse (map fresh ws) ++ cs
stacked-is [] cs = refl
stacked-is (w ∷ ws) cs = grind (
  arith,
  stacked-is ws (fresh w ∷ cs),
  append_assoc (reverse (map fresh ws)) (fresh w ∷ []) cs,
  reverse-append (fresh w ∷ []) (map fresh ws),
)

values-fresh : (ws : List Value) → values_in (map fresh ws) ≡ ws
values-fresh [] = refl
values-fresh (w ∷ ws) = ap (λ l. w ∷ l) (values-fresh ws)

as-long : (ws : List Value) → length ws ≡ length (reverse (map fresh ws))
as-long ws = sym (length-map ws fresh) ∙ sym (length-reverse (map fresh ws))

taken : (ws : List Value) (cs : List Cell) (n : ℕ) → n ≡ length ws → values_in (reverse (take n (stacked ws cs))) ≡ ws
taken ws cs n e = rw (stacked-is, e, as-long, take-append_seam, reverse-reverse, values-fresh) refl

dropped : (ws : List Value) (cs : List Cell) (n : ℕ) → n ≡ length ws → drop n (stacked ws cs) ≡ cs
dropped ws cs n e = rw (stacked-is, e, as-long, drop-append_seam) refl

-- ---- arguments

arguments-same : (os : Operands) (turn_of_operation : Option Value)
    → operand_count os + length (option_to_list turn_of_operation) ≡ operand_count os + piped_count (is_some turn_of_operation)
arguments-same os turn_of_operation = grind arith

-- ---- what follows what is given

module _ (way : Way) (s : State) where
  -- from this code on, wherever the machine stands at it, the run comes to its end with these cells and this mark
  abbrev pub Goes : Code → List Cell → Bool → Type 0
  Goes code cs m = (place : ℕ) → drop place way.plan.code ≡ code → ways.Leading way (record s { cells = cs; made_text = m; place = place })

  -- .. and with a value more
  abbrev pub Puts : Code → List Cell → Value → Bool → Type 0
  Puts rest cs v m = Goes rest (fresh v ∷ cs) m

  -- goes on with what was given, or is at its end with the fault
  abbrev pub FollowsBy : {T : Type 0} → Result T Cause → Bool → (T → Bool → Type 0) → Type 0
  FollowsBy (Ok v) m Go = Go v m
  FollowsBy (Err cause) m Go = ran_so (record s { made_text = m }) (Some (fault_in way.me s.line cause)) ≡ way.end

  -- the mark stands last, so that it is what it was where no function made what is given
  abbrev Follows : {T : Type 0} → Given T → Bool → (T → Bool → Type 0) → Type 0
  Follows g m Go = FollowsBy g.result (g.made_text || m) Go

  follows-then : {T U : Type 0} (g : Given T) (m : Bool) (next : T → Given U) (Go : U → Bool → Type 0) (Then : T → Bool → Type 0)
      → ((v : T) (b : Bool) → Follows (next v) b Go → Then v b) → Follows (given_then g next) m Go → Follows g m Then
  follows-then {T} g m next Go Then h k = by g.result k
    where
      by : (r : Result T Cause) → Follows (go_on r g.made_text next) m Go → FollowsBy r (g.made_text || m) Then
      by (Ok v) k = h v (g.made_text || m) (subst (λ b. FollowsBy (next v).result b Go)
          (ap (λ b. b || m) (or_comm g.made_text (next v).made_text) ∙ or_assoc (next v).made_text g.made_text m) k)
      by (Err cause) k = k

  -- what follows a step
  abbrev Gone : Code → Bool → Went → Type 0
  Gone is m (on skip cs) = Goes (drop skip is) cs m
  Gone is m (halted cause) = FollowsBy {T = Value} (Err cause) m (Puts is [])
  Gone is m lacks = ⊥

  pushes : (r : Result Value Cause) (is : Code) (cs : List Cell) (m : Bool) → FollowsBy r m (Puts is cs) → Gone is m (push_value r cs)
  pushes (Ok v) is cs m k = k
  pushes (Err cause) is cs m k = k

  -- .. of a function
  calls : (f : Func) (ws : List Value) (is : Code) (cs : List Cell) (m : Bool) → Follows (meaning.apply_function f ws) m (Puts is cs)
      → Gone is (m || makes_text f) (push_value (meaning.apply_function f ws).result cs)
  calls f ws is cs m k = pushes _ is cs _ (subst (λ b. FollowsBy (meaning.apply_function f ws).result b (Puts is cs)) (or_comm (makes_text f) m) k)

  module _ (same : who_of s ≡ way.who) (env : Environment) where
    -- where the machine reads, and where the pipeline does
    abbrev spot : Environment → Place
    spot e = record { missing_key = way.plan.rules.missing_key; dot = s.dot; env = e }

    abbrev here : Place
    here = spot env

    -- the machine carries out an operation, if the run goes on from what its step leaves
    steps : {o : Operation} {code is : Code} {cs : List Cell} {m : Bool} → code ≡ act o ∷ is → Fits o (length cs) way.room
        → Gone is (made_by o m) (step (spot []) o cs) → Goes code cs m
    steps {o} {code} {is} {cs} {m} l fits k place at = ways.does way same (at ∙ l) fits (by (step (spot []) o cs) k)
      where
        by : (w : Went) → Gone is (made_by o m) w
            → Comes (ways.Leading way) (turn_of_operation way.me o w (record s { cells = cs; made_text = m; place = place })) way.end
        by (on skip ds) k = k (place + 1 + skip) (ways.jump way place skip (at ∙ l))
        by (halted cause) k = k
        by lacks k = k

    refuses : {why : CommandError} {code rest : Code} {cs : List Cell} {m : Bool} → code ≡ act (refuse why) ∷ rest
        → FollowsBy {T = Value} (Err (cause_of why)) m (Puts rest cs) → Goes code cs m
    refuses l k = steps l tt k

    -- the code from a place on, by what it is
    goes-is : {code rest : Code} {cs : List Cell} {m : Bool} → code ≡ rest → Goes rest cs m → Goes code cs m
    goes-is {cs = cs} {m = m} e k = subst (λ c. Goes c cs m) (sym e) k

    -- ---- operands

    variable-leads : {n : ℕ} {lay : Layout} {code rest : Code} {cs : List Cell} {m : Bool} (x : List ℕ) → Slots n lay cs env → length cs < way.room
        → (o : Option ℕ) → slot_named x lay ≡ o → VariableAt o n code rest → Puts rest cs (lookup x env) m → Goes code cs m
    variable-leads {rest = rest} {cs = cs} {m = m} x h room None e l k = steps l room (subst (λ v. Puts rest cs v m) (h.none x e) k)
    variable-leads {lay = lay} {rest = rest} {cs = cs} {m = m} x h room (Some j) e l k =
        steps l (let below = found-within x lay j e in let deep = h.deep in (omega arith, room)) (subst (λ v. Puts rest cs v m) (sym (h.found x j e)) k)

    -- a chain of fields after a value
    chained-leads : {cs : List Cell} {v : Value} {m : Bool} (names : List (List ℕ)) (rest : Code)
        → Follows (as_given (chain way.plan.rules.missing_key names v)) m (Puts rest cs) → Puts (chain_before names rest) cs v m
    chained-leads [] rest k = k
    chained-leads {cs} {v} {m} (name ∷ names) rest k =
        steps refl (omega arith) (pushes (chain way.plan.rules.missing_key (name ∷ names) v) rest cs m k)

    bare-leads : {code : Code} {cs : List Cell} {m : Bool} (t : Bool) (f : Func) (rest : Code) → takes f 0 ≡ t → length cs < way.room → BareAt t f code rest
        → Follows (by_count f t (meaning.apply_function f [])) m (Puts rest cs) → Goes code cs m
    bare-leads {cs = cs} {m = m} true f rest e room l k = steps l (bare-called f e, omega arith, omega arith) (calls f [] rest cs m k)
    bare-leads false f rest e room l k = refuses l k

    -- ---- `and` and `or`

    -- what decides is passed over the other operands, and a piped value below it is forgotten
    short : {mid more rest : Code} {v : Value} {m : Bool} (cs : List Cell) (stop : Bool) (turn_of_operation : Option Value) (skip : ℕ) (others : Given Value)
        → mid ≡ act (decide stop (is_some turn_of_operation) skip) ∷ more → drop skip more ≡ rest → (Follows others m (Puts rest cs) → Goes more (with turn_of_operation cs) m)
        → Follows (decided (decides stop v) v others) m (Puts rest cs) → Puts mid (with turn_of_operation cs) v m
    short {more = more} {rest = rest} {v = v} {m = m} cs stop turn_of_operation skip others l far h k =
        steps l (let long = length-with turn_of_operation cs in omega arith) (by (decides stop v) turn_of_operation h k)
      where
        by : (t : Bool) (turn_of_operation : Option Value) → (Follows others m (Puts rest cs) → Goes more (with turn_of_operation cs) m)
            → Follows (decided t v others) m (Puts rest cs) → Gone more m (decided_by t skip (is_some turn_of_operation) v (with turn_of_operation cs))
        by true None h k = goes-is far k
        by true (Some p) h k = goes-is far k
        by false turn_of_operation h k = h k

    -- after an operand, by what the others do
    decide-leads : {mid : Code} {v : Value} {m : Bool} (n : ℕ) (lay : Layout) (cs : List Cell) (os : Operands) (turn_of_operation : Option Value) (stop : Bool)
        (rest : Code)
        → DecideAt (is_last os (is_some turn_of_operation)) stop (is_some turn_of_operation) (JunctionAt stop os (is_some turn_of_operation) n lay) mid rest
        → (1 ≤ operand_count os + piped_count (is_some turn_of_operation) → (more : Code) → JunctionAt stop os (is_some turn_of_operation) n lay more rest
        → Follows (junction stop here v os turn_of_operation) m (Puts rest cs) → Goes more (with turn_of_operation cs) m)
        → Follows (decided (decides stop v) v (junction stop here v os turn_of_operation)) m (Puts rest cs) → Puts mid (with turn_of_operation cs) v m
    decide-leads {v = v} {m = m} n lay cs no_operand None stop rest l h k = goes-is l (by (decides stop v) k)
      where
        by : (t : Bool) → Follows (decided t v (as_given (Ok v))) m (Puts rest cs) → Puts rest cs v m
        by true k = k
        by false k = k
    decide-leads {v = v} n lay cs no_operand (Some p) stop rest l h k =
        short cs stop (Some p) l.0 (junction stop here v no_operand (Some p)) l.2 l.4 (h (omega arith) l.1 l.3) k
    decide-leads {v = v} n lay cs (operand o os) turn_of_operation stop rest l h k =
        short cs stop turn_of_operation l.0 (junction stop here v (operand o os) turn_of_operation) l.2 l.4 (h (omega arith) l.1 l.3) k

    -- ---- calls

    -- of a function over the operands that were put on the stack
    applied-leads : {m : Bool} (cs : List Cell) (f : Func) (os : Operands) (turn_of_operation : Option Value) (rest : Code) (ws : List Value) → is_called f ≡ true
        → length cs < way.room → length ws ≡ operand_count os → Follows (meaning.apply_function f (ws ++ option_to_list turn_of_operation)) m (Puts rest cs)
        → Goes (act (call_with f (operand_count os) (is_some turn_of_operation)) ∷ rest) (stacked ws (with turn_of_operation cs)) m
    applied-leads {m} cs f os turn_of_operation rest ws named room count k =
        let high = length-stacked ws (with turn_of_operation cs) in
        let long = length-with turn_of_operation cs in
        steps refl (named, omega arith, omega arith) (subst (Gone rest (m || makes_text f))
        (λ j. called_on f (sym (taken ws (with turn_of_operation cs) (operand_count os) (sym count)) j) (is_some turn_of_operation)
        (sym (dropped ws (with turn_of_operation cs) (operand_count os) (sym count)) j)) (by turn_of_operation k))
      where
        by : (turn_of_operation : Option Value) → Follows (meaning.apply_function f (ws ++ option_to_list turn_of_operation)) m (Puts rest cs)
            → Gone rest (m || makes_text f) (called_on f ws (is_some turn_of_operation) (with turn_of_operation cs))
        by None k = calls f ws rest cs m (subst (λ l. Follows (meaning.apply_function f l) m (Puts rest cs)) (append-nil ws) k)
        by (Some p) k = calls f (ws ++ p ∷ []) rest cs m k

    counted-leads : {code : Code} {cs : List Cell} {m : Bool} (t : Bool) (f : Func) (rest : Code) (g : Given Value) (Call : Stretch)
        (Go : Value → Bool → Type 0)
        → (t ≡ true → Call code rest → Follows g m Go → Goes code cs m) → CountedAt t f Call code rest → Follows (by_count f t g) m Go → Goes code cs m
    counted-leads true f rest g Call Go h l k = h refl l k
    counted-leads false f rest g Call Go h l k = refuses l k

    -- by the function
    call-leads : {code : Code} {G : Type 0} (m : Bool) (f : Func) (All Both Either : Stretch) (rest : Code) (all both either : Given Value) (Go : Value → Bool
        → Type 0)
        → (is_called f ≡ true → All code rest → Follows all m Go → G) → (f ≡ And → Both code rest → Follows both m Go → G)
        → (f ≡ Or → Either code rest → Follows either m Go → G)
        → CallBy f All Both Either code rest → Follows (meaning.by_function f all both either) m Go → G
    call-leads m And All Both Either rest all both either Go a b c l k = b refl l k
    call-leads m Or All Both Either rest all both either Go a b c l k = c refl l k
    call-leads m _ All Both Either rest all both either Go a b c l k = a refl l k

    -- ---- pipelines

    mutual
      operand-leads : {n : ℕ} {lay : Layout} {code : Code} {cs : List Cell} {m : Bool} (o : Operand) (rest : Code) → Slots n lay cs env
          → length cs + need_of_operand o ≤ way.room → OperandAt o n lay code rest → Follows (operand_value here o) m (Puts rest cs) → Goes code cs m
      operand-leads {cs = cs} {m = m} (fields names) rest h room l k =
          steps l (omega arith) (pushes (chain way.plan.rules.missing_key names s.dot) rest cs m k)
      operand-leads {lay = lay} (variable x names) rest h room l k =
          variable-leads x h (omega arith) (slot_named x lay) refl l (chained-leads names rest k)
      operand-leads (function f) rest h room l k = bare-leads (takes f 0) f rest refl (omega arith) l k
      operand-leads {cs = cs} {m = m} (group commands names) rest h room l k =
          commands-leads commands None (chain_before names rest) h room l
          (follows-then (commands_value here commands None) m _ (Puts rest cs) (Puts (chain_before names rest) cs) (λ v b k. chained-leads names rest k) k)
      operand-leads o rest h room l k = steps l (omega arith) k

      -- above this many operands and a piped value of the call
      operands-leads : {n : ℕ} {lay : Layout} {code : Code} {cs : List Cell} {m : Bool} (os : Operands) (above : ℕ) (rest : Code) (base : ℕ)
          → Slots n lay cs env
          → length cs ≡ base + above → base + need_of_arguments above os ≤ way.room → OperandsAt os n lay code rest
          → Follows (operand_values here os) m (λ ws b. length ws ≡ operand_count os → Goes rest (stacked ws cs) b) → Goes code cs m
      operands-leads no_operand above rest base h is room l k = goes-is l (k refl)
      operands-leads {cs = cs} {m = m} (operand o os) above rest base h is room l k =
          let Go : List Value → Bool → Type 0 = λ ws b. length ws ≡ suc (operand_count os) → Goes rest (stacked ws cs) b in
          operand-leads o l.0 h (omega arith) l.1
          (follows-then (operand_value here o) m (λ v. given_then (operand_values here os) (λ ws. as_given (Ok (v ∷ ws)))) Go (Puts l.0 cs)
          (λ v b k. operands-leads os (suc above) rest base (slots-more v h) (omega arith) (omega arith) l.2
          (follows-then (operand_values here os) b (λ ws. as_given (Ok (v ∷ ws))) Go
          (λ ws b. length ws ≡ operand_count os → Goes rest (stacked ws (fresh v ∷ cs)) b) (λ ws b k count. k (ap suc count)) k)) k)

      junction-leads : {n : ℕ} {lay : Layout} {code : Code} {m : Bool} (cs : List Cell) (os : Operands) (above : ℕ) (stop : Bool) (turn_of_operation : Option Value)
          (last : Value) (rest : Code) → Slots n lay (with turn_of_operation cs) env → piped_count (is_some turn_of_operation) ≤ above
          → length cs + need_of_arguments above os ≤ way.room → 1 ≤ operand_count os + piped_count (is_some turn_of_operation)
          → JunctionAt stop os (is_some turn_of_operation) n lay code rest → Follows (junction stop here last os turn_of_operation) m (Puts rest cs) → Goes code (with turn_of_operation cs) m
      junction-leads cs no_operand above stop None last rest h past room some l k = absurd (omega arith)
      junction-leads cs no_operand above stop (Some p) last rest h past room some l k = goes-is l k
      junction-leads {n} {lay} {m = m} cs (operand o os) above stop turn_of_operation last rest h past room some l k =
          operand-leads o l.0 h (let long = length-with turn_of_operation cs in omega arith) l.1
          (follows-then (operand_value here o) m (λ v. decided (decides stop v) v (junction stop here v os turn_of_operation)) (Puts rest cs) (Puts l.0 (with turn_of_operation cs))
          (λ v b k. decide-leads n lay cs os turn_of_operation stop rest l.2
          (λ some more j k. junction-leads cs os (suc above) stop turn_of_operation v rest h (omega arith) (omega arith) some j k) k) k)

      command-leads : {n : ℕ} {lay : Layout} {code : Code} {m : Bool} (cs : List Cell) (os : Operands) (turn_of_operation : Option Value) (rest : Code)
          → Slots n lay (with turn_of_operation cs) env → length cs + need_of_command (piped_count (is_some turn_of_operation)) os ≤ way.room
          → CommandAt os (is_some turn_of_operation) n lay code rest → Follows (command_value here os turn_of_operation) m (Puts rest cs) → Goes code (with turn_of_operation cs) m
      command-leads {n} {lay} {m = m} cs (operand (function f) os) turn_of_operation rest h room l k =
          let p = is_some turn_of_operation in
          let count = operand_count os + piped_count p in
          let all : Code = act (call_with f (operand_count os) p) ∷ rest in
          let All : Stretch = λ code rest. OperandsAt os n lay code (act (call_with f (operand_count os) p) ∷ rest) in
          let apply : List Value → Given Value = λ ws. meaning.apply_function f (ws ++ option_to_list turn_of_operation) in
          let both : Given Value = junction false here nothing os turn_of_operation in
          let either : Given Value = junction true here nothing os turn_of_operation in
          let g : Given Value = meaning.by_function f (given_then (operand_values here os) apply) both either in
          counted-leads (takes f count) f rest g (CallBy f All (JunctionAt false os p n lay) (JunctionAt true os p n lay)) (Puts rest cs)
          (λ t j k. call-leads m f All (JunctionAt false os p n lay) (JunctionAt true os p n lay) rest (given_then (operand_values here os) apply) both
          either (Puts rest cs)
          (λ named j k. operands-leads os (piped_count p) all (length cs) h (length-with turn_of_operation cs) (omega arith) j
          (follows-then (operand_values here os) m apply (Puts rest cs) (λ ws b. length ws ≡ operand_count os → Goes all (stacked ws (with turn_of_operation cs)) b)
          (λ ws b k long. applied-leads cs f os turn_of_operation rest ws named (omega arith) long k) k))
          (λ e j k. junction-leads cs os (piped_count p) false turn_of_operation nothing rest h (omega arith) (omega arith) (some-both f And count (λ x. cc) e t) j k)
          (λ e j k. junction-leads cs os (piped_count p) true turn_of_operation nothing rest h (omega arith) (omega arith) (some-both f Or count (λ x. cc) e t) j k) j k) l
          (subst (λ n. Follows (by_count f (takes f n) g) m (Puts rest cs)) (arguments-same os turn_of_operation) k)
      command-leads cs (operand nil no_operand) None rest h room l k = refuses l k
      command-leads cs (operand o no_operand) None rest h room l k = operand-leads o rest h (omega arith) l k
      command-leads cs _ turn_of_operation rest h room l k = refuses l k

      commands-leads : {n : ℕ} {lay : Layout} {code : Code} {cs : List Cell} {m : Bool} (commands : Pipeline) (turn_of_operation : Option Value) (rest : Code)
          → Slots n lay cs env → length cs + need_of_commands (piped_count (is_some turn_of_operation)) commands ≤ way.room
          → CommandsAt commands (is_some turn_of_operation) n lay code rest → Follows (commands_value here commands turn_of_operation) m (Puts rest cs) → Goes code (with turn_of_operation cs) m
      commands-leads no_command None rest h room l k = steps l (omega arith) k
      commands-leads no_command (Some p) rest h room l k = goes-is l k
      commands-leads {cs = cs} {m = m} (command os commands) turn_of_operation rest h room l k =
          command-leads cs os turn_of_operation (act settle ∷ l.0) (slots-with turn_of_operation h) (omega arith) l.1
          (follows-then (command_value here os turn_of_operation) m (λ v. commands_value here commands (Some (without_null v))) (Puts rest cs) (Puts (act settle ∷ l.0) cs)
          (λ v b k. steps refl (omega arith) (commands-leads commands (Some (without_null v)) rest h (omega arith) l.2 k)) k)

-- what a pipeline gives in a state
abbrev pub given_in : Way → Layout → State → Pipeline → Given Value
given_in way lay s p = commands_value (record { missing_key = way.plan.rules.missing_key; dot = s.dot; env = env_of lay s.cells }) p None

pub pipeline-leads : (way : Way) (p : Pipeline) (lay : Layout) (start rest : Code) (s : State) → who_of s ≡ way.who → PipelineAt p lay start rest
    → drop s.place way.plan.code ≡ start → length lay ≤ length s.cells → length s.cells + need_of_pipeline p ≤ way.room
    → FollowsBy way s (given_in way lay s p).result (s.made_text || (given_in way lay s p).made_text) (Puts way s rest s.cells) → ways.Leading way s
pipeline-leads way p lay start rest s same l at deep room k =
    let g = given_in way lay s p in
    commands-leads way s same (env_of lay s.cells) p None rest (slots-are lay s.cells deep) room l
    (subst (λ b. FollowsBy way s g.result b (Puts way s rest s.cells)) (or_comm s.made_text g.made_text) k) s.place at
