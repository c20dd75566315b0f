-- For `parse`: neither the fault nor the matches of the command depend on where the four words of `--missingkey` lie, so that `wanted` is one function.
use Rattle.std.proofs.Common.{◌≡◌, ◌∙◌, ℕ, zero, suc, Bool, false, cond, not, List, [], ◌∷◌, length, drop, map, Option, Some, None}
use Rattle.std.proofs.Common.{Bor, is_some, refl, ap, sym}
use Rattle.std.specs.Prelude.{◌&&◌, ◌||◌, ◌==◌, ◌+◌, min, if◌then◌else◌, find, fold, encode_utf8, option_map, slice_get}
use Rattle.std.specs.List.{list_any}
use Rattle.std.specs.Option.{option_map_or}
use Rattle.std.specs.Str.{bytes_eq, chars}
use Rattle.std.proofs.lemmas.List.Folds.{fold-map}
use Rattle.clap.specs.Facts.{explicit_source, parser_of_value, unwrap_or_range}
use Rattle.clap.specs.Matches.{count_text}
use Rattle.clap.specs.Lexer.{long_of, short_of}
use Rattle.clap.specs.Kinds.{Kinds, check_kinds, or_else, range_kinds, request_kinds, value_kinds}
use Rattle.clap.specs.Values.{reading_of, same_text}
use Rattle.clap.specs.declared.builder.action.ArgAction.{ArgAction}
use Rattle.clap.specs.declared.builder.action.ArgAction.TheVariants.{Append, Count, Set, SetFalse, SetTrue}
use Rattle.clap.specs.declared.builder.value_parser.ValueParser.{ValueParser}
use Rattle.clap.specs.declared.builder.value_parser.ValueParser.TheVariants as vp
use Rattle.clap.specs.declared.error.kind.ErrorKind.TheVariants as kind
use Rattle.clap.specs.Walk.{Held, Names, Outcome, Row, Rule, Step, Text, Waiting, Walk, action_of, after_flag, after_step}
use Rattle.clap.specs.Walk.{attached_value, bundle_met, bundle_step, default_rows, done, finished, flag_met, has_long, has_row, has_short, is_empty}
use Rattle.clap.specs.Walk.{is_pending, plain, pushed, count_of, most_values, takes_several, long_met, long_or_other, next, nothing_held, option}
use Rattle.clap.specs.Walk.{option_met, option_word, plain_word, reacted, settled, settled_rows, short_met}
use Rattle.clap.specs.Walk.{short_or_plain, subcommand_met, subcommand_or_other, takes_values, to_positional, trailing, used, used_as}
use Rattle.clap.specs.Walk.{used_by_id, value, values_or_missing, waits, walk, walk_from, walked, walked_from, with_default, word_met}
use Rattle.clap.specs.Simple.{Shape, built, entered}
use Rattle.clap.specs.Faults.{action_fault, bundle_step_fault, check_fault, defaults_fault, entered_fault, fault_of}
use Rattle.clap.specs.Faults.{flag_word_fault, flags_fault, level_fault, long_fault, option_fault, other_fault, positional_fault}
use Rattle.clap.specs.Faults.{react_fault, repeat_fault, settle_fault, short_fault, step_fault, stray_fault, turn_fault, use_fault, values_fault, walk_fault}
use Rattle.clap.specs.Takes.{is_given}
use Rattle.clap.specs.Words.{matches_of}
use Rattle.clap.proofs.WalkLemmas.{find-map, list_any-map}
use Rattle.tmpl_tool.specs.Laws.{LiesAnywhere}
use Rattle.tmpl_tool.specs.Words.{Modes, here, tool_app, words_fault, words_rows}

-- ---- an argument whose words lie in another place

abbrev word_here : Text → Bor Text
word_here text = record { ref_ptr = (0, 0); now = text }

abbrev moved_modes : Modes → Modes
moved_modes modes = record { ref_ptr = (0, 0); now = map word_here (map (λ word. word.now) modes.now) }

abbrev moved_parser : Option ValueParser → Option ValueParser
moved_parser (Some (vp.Names modes)) = Some (vp.Names (moved_modes modes))
moved_parser p = p

abbrev moved : Rule → Rule
moved a = record a { parser = moved_parser a.parser }

reading_same : (p : Option ValueParser) → reading_of (parser_of_value (moved_parser p)) ≡ reading_of (parser_of_value p)
reading_same (Some (vp.Names modes)) = refl
reading_same p = refl

used_same : (a : Rule) (values : List Text) → used (moved a) values ≡ used a values
used_same a values = λ i rows. used_as (action_of a) a.id (reading_same a.parser i) (values_or_missing a values) rows

default_same : (rows : List Row) (a : Rule) → with_default rows (moved a) ≡ with_default rows a
default_same rows a = λ i. if has_row a.id rows then rows else default_rows a.id (reading_same a.parser i) a.defaults rows

-- ---- the walk over the words

module _ (c : List Rule) where
  abbrev d : List Rule
  d = map moved c

  -- what is made of the argument that is found is the same, where it is of each argument
  found : {T : Type 0} (p : Rule → Bool) (f g : Option Rule → T) → f None ≡ g None → ((a : Rule) → f (Some (moved a)) ≡ g (Some a))
      → f (find p d) ≡ g (find (λ a. p (moved a)) c)
  found p f g none some = ap f (sym (find-map p moved c)) ∙ go (find (λ a. p (moved a)) c)
    where
      go : (o : Option Rule) → f (option_map moved o) ≡ g o
      go None = none
      go (Some a) = some a

  settled_same : (h : Held) → settled d h ≡ settled c h
  settled_same h = ap (λ rows. record h { rows = rows; pending = None }) (go h.pending)
    where
      go : (p : Option (Text × List Text)) → settled_rows d p h.rows ≡ settled_rows c p h.rows
      go None = refl
      go (Some p) = let by = λ (o : Option Rule). used_by_id o p.1 h.rows in found (λ a. bytes_eq a.id p.0) by by refl (λ a i. used_same a p.1 i h.rows)

  reacted_same : (a : Rule) (values : List Text) (h : Held) → reacted d (moved a) values h ≡ reacted c a values h
  reacted_same a values h = λ i. record h { rows = used_same a values i (settled_same h i).rows; pending = None }

  option_met_same : (a : Rule) (v : Option Text) (h : Held) → option_met d (moved a) v h ≡ option_met c a v h
  option_met_same a (Some v) h = λ i. (reacted_same a (v ∷ []) h i, done)
  option_met_same a None h = λ i. (record (settled_same h i) { pending = Some (a.id, []) }, waits a.id)

  flag_met_same : (a : Rule) (v : Option Text) (h : Held) → flag_met d (moved a) v h ≡ flag_met c a v h
  flag_met_same a (Some v) h = refl
  flag_met_same a None h = λ i. (reacted_same a [] h i, done)

  bundle_step_same : (x : Option ℕ) (flags : Text) (skip : ℕ) (so_far : Outcome) (h : Held) (after : Text → ℕ → Outcome → Held → Held × Outcome)
      → bundle_step d x flags skip so_far h after ≡ bundle_step c x flags skip so_far h after
  bundle_step_same (Some x) flags zero so_far h after =
      let rest = drop (length (encode_utf8 x)) flags in
      found (λ a. not (is_some a.index) && has_short a x) (λ o. short_met d o rest h (after rest 0 done)) (λ o. short_met c o rest h (after rest 0 done)) refl
      (λ a i. cond (takes_values a) (option_met_same a (attached_value rest) h i) (after rest 0 done (reacted_same a [] h i)))
  bundle_step_same x flags skip so_far h after = refl

  bundle_met_same : (k : ℕ) → bundle_met d k ≡ bundle_met c k
  unfolding bundle_met
  bundle_met_same zero = refl
  bundle_met_same (suc k) = λ i flags skip so_far h. bundle_step_same (slice_get (chars flags) 0) flags skip so_far h (bundle_met_same k i) i

  plain_word_same : (w : Waiting) (word : Text) (h : Held) → plain_word d w word h ≡ plain_word c w word h
  plain_word_same (option id) word h =
      let by : Option Rule → Held × Step = λ o. let x = option_word o id word h in (x.0, next x.1) in
      found (λ a. bytes_eq a.id id) by by refl (λ a. refl)
  plain_word_same w word h = refl

  after_flag_same : (w : Waiting) (word : Text) (h : Held) (o : Outcome) → after_flag d w word h o ≡ after_flag c w word h o
  after_flag_same w word h done = refl
  after_flag_same w word h (waits id) = refl
  after_flag_same w word h o = plain_word_same w word h

  short_or_plain_same : (w : Waiting) (word : Text) (flags : Option Text) (h : Held) → short_or_plain d w word flags h ≡ short_or_plain c w word flags h
  short_or_plain_same w word None h = plain_word_same w word h
  short_or_plain_same w word (Some flags) h =
      λ i. let x = bundle_met_same (length flags) i flags h.skip plain (record h { skip = 0 }) in after_flag_same w word x.0 x.1 i

  long_or_other_same : (w : Waiting) (word : Text) (p : Option (Text × Option Text)) (h : Held) → long_or_other d w word p h ≡ long_or_other c w word p h
  long_or_other_same w word None h = short_or_plain_same w word (short_of word) h
  long_or_other_same w word (Some p) h =
      let met = found (λ a. not (is_some a.index) && has_long a p.0) (λ o. long_met d o p.1 h) (λ o. long_met c o p.1 h) refl
      (λ a i. cond (takes_values a) (option_met_same a p.1 h i) (flag_met_same a p.1 h i)) in λ i. after_flag_same w word (met i).0 (met i).1 i

  subcommand_or_other_same : (s : Option Text) (w : Waiting) (k : ℕ) (word : Text) (h : Held)
      → subcommand_or_other d s w k word h ≡ subcommand_or_other c s w k word h
  subcommand_or_other_same (Some name) w k word h = refl
  subcommand_or_other_same None w k word h = λ i. cond (bytes_eq word (45 ∷ 45 ∷ [])) (h, trailing k) (long_or_other_same w word (long_of word) h i)

  word_met_same : (names : Names) (t : Bool) (w : Waiting) (k : ℕ) (word : Text) (h : Held) → word_met d names t w k word h ≡ word_met c names t w k word h
  word_met_same names t w k word h = λ i. cond t (h, value) (subcommand_or_other_same (subcommand_met names w word) w k word h i)

  after_step_same : (word : Text) (w : Walk) (h : Held) (s : Step) → after_step d word w h s ≡ after_step c word w h s
  after_step_same word w h value =
      found (λ a. option_map_or (λ k. k == w.position) a.index false) (λ o. to_positional d o word w h) (λ o. to_positional c o word w h) refl
      (λ a i. record (to_positional c (Some a) word w h) {
        held = pushed a.id word (cond (is_pending a h.pending && takes_several a) h (settled_same h i));
      })
  after_step_same word w h s = refl

  walked_same : (names : Names) (w : Walk) (word : Text) → walked d names w word ≡ walked c names w word
  unfolding walked
  walked_same names w word = go w.stopped
    where
      go : (s : Option (Text × List Text)) → walked_from d names s w word ≡ walked_from c names s w word
      go (Some p) = refl
      go None = λ i. let x = word_met_same names w.is_trailing w.waiting w.position word w.held i in after_step_same word w x.0 x.1 i

  walk_same : (names : Names) (h : Held) (words : List Text) → walk d names h words ≡ walk c names h words
  walk_same names h words = λ i. fold (λ w word. walked_same names w word i) (walk_from h) words

  finished_same : (h : Held) → finished d h ≡ finished c h
  finished_same h = fold-map with_default moved (settled d h).rows c ∙ λ i. fold (λ rows a. default_same rows a i) (settled_same h i).rows c

-- ---- one use of an argument

value_fault_same : (again : Bool) (p : Option ValueParser) (text : Text)
    → value_kinds again (parser_of_value (moved_parser p)) text ≡ value_kinds again (parser_of_value p) text
value_fault_same again (Some (vp.Names modes)) text =
    let passes = λ (word : Text). same_text again word text in
    ap (λ b. cond b [] (kind.InvalidValue ∷ []))
    (sym (list_any-map passes (λ word. word.now) modes.now ∙ list_any-map (λ word. passes word.now) word_here (map (λ word. word.now) modes.now)))
value_fault_same again p text = refl

values_fault_same : (a : Rule) (values : List Text) → values_fault (moved a) values ≡ values_fault a values
values_fault_same a [] = refl
values_fault_same a (v ∷ vs) = λ i. or_else (value_fault_same a.ignore_case a.parser v i) (values_fault_same a vs i)

action_fault_same : (x : ArgAction) (again : Bool) (a : Rule) (values : List Text) (rows : List Row)
    → action_fault x again (moved a) values rows ≡ action_fault x again a values rows
action_fault_same Set again a values rows = ap (or_else (repeat_fault again a.id rows)) (values_fault_same a values)
action_fault_same SetTrue again a values rows = ap (or_else (repeat_fault again a.id rows)) (values_fault_same a values)
action_fault_same SetFalse again a values rows = ap (or_else (repeat_fault again a.id rows)) (values_fault_same a values)
action_fault_same Append again a values rows = values_fault_same a values
action_fault_same Count again a [] rows = value_fault_same a.ignore_case a.parser (count_text (min (count_of a.id rows + 1) 255))
action_fault_same Count again a (v ∷ vs) rows = values_fault_same a (v ∷ vs)
action_fault_same x again a values rows = refl

use_fault_same : (again : Bool) (a : Rule) (values : List Text) (rows : List Row) → use_fault again (moved a) values rows ≡ use_fault again a values rows
use_fault_same again a values rows =
    λ i. or_else (range_kinds (unwrap_or_range a.range).start_inclusive (most_values a) (length values))
    (action_fault_same (action_of a) again a (values_or_missing a values) rows i)

defaults_fault_same : (rows : List Row) (c : List Rule) → defaults_fault rows (map moved c) ≡ defaults_fault rows c
unfolding defaults_fault
defaults_fault_same rows [] = refl
defaults_fault_same rows (a ∷ rest) = λ i. or_else
    (cond (has_row a.id rows || is_empty a.defaults) [] (or_else (request_kinds (action_of a)) (values_fault_same a a.defaults i)))
    (defaults_fault_same (default_same rows a i) rest i)

-- ---- the faults of the command

module _ (s : Shape) where
  abbrev c : List Rule
  c = s.rules

  abbrev again : Bool
  again = s.args_override_self

  abbrev t : Shape
  t = record s { rules = d c }

  settle_fault_same : (h : Held) → settle_fault (d c) again h ≡ settle_fault c again h
  settle_fault_same h = go h.pending
    where
      go : (p : Option (Text × List Text)) → settle_fault (d c) again (record h { pending = p }) ≡ settle_fault c again (record h { pending = p })
      go None = refl
      go (Some p) =
          let by = λ (o : Option Rule). option_map_or (λ a. use_fault again a p.1 h.rows) o [] in
          found c (λ a. bytes_eq a.id p.0) by by refl (λ a. use_fault_same again a p.1 h.rows)

  react_fault_same : (a : Rule) (values : List Text) (h : Held) → react_fault (d c) again (moved a) values h ≡ react_fault c again a values h
  react_fault_same a values h = λ i. or_else (settle_fault_same h i) (use_fault_same again a values (settled_same c h i).rows i)

  option_fault_same : (a : Rule) (v : Option Text) (h : Held) → option_fault (d c) again (moved a) v h ≡ option_fault c again a v h
  option_fault_same a (Some v) h = react_fault_same a (v ∷ []) h
  option_fault_same a None h = settle_fault_same h

  bundle_step_fault_same : (x : Option ℕ) (flags : Text) (skip : ℕ) (h : Held) (after : Text → ℕ → Held → Kinds)
      → bundle_step_fault (d c) again x flags skip h after ≡ bundle_step_fault c again x flags skip h after
  bundle_step_fault_same (Some x) flags zero h after =
      let rest = drop (length (encode_utf8 x)) flags in
      found c (λ a. not (is_some a.index) && has_short a x) (λ o. short_fault (d c) again o rest h (after rest 0))
      (λ o. short_fault c again o rest h (after rest 0)) refl
      (λ a i. cond (takes_values a) (option_fault_same a (attached_value rest) h i)
      (or_else (react_fault_same a [] h i) (after rest 0 (reacted_same c a [] h i))))
  bundle_step_fault_same x flags skip h after = refl

  flags_fault_same : (k : ℕ) → flags_fault (d c) again k ≡ flags_fault c again k
  unfolding flags_fault
  flags_fault_same zero = refl
  flags_fault_same (suc k) = λ i flags skip h. bundle_step_fault_same (slice_get (chars flags) 0) flags skip h (flags_fault_same k i) i

  flag_word_same : (p : Option (Text × Option Text)) (word : Text) (h : Held) → flag_word_fault (d c) again p word h ≡ flag_word_fault c again p word h
  flag_word_same (Some p) word h =
      found c (λ a. not (is_some a.index) && has_long a p.0) (λ o. long_fault (d c) again o p.1 h) (λ o. long_fault c again o p.1 h) refl
      (λ a i. cond (takes_values a) (option_fault_same a p.1 h i) (cond (is_some p.1) (kind.TooManyValues ∷ []) (react_fault_same a [] h i)))
  flag_word_same None word h = λ i. option_map_or (λ flags. flags_fault_same (length flags) i flags h.skip (record h { skip = 0 })) (short_of word) []

  other_fault_same : (name : Option Text) (word : Text) (h : Held) → other_fault t name word h ≡ other_fault s name word h
  other_fault_same (Some name) word h = refl
  other_fault_same None word h = λ i. cond (bytes_eq word (45 ∷ 45 ∷ [])) [] (flag_word_same (long_of word) word h i)

  step_fault_same : (position : ℕ) (h : Held) (x : Step) → step_fault t position h x ≡ step_fault s position h x
  step_fault_same position h value =
      found c (λ a. option_map_or (λ k. k == position) a.index false) (λ o. option_map_or (λ a. positional_fault (d c) again a h) o (stray_fault s))
      (λ o. option_map_or (λ a. positional_fault c again a h) o (stray_fault s)) refl
      (λ a i. cond (is_pending a h.pending && takes_several a) [] (settle_fault_same h i))
  step_fault_same position h x = refl

  turn_fault_same : (names : Names) (w : Walk) (word : Text) → turn_fault t names w word ≡ turn_fault s names w word
  turn_fault_same names w word =
      λ i. let met = word_met_same c names w.is_trailing w.waiting w.position word w.held i in
      cond (is_some w.stopped) [] (or_else
      (cond w.is_trailing [] (other_fault_same (subcommand_met names w.waiting word) word w.held i)) (step_fault_same w.position met.0 met.1 i))

  walk_fault_same : (names : Names) (w : Walk) (words : List Text) → walk_fault t names w words ≡ walk_fault s names w words
  unfolding walk_fault
  walk_fault_same names w [] = refl
  walk_fault_same names w (word ∷ rest) = λ i. or_else (turn_fault_same names w word i) (walk_fault_same names (walked_same c names w word i) rest i)

  check_fault_same : (rows : List Row) (b : Bool) → check_fault t rows b ≡ check_fault s rows b
  check_fault_same rows b =
      let lacks = λ (a : Rule). a.required && not (is_given a.id rows) in
      λ i. check_kinds (not b && (s.arg_required_else_help && not (list_any (λ r. explicit_source r.source) rows))) (not b && s.subcommand_required)
      (not (s.subcommand_negates_reqs && b) && sym (list_any-map lacks moved c) i)

  level_fault_same : (names : Names) (h : Held) (words : List Text) (b : Bool) (below : Kinds)
      → level_fault t names h words b below ≡ level_fault s names h words b below
  level_fault_same names h words b below =
      λ i. let end = (walk_same c names h words i).held in
      or_else (walk_fault_same names (walk_from h) words i) (or_else below (or_else (settle_fault_same end i)
      (or_else (defaults_fault_same (settled_same c end i).rows c i) (check_fault_same (finished_same c end i) b i))))

faults_same : (modes : Modes) (words : List Text) → fault_of (tool_app (moved_modes modes)) words ≡ fault_of (tool_app modes) words
faults_same modes words =
    let app = built (tool_app modes) in
    λ i. let stop = (walk_same app.top.rules [] nothing_held (drop 1 words) i).stopped in
    level_fault_same app.top [] nothing_held (drop 1 words) (is_some (entered app stop)) (entered_fault app stop) i

matches_same : (modes : Modes) (words : List Text) → matches_of (tool_app (moved_modes modes)) words ≡ matches_of (tool_app modes) words
matches_same modes words =
    let rules = (built (tool_app modes)).top.rules in
    λ i. finished_same rules (walk_same rules [] nothing_held (drop 1 words) i).held i

pub lies_anywhere : LiesAnywhere
unfolding words_fault words_rows
lies_anywhere modes is words =
    let here_too : moved_modes modes ≡ here = λ i. record { ref_ptr = (0, 0); now = map word_here (is i) } in (
      sym (faults_same modes words) ∙ ap (λ m. fault_of (tool_app m) words) here_too,
      sym (matches_same modes words) ∙ ap (λ m. matches_of (tool_app m) words) here_too,
    )
