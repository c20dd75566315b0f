-- For the laws: what a call comes to, stage by stage, and the same of the command.
use Rattle.std.proofs.Common.{◌≡◌, ◌++◌, ℕ, suc, Bool, true, false, List, [], ◌∷◌, Option, Some, None, Result, Ok, Err, refl}
use Rattle.std.proofs.Common.{inl, inr}
use Rattle.std.specs.Result.{result_map_both}
use Rattle.std.specs.Str.{is_utf8}
use Rattle.tmpl_values.specs.Json.{Flaw, not_json, not_whole, data_of}
use Rattle.tmpl_values.specs.Value.{Value}
use Rattle.tmpl_syntax.specs.Set.{Template}
use Rattle.tmpl_tool.specs.Outcome.{Answer}
use Rattle.tmpl_tool.specs.Source.{Bytes, Files}
use Rattle.tmpl_tool.specs.Tool as tool
use Rattle.tmpl_tool.specs.Tool.{Parse, Early, answer_of, data_found, load_each, named_run, no_read}
use Rattle.tmpl_values.specs.Stage.{and_then}
use Rattle.tmpl_tool.specs.Tool.{stop_if, with_file}
use Rattle.tmpl_tool.proofs.StageLemmas.{and_then-and_then}
use Rattle.tmpl_c.specs.Laws.{AddsInTurn, AnswersAsCommand, AnswersButForName, PassesData, PassesFiles, Prints, RefusesName, Runs, SameBut, StopsAtData}
use Rattle.tmpl_c.specs.Laws.{IsKeptAsBefore, IsKeptAsOffered, KeepsAsBefore, KeepsOffered, RendersAsKept, StopsAtFile, StopsAtTemplate}
use Rattle.tmpl_c.specs.Passed.{data_passed, each_added, with_passed}

-- the files before a file, and those from it on
each_part : (parse : Parse) (set : List Template) (before rest : List (Bytes × Bytes))
    → each_added parse set (before ++ rest) ≡ and_then (each_added parse set before) (λ s. each_added parse s rest)
each_part parse set [] rest = refl
each_part parse set (f ∷ before) rest =
    and_then-and_then (with_passed parse set f) (λ s. each_added parse s (before ++ rest)) (λ s. each_added parse s before) (λ s. each_added parse s rest)
    (λ s. each_part parse s before rest)

pub refuses_name : RefusesName
refuses_name parse rules print name input before f after set loads is = rw (each_part parse [] before (f ∷ after), loads, is) refl

pub stops_at_file : StopsAtFile
stops_at_file parse rules print name input before f after set loads is r refuses = rw (each_part parse [] before (f ∷ after), loads, is, refuses) refl

pub prints : Prints
prints parse rules files name input set loads = rw loads refl

pub stops_at_data : StopsAtData
stops_at_data parse rules files name input set loads stop is = rw (loads, is) refl

pub stops_at_template : StopsAtTemplate
stops_at_template parse rules files name input set loads value found none = rw (loads, found, none) refl

pub runs : Runs
runs parse rules files name input set loads value found tree is = rw (loads, found, is) refl

-- ---- as the command

module _ (parse : Parse) (files : Files) where
  one_passed : (set : List Template) (name : Bytes) (f : Bytes × Bytes) → f.0 ≡ name → is_utf8 f.0 ≡ true → files name ≡ Some f.1
      → with_passed parse set f ≡ with_file parse files false set name
  one_passed set name f same is has = rw (is, has, same) refl

  each_passed : (k : ℕ) (set : List Template) (names : List Bytes) (lent : List (Bytes × Bytes)) → PassesFiles files names lent
      → each_added parse set lent ≡ load_each parse files no_read k set names
  each_passed k set [] [] h = refl
  each_passed k set (name ∷ names) (f ∷ fs) h = λ i. and_then (one_passed set name f h.0 h.1 h.2 i) (λ s. each_passed (suc k) s names fs h.3 i)
  each_passed k set [] (f ∷ fs) h = absurd h
  each_passed k set (name ∷ names) [] h = absurd h

  same_data : (o : Option Bytes) (called input : Bytes) → PassesData files o called input → data_passed called input ≡ data_found files false o
  same_data None called input h = rw h refl
  same_data (Some name) called [] h = absurd (h.2 refl)
  same_data (Some name) called (b ∷ bs) h = rw (h.0, h.1) refl

pub answers_as_command : AnswersAsCommand
answers_as_command parse words files w asked lent lends called input holds =
    rw (asked, each_passed parse files 0 [] w.files lent lends, same_data parse files w.data_file called input holds) refl

pub answers_but_for_name : AnswersButForName
answers_but_for_name one other parse rules print files name input = go input (each_added parse [] files) print
  where
    after : Bytes → Bytes → Result (List Template) Early → Bool → Answer
    after called input r p = answer_of (and_then r (λ set.
        and_then (stop_if p (tool.printed set)) (λ u. and_then (data_passed called input) (λ v. named_run rules name set v))))

    Same : Answer → Answer → Type 0
    Same a b = (a.text ≡ b.text) × (a.status ≡ b.status) × SameBut one other a b

    with_flaw : (set : List Template) (d : Result Value Flaw) → Same (answer_of (and_then (result_map_both Some (tool.flawed one) d)
        (λ v. named_run rules name set v)))
        (answer_of (and_then (result_map_both Some (tool.flawed other) d) (λ v. named_run rules name set v)))
    with_flaw set (Ok v) = (refl, refl, inl refl)
    with_flaw set (Err not_json) = (refl, refl, inr (not_json, refl, refl))
    with_flaw set (Err not_whole) = (refl, refl, inr (not_whole, refl, refl))

    go : (input : Bytes) (r : Result (List Template) Early) (p : Bool) → Same (after one input r p) (after other input r p)
    go input (Err s) p = (refl, refl, inl refl)
    go input (Ok set) true = (refl, refl, inl refl)
    go [] (Ok set) false = (refl, refl, inl refl)
    go (b ∷ bs) (Ok set) false = with_flaw set (data_of (b ∷ bs))

-- ---- what is kept

pub renders_as_kept : RendersAsKept
renders_as_kept parse rules print files name input set loads value found = rw (loads, found) refl

-- a stage after which nothing comes
or_no_more : (r : Result (List Template) Early) → and_then r (λ s. Ok s) ≡ r
or_no_more (Ok s) = refl
or_no_more (Err stop) = refl

pub adds_in_turn : AddsInTurn
adds_in_turn parse before f set loads = rw (each_part parse [] before (f ∷ []), loads) (or_no_more (with_passed parse set f))

as_offered : {T : Type 0} → IsKeptAsOffered T
as_offered offered old new room err (inl h) = let same = h.0 in cc
as_offered offered old new room err (inr (inl h)) = let wrong = h.1 in cc
as_offered offered old new room err (inr (inr h)) = let wrong = h.2 in cc

pub keeps_offered : KeepsOffered
keeps_offered = (as_offered, as_offered)

as_before : {T : Type 0} → IsKeptAsBefore T
as_before offered old new room err code (inl h) not = absurd (not h.2)
as_before offered old new room err code (inr (inl h)) not = h.2
as_before offered old new room err code (inr (inr h)) not = h.0

pub keeps_as_before : KeepsAsBefore
keeps_as_before = (as_before, as_before)

pub ruleset stages = (refuses_name, stops_at_file, prints, stops_at_data, stops_at_template, runs)

pub ruleset as_command = (answers_as_command, answers_but_for_name)

pub ruleset kept = (renders_as_kept, adds_in_turn)
