-- For the laws of the command: what it comes to, stage by stage, and that it never comes to the status of refused memory.
use Rattle.std.proofs.Common.{◌≡◌, ◌≢◌, ◌∙◌, ◌++◌, ◌+◌, add-zero, arith, ℕ, suc, List, [], ◌∷◌, length, Option, Some}
use Rattle.std.proofs.Common.{None, Result, Ok, Err, ap, refl, sym, inl, inr}
use Rattle.std.specs.Option.{option_map_or}
use Rattle.tmpl_values.specs.Json.{not_json}
use Rattle.tmpl_syntax.specs.Set.{Template}
use Rattle.tmpl_meaning.specs.Meaning.{Fault, Ran}
use Rattle.tmpl_tool.specs.Source.{Bytes, Files}
use Rattle.tmpl_tool.specs.Laws.{GivesHelp, Prints, RefusesWords, Runs, StopsAtData, StopsAtDataRead, StopsAtFile, StopsAtName, StopsAtRead}
use Rattle.tmpl_tool.specs.Laws.{TellsFailedWrite, TellsReads, TellsRefusedMemory}
use Rattle.tmpl_tool.specs.Tool as tool
use Rattle.tmpl_tool.specs.Tool.{Failing, Parse, Early, answer_of, asked_by, load_each, with_file}
use Rattle.tmpl_values.specs.Stage.{and_then}
use Rattle.tmpl_tool.specs.computed.Load.{after_words}

pub gives_help : GivesHelp
gives_help parse words files fails helps = rw helps refl

pub refuses_words : RefusesWords
refuses_words parse words files fails helps none = rw (helps, none) refl

-- a stage after two is the same as one after the second
pub and_then-and_then : (r : Result (List Template) Early) (f g h : List Template → Result (List Template) Early) → ((s : List Template) → f s ≡ and_then (g s) h)
    → and_then r f ≡ and_then (and_then r g) h
and_then-and_then (Ok s) f g h same = same s
and_then-and_then (Err stop) f g h same = refl

-- the files before a file, and those from it on
loaded_part : (parse : Parse) (files : Files) (fails : Failing) (k : ℕ) (set : List Template) (before rest : List Bytes)
    → load_each parse files fails k set (before ++ rest)
    ≡ and_then (load_each parse files fails k set before) (λ s. load_each parse files fails (k + length before) s rest)
loaded_part parse files fails k set [] rest = ap (λ n. load_each parse files fails n set rest) (sym (add-zero k))
loaded_part parse files fails k set (n ∷ before) rest =
    let moved : suc k + length before ≡ k + suc (length before) = omega arith in
    and_then-and_then (with_file parse files (fails k) set n) (λ s. load_each parse files fails (suc k) s (before ++ rest))
    (λ s. load_each parse files fails (suc k) s before) (λ s. load_each parse files fails (k + suc (length before)) s rest)
    (λ s. loaded_part parse files fails (suc k) s before rest
    ∙ ap (λ n. and_then (load_each parse files fails (suc k) s before) (λ t. load_each parse files fails n t rest)) moved)

pub stops_at_file : StopsAtFile
stops_at_file parse words files fails w asks before name after is set loads stop refuses =
    let moved : 0 + length before ≡ length before = omega arith in
    rw (asks, is, loaded_part parse files fails 0 [] before (name ∷ after), loads, moved, refuses) refl

pub stops_at_read : StopsAtRead
stops_at_read parse files set name = refl

pub prints : Prints
prints parse words files fails w set loads is = rw (loads.0, loads.1, is) refl

pub stops_at_data : StopsAtData
stops_at_data parse words files fails w set goes stop is = rw (goes.0.0, goes.0.1, goes.1, is) refl

pub stops_at_data_read : StopsAtDataRead
stops_at_data_read files name = refl

pub stops_at_name : StopsAtName
stops_at_name parse words files fails w set goes input found none = rw (goes.0.0, goes.0.1, goes.1, found, none) refl

pub runs : Runs
runs parse words files fails w set goes input found tree is = rw (goes.0.0, goes.0.1, goes.1, found, is) refl

-- ---- the ends

pub tells_failed_write : TellsFailedWrite
tells_failed_write a out err code (inl exact) rose = absurd (rose (exact.0.count ∙ add-zero out.before.failures))
tells_failed_write a out err code (inr (inl cut)) rose = (cut.0.count, cut.0, cut.1, cut.2)
tells_failed_write a out err code (inr (inr refused)) rose = absurd (rose refused.0.0)

-- no answer has the status of refused memory
fault-other : (o : Option Fault) → ◌≢◌ {A = ℕ} (option_map_or (λ (f : Fault). 1) o 0) 7
fault-other None e = omega (arith, e)
fault-other (Some f) e = omega (arith, e)

stop-other : (s : Early) → (tool.stop_answer s).status ≢ 7
stop-other tool.help e = omega (arith, e)
stop-other (tool.flawed file not_json) e = omega (arith, e)
stop-other _ e = omega (arith, e)

answer-other : (r : Result Ran Early) → (answer_of r).status ≢ 7
answer-other (Ok r) = fault-other r.fault
answer-other (Err s) = stop-other s

pub tells_refused_memory : TellsRefusedMemory
tells_refused_memory parse words files fails out err code (inl exact) is =
    absurd (answer-other (and_then (asked_by words) (λ w. after_words parse files w fails)) (sym exact.1 ∙ is))
tells_refused_memory parse words files fails out err code (inr (inl cut)) is = absurd (six (sym cut.1 ∙ is))
  where
    six : ◌≢◌ {A = ℕ} 6 7
    six e = omega (arith, e)
tells_refused_memory parse words files fails out err code (inr (inr refused)) is = (refused.0, refused.2)

pub tells_reads : TellsReads
tells_reads reads answers o (inl (none, inl asked, out)) not same = asked
tells_reads reads answers o (inl (none, inr (seven, front), out)) not same = absurd (not seven)
tells_reads reads answers o (inr (k, one)) not same = absurd (omega (arith, one.0, same))

pub ruleset stages = (
  gives_help,
  refuses_words,
  stops_at_file,
  stops_at_read,
  prints,
  stops_at_data,
  stops_at_data_read,
  stops_at_name,
  runs,
)

pub ruleset ends = (tells_failed_write, tells_refused_memory, tells_reads)
