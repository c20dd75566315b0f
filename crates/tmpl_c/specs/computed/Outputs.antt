-- What private contracts say of the answer and of the caller's buffers.
use Rattle.std.specs.Prelude.{◌≡◌, ℕ, eqb, false, List, Option, option_map}
use Rattle.std.specs.Borrow.{Bor}
use Rattle.tmpl_values.specs.Value.{Value}
use Rattle.tmpl_syntax.specs.Set.{Template}
use Rattle.tmpl_tool.specs.Outcome.{Answer}
use Rattle.tmpl_tool.specs.Source.{Bytes}
use Rattle.tmpl_c.specs.Filled.{Rendered, buffer_seen, room}
use Rattle.tmpl_c.specs.Given.{RenderedBy}
use Rattle.tmpl_engine.specs.declared.rendering.Renderer.{Renderer}
use Rattle.tmpl_c.specs.Held.{held_answer, templates_run}
use Rattle.tmpl_c.specs.Passed.{rules_in}
use Rattle.tmpl_c.specs.declared.buffer.Buffer.{Buffer}
use Rattle.tmpl_c.specs.declared.settings.Settings.{Settings}

-- a buffer is over the memory that it was over before
abbrev pub IsSameMemory : Buffer → Buffer → Type 0
IsSameMemory old new = new.bytes.ghost_name ≡ old.bytes.ghost_name

-- the answer is in a buffer for the text and a buffer for the line, each as it was before and is now
abbrev pub IsFilled : Answer → Buffer → Buffer → Buffer → Buffer → ℕ → Type 0
IsFilled a out out_now err err_now code = Rendered a (room out) (buffer_seen out_now) (room err) (buffer_seen err_now) code

-- .. what is given of it, where its text has to be of the format of this name
abbrev pub IsFilledBy : Bytes → Answer → Buffer → Buffer → Buffer → Buffer → ℕ → Type 0
IsFilledBy word a out out_now err err_now code =
    RenderedBy word a (room out) (buffer_seen out_now) (room err) (buffer_seen err_now) code

-- the answer of a render of kept templates and data, by these settings
abbrev pub answer_by : Settings → List Template → Bytes → Option Value → Answer
answer_by settings set name value = held_answer (rules_in settings) (eqb settings.print 1) set name value

-- .. of a program, which is not printed
abbrev pub run_by : Settings → List Template → Bytes → Option Value → Answer
run_by settings set name value = held_answer (rules_in settings) false set name value

-- the templates of a program that is borrowed, if one is
abbrev pub templates_borrowed : Option (Bor Renderer) → List Template
templates_borrowed lent = templates_run (option_map (λ r. r.now) lent)
