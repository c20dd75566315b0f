-- What is observed of the two sinks and the status, where the command ends.
use Rattle.std.specs.Prelude.{◌≡◌, ◌≢◌, ◌+◌, ◌⊎◌, ◌++◌, ℕ, Bool, [], codes, if◌then◌else◌}
use Rattle.tmpl_meaning.specs.Sink.{Begun, Cut, Sunk, Whole}
use Rattle.tmpl_tool.specs.Source.{Bytes}

-- the answer of the command
pub record Answer : Type 0 where
  -- what is written
  pub text : Bytes
  -- what is written to the error sink, nothing where all went well
  pub line : Bytes
  pub status : ℕ
  -- it stopped at a read that failed
  pub unread : Bool
  -- it came to a run that makes text: one that calls a function which makes one, with all its arguments
  pub made_text : Bool

-- the whole of a line, or a prefix of it where the sink failed
abbrev pub Says : Bytes → Sunk → Type 0
Says text s = Whole text s ⊎ Cut text s

-- a line on the error sink: the name of the program, what it says, and a newline
abbrev pub line : Bytes → Bytes
line said = codes "tmpl: " ++ (said ++ codes "\n")

abbrev pub write_line : Bytes
write_line = line (codes "write failed")

abbrev pub memory_line : Bytes
memory_line = line (codes "out of memory")

-- the output did not fail: the whole text, the status and the line
abbrev pub Exact : Answer → Sunk → Sunk → ℕ → Type 0
Exact a out err code = Whole a.text out × (code ≡ a.status) × Says a.line err

-- the output failed, once: a prefix of the text
abbrev pub Unwritten : Answer → Sunk → Sunk → ℕ → Type 0
Unwritten a out err code = Cut a.text out × (code ≡ 6) × Says write_line err

-- memory ran out: a prefix of the text, and nothing unless the command runs a template that makes text
abbrev pub Refused : Answer → Sunk → Sunk → ℕ → Type 0
Refused a out err code = Begun (if a.made_text then a.text else []) out × (code ≡ 7) × Says memory_line err

-- one of the three
abbrev pub Outcome : Answer → Sunk → Sunk → ℕ → Type 0
Outcome a out err code = Exact a out err code ⊎ (Unwritten a out err code ⊎ Refused a out err code)

-- the status is 6 exactly where the output failed, and it failed once at most
abbrev pub Counted : ℕ → ℕ → ℕ → Type 0
Counted was is code = ((is ≡ was) × (code ≢ 6)) ⊎ ((is ≡ was + 1) × (code ≡ 6))

-- a count of failures that rose by one at most
abbrev pub Once : ℕ → ℕ → Type 0
Once was is = (is ≡ was) ⊎ (is ≡ was + 1)

-- what a call prints, says and answers, and that each sink fails once at most
pub record Gives (a : Answer) (out err : Sunk) (code : ℕ) : Type 0 where
  pub output_fails_once : Counted out.before.failures out.after.failures code
  pub error_sink_fails_once : Once err.before.failures err.after.failures
  pub outcome : Outcome a out err code

-- a line is said, which fails once at most, and the status is this one
pub record EndsWith (status : ℕ) (text : Bytes) (err : Sunk) (given : ℕ) : Type 0 where
  pub code : given ≡ status
  pub error_sink_fails_once : Once err.before.failures err.after.failures
  pub line : Says text err
