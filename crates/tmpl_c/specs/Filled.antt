-- What is seen of the caller's buffers and the status, where a call ends.
use Rattle.std.specs.Prelude.{◌≡◌, ◌⊎◌, ◌++◌, ◌||◌, ℕ, Bool, codes, decimal, eqb, leb, length, take, if◌then◌else◌}
use Rattle.tmpl_tool.specs.Outcome.{Answer, line, memory_line, write_line}
use Rattle.tmpl_tool.specs.Source.{Bytes}
use Rattle.tmpl_c.specs.declared.buffer.Buffer.{Buffer}

-- the line about a text that has more bytes than this
abbrev pub limit_line : ℕ → Bytes
limit_line most = line (codes "more than " ++ decimal most ++ codes " bytes of output")

-- an answer of whose text this many bytes are written at most, or all for 0: where it has more, those that come first,
-- with a line of that and the status of a write that failed
abbrev pub limit_text : ℕ → Answer → Answer
limit_text most a = if eqb most 0 || leb (length a.text) most then a
    else record a { text = take most a.text; line = limit_line most; status = 6 }

-- memory, how many bytes of it hold output, and how many the output has
pub record Seen : Type 0 where
  pub memory : Bytes
  pub taken : ℕ
  pub needed : ℕ

abbrev pub buffer_seen : Buffer → Seen
buffer_seen b = record { memory = b.bytes.now; taken = b.taken; needed = b.needed }

abbrev pub room : Buffer → ℕ
room b = length b.bytes.now

-- the memory begins with these bytes, or with as many of them as there is room for
pub record Shows (bytes : Bytes) (room : ℕ) (s : Seen) : Type 0 where
  pub taken : s.taken ≡ length (take room bytes)
  pub memory : take s.taken s.memory ≡ take room bytes

-- .. and how many they are is stated
abbrev pub Fills : Bytes → ℕ → Seen → Type 0
Fills bytes room s = Shows bytes room s × (s.needed ≡ length bytes)

-- the text has room
abbrev pub fits : ℕ → Answer → Bool
fits room a = leb (length a.text) room

-- the line and the status: where the text has no room those of a write that failed, whatever else went wrong
abbrev pub line_in : ℕ → Answer → Bytes
line_in room a = if fits room a then a.line else write_line

abbrev pub status_in : ℕ → Answer → ℕ
status_in room a = if fits room a then a.status else 6

abbrev pub Exact : Answer → ℕ → Seen → ℕ → Seen → ℕ → Type 0
Exact a room out line_room err code =
    Fills a.text room out × Fills (line_in room a) line_room err × (code ≡ status_in room a)

-- of a prefix of these bytes
abbrev pub FillsPrefix : Bytes → ℕ → Seen → Type 0
FillsPrefix bytes room s = (front : Bytes) × (rest : Bytes) × (bytes ≡ front ++ rest) × Fills front room s

-- memory ran out: a prefix of the text, and the line of that
abbrev pub Refused : Answer → ℕ → Seen → ℕ → Seen → ℕ → Type 0
Refused a room out line_room err code =
    FillsPrefix a.text room out × Fills memory_line line_room err × (code ≡ 7)

-- the answer, truncated to the capacity of the buffer, unless memory ran out
abbrev pub Rendered : Answer → ℕ → Seen → ℕ → Seen → ℕ → Type 0
Rendered a room out line_room err code = Exact a room out line_room err code ⊎ Refused a room out line_room err code
