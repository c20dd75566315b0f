-- A text that the library owns.
use Rattle.std.specs.Prelude.{◌≡◌, ◌⊎◌, ◌++◌, ℕ, [], length, IfSome}
use Rattle.std.specs.Option.{option_map_or}
use Rattle.std.specs.Vec.{vec_ptr}
use Rattle.tmpl_tool.specs.Outcome.{Answer}
use Rattle.tmpl_tool.specs.Source.{Bytes}
use Rattle.tmpl_c.specs.declared.address.Address.{Address}
use Rattle.tmpl_c.specs.declared.text_handle.TextHandle.{TextHandle}

-- the bytes that a text has
abbrev pub bytes_in : TextHandle → Bytes
bytes_in h = option_map_or (λ g. g.bytes.items) h.held []

-- what the caller reads: as many bytes as the text has, where it lies
abbrev pub IsShown : Address → ℕ → TextHandle → Type 0
IsShown a size h = (size ≡ length (bytes_in h)) × IfSome h.held (λ g. a.at ≡ vec_ptr g.bytes)

-- the whole text of an answer and the whole line, in texts, and the status
abbrev pub HoldsAll : Answer → Bytes → Bytes → ℕ → Type 0
HoldsAll a text line code = (text ≡ a.text) × (line ≡ a.line) × (code ≡ a.status)

-- memory ran out: a prefix of the text, and no line
abbrev pub HoldsBeginning : Answer → Bytes → Bytes → ℕ → Type 0
HoldsBeginning a text line code = (rest : Bytes) × (a.text ≡ text ++ rest) × (line ≡ []) × (code ≡ 7)

-- one of the two
abbrev pub Holds : Answer → Bytes → Bytes → ℕ → Type 0
Holds a text line code = HoldsAll a text line code ⊎ HoldsBeginning a text line code
