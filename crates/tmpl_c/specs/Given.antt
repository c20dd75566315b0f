-- The text of a render is given only where it is of the format that is asked for.
use Rattle.std.specs.Prelude.{◌≡◌, ◌≢◌, ◌⊎◌, ℕ, [], ◌∷◌, false}
use Rattle.tmpl_formats.specs.Format.{IsOf}
use Rattle.tmpl_formats.specs.Name.{IsNamed}
use Rattle.tmpl_formats.specs.declared.format.Format.{Format}
use Rattle.tmpl_tool.specs.Outcome.{Answer}
use Rattle.tmpl_tool.specs.Source.{Bytes}
use Rattle.tmpl_c.specs.Filled.{Rendered, Seen}
use Rattle.tmpl_c.specs.Texts.{Holds}

-- there is a format of this name, and the text is of it
abbrev pub IsOfNamed : Bytes → Bytes → Type 0
IsOfNamed word text = (format : Format) × IsNamed word format × IsOf format text

-- nothing is given, and a line says why
abbrev pub held_back : Bytes → Answer
held_back said = record { text = []; line = said; status = 8; unread = false; made_text = false }

-- what is given of an answer where its text has to be of the format of this name: the answer, where all went well and the text is;
-- no text, where not all went well; or nothing
abbrev pub IsGivenBy : Bytes → Answer → Answer → Type 0
IsGivenBy word a given = ((given ≡ a) × (a.status ≡ 0) × IsOfNamed word a.text)
    ⊎ (((a.status ≢ 0) × (given ≡ record a { text = [] }))
    ⊎ ((a.status ≡ 0) × ((said : Bytes) × (given ≡ held_back said))))

-- .. in texts
abbrev pub GivesBy : Bytes → Answer → Bytes → Bytes → ℕ → Type 0
GivesBy word a text line code = (given : Answer) × IsGivenBy word a given × Holds given text line code

-- .. and where no format is asked for, the answer
abbrev pub IsGiven : Bytes → Answer → Answer → Type 0
IsGiven [] a given = given ≡ a
IsGiven (b ∷ bs) a given = IsGivenBy (b ∷ bs) a given

-- what is given of an answer is in the caller's buffers, truncated to their capacity, unless memory ran out
abbrev pub RenderedBy : Bytes → Answer → ℕ → Seen → ℕ → Seen → ℕ → Type 0
RenderedBy word a room out line_room err code =
    (given : Answer) × IsGiven word a given × Rendered given room out line_room err code

-- .. or in texts
abbrev pub HoldsBy : Bytes → Answer → Bytes → Bytes → ℕ → Type 0
HoldsBy word a text line code = (given : Answer) × IsGiven word a given × Holds given text line code
