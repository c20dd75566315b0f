-- The laws of runes, that a text has one list of them, which can be read from left to right; and of data, that it is
-- nested no deeper than `serde_json` reads, and that the keys of its mappings rise.
use Rattle.std.specs.Prelude.{◌≡◌, ◌≤◌, ℕ, suc, max, List, [], flat_map, Ok}
use Rattle.tmpl_values.specs.Json.{data_of}
use Rattle.tmpl_values.specs.Rune.{Rune, bytes_in, HasRunes}
use Rattle.tmpl_values.specs.Runes.{runes}
use Rattle.tmpl_values.specs.computed.Rune.{runes_read}
use Rattle.tmpl_values.specs.Value.{Value, sequence, mapping, Items, no_item, item, Entries, no_entry, entry, AreRising}

-- ---- runes

-- the bytes have these runes
abbrev pub HasTheseRunes : Type 0
HasTheseRunes = (bs : List ℕ) → HasRunes bs (runes bs)

-- and no other runes are
abbrev pub HasNoOtherRunes : Type 0
HasNoOtherRunes = (bs : List ℕ) (rs : List Rune) → HasRunes bs rs → rs ≡ runes bs

-- they are read from left to right
abbrev pub AreReadInOrder : Type 0
AreReadInOrder = (bs : List ℕ) → runes bs ≡ runes_read bs

-- joined they are the bytes
abbrev pub JoinsBack : Type 0
JoinsBack = (bs : List ℕ) → flat_map bytes_in (runes bs) ≡ bs

-- ---- data

-- how many sequences and mappings are inside one another
abbrev mutual
  pub nesting : Value → ℕ
  nesting (sequence vs) = suc (items_nesting vs)
  nesting (mapping es) = suc (entries_nesting es)
  nesting _ = 0

  pub items_nesting : Items → ℕ
  items_nesting no_item = 0
  items_nesting (item v vs) = max (nesting v) (items_nesting vs)

  pub entries_nesting : Entries → ℕ
  entries_nesting no_entry = 0
  entries_nesting (entry k v es) = max (nesting v) (entries_nesting es)

-- the keys of each mapping rise, at every level
abbrev mutual
  pub IsRising : Value → Type 0
  IsRising (sequence vs) = HaveRising vs
  IsRising (mapping es) = AreRising es × HoldRising es
  IsRising _ = Unit {0}

  pub HaveRising : Items → Type 0
  HaveRising no_item = Unit {0}
  HaveRising (item v vs) = IsRising v × HaveRising vs

  pub HoldRising : Entries → Type 0
  HoldRising no_entry = Unit {0}
  HoldRising (entry k v es) = IsRising v × HoldRising es

-- the data that bytes are is nested at most 127 deep
abbrev pub NestsWithin : Type 0
NestsWithin = (bytes : List ℕ) (v : Value) → data_of bytes ≡ Ok v → nesting v ≤ 127

-- and its keys rise
abbrev pub HasRisingKeys : Type 0
HasRisingKeys = (bytes : List ℕ) (v : Value) → data_of bytes ≡ Ok v → IsRising v
