-- A value of a template: nothing, null, a truth value, a whole number, a string of bytes, a
-- sequence of values, or a mapping from strings to values.
use Rattle.std.specs.Prelude.{◌≡◌, ℕ, ℤ, Bool, List}
use Rattle.std.specs.Ordering.{nat_cmp}
use Rattle.std.specs.Cmp.Lexicographic.{slice_cmp}
use Rattle.std.specs.declared.cmp.Ordering.TheVariants.{Less}

mutual
  pub data Value : Type 0 where
    -- no value at all, and a null that the data holds
    nothing null : Value
    boolean : Bool → Value
    number : ℤ → Value
    string : List ℕ → Value
    sequence : Items → Value
    mapping : Entries → Value

  pub data Items : Type 0 where
    no_item : Items
    item : Value → Items → Items

  pub data Entries : Type 0 where
    no_entry : Entries
    entry : List ℕ → Value → Entries → Entries

-- the key is below the first of these, byte by byte
abbrev pub IsBelow : List ℕ → Entries → Type 0
IsBelow k no_entry = Unit {0}
IsBelow k (entry l v es) = slice_cmp nat_cmp k l ≡ Less

-- the keys rise, so they differ
abbrev pub AreRising : Entries → Type 0
AreRising no_entry = Unit {0}
AreRising (entry k v es) = IsBelow k es × AreRising es
