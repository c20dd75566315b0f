-- The machine for CSV.
use Rattle.std.specs.Bool.{then_some}
use Rattle.std.specs.Prelude.{ℕ, ◌+◌, Bool, true, false, ◌==◌, nat_lt, List, Option, Some, None, option_map, if◌then◌else◌}
use Rattle.std.specs.Str.{byte}
use Rattle.tmpl_formats.specs.computed.Machine.{mistake}
use Rattle.tmpl_formats.specs.declared.csv.Csv.{Csv}
use Rattle.tmpl_formats.specs.declared.csv.Place.{Place}
use Rattle.tmpl_formats.specs.declared.csv.Place.TheVariants as at
use Rattle.tmpl_formats.specs.declared.csv.Sign.{Sign}
use Rattle.tmpl_formats.specs.declared.csv.Sign.TheVariants as sign

-- the kind of a byte
abbrev pub sign_of : ℕ → Sign
sign_of b =
    if b == 0 then sign.Null
    else (if b == byte "\n" then sign.Newline
    else (if b == byte "\r" then sign.Return
    else (if b == byte "," then sign.Comma
    else (if b == byte "\"" then sign.Quote else sign.Other))))

-- after a comma, if the record has one more field
abbrev pub next_field : ℕ → ℕ → Option Place
next_field columns fields = then_some (nat_lt (fields + 1) columns) (at.Field (fields + 1))

-- where a field may end
abbrev pub after_field : ℕ → ℕ → Sign → Option Place
after_field columns fields sign.Comma = next_field columns fields
after_field columns fields sign.Newline = then_some (fields + 1 == columns) at.Start
after_field columns fields sign.Return = then_some (fields + 1 == columns) at.Return
after_field columns fields _ = None

abbrev pub after_bare : ℕ → ℕ → Sign → Option Place
after_bare columns fields sign.Other = Some (at.Bare fields)
after_bare columns fields s = after_field columns fields s

abbrev pub at_field : ℕ → ℕ → Sign → Option Place
at_field columns fields sign.Quote = Some (at.Quoted fields)
at_field columns fields s = after_bare columns fields s

abbrev pub after_sign : ℕ → Place → Sign → Option Place
after_sign columns at.Start sign.Newline = None
after_sign columns at.Start sign.Return = None
after_sign columns at.Start s = at_field columns 0 s
after_sign columns (at.Field fields) s = at_field columns fields s
after_sign columns (at.Bare fields) s = after_bare columns fields s
after_sign columns (at.Quoted fields) sign.Null = None
after_sign columns (at.Quoted fields) sign.Quote = Some (at.Quote fields)
after_sign columns (at.Quoted fields) _ = Some (at.Quoted fields)
after_sign columns (at.Quote fields) sign.Quote = Some (at.Quoted fields)
after_sign columns (at.Quote fields) s = after_field columns fields s
after_sign columns at.Return sign.Newline = Some at.Start
after_sign columns at.Return _ = None

abbrev pub csv_at : ℕ → Place → Csv
csv_at columns place = record { columns = columns; place = place }

-- one step of the machine, and whether a text may end there
abbrev pub step : Csv → ℕ → Option Csv
step c b = option_map (csv_at c.columns) (after_sign c.columns c.place (sign_of b))

abbrev pub ends_at : ℕ → Place → Bool
ends_at columns at.Start = true
ends_at columns (at.Field fields) = fields + 1 == columns
ends_at columns (at.Bare fields) = fields + 1 == columns
ends_at columns (at.Quoted fields) = false
ends_at columns (at.Quote fields) = fields + 1 == columns
ends_at columns at.Return = false

abbrev pub ends : Csv → Bool
ends c = ends_at c.columns c.place

abbrev pub start : ℕ → Csv
start columns = csv_at columns at.Start

abbrev pub csv_mistake : ℕ → List ℕ → Option ℕ
csv_mistake columns text = mistake step ends (start columns) text
