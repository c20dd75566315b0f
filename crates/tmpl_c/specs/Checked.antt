-- A check of files.
use Rattle.std.specs.Prelude.{◌≡◌, ◌≢◌, ◌⊎◌, ℕ, List, [], is_ok, if◌then◌else◌}
use Rattle.std.specs.List.{list_all}
use Rattle.std.specs.Str.{is_utf8}
use Rattle.tmpl_tool.specs.Source.{Bytes}
use Rattle.tmpl_tool.specs.Tool.{Parse}
use Rattle.tmpl_c.specs.Passed.{each_added}

-- whether each file is accepted after those before it: 0, or else 4; and 2 where the name of one is no text
abbrev pub check_status : Parse → List (Bytes × Bytes) → ℕ
check_status parse files =
    if list_all (λ f. is_utf8 f.0) files then (if is_ok (each_added parse [] files) then 0 else 4) else 2

-- the status says so, or that memory ran out; and nothing is said but where a file is refused
abbrev pub Checks : Parse → List (Bytes × Bytes) → Bytes → ℕ → Type 0
Checks parse files text code = ((code ≡ check_status parse files) ⊎ (code ≡ 7)) × (code ≢ 4 → text ≡ [])
