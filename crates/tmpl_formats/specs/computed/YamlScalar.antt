-- Plain scalars with the bytes after them.
use Rattle.std.specs.Prelude.{ℕ, Bool, true, ◌||◌, ◌&&◌, ◌==◌, List, codes, take, drop, Option, Some, None, if◌then◌else◌}
use Rattle.std.specs.List.{list_all, slice_get}
use Rattle.std.specs.Str.{byte, bytes_eq}
use Rattle.tmpl_formats.specs.YamlScalar.{is_start, may_follow_dot, is_numeric, is_plain, passes}

-- whether there was a dot, after a byte of a number
abbrev pub after_numeric : Bool → ℕ → Option Bool
after_numeric has_dot b = if b == byte "." then (if has_dot then None else Some true) else (if is_numeric b then Some has_dot else None)

-- a byte that may come at the start of a plain scalar after these
abbrev pub starts_well : List ℕ → ℕ → Bool
starts_well text b =
    if bytes_eq text (codes ".") then may_follow_dot b
    else (if bytes_eq text (codes "+") || bytes_eq text (codes "--") then is_start b else true)

abbrev pub is_scalar : Bool → List ℕ → ℕ → Bool
is_scalar in_flow text end = is_plain in_flow (take end text) && list_all (λ b. b == 32) (drop end text)

abbrev pub is_spaced_scalar : Bool → List ℕ → ℕ → Bool
is_spaced_scalar in_flow text end =
    is_plain in_flow (take end text) && passes (λ b. b == 32) (slice_get (drop end text) 0) && list_all (λ b. b == 32) (drop end text)

abbrev pub is_name : Bool → List ℕ → ℕ → Bool
is_name in_flow text end = is_plain in_flow (take end text) && bytes_eq (drop end text) (codes ":")
