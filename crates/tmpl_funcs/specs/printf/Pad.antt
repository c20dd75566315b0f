-- Texts and numbers padded to the width of a form ("Printing" in the documentation of `fmt`: "Width is measured in
-- units of Unicode code points, that is, runes").
use Rattle.std.specs.Prelude.{ℕ, ◌+◌, ◌-◌, List, ◌++◌, length, replicate, if◌then◌else◌}
use Rattle.std.specs.Str.{byte}
use Rattle.tmpl_values.specs.Runes.{runes}
use Rattle.tmpl_funcs.specs.printf.Form.{Form}

-- a text with what it lacks to a width, counted in runes: spaces before it, or after it with the
-- flag `-`
abbrev pub pad : Form → List ℕ → List ℕ
pad f text = let spaces = replicate (f.width - length (runes text)) (byte " ") in
    if f.minus then text ++ spaces else spaces ++ text

-- a sign and digits with what they lack to the width: spaces after them with the flag `-`, else
-- with the flag `0` zeros between them, else spaces before them
abbrev pub laid_out : Form → List ℕ → List ℕ → List ℕ
laid_out f s ds = let lacking = f.width - (length s + length ds) in
    if f.minus then s ++ (ds ++ replicate lacking (byte " "))
    else (if f.zero then s ++ (replicate lacking (byte "0") ++ ds) else replicate lacking (byte " ") ++ (s ++ ds))
