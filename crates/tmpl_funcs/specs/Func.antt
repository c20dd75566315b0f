-- The functions of templates as one table ("Functions").
use Rattle.std.specs.Prelude.{ℕ, pos, Bool, true, false, not, ◌&&◌, nat_le, List, ◌∷◌, ◌++◌, map, flat_map, codes}
use Rattle.std.specs.Prelude.{option_map, ok_or, Ok, Err, if◌then◌else◌}
use Rattle.std.specs.List.{join_with_byte}
use Rattle.std.specs.Option.{option_map_or}
use Rattle.std.specs.Str.{byte}
use Rattle.tmpl_values.specs.Value.{boolean, number, string}
use Rattle.tmpl_values.specs.Compare.{is_nothing, equality, order}
use Rattle.tmpl_values.specs.Item.{size_of}
use Rattle.tmpl_values.specs.Text.{inner_text}
use Rattle.tmpl_values.specs.Truth.{truth}
use Rattle.tmpl_funcs.specs.Arguments.{Arguments, any, one, two, one_to_three, one_or_more, two_or_more, counts}
use Rattle.tmpl_funcs.specs.Compare.{equal_to_one, at_most, comparison_answer}
use Rattle.tmpl_funcs.specs.Escape.{html_byte, query_byte}
use Rattle.tmpl_funcs.specs.Index.{indexed_by}
use Rattle.tmpl_funcs.specs.Join.{join_operands, as_text}
use Rattle.tmpl_funcs.specs.Junction.{deciding}
use Rattle.tmpl_funcs.specs.Slice.{slice_between}
use Rattle.tmpl_funcs.specs.printf.Format.{printf_of}
use Rattle.tmpl_funcs.specs.declared.fault.CallFault.TheVariants.{WrongKind}
use Rattle.tmpl_funcs.specs.declared.func.Func.{Func}
use Rattle.tmpl_funcs.specs.declared.func.Func.TheVariants.{And, Or, Not, Len, Index, Slice, Print, Println, Printf}
use Rattle.tmpl_funcs.specs.declared.func.Func.TheVariants.{Html, Urlquery, Eq, Ne, Lt, Le, Gt, Ge}

-- a row of the table: the name, whether the function makes a text, and so takes memory, and its arguments, with what it
-- gives for them
pub record Row : Type 0 where
  pub name : List ℕ
  pub makes_text : Bool
  pub arguments : Arguments

-- of a function that makes no text, and of one that makes one
abbrev pub row : List ℕ → Arguments → Row
row name arguments = record { name = name; makes_text = false; arguments = arguments }

abbrev pub text_row : List ℕ → Arguments → Row
text_row name arguments = record { name = name; makes_text = true; arguments = arguments }

-- the table. `not` says whether its argument is empty; `len` is the number of bytes of a string, or of items of a
-- sequence or a mapping; `index` with no index gives the value itself, of any kind but nothing; `print` joins its
-- arguments; `println` has one space between each two, and a newline; `html` and `urlquery` escape what they join,
-- where nothing counts as a string; `ne`, `gt` and `ge` are the opposites of `eq`, `le` and `lt`
abbrev pub row_of : Func → Row
row_of And = row (codes "and") (one_or_more (λ v vs. Ok (deciding false v vs)))
row_of Or = row (codes "or") (one_or_more (λ v vs. Ok (deciding true v vs)))
row_of Not = row (codes "not") (one (λ v. Ok (boolean (not (truth v)))))
row_of Len = row (codes "len") (one (λ v. ok_or (option_map (λ n. number (pos n)) (size_of v)) WrongKind))
row_of Index = row (codes "index") (one_or_more (λ v is. if is_nothing v then Err WrongKind else indexed_by v is))
row_of Slice = row (codes "slice") (one_to_three slice_between)
row_of Print = text_row (codes "print") (any (λ vs. Ok (string (join_operands vs))))
row_of Println =
    text_row (codes "println") (any (λ vs. Ok (string (join_with_byte (byte " ") (map inner_text vs) ++ codes "\n"))))
row_of Printf = text_row (codes "printf") (one_or_more printf_of)
row_of Html = text_row (codes "html") (any (λ vs. Ok (string (flat_map html_byte (join_operands (map as_text vs))))))
row_of Urlquery = text_row (codes "urlquery") (any (λ vs. Ok (string (flat_map query_byte (join_operands (map as_text vs))))))
row_of Eq = row (codes "eq") (two_or_more (λ v w ws. comparison_answer (equal_to_one v (w ∷ ws))))
row_of Ne = row (codes "ne") (two (λ v w. comparison_answer (option_map not (equality v w))))
row_of Lt = row (codes "lt") (two (λ v w. comparison_answer (order v w)))
row_of Le = row (codes "le") (two (λ v w. comparison_answer (at_most v w)))
row_of Gt = row (codes "gt") (two (λ v w. comparison_answer (option_map not (at_most v w))))
row_of Ge = row (codes "ge") (two (λ v w. comparison_answer (option_map not (order v w))))

-- the name of a function
abbrev pub name_of : Func → List ℕ
name_of f = (row_of f).name

-- the function takes this number of arguments: no fewer than the least number, and no more than the greatest, if there is one
abbrev pub takes : Func → ℕ → Bool
takes f n = let c = counts (row_of f).arguments in nat_le c.0 n && option_map_or (nat_le n) c.1 true

-- the function makes a text, and so takes memory
abbrev pub makes_text : Func → Bool
makes_text f = (row_of f).makes_text

-- the function can be called with values; `and` and `or` look at no argument after the deciding
-- one, and so are no calls
abbrev pub is_called : Func → Bool
is_called And = false
is_called Or = false
is_called _ = true
