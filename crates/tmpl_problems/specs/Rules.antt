-- The rules that findings break.
use Rattle.std.specs.Prelude.{ℕ, List, [], ◌∷◌, codes}

-- each with its name and what it asks for, in the order in which a log of SARIF has them
abbrev pub rules : List (List ℕ × List ℕ)
rules =
    (codes "unreadable", codes "An action is closed by \"}}\", and tokens stand in it.")
    ∷ (codes "not-understood", codes "The tokens of an action fit together, and each function is there.")
    ∷ (codes "out-of-place", codes "An end, else, break, continue or define stands where it belongs to something.")
    ∷ (codes "undeclared-variable", codes "A variable is declared before it is used, in the same part or around it.")
    ∷ (codes "open-at-end", codes "Each if, with, range, define and block has its end.")
    ∷ (codes "nested-too-deeply", codes "At most 500 controls and blocks are open, and 100 parentheses.")
    ∷ (codes "too-long", codes "A file has at most 16,777,216 bytes.")
    ∷ (codes "second-definition", codes "A file defines a template once.")
    ∷ (codes "too-many-errors", codes "A file has at most 1,000 errors.")
    ∷ (codes "not-json", codes "Data is JSON.")
    ∷ (codes "number-not-whole", codes "A number of data is whole and has 64 signed bits.")
    ∷ (codes "suspicious", codes "A variable is used, and a text does not look like an action.")
    ∷ (codes "no-such-template", codes "A file defines the template that is called or asked for.")
    ∷ (codes "never-called", codes "A template is called, or is the one that is asked for.")
    ∷ (codes "key-given-twice", codes "An object of data has a key once.")
    ∷ (codes "schema-not-understood", codes "A schema has keywords that are known, each with a value that it takes.")
    ∷ (codes "schema-without-values", codes "To each part of a schema some value conforms.")
    ∷ (codes "may-fail", codes "A template renders without a fault whatever data of the schema it is given.")
    ∷ (codes "always-fails", codes "A command does not fail whatever the data is.")
    ∷ (codes "fails-over-data", codes "A template renders without a fault over the data that is given.")
    ∷ (codes "not-rendered-whole", codes "A run over the data that is given ends within the limits of the check.")
    ∷ (codes "does-not-conform", codes "Data conforms to the schema.")
    ∷ (codes "not-of-format", codes "The output is of the format that is asked for.") ∷ []
