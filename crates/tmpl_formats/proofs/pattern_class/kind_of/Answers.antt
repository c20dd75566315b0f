use Rattle.tmpl_formats.specs.PatternText.{digit, no_digit, word_character, no_word_character, white_space, no_white_space}
use Rattle.tmpl_formats.proofs.pattern_class.kind_of.Goals as goal

pub returns-in-d : goal.returns-in-d
returns-in-d c = rw c.in-d.is digit

pub returns-in-D : goal.returns-in-D
returns-in-D c = rw c.in-D.is no_digit

pub returns-in-w : goal.returns-in-w
returns-in-w c = rw c.in-w.is word_character

pub returns-in-W : goal.returns-in-W
returns-in-W c = rw c.in-W.is no_word_character

pub returns-in-s : goal.returns-in-s
returns-in-s c = rw c.in-s.is white_space

pub returns-in-S : goal.returns-in-S
returns-in-S c = rw c.in-S.is no_white_space
